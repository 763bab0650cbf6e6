-- What reading answers: 17 where a text breaks; else 18 and 19 by what is kept of it; else rows and a chain that make a
-- listing of the tree that it draws.
use Rattle.std.specs.Prelude.{Result, Ok, Err}
use mathlib.Core.Path.{◌≡◌, refl, ap, sym, ◌∙◌}
use mathlib.Core.Logic.{inl, inr}
use mathlib.Core.Bool.{Bool, true, ◌&&◌}
use mathlib.Core.List.{List, [], ◌∷◌}
use mathlib.Core.Option.{none, some}
use Prim.Native.Nat.{ℕ, ◌≤◌, ◌<◌}
use native.Mathlib.Omega.{arith}
use borrow.Author.Tests.{eqb-true}
use lib.Dec.{eqb}
use lib.ListN.{length}
use Rattle.base.proofs.Bools.{bool?, never, and_both}
use Rattle.base.proofs.Counts.{count_full}
use Rattle.limits.specs.Limits.{most_leaves, most_numbers, IsLeafCount}
use Rattle.refusals.specs.declared.Refusal.{Refusal}
use Rattle.refusals.specs.declared.Refusal.TheVariants.{Grammar, NotBinary, Unmatched}
use Rattle.refusals.specs.Refusals.{Outcome, refuse, judged, outcome, outcome_of}
use Rattle.refusals.proofs.Answers.{refuse_none, judged_none, outcome_answered, done_none, HandsOn, handed_on}
use Rattle.trees.specs.Trees.{Tree}
use Rattle.trees.specs.Listings.{standard, subtree_at}
use Rattle.trees.specs.Rerooting.{rerooted}
use Rattle.rerooted_rows.proofs.Arrays.{chain_fits, chain_listing}
use Rattle.sheet_rules.specs.Sheets.{names_of}
use Rattle.newick_rules.specs.Drawings.{Drawing, bracket, Parts, one, more, names_in}
use Rattle.newick_rules.specs.Drawings.{name as named_drawing}
use Rattle.newick_rules.specs.Reader.{draws, breaks, read}
use Rattle.newick_rules.specs.Importing.{ways, binary_top, each_once, deepest, subtree, subtree_of_parts, tree_drawn}
use Rattle.newick_rules.specs.Importing.{imported, nodes_refusal, strains_refusal}
use Rattle.newick_rules.specs.Operations.{Strains}
use Rattle.newick_reading.specs.inner.Naming.{names_so_far, opens_names, last_names}
use Rattle.newick_reading.specs.inner.Joining.{OpensStand, Keeps}
use Rattle.newick_reading.proofs.Fitting.{fits_end}
use Rattle.newick_reading.proofs.Naming.{wrong_judged, right_judged}
use Rattle.newick_reading.proofs.Finishing.{whole_accounted, whole_stands}
use Rattle.newick_parts.specs.declared.Kept.{Kept}
use Rattle.rerooted_rows.specs.inner.Arrays.{rows_made, chain_kept}
use Rattle.newick_parts.specs.inner.Keeping.{Built, KeptAt}
use Rattle.rerooted_rows.specs.declared.Rerooting.{Rerooting}
use Rattle.newick_text.specs.inner.Names.{flags}
use Rattle.newick_text.specs.inner.Texts.{kept_refusal, Drawn, ReadSays}

-- 17
pub grammar_says :
    (known : List (List ℕ)) (t : List ℕ) {k : ℕ} → read deepest t ≡ breaks k
    → outcome (imported known t) ≡ Err (Grammar k)
unfolding imported outcome
grammar_says known t h = rw (h, imported)

-- a drawing whose nodes are binary, apart from a three-way top, is a bracket of two parts or more
top_parts : (d : Drawing) → binary_top d ≡ true → (p : Parts) × (e : Drawing) × (d ≡ bracket (more p e))
unfolding binary_top ways
top_parts (named_drawing x) h = absurd (never h refl)
top_parts (bracket (one e)) h = absurd (never h refl)
top_parts (bracket (more p e)) h = (p, e, refl)

none_open :
    (known : List (List ℕ)) (f : ℕ → Tree) (chain l : List ℕ) → OpensStand known f chain [] l → l ≡ []
none_open known f chain [] h = refl
none_open known f chain (a ∷ l) h = absurd h

keeps_same :
    {known : List (List ℕ)} {n : ℕ} {d d' : Drawing} {l l' : List ℕ} {last m : ℕ} {rows chain : List ℕ}
    {seen : ℕ → Bool}
    → d ≡ d' → l ≡ l' → Keeps known n [] (some d) l last m rows chain seen
    → Keeps known n [] (some d') l' last m rows chain seen
keeps_same e f K = rw (e, f) at K

module _ (S t : List ℕ) {n : ℕ} {K : Kept} (seen : List Bool)
    (d : Drawing) (count : IsLeafCount n) (strains : Strains n (names_of S)) (reads : read deepest t ≡ draws d)
    (A : KeptAt (names_of S) n [] (some d) K (flags seen)) where
  abbrev known : List (List ℕ)
  known = names_of S

  -- what is kept judges 18 and 19
  binary_is : K.binary ≡ binary_top d
  binary_is = A.fits_is ∙ fits_end d

  names_judged : (K.named && eqb K.many n) ≡ each_once (names_of S) (names_in d)
  unfolding names_so_far opens_names last_names
  names_judged = elim (bool? K.named) [
    | inl u ↦ rw u (sym (right_judged n known strains (names_in d) (flags seen) K.many (A.names.right u)))
    | inr f ↦ rw f (sym (wrong_judged n known strains (names_in d) (A.names.wrong f)))
  ]

  refusal_is : kept_refusal n K ≡ judged (nodes_refusal d ∷ strains_refusal (names_of S) (names_in d) ∷ [])
  unfolding kept_refusal nodes_refusal strains_refusal
  refusal_is = rw (binary_is, names_judged)

  answer_is : outcome_of (kept_refusal n K) ≡ outcome (imported (names_of S) t)
  unfolding imported
  answer_is =
      rw (reads, imported, refusal_is)
      (sym (outcome_answered (judged (nodes_refusal d ∷ strains_refusal known (names_in d) ∷ []))
      (standard (length known) (tree_drawn known d))))

  -- where nothing is refused
  module _ (passed : kept_refusal n K ≡ none) where
    both_passed : (K.binary ≡ true) × (K.named ≡ true) × (K.many ≡ n)
    unfolding kept_refusal
    both_passed =
        let r = judged_none (refuse K.binary NotBinary) _ passed in
        let s = judged_none (refuse (K.named && eqb K.many n) Unmatched) [] r.1 in
        let q = and_both K.named (eqb K.many n) (refuse_none _ Unmatched s.0) in
        (refuse_none K.binary NotBinary r.0, q.0, eqb-true K.many n q.1)

    built : Built (names_of S) n [] (some d) K (flags seen)
    built = A.built both_passed.0 both_passed.1

    all_seen : (k : ℕ) → k < n → flags seen k ≡ true
    all_seen =
        count_full n (flags seen) (omega (arith, (A.names.right both_passed.1).many_is, both_passed.2))

    shape : (p : Parts) × (e : Drawing) × (d ≡ bracket (more p e))
    shape = top_parts d (sym binary_is ∙ both_passed.0)

    -- what is kept of the whole text
    keeps_whole :
        Keeps (names_of S) n [] (some (bracket (more shape.0 shape.1))) [] K.last K.joined.made (rows_made K.joined)
        (chain_kept K.joined) (flags seen)
    keeps_whole =
        let none_left = none_open known (subtree_at n (rows_made K.joined)) (chain_kept K.joined) built.of_opens
        built.keeps.opens in
        keeps_same shape.2 none_left built.keeps

    big : 3 ≤ n
    big = count.0

    pub drawn : Drawn (names_of S) n t K.joined
    unfolding subtree
    drawn =
        let W = whole_accounted n big (flags seen) all_seen known shape.0 shape.1 K.last K.joined.made
        (rows_made K.joined) (chain_kept K.joined) keeps_whole in
        let st = whole_stands n big (flags seen) all_seen known shape.0 shape.1 K.last K.joined.made
        (rows_made K.joined) (chain_kept K.joined) keeps_whole in
        let P = subtree_of_parts known shape.0 in
        let Q = subtree known shape.1 in
        let q = chain_listing n K.joined (flags seen) count lr lc all_seen W P Q st in
        record {
          drawing = d;
          read_is = reads;
          room = chain_fits n K.joined (flags seen) count lr lc all_seen W P Q st;
          keeps = q.0;
          tree = q.1 ∙ ap (λ e. rerooted (subtree known e)) (sym shape.2);
        }
      where
        lr : length K.joined.rows ≡ most_numbers
        lr = A.rows_long

        lc : length K.joined.chain ≡ most_leaves
        lc = A.chain_long

  -- 18, 19, or the rows and the chain
  module _ {q : Outcome} (told : q ≡ outcome_of (kept_refusal n K)) where
    pub kept_stopped : {e : Refusal} (r : Result Rerooting Refusal) → q ≡ Err e → HandsOn r e → ReadSays S t n r
    kept_stopped r h p = rw (handed_on _ p) (sym answer_is ∙ sym told ∙ h)

    pub kept_made : q ≡ Ok tt → ReadSays S t n (Ok K.joined)
    kept_made h = (sym answer_is ∙ sym told ∙ h, drawn (done_none (kept_refusal n K) (sym told ∙ h)))
