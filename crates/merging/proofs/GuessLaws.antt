-- What a maker may rely on of our own rebuild's reply (02, request 4). A table that has a tree gets that tree, marked
-- rebuilt, with the total gap 0; where none has it, the reply is the guess, marked guessed, and its total gap is not 0.
-- The idea: where a tree has the table, some pair is eligible at each turn; so the smallest mean is 0, and the pair
-- that the guess merges is eligible too. And a table written merge by merge is the table of the tree left.
use mathlib.Core.Path.{◌≡◌, refl, ap, sym, ◌∙◌}
use mathlib.Core.Logic.{◌↔◌}
use mathlib.Core.Bool.{true, cond}
use mathlib.Core.List.{List, [], ◌∷◌}
use Prim.Native.Nat.{ℕ, ◌-◌, ◌<◌}
use native.Mathlib.Omega.{arith}
use borrow.Author.Tests.{ne_eqb}
use lib.Dec.{eqb}
use lib.ListN.{length}
use Rattle.base.proofs.Bools.{never, and_is}
use Rattle.limits.specs.Limits.{IsLeafCount}
use Rattle.refusals.specs.declared.Refusal.TheVariants.{NoTree}
use Rattle.refusals.specs.Refusals.{Answer, accepted}
use Rattle.tree_records.specs.declared.Origin.{Origin}
use Rattle.tree_records.specs.declared.Origin.TheVariants.{Rebuilt, Guessed}
use Rattle.trees.specs.Trees.{Tree, ordered}
use Rattle.trees.specs.Listings.{KeepsRules, tree_of, standard}
use Rattle.trees.specs.Tables.{cell, HasTable, IsTable}
use Rattle.trees.specs.Gaps.{total_gap}
use Rattle.trees.proofs.Tables.{halves_equal, of_cells}
use Rattle.trees.proofs.Gaps.{gap_none}
use Rattle.merging.specs.Merging.{State, start, step}
use Rattle.merging.specs.MergeLists.{Pair, allowed, after, each_eligible, final_tree, final_listing}
use Rattle.merging.specs.Rebuilds.{rebuilt}
use Rattle.merging.specs.Guesses.{IsNearest, guess, Reply, exact, guessed, replied}
use Rattle.merging.specs.Meaning.{OnlyTree, HasNoTree, TableMeans, the_only_tree, no_tree}
use Rattle.merging.specs.inner.Runs.{Eligible}
use Rattle.merging.proofs.States.{WellFormed, wf_start, wf_step}
use Rattle.merging.proofs.MergeLists.{Merges, wf_after, full_single, final_keeps, final_standard, final_read}
use Rattle.merging.proofs.Runs.{Reaches, stop, go, eligible_sound, eligible_complete, EqualHalves}
use Rattle.merging.proofs.Soundness.{CellsWithin, within_sound}
use Rattle.merging.proofs.Exchange.{exchange}
use Rattle.merging.proofs.Means.{mean_zero, zero_most, nearest_differ}
use Rattle.merging.proofs.Guesses.{EachNearest, guess_many, guess_nearest, guess_keeps, guess_standard}
use Rattle.merging.proofs.Guesses.{guess_total, guess_rough, replied_exact, replied_guessed}
use Rattle.merging.proofs.Ends.{had_reached}
use Rattle.merging.proofs.Demand3.{one_after}
use Rattle.merging.proofs.Meaning.{rebuilt_means, meant_only, rebuilt_had, accepted_any_order}

-- Where a state reaches a tree, merges of nearest pairs are of eligible ones.
module _ (n s : ℕ) (c : ℕ → ℕ → ℕ) (halves : EqualHalves n c) (sp : 0 < s) where
  nearest_eligible :
      {S : State} → WellFormed n S → (p : Pair) → IsNearest n s c S p → (i j : ℕ) → Eligible n s c S i j
      → Eligible n s c S p.0 p.1
  nearest_eligible {S} w p f i j e =
      let d = nearest_differ f in
      let pair = mean_zero n s c S w i j (record { left = e.left; right = e.right; apart = e.apart }) in
      let least = f.smallest_mean i j e.left e.right e.apart in
      let zero = zero_most n s c S p (i, j) (pair.1 (eligible_complete e)) least in
      eligible_sound s c w p.0 p.1 ((mean_zero n s c S w p.0 p.1 d).0 zero)

  nearest_allowed :
      (H : Tree) (S : State) → WellFormed n S → (L : List Pair) → EachNearest n s c S L → Reaches n s c H S
      → allowed n s c S L ≡ true
  unfolding allowed
  nearest_allowed H S w [] h g = refl
  nearest_allowed H S w (p ∷ L) h (stop one e) =
      let d = nearest_differ h.0 in
      absurd (never (one p.1 d.right) (rw (w.closed 0 p.0 (one p.0 d.left)) at d.apart))
  nearest_allowed H S w (p ∷ L) h (go i j e g) =
      let here = nearest_eligible w p h.0 i j e in
      let reach = exchange n s c halves H sp w (go i j e g) p.0 p.1 here in
      let w' = wf_step w p.0 p.1 (nearest_differ h.0) in
      and_is _ _ (eligible_complete here) (nearest_allowed H (step S p.0 p.1) w' L h.1 reach)

-- the guess has the mark guessed, which is not the mark rebuilt
mark : (n s : ℕ) (t : List ℕ) → (guessed n s t).origin ≡ Guessed
unfolding guessed
mark n s t = refl

marks_differ : {o : Origin} → o ≡ Rebuilt → o ≡ Guessed → ⊥
marks_differ p q = let z : ◌≡◌ {A = ℕ} 0 1 = cc in omega arith

module _ (n : ℕ) (count : IsLeafCount n) (s : ℕ) (sp : 0 < s) (t : List ℕ) (table : IsTable n t) where
  halves : EqualHalves n (cell n t)
  halves = halves_equal table

  -- where a tree has the table, the guess is that tree, and its total gap is 0
  pub guess_exact :
      (l : List ℕ) → KeepsRules n l → HasTable n s t (tree_of n l)
      → (final_listing n (guess n s t) ≡ standard n (tree_of n l)) × ((guessed n s t).total ≡ 0)
  unfolding guessed each_eligible
  guess_exact l k has =
      let z : 0 < n = omega (arith, count.0) in
      let each = guess_nearest n s t halves z in
      let reach = had_reached n s count.0 sp t table l k has in
      let ok = nearest_allowed n s (cell n t) halves sp (ordered (tree_of n l)) start (wf_start n) _ each reach in
      let list = one_after n count s sp t table (guess n s t) (guess_many n s t halves z) ok in
      let had = rebuilt_had n count s sp t table l k has in
      let same = (accepted_any_order n count s sp t table _ had (guess n s t) list.0).1 in
      let only = meant_only n s t (rebuilt_means n count s sp t table) _ had in
      let none = gap_none n s t (tree_of n (standard n (tree_of n l))) only.has_table in
      (same, guess_total n s t halves count.0 ∙ rw same none)

  -- The two cases of the reply: the only tree that has the table; the guess, where none has it.
  data Case : Reply → Type 0 where
    one : {l : List ℕ} → OnlyTree n s t l → Case (exact l)
    rough : HasNoTree n s t → Case (guessed n s t)

  case : Case (replied n s t)
  case = by (rebuilt_means n count s sp t table) refl
    where
      by : {a : Answer (List ℕ)} → TableMeans n s t a → rebuilt n s t ≡ a → Case (replied n s t)
      by (the_only_tree {l} h) e = rw (replied_exact n s t l e) (one h)
      by (no_tree h) e = rw (replied_guessed n s t NoTree e) (rough h)

  -- the reply is a tree on those strains, by its standard listing, with its total gap
  pub record IsReply (r : Reply) : Type 0 where
    pub is_a_tree : KeepsRules n r.listing
    pub is_standard : standard n (tree_of n r.listing) ≡ r.listing
    pub total_of_it : r.total ≡ total_gap n s t (tree_of n r.listing)

  pub reply_is : IsReply (replied n s t)
  reply_is = by case
    where
      by : {r : Reply} → Case r → IsReply r
      by (one h) = record {
        is_a_tree = h.keeps_rules;
        is_standard = h.is_standard;
        total_of_it = sym (gap_none n s t _ h.has_table);
      }
      by (rough h) = unfold guessed in record {
        is_a_tree = guess_keeps n s t halves count.0;
        is_standard = guess_standard n s t halves count.0;
        total_of_it = guess_total n s t halves count.0;
      }

  -- the mark rebuilt stands on a tree that has the table
  pub rebuilt_has : (replied n s t).origin ≡ Rebuilt → HasTable n s t (tree_of n (replied n s t).listing)
  rebuilt_has = by case
    where
      by : {r : Reply} → Case r → r.origin ≡ Rebuilt → HasTable n s t (tree_of n r.listing)
      by (one h) e = h.has_table
      by (rough h) e = absurd (marks_differ e (mark n s t))

  -- the mark guessed appears exactly where no tree has the table
  pub guessed_exactly : ((replied n s t).origin ≡ Guessed) ↔ HasNoTree n s t
  guessed_exactly = by case
    where
      by : {r : Reply} → Case r → (r.origin ≡ Guessed) ↔ HasNoTree n s t
      by (one {l} h) = (λ e. absurd (marks_differ refl e), λ none. absurd (none l h.keeps_rules h.has_table))
      by (rough h) = (λ e. h, λ none. mark n s t)

  -- the total gap is 0 exactly under the mark rebuilt
  pub total_0_exactly : ((replied n s t).total ≡ 0) ↔ ((replied n s t).origin ≡ Rebuilt)
  total_0_exactly = by case
    where
      by : {r : Reply} → Case r → (r.total ≡ 0) ↔ (r.origin ≡ Rebuilt)
      by (one h) = (λ e. refl, λ e. refl)
      by (rough h) = (
        λ e. absurd (omega (arith, guess_rough n s t table count.0 h)),
        λ e. absurd (marks_differ e (mark n s t)),
      )

  -- so one merging loop serves both: the reply is the guess, marked by its total gap
  pub one_loop : let g = guessed n s t in replied n s t ≡ cond (eqb g.total 0) (exact g.listing) g
  one_loop = by case
    where
      by : {r : Reply} → Case r → let g = guessed n s t in r ≡ cond (eqb g.total 0) (exact g.listing) g
      by (one {l} h) =
          let g = guess_exact l h.keeps_rules h.has_table in
          rw g.1 (ap exact (unfold guessed in sym (g.0 ∙ h.is_standard)))
      by (rough h) =
          rw (ne_eqb (guessed n s t).total 0 (omega (arith, guess_rough n s t table count.0 h)))

-- The code of the guess needs no rerooting: where each of n − 1 merges, of any different subtrees, writes the values
-- expected of the cells that it brings together into a table, that is the table of the tree left, and our rebuild of it
-- writes the listing.
pub list_written :
    (n : ℕ) → IsLeafCount n → (s : ℕ) → 0 < s → (L : List Pair) → Merges n start L → length L ≡ n - 1
    → (own : List ℕ) → IsTable n own → CellsWithin n s (cell n own) (after L)
    → (rebuilt n s own ≡ accepted (final_listing n L)) × HasTable n s own (tree_of n (final_listing n L))
unfolding final_tree
list_written n count s sp L merges many own table written =
    let w = wf_after L merges in
    let one = full_single (omega (arith, count.0)) L many merges in
    let keeps = final_keeps n count.0 L w one in
    let has : HasTable n s own (tree_of n (final_listing n L)) =
    rw (final_read n count.0 L w one) (of_cells n s own _ table (within_sound s w written one)) in (
      rebuilt_had n count s sp own table (final_listing n L) keeps has
          ∙ ap accepted (final_standard n count.0 L w one),
      has,
    )
