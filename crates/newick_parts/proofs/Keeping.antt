-- What is kept stays kept when a part is joined, a bracket opened or closed: the arrays hold the lists that the laws of
-- reading are about, and a store in an array is a step of its list. One lemma for each way out of a function.
use mathlib.Core.Path.{◌≡◌, refl, ap, sym, subst, ◌∙◌}
use mathlib.Core.Logic.{◌≢◌}
use mathlib.Core.Bool.{Bool, true, false, cond, and-false}
use mathlib.Core.List.{List, [], ◌∷◌}
use mathlib.Core.Option.{Option, none, some}
use Prim.Native.Nat.{ℕ, suc, ◌+◌, ◌-◌, ◌≤◌, ◌<◌}
use native.Mathlib.Omega.{arith}
use borrow.Author.Tests.{ne_eqb, ltb-true}
use lib.Dec.{ltb, eqb}
use lib.ListN.{length, get_or, set, length-set, length-map}
use lib.Seq.{get_or-set_same, get_or-set_other}
use Rattle.base.proofs.Bools.{never}
use Rattle.limits.specs.Limits.{most_leaves, most_numbers, IsLeafCount}
use Rattle.trees.specs.Trees.{Tree}
use Rattle.trees.specs.Listings.{subtree_at}
use Rattle.rerooted_rows.specs.declared.Rerooting.{Rerooting}
use Rattle.rerooted_rows.specs.inner.Joining.{Accounted}
use Rattle.rerooted_rows.specs.inner.Arrays.{rows_made, chain_kept, JoinFits, Joins}
use Rattle.rerooted_rows.proofs.Arrays.{joins_rows, joins_chain, joins_rows_long, joins_chain_long, join_fits}
use Rattle.newick_rules.specs.Drawings.{Drawing, bracket, Parts, one, more}
use Rattle.newick_rules.specs.Reader.{opening, closing, comma, Open, with_part}
use Rattle.newick_rules.specs.Importing.{ways}
use Rattle.newick_rules.proofs.Sides.{ways_positive}
use Rattle.newick_reading.specs.inner.Moves.{opens_of, last_of}
use Rattle.newick_reading.specs.inner.Fitting.{open_ways, all_ways, most_before, fits, may_close}
use Rattle.newick_reading.specs.inner.Naming.{names_so_far, NamesSaid}
use Rattle.newick_reading.specs.inner.Joining.{numbers_of_opens, number_of_last, OpensStand, Keeps}
use Rattle.newick_reading.proofs.Fitting.{fits_opening, fits_comma, fits_closing, most_by_depth, close_by_depth}
use Rattle.newick_reading.proofs.Fitting.{ways_with_part}
use Rattle.newick_reading.proofs.Naming.{names_opening, names_part, names_close}
use Rattle.newick_reading.proofs.Joining.{keeps_open, keeps_close, keeps_first, keeps_more}
use Rattle.newick_parts.specs.declared.Kept.{Kept}
use Rattle.newick_parts.specs.inner.Keeping.{Piled, Built, KeptAt}
use Rattle.newick_parts.specs.inner.Parts.{PartFits, part_kept, PartMade, goes_on_at, closes_at, unfit_kept}
use Rattle.newick_parts.specs.inner.Parts.{closed_kept, with_parts, PartEnds, Comes, PartAdded, BracketClosed, Came}

-- Arrays that hold a list.

-- a store at or past its end changes nothing of it
piled_past : (cells l : List ℕ) (i v : ℕ) → length l ≤ i → Piled cells l → Piled (set cells i v) l
piled_past cells [] i v h p = tt
piled_past cells (x ∷ l) i v h p = (
  get_or-set_other cells i (length l) v 0 (λ e. omega arith) ∙ p.0,
  piled_past cells l i v (omega arith) p.1,
)

-- a store at its end makes it one longer
piled_more :
    (cells l : List ℕ) (v : ℕ) → length l < length cells → Piled cells l → Piled (set cells (length l) v) (v ∷ l)
piled_more cells l v h p = (get_or-set_same cells (length l) v 0 h, piled_past cells l (length l) v (omega arith) p)

-- Each open bracket has a number, and the array holds that of the innermost last.
opens_length :
    (known : List (List ℕ)) (f : ℕ → Tree) (chain : List ℕ) (s : List Open) (l : List ℕ)
    → OpensStand known f chain s l → length l ≡ length s
opens_length known f chain [] [] h = refl
opens_length known f chain [] (a ∷ l) h = absurd h
opens_length known f chain (o ∷ s) [] h = absurd h
opens_length known f chain (none ∷ s) (a ∷ l) h = ap suc (opens_length known f chain s l h)
opens_length known f chain (some p ∷ s) (a ∷ l) h = ap suc (opens_length known f chain s l h.1)

head_and_tail : (l : List ℕ) (k : ℕ) → length l ≡ suc k → (a : ℕ) × (t : List ℕ) × (l ≡ a ∷ t) × (length t ≡ k)
head_and_tail [] k e = absurd (omega arith)
head_and_tail (a ∷ t) k e = (a, t, refl, omega arith)

first_held :
    (cells l t : List ℕ) (a k : ℕ) → l ≡ a ∷ t → length t ≡ k → Piled cells l → get_or cells k 0 ≡ a
first_held cells l t a k e q p = let h = rw e at p in rw (← q) h.0

-- The rows while a part is joined.
module _ {known : List (List ℕ)} {n : ℕ} {o : Open} {s : List Open} {d : Drawing} {K : Kept} {seen : ℕ → Bool}
    (z : 0 < n) (B : Built known n (o ∷ s) (some d) K seen) where
  -- the innermost bracket's number, and the others
  split : (a : ℕ) × (l : List ℕ) × (B.of_opens ≡ a ∷ l) × (length l ≡ length s)
  split =
      head_and_tail B.of_opens (length s)
      (opens_length known (subtree_at n (rows_made K.joined)) (chain_kept K.joined) (o ∷ s) B.of_opens
      B.keeps.opens)

  keeps_split :
      Keeps known n (o ∷ s) (some d) (split.0 ∷ split.1) K.last K.joined.made (rows_made K.joined)
      (chain_kept K.joined) seen
  keeps_split = rw split.2 at B.keeps

  held_split : Piled K.numbers (split.0 ∷ split.1)
  held_split = rw split.2 at B.opens_held

  number_here : get_or K.numbers (length s) 0 ≡ split.0
  number_here =
      first_held K.numbers B.of_opens split.1 split.0 (length s) split.2 split.3 B.opens_held

-- a first part
first_built :
    {known : List (List ℕ)} {n : ℕ} {s : List Open} {d : Drawing} {K : Kept} {seen : ℕ → Bool} (q : List ℕ)
    → 0 < n → length s < length K.numbers → Built known n (none ∷ s) (some d) K seen
    → Built known n (some (one d) ∷ s) none (part_kept (with_parts K q) (length s) K.last K.joined) seen
first_built {known} {n} {s} {d} {K} {seen} q z low B =
    let r = split z B in
    let put = piled_more K.numbers r.1 K.last (omega (arith, r.3)) (held_split z B).1 in
    record {
      of_opens = K.last ∷ r.1;
      keeps =
          keeps_first known n z s r.1 K.last K.joined.made (rows_made K.joined) (chain_kept K.joined) seen d r.0
          (keeps_split z B);
      opens_held = subst (λ i. Piled (set K.numbers i K.last) (K.last ∷ r.1)) r.3 put;
    }

-- one more part
module _ {known : List (List ℕ)} {n : ℕ} {p : Parts} {s : List Open} {d : Drawing} {K : Kept} {seen : ℕ → Bool}
    (z : 0 < n) (B : Built known n (some p ∷ s) (some d) K seen) where
  -- the numbers that are joined, and the others
  joint_accounted :
      Accounted n K.joined.made (rows_made K.joined) (chain_kept K.joined)
      (K.last ∷ get_or K.numbers (length s) 0 ∷ numbers_of_opens s (split z B).1) seen
  unfolding numbers_of_opens number_of_last
  joint_accounted = rw (number_here z B) (keeps_split z B).accounted

  part_join_fits :
      IsLeafCount n → length K.joined.rows ≡ most_numbers → length K.joined.chain ≡ most_leaves
      → JoinFits n (get_or K.numbers (length s) 0) K.last K.joined
  part_join_fits count lr lc =
      join_fits n K.joined seen count lr lc (get_or K.numbers (length s) 0) K.last
      (numbers_of_opens s (split z B).1) joint_accounted

  more_built :
      (q : List ℕ) (R : Rerooting) (number : ℕ) → length s < length K.numbers
      → JoinFits n (get_or K.numbers (length s) 0) K.last K.joined
      → Joins n (get_or K.numbers (length s) 0) K.last K.joined R number
      → Built known n (some (more p d) ∷ s) none (part_kept (with_parts K q) (length s) number R) seen
  more_built q R number low F j =
      let r = split z B in
      let k = keeps_more known n z s r.1 K.last K.joined.made (rows_made K.joined) (chain_kept K.joined) seen p d
      r.0 (keeps_split z B) in
      let put = piled_more K.numbers r.1 number (omega (arith, r.3)) (held_split z B).1 in
      record {
        of_opens = number ∷ r.1;
        opens_held = subst (λ i. Piled (set K.numbers i number) (number ∷ r.1)) r.3 put;
        keeps = rw (joins_rows F j, joins_chain F j, j.number_is, j.count_is, number_here z B) k;
      }

-- What is kept when a part ends, where so many brackets are open.
module _ {known : List (List ℕ)} {n : ℕ} {o : Open} {s : List Open} {d : Drawing} {K : Kept} {seen : ℕ → Bool}
    (count : IsLeafCount n) (depth : ℕ) (shallow : depth ≤ most_leaves) (deep : depth ≡ suc (length s))
    (A : KeptAt known n (o ∷ s) (some d) K seen) where
  z : 0 < n
  z = omega (arith, count.0)

  place_is : depth - 1 ≡ length s
  place_is = omega arith

  -- the parts of the innermost bracket so far
  ways_here : K.binary ≡ true → get_or K.parts (depth - 1) 0 ≡ open_ways o
  ways_here t = rw place_is (rw (length-map s open_ways) at (A.ways_are t).0)

  pub part_fits :
      (q : List ℕ) → K.binary ≡ true → K.named ≡ true
      → PartFits n (depth - 1) (get_or K.parts (depth - 1) 0) (with_parts K q)
  part_fits q t u = record {
    inside = omega arith;
    numbers_long = A.numbers_long;
    joint = rw (ways_here t, place_is) (go o (A.built t u));
  }
    where
      go :
          (o : Open) → Built known n (o ∷ s) (some d) K seen → open_ways o ≢ 0
          → JoinFits n (get_or K.numbers (length s) 0) K.last K.joined
      go none B h = absurd (h (unfold open_ways in refl))
      go (some p) B h = part_join_fits z B count A.rows_long A.chain_long

  -- what `part` makes, with other parts
  part_built :
      (q : List ℕ) (K' : Kept) → K.binary ≡ true → K.named ≡ true
      → PartMade n (depth - 1) (get_or K.parts (depth - 1) 0) (with_parts K q) K'
      → Built known n (some (with_part o d) ∷ s) none K' seen
      × (K'.binary ≡ K.binary) × (K'.named ≡ K.named) × (K'.many ≡ K.many) × (K'.parts ≡ q)
      × (length K'.numbers ≡ most_leaves) × (length K'.joined.rows ≡ most_numbers)
      × (length K'.joined.chain ≡ most_leaves)
  unfolding open_ways with_part
  part_built q K' t u M =
      go o (A.built t u) (get_or K.parts (length s) 0) (rw place_is at (ways_here t)) (rw place_is at M)
    where
      go :
          (o : Open) → Built known n (o ∷ s) (some d) K seen → (c : ℕ) → c ≡ open_ways o
          → PartMade n (length s) c (with_parts K q) K'
          → Built known n (some (with_part o d) ∷ s) none K' seen
          × (K'.binary ≡ K.binary) × (K'.named ≡ K.named) × (K'.many ≡ K.many) × (K'.parts ≡ q)
          × (length K'.numbers ≡ most_leaves) × (length K'.joined.rows ≡ most_numbers)
          × (length K'.joined.chain ≡ most_leaves)
      go none B c e M' =
          let low : length s < length K.numbers = omega (arith, A.numbers_long) in
          rw (M'.first e) (
            first_built q z low B,
            refl,
            refl,
            refl,
            refl,
            length-set K.numbers (length s) K.last ∙ A.numbers_long,
            A.rows_long,
            A.chain_long,
          )
      go (some p) B c e M' =
          let m = M'.more (λ h. omega (arith, ways_positive p, e)) in
          let low : length s < length K.numbers = omega (arith, A.numbers_long) in
          let F = part_join_fits z B count A.rows_long A.chain_long in
          rw m.3 (
            more_built z B q m.0 m.1 low F m.2,
            refl,
            refl,
            refl,
            refl,
            length-set K.numbers (length s) m.1 ∙ A.numbers_long,
            joins_rows_long F m.2,
            joins_chain_long F m.2,
          )

  -- The names are those before.
  names_added : NamesSaid known n (names_so_far (some (with_part o d) ∷ s) none) seen K.many K.named
  names_added = rw (names_part o s d) A.names

  names_closed : NamesSaid known n (names_so_far s (some (bracket (with_part o d)))) seen K.many K.named
  names_closed = rw (names_close (with_part o d) s) names_added

  -- The tests of the parts, by the count in the array and the place.
  abbrev here : ℕ
  here = get_or K.parts (depth - 1) 0

  goes_on : K.binary ≡ true → ltb (open_ways o) (most_before s) ≡ goes_on_at (depth - 1) here
  goes_on t = rw (ways_here t, place_is, most_by_depth s)

  may_end : K.binary ≡ true → may_close s (open_ways o) ≡ closes_at (depth - 1) here
  may_end t = rw (ways_here t, place_is) (close_by_depth s (open_ways o))

  fits_before : K.binary ≡ true → fits (o ∷ s) (some d) ≡ true
  fits_before t = sym A.fits_is ∙ t

  -- where a node is not binary, the names alone are still judged
  unbinary :
      (s' : List Open) (d' : Option Drawing) → fits s' d' ≡ false
      → NamesSaid known n (names_so_far s' d') seen K.many K.named → KeptAt known n s' d' (unfit_kept K) seen
  unbinary s' d' unfit names_said = record {
    parts_long = A.parts_long;
    numbers_long = A.numbers_long;
    rows_long = A.rows_long;
    chain_long = A.chain_long;
    fits_is = sym unfit;
    ways_are = λ t. absurd (never t refl);
    names = names_said;
    built = λ t _. absurd (never t refl);
  }

  unfit_already : K.binary ≡ false → unfit_kept K ≡ K
  unfit_already f = rw (← f)

  -- A comma, where a node is not binary already.
  pub comma_unbinary : K.binary ≡ false → KeptAt known n (some (with_part o d) ∷ s) none K seen
  comma_unbinary f =
      rw (unfit_already f)
      at (unbinary _ none
      (fits_comma o s d ∙ rw (sym A.fits_is ∙ f) (and-false (ltb (open_ways o) (most_before s)))) names_added)

  -- where the bracket has too many parts
  pub comma_unfit :
      K.binary ≡ true → goes_on_at (depth - 1) here ≡ false
      → KeptAt known n (some (with_part o d) ∷ s) none (unfit_kept K) seen
  comma_unfit t h = unbinary _ none (fits_comma o s d ∙ rw (goes_on t ∙ h)) names_added

  -- where it has not
  module _ (t : K.binary ≡ true) (h : goes_on_at (depth - 1) here ≡ true) where
    pub part_count_small : here < 2
    part_count_small = small (eqb (depth - 1) 0) h
      where
        small : (b : Bool) → ltb here (cond b 2 1) ≡ true → here < 2
        small true q = ltb-true here 2 q
        small false q = omega (arith, ltb-true here 1 q)

    fits_after : fits (some (with_part o d) ∷ s) none ≡ true
    fits_after = fits_comma o s d ∙ rw (goes_on t ∙ h, fits_before t)

    abbrev parts' : List ℕ
    parts' = set K.parts (depth - 1) (here + 1)

    parts_long' : length parts' ≡ most_leaves
    parts_long' = length-set K.parts (depth - 1) (here + 1) ∙ A.parts_long

    ways_after : Piled parts' (all_ways (some (with_part o d) ∷ s))
    unfolding open_ways
    ways_after =
        let before = (A.ways_are t).1 in
        let at : length (all_ways s) ≡ depth - 1 = length-map s open_ways ∙ sym place_is in
        let put = piled_more K.parts (all_ways s) (here + 1) (omega (arith, at, A.parts_long)) before in
        let same : here + 1 ≡ ways (with_part o d) = rw (ways_here t) (sym (ways_with_part o d)) in
        let here_put = subst (λ i. Piled (set K.parts i (here + 1)) ((here + 1) ∷ all_ways s)) at put in
        subst (λ w. Piled parts' (w ∷ all_ways s)) same here_put

    pub comma_unnamed :
        K.named ≡ false → KeptAt known n (some (with_part o d) ∷ s) none (with_parts K parts') seen
    comma_unnamed f = record {
      parts_long = parts_long';
      numbers_long = A.numbers_long;
      rows_long = A.rows_long;
      chain_long = A.chain_long;
      fits_is = t ∙ sym fits_after;
      ways_are = λ _. ways_after;
      names = names_added;
      built = λ _ q. absurd (never q f);
    }

    pub comma_part :
        (K' : Kept) → K.named ≡ true → PartMade n (depth - 1) here (with_parts K parts') K'
        → KeptAt known n (some (with_part o d) ∷ s) none K' seen
    comma_part K' u M =
        let B = part_built parts' K' t u M in
        record {
          parts_long = rw B.4 parts_long';
          numbers_long = B.5;
          rows_long = B.6;
          chain_long = B.7;
          fits_is = B.1 ∙ t ∙ sym fits_after;
          ways_are = λ _. subst (λ q. Piled q (all_ways (some (with_part o d) ∷ s))) (sym B.4) ways_after;
          names = rw (B.2, B.3) names_added;
          built = λ _ _. B.0;
        }

  -- A closing bracket, likewise.
  pub close_unbinary : K.binary ≡ false → KeptAt known n s (some (bracket (with_part o d))) K seen
  close_unbinary f =
      rw (unfit_already f)
      at (unbinary s _
      (fits_closing o s d ∙ rw (sym A.fits_is ∙ f) (and-false (may_close s (open_ways o)))) names_closed)

  pub close_unfit :
      K.binary ≡ true → closes_at (depth - 1) here ≡ false
      → KeptAt known n s (some (bracket (with_part o d))) (unfit_kept K) seen
  close_unfit t h = unbinary s _ (fits_closing o s d ∙ rw (may_end t ∙ h)) names_closed

  module _ (t : K.binary ≡ true) (h : closes_at (depth - 1) here ≡ true) where
    fits_closed : fits s (some (bracket (with_part o d))) ≡ true
    fits_closed = fits_closing o s d ∙ rw (may_end t ∙ h, fits_before t)

    pub close_unnamed : K.named ≡ false → KeptAt known n s (some (bracket (with_part o d))) K seen
    close_unnamed f = record {
      parts_long = A.parts_long;
      numbers_long = A.numbers_long;
      rows_long = A.rows_long;
      chain_long = A.chain_long;
      fits_is = t ∙ sym fits_closed;
      ways_are = λ q. (A.ways_are q).1;
      names = names_closed;
      built = λ _ q. absurd (never q f);
    }

    pub close_part :
        (K' : Kept) → K.named ≡ true → PartMade n (depth - 1) here K K'
        → KeptAt known n s (some (bracket (with_part o d))) (closed_kept K' (get_or K'.numbers (depth - 1) 0)) seen
    close_part K' u M =
        let B = part_built K.parts K' t u M in
        record {
          parts_long = rw B.4 A.parts_long;
          numbers_long = B.5;
          rows_long = B.6;
          chain_long = B.7;
          fits_is = B.1 ∙ t ∙ sym fits_closed;
          ways_are = λ q. rw B.4 (A.ways_are t).1;
          names = rw (B.2, B.3) names_closed;
          built = λ _ _. closed_built (with_part o d) K' B.0;
        }
      where
        closed_built :
            (q : Parts) (K' : Kept) → Built known n (some q ∷ s) none K' seen
            → Built known n s (some (bracket q)) (closed_kept K' (get_or K'.numbers (depth - 1) 0)) seen
        closed_built q K' B =
            let f = subtree_at n (rows_made K'.joined) in
            let r = head_and_tail B.of_opens (length s)
            (opens_length known f (chain_kept K'.joined) (some q ∷ s) B.of_opens B.keeps.opens) in
            let k = rw r.2 at B.keeps in
            let p = rw r.2 at B.opens_held in
            let there : get_or K'.numbers (depth - 1) 0 ≡ r.0 =
            rw place_is (first_held K'.numbers B.of_opens r.1 r.0 (length s) r.2 r.3 B.opens_held) in
            record {
              of_opens = r.1;
              keeps =
                  rw there
                  (keeps_close known n z s r.1 K'.last K'.joined.made (rows_made K'.joined) (chain_kept K'.joined)
                  seen q r.0 k);
              opens_held = p.1;
            }

-- A bracket opens.
pub opened :
    {known : List (List ℕ)} {n : ℕ} {s : List Open} {K : Kept} {seen : ℕ → Bool} → 0 < n → (depth : ℕ)
    → depth < most_leaves → depth ≡ length s → KeptAt known n s none K seen
    → KeptAt known n (none ∷ s) none (with_parts K (set K.parts depth 0)) seen
unfolding open_ways
opened {known} {n} {s} {K} {seen} z depth low deep A = record {
  parts_long = length-set K.parts depth 0 ∙ A.parts_long;
  numbers_long = A.numbers_long;
  rows_long = A.rows_long;
  chain_long = A.chain_long;
  fits_is = A.fits_is ∙ sym (fits_opening s);
  ways_are = λ t.
      let here : length (all_ways s) ≡ depth = length-map s open_ways ∙ sym deep in
      let put = piled_more K.parts (all_ways s) 0 (omega (arith, here, A.parts_long)) (A.ways_are t) in
      subst (λ i. Piled (set K.parts i 0) (0 ∷ all_ways s)) here put;
  names = rw (names_opening s) A.names;
  built = λ t u. wider (A.built t u);
}
  where
    wider :
        Built known n s none K seen → Built known n (none ∷ s) none (with_parts K (set K.parts depth 0)) seen
    wider B =
        let a = get_or K.numbers (length B.of_opens) 0 in
        record {
          of_opens = a ∷ B.of_opens;
          keeps =
              keeps_open known n z s B.of_opens K.last K.joined.made (rows_made K.joined) (chain_kept K.joined) seen a
              B.keeps;
          opens_held = (refl, B.opens_held);
        }

-- The ways out of `bracket`.
module _ {b n depth : ℕ} {K : Kept} where
  pub came_opening :
      IsLeafCount n → depth < most_leaves → b ≡ opening
      → Came b n depth K (with_parts K (set K.parts depth 0))
  unfolding opens_of last_of
  came_opening count low e known s d Q seen deep A M =
      let r = M.by_opening e in
      rw r.2 (opened (omega (arith, count.0)) depth low deep (rw r.0 at A))

  part_ends :
      (C : Comes b n depth K) (o : Open) (s : List Open) (d : Drawing) → C.opens ≡ o ∷ s
      → C.last ≡ some d → PartEnds n depth K
  part_ends C o s d e q =
      let A = C.kept in
      record {
        count = C.count;
        shallow = omega (arith, C.shallow);
        known = C.known;
        innermost = o;
        opens = s;
        drawing = d;
        seen = C.seen;
        depth_is = C.depth_is ∙ rw e;
        kept = rw (e, q) at A;
      }

  pub comma_ends : b ≡ comma → Comes b n depth K → PartEnds n depth K
  comma_ends e C = let r = C.moved.by_comma e in part_ends C r.0 r.1 r.2 r.3 r.4

  pub closing_ends : b ≡ closing → Comes b n depth K → PartEnds n depth K
  closing_ends e C = let r = C.moved.by_closing e in part_ends C r.0 r.1 r.2 r.3 r.4

  pub came_comma : {K' : Kept} → b ≡ comma → PartAdded n depth K K' → Came b n depth K K'
  unfolding opens_of last_of
  came_comma e added known s d Q seen deep A M =
      let r = M.by_comma e in
      rw r.5 (added known r.0 r.1 r.2 seen (deep ∙ rw r.3) (rw (r.3, r.4) at A))

  pub came_closing : {K' : Kept} → b ≡ closing → BracketClosed n depth K K' → Came b n depth K K'
  unfolding opens_of last_of
  came_closing e closed known s d Q seen deep A M =
      let r = M.by_closing e in
      rw r.5 (closed known r.0 r.1 r.2 seen (deep ∙ rw r.3) (rw (r.3, r.4) at A))

  pub came_another : b ≢ opening → b ≢ comma → b ≢ closing → Came b n depth K K
  came_another p q r known s d Q seen deep A M =
      let m = M.by_another (ne_eqb b opening p) (ne_eqb b comma q) (ne_eqb b closing r) in
      rw (m.0, m.1) A
