-- The guess merges until one subtree is left, whatever the table: n − 1 merges, each of the nearest pair at its turn.
-- So it leaves a tree on all leaves. What our own rebuild replies, by the answer of the rebuild.
use mathlib.Core.Path.{◌≡◌, refl, ap, sym, ◌∙◌}
use mathlib.Core.List.{List, [], ◌∷◌}
use mathlib.Core.Option.{some}
use Prim.Native.Nat.{ℕ, zero, suc, ◌+◌, ◌-◌, ◌≤◌, ◌<◌}
use native.Mathlib.Omega.{arith}
use native.Mathlib.Decide.{dec_lt}
use lib.ListN.{length, get_or, take}
use Rattle.refusals.specs.declared.Refusal.{Refusal}
use Rattle.refusals.specs.Refusals.{accepted, refused}
use Rattle.trees.specs.Listings.{KeepsRules, tree_of, standard}
use Rattle.trees.specs.Tables.{cell, IsTable}
use Rattle.trees.specs.Gaps.{total_gap}
use Rattle.trees.proofs.Tables.{halves_equal}
use Rattle.trees.proofs.Gaps.{gap_zero, ordered_gap}
use Rattle.merging.specs.Merging.{State, start, step}
use Rattle.merging.specs.MergeLists.{Pair, run, after, subtrees, final_tree, final_listing}
use Rattle.merging.specs.Rebuilds.{rebuilt}
use Rattle.merging.specs.Guesses.{nearest, IsNearest, by_mean, guess, exact, guessed, replied}
use Rattle.merging.specs.Meaning.{HasNoTree}
use Rattle.merging.proofs.States.{WellFormed, Single, wf_start, wf_step}
use Rattle.merging.proofs.MergeLists.{two_left, subtrees_start, subtrees_merge, Merges, merges_take, after_next}
use Rattle.merging.proofs.MergeLists.{wf_after, full_single, final_keeps, final_standard, final_read}
use Rattle.merging.proofs.Runs.{EqualHalves}
use Rattle.merging.proofs.Means.{nearest_differ, nearest_some, nearest_is, nearest_same}

-- each merge of a list is of the nearest pair at its turn
abbrev pub EachNearest : ℕ → ℕ → (ℕ → ℕ → ℕ) → State → List Pair → Type 0
EachNearest n s c S [] = Unit {0}
EachNearest n s c S (p ∷ L) = IsNearest n s c S p × EachNearest n s c (step S p.0 p.1) L

module _ (n s : ℕ) (t : List ℕ) (halves : EqualHalves n (cell n t)) (z : 0 < n) where
  abbrev c : ℕ → ℕ → ℕ
  c = cell n t

  by_mean_some :
      (k : ℕ) (S : State) (p : Pair) → nearest n s t S ≡ some p
      → by_mean (suc k) n s t S ≡ p ∷ by_mean k n s t (step S p.0 p.1)
  unfolding by_mean
  by_mean_some k S p h = rw (h, by_mean)

  -- k + 1 subtrees give k merges
  by_mean_nearest :
      (k : ℕ) (S : State) → WellFormed n S → subtrees n S ≡ suc k
      → (length (by_mean k n s t S) ≡ k) × EachNearest n s c S (by_mean k n s t S)
  by_mean_nearest zero S w e = unfold by_mean in (refl, tt)
  by_mean_nearest (suc k) S w e =
      let two = two_left w z (omega arith) in
      let taken = nearest_some n s t halves w 0 two.0 two.1 in
      let p = taken.0 in
      let near = nearest_is n s t halves w p taken.1 in
      let d = nearest_differ near in
      let less = subtrees_merge w p.0 p.1 d in
      let rest = by_mean_nearest k (step S p.0 p.1) (wf_step w p.0 p.1 d) (omega arith) in
      rw (by_mean_some k S p taken.1) (ap suc rest.0, (near, rest.1))

  nearest_at :
      (S : State) (L : List Pair) → EachNearest n s c S L → (k : ℕ) → k < length L
      → IsNearest n s c (run S (take k L)) (get_or L k (0, 0))
  unfolding run
  nearest_at S [] h k l = absurd (omega arith)
  nearest_at S (p ∷ L) h zero l = h.0
  nearest_at S (p ∷ L) h (suc k) l = nearest_at (step S p.0 p.1) L h.1 k (omega arith)

  nearest_merges : (S : State) (L : List Pair) → EachNearest n s c S L → Merges n S L
  nearest_merges S [] h = tt
  nearest_merges S (p ∷ L) h = (nearest_differ h.0, nearest_merges (step S p.0 p.1) L h.1)

  guess_ends : (length (guess n s t) ≡ n - 1) × EachNearest n s c start (guess n s t)
  unfolding guess
  guess_ends = by_mean_nearest (n - 1) start (wf_start n) (omega (arith, subtrees_start n))

  -- n − 1 merges
  pub guess_many : length (guess n s t) ≡ n - 1
  guess_many = guess_ends.0

  pub guess_nearest : EachNearest n s c start (guess n s t)
  guess_nearest = guess_ends.1

  -- of different subtrees, so that what the first k of them leave is well formed
  pub guess_merges : Merges n start (guess n s t)
  guess_merges = nearest_merges start (guess n s t) guess_nearest

  pub guess_wf : (k : ℕ) → WellFormed n (after (take k (guess n s t)))
  guess_wf k = wf_after (take k (guess n s t)) (merges_take n start (guess n s t) k guess_merges)

  -- merge k is of the nearest pair among the subtrees that those before it left, and no other pair is nearest there
  pub guess_at : (k : ℕ) → k < n - 1 → IsNearest n s c (after (take k (guess n s t))) (get_or (guess n s t) k (0, 0))
  unfolding after
  guess_at k l = nearest_at start (guess n s t) guess_nearest k (rw guess_many l)

  pub guess_next :
      (k : ℕ) → k < n - 1 → (p : Pair) → IsNearest n s c (after (take k (guess n s t))) p
      → (p ≡ get_or (guess n s t) k (0, 0))
      × (after (take (k + 1) (guess n s t)) ≡ step (after (take k (guess n s t))) p.0 p.1)
  guess_next k l p f =
      let same = nearest_same n s t halves (guess_wf k) p (get_or (guess n s t) k (0, 0)) f (guess_at k l) in
      (same, rw same (after_next (guess n s t) k (rw guess_many l)))

-- The tree of the guess, whatever the table.
module _ (n s : ℕ) (t : List ℕ) (halves : EqualHalves n (cell n t)) (big : 3 ≤ n) where
  z : 0 < n
  z = omega arith

  wf : WellFormed n (after (guess n s t))
  wf = wf_after (guess n s t) (guess_merges n s t halves z)

  guess_single : Single n (after (guess n s t))
  guess_single = full_single z (guess n s t) (guess_many n s t halves z) (guess_merges n s t halves z)

  -- its listing keeps the rules and is standard
  pub guess_keeps : KeepsRules n (final_listing n (guess n s t))
  guess_keeps = final_keeps n big (guess n s t) wf guess_single

  pub guess_standard :
      standard n (tree_of n (final_listing n (guess n s t))) ≡ final_listing n (guess n s t)
  guess_standard = final_standard n big (guess n s t) wf guess_single

  -- the total gap is that of the tree that the listing stands for
  pub guess_total :
      total_gap n s t (final_tree (guess n s t)) ≡ total_gap n s t (tree_of n (final_listing n (guess n s t)))
  guess_total =
      sym (ordered_gap n s t (final_tree (guess n s t)))
      ∙ ap (total_gap n s t) (sym (final_read n big (guess n s t) wf guess_single))

-- where no tree has the table, that is not 0
pub guess_rough :
    (n s : ℕ) (t : List ℕ) → IsTable n t → 3 ≤ n → HasNoTree n s t → 0 < (guessed n s t).total
unfolding guessed
guess_rough n s t table big rough = elim (dec_lt 0 (total_gap n s t (final_tree (guess n s t)))) [
  | yes l ↦ l
  | no g ↦
      let halves = halves_equal table in
      let l = final_listing n (guess n s t) in
      let none : total_gap n s t (tree_of n l) ≡ 0 = omega (arith, guess_total n s t halves big) in
      absurd (rough l (guess_keeps n s t halves big) ((gap_zero n s t (tree_of n l) table).0 none))
]

-- Our own rebuild replies the tree of the rebuild's answer, or the guess.
pub replied_exact : (n s : ℕ) (t l : List ℕ) → rebuilt n s t ≡ accepted l → replied n s t ≡ exact l
unfolding replied
replied_exact n s t l e = rw (e, replied)

pub replied_guessed : (n s : ℕ) (t : List ℕ) (r : Refusal) → rebuilt n s t ≡ refused r → replied n s t ≡ guessed n s t
unfolding replied
replied_guessed n s t r e = rw (e, replied)
