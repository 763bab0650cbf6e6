-- The tree that the leaves which stay span: it is a tree on that many leaves, four leaves that stay are paired as
-- before under their new numbers, and no other tree has these pairings. Each of the three steps, taking away,
-- renumbering and rerooting, keeps the pairings.
use mathlib.Core.Path.{◌≡◌, ap, sym, ◌∙◌}
use mathlib.Core.Bool.{true}
use Prim.Native.Nat.{ℕ, ◌<◌}
use native.Mathlib.Omega.{arith}
use native.Mathlib.Decide.{dec_lt}
use borrow.Author.Tests.{lt-ltb, le-ltb}
use Rattle.base.proofs.Bools.{is_false, and_both}
use Rattle.limits.specs.Limits.{IsLeafCount}
use Rattle.trees.specs.Trees.{Tree, leaf, node, LeafSet, leaves, IsTree, ordered}
use Rattle.trees.specs.Rerooting.{IsHeld, rerooted}
use Rattle.trees.specs.Renumbering.{renumbered}
use Rattle.trees.specs.Quartets.{paired, pairing}
use Rattle.trees.proofs.Trees.{occurrences_none}
use Rattle.trees.proofs.Rerooting.{held_on, tree_held, rerooted_tree, rerooted_again, rerooted_paired}
use Rattle.trees.proofs.Renumbering.{renumbered_of, renumbered_ext, renumbered_occurrences, renumbered_paired}
use Rattle.merging.proofs.SameTree.{pairings_ordered}
use Rattle.spanned_trees.specs.Spans.{Stays, meets, kept, rank, spanned}
use Rattle.spanned_trees.proofs.Ranks.{rank_most, rank_same, rank_less, rank_one, rank_onto}
use Rattle.spanned_trees.proofs.Kept.{meets_some, kept_occurrences, kept_leaves, kept_same, kept_paired}

module _ (n : ℕ) (v : LeafSet) (T : Tree) (h : IsTree n T) (many : 1 < rank v n) where
  -- the tree with leaf 0 put on, and what stays of it
  abbrev whole : Tree
  whole = node (leaf 0) T

  abbrev rest : Tree
  rest = kept v whole

  -- there are two leaves or more
  two : 1 < n
  two = omega (arith, many, rank_most v n)

  held : IsHeld n whole
  held = tree_held n T (omega (arith, two)) h

  pub some_stay : meets v whole ≡ true
  some_stay =
      let r = rank_onto v n 0 (omega arith) in
      meets_some v whole r.0 r.1.1 ((held_on n whole held).all r.0 r.1.0)

  -- its leaves are those that stay
  rest_stays : (k : ℕ) → leaves rest k ≡ true → Stays n v k
  rest_stays k q =
      let r = and_both (v k) (leaves whole k) (rw (kept_leaves v whole some_stay k) at q) in
      ((held_on n whole held).within k r.1, r.0)

  rest_only : (k : ℕ) → leaves rest k ≡ true → v k ≡ true
  rest_only k q = (rest_stays k q).1

  pub new_number : (k : ℕ) → Stays n v k → rank v k < rank v n
  new_number k s = rank_less v k n s.0 s.1

  -- renumbered, it is on the leaves 0 to the count of those that stay
  pub rest_held : IsHeld (rank v n) (renumbered (rank v) rest)
  rest_held m = elim (dec_lt m (rank v n)) [
    | yes l ↦
        let r = rank_onto v n m l in
        let k = r.0 in
        rw (lt-ltb m (rank v n) l, ← r.2)
        (renumbered_occurrences (rank v) v (rank_one v) rest rest_only k r.1.1
        ∙ kept_occurrences v whole some_stay k
        ∙ rw (r.1.1, held k, lt-ltb k n r.1.0))
    | no g ↦
        rw (le-ltb m (rank v n) (omega arith))
        (occurrences_none (renumbered (rank v) rest) m (is_false _ (λ q.
        let r = renumbered_of (rank v) rest m q in
        g (rw (← r.2) (new_number r.0 (rest_stays r.0 r.1))))))
  ]

  -- it is a tree on as many leaves as stay
  pub spanned_tree : IsTree (rank v n) (spanned v T)
  unfolding spanned
  spanned_tree = rerooted_tree (rank v n) (renumbered (rank v) rest) many rest_held

  -- it depends on which of the n leaves stay, and on nothing beyond
  pub spanned_same : (w : LeafSet) → ((k : ℕ) → k < n → v k ≡ w k) → spanned v T ≡ spanned w T
  unfolding spanned
  spanned_same w e =
      let leaf_low : (k : ℕ) → leaves rest k ≡ true → k < n = λ k q. (rest_stays k q).0 in
      let ranks = renumbered_ext (rank v) (rank w) rest (λ k q.
      rank_same v w k (λ j l. e j (omega (arith, leaf_low k q)))) in
      let stay = kept_same v w whole (λ k q. e k ((held_on n whole held).within k q)) in
      ap rerooted (ranks ∙ ap (renumbered (rank w)) stay)

  -- four leaves that stay are paired as before, under their new numbers
  pub spanned_paired :
      (i j p q : ℕ) → Stays n v i → Stays n v j → Stays n v p → Stays n v q
      → paired (spanned v T) (rank v i) (rank v j) (rank v p) (rank v q) ≡ paired T i j p q
  unfolding spanned
  spanned_paired i j p q si sj sp sq =
      rerooted_paired (rank v n) (renumbered (rank v) rest) many rest_held (rank v i) (rank v j) (rank v p) (rank v q)
      (new_number i si) (new_number j sj) (new_number p sp) (new_number q sq)
      ∙ renumbered_paired (rank v) v (rank_one v) i j p q si.1 sj.1 sp.1 sq.1 rest rest_only
      ∙ kept_paired v i j p q si.1 sj.1 sp.1 sq.1 whole some_stay
      ∙ sym (rerooted_paired n whole two held i j p q si.0 sj.0 sp.0 sq.0)
      ∙ rw (rerooted_again T)

  pub spanned_pairing :
      (a b c d : ℕ) → Stays n v a → Stays n v b → Stays n v c → Stays n v d
      → pairing (spanned v T) (rank v a) (rank v b) (rank v c) (rank v d) ≡ pairing T a b c d
  unfolding pairing
  spanned_pairing a b c d sa sb sc sd = rw (spanned_paired a b c d sa sb sc sd, spanned_paired a c b d sa sc sb sd)

  -- the only tree on as many leaves that pairs them so, in standard order
  pub spanned_only :
      IsLeafCount (rank v n) → (S : Tree) → IsTree (rank v n) S
      → ((i j p q : ℕ) → Stays n v i → Stays n v j → Stays n v p → Stays n v q
      → paired S (rank v i) (rank v j) (rank v p) (rank v q) ≡ paired T i j p q)
      → ordered S ≡ ordered (spanned v T)
  spanned_only c S t e = pairings_ordered (rank v n) c S (spanned v T) t spanned_tree alike
    where
      alike :
          (a b c d : ℕ) → a < rank v n → b < rank v n → c < rank v n → d < rank v n
          → paired S a b c d ≡ paired (spanned v T) a b c d
      alike a b c d la lb lc ld =
          let i = rank_onto v n a la in
          let j = rank_onto v n b lb in
          let p = rank_onto v n c lc in
          let q = rank_onto v n d ld in
          rw (← i.2, ← j.2, ← p.2, ← q.2)
          (e i.0 j.0 p.0 q.0 i.1 j.1 p.1 q.1
          ∙ sym (spanned_paired i.0 j.0 p.0 q.0 i.1 j.1 p.1 q.1))
