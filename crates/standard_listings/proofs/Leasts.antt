-- The arrays of least leaves and of children in order: they grow by one entry, and by one node, a turn.
use mathlib.Core.Path.{◌≡◌, refl, sym, ◌∙◌}
use mathlib.Core.List.{List}
use Prim.Native.Nat.{ℕ, ◌+◌, ◌-◌, ◌*◌, ◌≤◌, ◌<◌}
use native.Mathlib.Omega.{arith}
use native.Mathlib.Decide.{ℕ_discrete, dec_lt}
use borrow.Author.Tests.{lt-ltb, le-ltb}
use lib.ListN.{length, get_or, set, length-set}
use lib.Seq.{get_or-set_same, get_or-set_other}
use Rattle.limits.specs.Limits.{most_rows, most_numbers}
use Rattle.trees.specs.Trees.{least}
use Rattle.standard_listings.specs.inner.Standardising.{part, standard_first, standard_second, known_least}
use Rattle.standard_listings.specs.inner.Standardising.{Leasts, InOrder}
use Rattle.standard_listings.proofs.Nodes.{part_leaf}

-- the least leaf under a leaf is that leaf
least_leaf : (n : ℕ) (l : List ℕ) (i : ℕ) → i < n → i ≡ least (part n l i)
least_leaf n l i h = rw (part_leaf n l i h) (unfold least in refl)

-- of a leaf nothing has to be known; of a node the array has it
leasts_leaf : (n : ℕ) (l leasts : List ℕ) (x : ℕ) → x < n → known_least n leasts x ≡ least (part n l x)
leasts_leaf n l leasts x h = unfold known_least in rw (lt-ltb x n h) (least_leaf n l x h)

leasts_node : (n : ℕ) (leasts : List ℕ) (x : ℕ) → n ≤ x → known_least n leasts x ≡ get_or leasts (x - n) 0
leasts_node n leasts x h = unfold known_least in rw (le-ltb x n h)

-- no node yet, and one node more
pub leasts_none : (n : ℕ) (l leasts : List ℕ) → length leasts ≡ most_rows → Leasts n l n leasts
leasts_none n l leasts long = record { long = long; is = leasts_leaf n l leasts }

pub leasts_more :
    (n : ℕ) (l leasts : List ℕ) (v y : ℕ) → n ≤ v → v - n < most_rows → y ≡ least (part n l v) → Leasts n l v leasts
    → Leasts n l (v + 1) (set leasts (v - n) y)
leasts_more n l leasts v y low small e w = record {
  long = length-set leasts (v - n) y ∙ w.long;
  is = λ x h. elim (dec_lt x n) [
    | yes a ↦ leasts_leaf n l (set leasts (v - n) y) x a
    | no a ↦ leasts_node n (set leasts (v - n) y) x (omega (arith, a)) ∙ elim (ℕ_discrete x v) [
      | yes q ↦ rw q (get_or-set_same leasts (v - n) y 0 (omega (arith, w.long)) ∙ e)
      | no q ↦ get_or-set_other leasts (v - n) (x - n) y 0 (λ p. q (omega (arith, a)))
          ∙ sym (leasts_node n leasts x (omega (arith, a))) ∙ w.is x (omega arith)
    ]
  ];
}

-- the children of the nodes in order: none yet, and one node more
pub order_none : (n : ℕ) (l sorted : List ℕ) → length sorted ≡ most_numbers → InOrder n l n sorted
order_none n l sorted long =
    record { long = long; firsts = λ v a b. absurd (omega arith); seconds = λ v a b. absurd (omega arith) }

pub order_more :
    (n : ℕ) (l sorted : List ℕ) (v x y : ℕ) → n ≤ v → 2 * (v - n) + 1 < most_numbers → x ≡ standard_first n l v
    → y ≡ standard_second n l v → InOrder n l v sorted
    → InOrder n l (v + 1) (set (set sorted (2 * (v - n)) x) (2 * (v - n) + 1) y)
order_more n l sorted v x y low room ex ey w = record {
  long = length-set one (2 * (v - n) + 1) y ∙ length-set sorted (2 * (v - n)) x ∙ w.long;
  firsts = λ u a b. elim (ℕ_discrete u v) [
    | yes e ↦ rw e (get_or-set_other one (2 * (v - n) + 1) (2 * (v - n)) y 0 (λ q. omega arith)
        ∙ get_or-set_same sorted (2 * (v - n)) x 0 (omega (arith, w.long)) ∙ ex)
    | no q ↦ get_or-set_other one (2 * (v - n) + 1) (2 * (u - n)) y 0 (λ e. omega arith)
        ∙ get_or-set_other sorted (2 * (v - n)) (2 * (u - n)) x 0 (λ e. q (omega arith)) ∙ w.firsts u a (omega arith)
  ];
  seconds = λ u a b. elim (ℕ_discrete u v) [
    | yes e ↦ rw e (get_or-set_same one (2 * (v - n) + 1) y 0 (rw length-set (omega (arith, w.long))) ∙ ey)
    | no q ↦ get_or-set_other one (2 * (v - n) + 1) (2 * (u - n) + 1) y 0 (λ e. q (omega arith))
        ∙ get_or-set_other sorted (2 * (v - n)) (2 * (u - n) + 1) x 0 (λ e. omega arith) ∙ w.seconds u a (omega arith)
  ];
}
  where
    one : List ℕ
    one = set sorted (2 * (v - n)) x
