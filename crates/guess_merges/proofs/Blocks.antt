-- The cells that a merge brings together, written one after the other: a cell more, a row more.
use mathlib.Core.Path.{◌≡◌, refl, sym, ◌∙◌}
use mathlib.Core.Logic.{◌≢◌}
use mathlib.Core.List.{List}
use Prim.Native.Nat.{ℕ, ◌+◌, ◌-◌, ◌≤◌, ◌<◌}
use native.Mathlib.Omega.{arith}
use native.Mathlib.Decide.{ℕ_discrete}
use lib.ListN.{length, get_or}
use Rattle.packed_tables.specs.Packed.{packed_cells}
use Rattle.packed_tables.proofs.PackedIsTable.{both_ways}
use Rattle.packed_writing.specs.inner.Writing.{CellPut}
use Rattle.guess_merges.specs.inner.Blocks.{cell_in, RowPut, BlockPut, SmallValues}

module _ {n : ℕ} {label m : List ℕ} {x b e : ℕ} {B : List ℕ} where
  pub row_start : RowPut n label m x b e 0 B B
  row_start = record { long = refl; new = λ y l. absurd (omega arith); others = λ u v lu lv p q. refl }

  module _ {B₁ : List ℕ} {y : ℕ} (h : RowPut n label m x b e y B B₁) where
    pub row_skip : get_or label y 0 ≢ b → RowPut n label m x b e (y + 1) B B₁
    row_skip d = record {
      long = h.long;
      new = λ k l o. elim (ℕ_discrete k y) [
        | yes q ↦ absurd (d (rw q at o))
        | no g ↦ h.new k (omega arith) o
      ];
      others = h.others;
    }

    pub row_turn :
        {B₂ : List ℕ} → x < n → y < n → get_or label x 0 ≢ b → get_or label y 0 ≡ b
        → CellPut n B₁ B₂ x y (e + get_or m y 0) → RowPut n label m x b e (y + 1) B B₂
    row_turn {B₂} lx ly d o c = record {
      long = c.long ∙ h.long;
      new = λ k l q. elim (ℕ_discrete k y) [
        | yes z ↦ rw z c.there
        | no g ↦
            c.elsewhere x k lx (omega arith) (λ _ z. g z) (λ z _. d (rw z o)) ∙ h.new k (omega arith) q
      ];
      others = λ u v lu lv p q.
          c.elsewhere u v lu lv (λ z w. p z (rw w o)) (λ z w. q w (rw z o)) ∙ h.others u v lu lv p q;
    }

module _ {n : ℕ} {label m : List ℕ} {a b e : ℕ} {B : List ℕ} where
  pub block_start : BlockPut n label m a b e 0 B B
  block_start = record { long = refl; new = λ x y l. absurd (omega arith); others = λ u v lu lv p q. refl }

  module _ {B₁ : List ℕ} {x : ℕ} (h : BlockPut n label m a b e x B B₁) where
    pub block_skip : get_or label x 0 ≢ a → BlockPut n label m a b e (x + 1) B B₁
    block_skip d = record {
      long = h.long;
      new = λ k y l ly o q. elim (ℕ_discrete k x) [
        | yes z ↦ absurd (d (rw z at o))
        | no g ↦ h.new k y (omega arith) ly o q
      ];
      others = h.others;
    }

    pub block_turn :
        {B₂ : List ℕ} → a ≢ b → x < n → get_or label x 0 ≡ a → RowPut n label m x b (e + get_or m x 0) n B₁ B₂
        → BlockPut n label m a b e (x + 1) B B₂
    block_turn {B₂} d lx o r = record {
      long = r.long ∙ h.long;
      new = λ k y l ly p q. elim (ℕ_discrete k x) [
        | yes z ↦ rw z (r.new y ly q)
        | no g ↦
            r.others k y (omega arith) ly (λ z _. g z) (λ _ w. d (sym p ∙ w)) ∙ h.new k y (omega arith) ly p q
      ];
      others = λ u v lu lv p q.
          r.others u v lu lv (λ z w. p (rw z o) w) (λ z w. q (rw z o) w) ∙ h.others u v lu lv p q;
    }

-- The block of either side's rows: a packed table has equal halves.
pub block_across :
    {n : ℕ} {label m : List ℕ} {a b e : ℕ} {B B' : List ℕ} → a ≢ b → BlockPut n label m b a e n B B'
    → BlockPut n label m a b e n B B'
block_across {n} {label} {m} {a} {b} {e} {B} {B'} d h = record {
  long = h.long;
  new = λ x y lx ly o q.
      both_ways n (packed_cells n B') x y ∙ h.new y x ly lx q o ∙ omega arith;
  others = λ u v lu lv p q. h.others u v lu lv (λ y z. q z y) (λ y z. p z y);
}

pub values_across :
    {n : ℕ} (label m : List ℕ) (a b e : ℕ) → SmallValues n label m a b e → SmallValues n label m b a e
values_across label m a b e h x y lx ly o q = omega (arith, h y x ly lx q o)
