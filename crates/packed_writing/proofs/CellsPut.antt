-- Two bytes set at the place of a cell above the diagonal: that cell and its mirror cell become the number, and since
-- no other cell has its place, the others stay.
use mathlib.Core.Path.{◌≡◌, refl, sym, ◌∙◌}
use mathlib.Core.Logic.{◌≢◌}
use mathlib.Core.List.{List}
use Prim.Native.Nat.{ℕ, ◌+◌, ◌*◌, ◌/◌, ◌%◌, ◌≤◌, ◌<◌}
use native.Mathlib.Omega.{arith}
use native.Mathlib.Decide.{dec_lt}
use lib.ListN.{length, get_or, set, take, drop, length-set}
use lib.Seq.{get_or-set_same, get_or-set_other}
use Rattle.byte_numbers.specs.Bytes.{number}
use Rattle.byte_numbers.proofs.Bytes.{number_two}
use Rattle.packed_tables.specs.Packed.{cells_before, mirrored, packed_cells, Packed}
use Rattle.packed_tables.proofs.CellPlaces.{place_below, cell_inside, places_differ, cell_in_bytes}
use Rattle.packed_tables.proofs.PackedIsTable.{on_diagonal, above_diagonal, below_diagonal}
use Rattle.packed_writing.specs.inner.Writing.{CellPut}

-- the bytes B with a number in the two bytes at a place
abbrev pub with_pair : List ℕ → ℕ → ℕ → List ℕ
with_pair B a v = set (set B a (v % 256)) (a + 1) (v / 256 % 256)

module _ (B : List ℕ) (a v : ℕ) where
  pair_there : a + 2 ≤ length B → v < 65536 → number (take 2 (drop a (with_pair B a v))) ≡ v
  pair_there room small =
      let low =
      get_or-set_other (set B a (v % 256)) (a + 1) a (v / 256 % 256) 0 (omega arith)
      ∙ get_or-set_same B a (v % 256) 0 (omega arith) in
      let high =
      get_or-set_same (set B a (v % 256)) (a + 1) (v / 256 % 256) 0 (simp length-set (omega arith)) in
      number_two (with_pair B a v) a ∙ rw (low, high) (omega arith)

  byte_kept : (k : ℕ) → k ≢ a → k ≢ a + 1 → get_or (with_pair B a v) k 0 ≡ get_or B k 0
  byte_kept k d e =
      get_or-set_other (set B a (v % 256)) (a + 1) k (v / 256 % 256) 0 e ∙ get_or-set_other B a k (v % 256) 0 d

  pair_kept :
      (b : ℕ) → b ≢ a → b ≢ a + 1 → b + 1 ≢ a
      → number (take 2 (drop b (with_pair B a v))) ≡ number (take 2 (drop b B))
  pair_kept b d e f =
      number_two (with_pair B a v) b
      ∙ rw (byte_kept b d e, byte_kept (b + 1) f (omega arith)) (sym (number_two B b))

module _ (n : ℕ) (B : List ℕ) (p : Packed n B) (i j v : ℕ) (h : i < j) (l : j < n) (small : v < 65536) where
  -- the bytes with the cell put
  abbrev B' : List ℕ
  B' = with_pair B (2 * cells_before n i j) v

  here : get_or (packed_cells n B') (cells_before n i j) 0 ≡ v
  here =
      cell_in_bytes n B' _ (place_below n i j h l)
      ∙ pair_there B (2 * cells_before n i j) v (rw p.1 (cell_inside n i j h l)) small

  other :
      (x y : ℕ) → x < y → y < n → (x ≡ i → y ≡ j → ⊥)
      → get_or (packed_cells n B') (cells_before n x y) 0 ≡ get_or (packed_cells n B) (cells_before n x y) 0
  other x y k m d =
      let apart = places_differ n i j x y h l k m d in
      let below = place_below n x y k m in
      cell_in_bytes n B' _ below
      ∙ pair_kept B (2 * cells_before n i j) v (2 * cells_before n x y) (omega arith) (omega arith) (omega arith)
      ∙ sym (cell_in_bytes n B _ below)

  pub cell_put : CellPut n B B' i j v
  cell_put = record {
    long = simp length-set refl;
    there = above_diagonal n _ i j h ∙ here;
    mirror = below_diagonal n _ j i h ∙ here;
    elsewhere = kept;
  }
    where
      kept :
          (x y : ℕ) → x < n → y < n → (x ≡ i → y ≡ j → ⊥) → (x ≡ j → y ≡ i → ⊥)
          → mirrored n (packed_cells n B') x y ≡ mirrored n (packed_cells n B) x y
      kept x y lx ly d e = elim (dec_lt x y) [
        | yes k ↦ above_diagonal n _ x y k ∙ other x y k ly d ∙ sym (above_diagonal n _ x y k)
        | no g ↦ elim (dec_lt y x) [
          | yes k ↦
              below_diagonal n _ x y k ∙ other y x k lx (λ s t. e t s) ∙ sym (below_diagonal n _ x y k)
          | no f ↦
              let s : x ≡ y = omega arith in
              rw s (on_diagonal n _ y ∙ sym (on_diagonal n _ y))
        ]
      ]

-- the same by either order of the two leaves
pub mirror_put : {n : ℕ} {B B' : List ℕ} {i j v : ℕ} → CellPut n B B' i j v → CellPut n B B' j i v
mirror_put r =
    record {
      long = r.long;
      there = r.mirror;
      mirror = r.there;
      elsewhere = λ x y lx ly d e. r.elsewhere x y lx ly e d;
    }
