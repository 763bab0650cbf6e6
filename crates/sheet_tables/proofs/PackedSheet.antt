-- A sheet's cells are a packed table: the bytes from the offset to the trailer.
use mathlib.Core.Path.{◌≡◌, refl, ap, sym, ◌∙◌}
use mathlib.Core.List.{List}
use mathlib.Core.Option.{none}
use Prim.Native.Nat.{ℕ, ◌+◌, ◌-◌, ◌*◌, ◌≤◌, ◌<◌}
use native.Mathlib.Omega.{arith}
use lib.ListN.{length, get_or, take, drop, length-drop}
use lib.Seq.{length-take-le, get_or-take, get_or-drop}
use Rattle.base.proofs.Lists.{tab_same}
use Rattle.pair_counts.specs.Pairs.{P}
use Rattle.pair_counts.proofs.Pairs.{P_double}
use Rattle.packed_tables.specs.Packed.{packed_cells, Packed}
use Rattle.byte_numbers.specs.Bytes.{number}
use Rattle.sheet_rules.specs.Sheets.{cell_bytes, cells, leaves_of, offset_of, cells_of}
use Rattle.sheet_rules.specs.Operations.{sheet_refusal}
use Rattle.sheets.specs.inner.Figures.{packed_of}
use Rattle.sheets.proofs.Judged.{accepted_here}
use Rattle.byte_numbers.proofs.Bytes.{number_two}

-- n leaves' cells, the first of them at o, that end in the sheet
module _ (S : List ℕ) (n o : ℕ) (h : o + cell_bytes n ≤ length S) where
  -- their bytes, as code takes them out of the sheet
  abbrev bytes : List ℕ
  bytes = take (cell_bytes n) (drop o S)

  long : length bytes ≡ cell_bytes n
  long = length-take-le (cell_bytes n) (drop o S) (rw (length-drop o S) (omega arith))

  byte_at : (k : ℕ) → k < cell_bytes n → get_or bytes k 0 ≡ get_or S (o + k) 0
  byte_at k l = get_or-take (cell_bytes n) (drop o S) k 0 l ∙ get_or-drop o S k 0

  same_cells : packed_cells n bytes ≡ cells S n o
  unfolding packed_cells cells
  same_cells = tab_same (P n) _ _ same
    where
      same : (k : ℕ) → k < P n → number (take 2 (drop (2 * k) bytes)) ≡ number (take 2 (drop (o + 2 * k) S))
      same k l =
          let fill = P_double n in
          let next : o + (2 * k + 1) ≡ o + 2 * k + 1 = omega arith in
          rw (
            number_two bytes (2 * k),
            byte_at (2 * k) (omega arith),
            byte_at (2 * k + 1) (omega arith),
            next,
            number_two S (o + 2 * k),
          )

-- from the place o to the place m behind it are m bytes
between : (o m : ℕ) → o + m - o ≡ m
between o m = omega arith

-- those of a sheet, by its trailer's figures
pub sheet_cells :
    (S : List ℕ) {n o : ℕ} → n ≡ leaves_of S → o ≡ offset_of S → o + cell_bytes n ≤ length S
    → packed_cells n (take (o + cell_bytes n - o) (drop o S)) ≡ cells_of S
unfolding cells_of
sheet_cells S {n} {o} e f h =
    ap (λ k. packed_cells n (take k (drop o S))) (between o (cell_bytes n)) ∙ same_cells S n o h ∙ rw (e, f)

-- and of a sheet that keeps the rules: they end in it
module _ (S : List ℕ) (h : sheet_refusal S 0 0 ≡ none) where
  ends_in : offset_of S + cell_bytes (leaves_of S) ≤ length S
  ends_in = omega (arith, (accepted_here S 0 0 h).sum)

  pub is_packed : Packed (leaves_of S) (packed_of S)
  is_packed = ((accepted_here S 0 0 h).count, long S (leaves_of S) (offset_of S) ends_in)

  pub kept_cells : packed_cells (leaves_of S) (packed_of S) ≡ cells_of S
  kept_cells =
      let so_many = sym (between (offset_of S) (cell_bytes (leaves_of S))) in
      ap (λ k. packed_cells (leaves_of S) (take k (drop (offset_of S) S))) so_many ∙ sheet_cells S refl refl ends_in
