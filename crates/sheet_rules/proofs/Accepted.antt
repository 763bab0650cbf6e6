-- Laws of accepted sheets: the names are good, no two are equal, and they fill everything before the offset; the cells
-- fill everything from there to the trailer. So the names and cells that are read make up the sheet: nothing is lost.
use mathlib.Core.Path.{◌≡◌, refl, sym, ◌∙◌}
use mathlib.Core.Logic.{◌≢◌}
use mathlib.Core.Bool.{true}
use mathlib.Core.List.{List, ◌∷◌, ◌++◌, flat_map, append_assoc}
use mathlib.Core.Option.{none}
use Prim.Native.Nat.{ℕ, zero, suc, ◌+◌, ◌-◌, ◌*◌, ◌≤◌, ◌<◌}
use native.Mathlib.Omega.{arith}
use lib.ListN.{length, take, drop, take-append-drop, length-drop}
use lib.Seq.{take-add, drop-drop, get_or-drop, length-take-le}
use Rattle.base.specs.Lists.{tab}
use Rattle.base.proofs.Bools.{never}
use Rattle.base.proofs.Lists.{flat_more, any_tab_found}
use Rattle.pair_counts.specs.Pairs.{P}
use Rattle.pair_counts.proofs.Pairs.{P_double}
use Rattle.byte_numbers.specs.Bytes.{AreBytes, number, low_first}
use Rattle.sheet_rules.specs.Sheets.{trailer_bytes, trailer, leaves_of, offset_of, mark}
use Rattle.sheet_rules.specs.Sheets.{next_name, name_start, name, is_name, cell_bytes, cells, names_of, cells_of}
use Rattle.sheet_rules.specs.Sheets.{name_bytes, sheet_of, Writable}
use Rattle.sheet_rules.specs.Operations.{right_ends, repeated, names_refusal, sheet_refusal}
use Rattle.byte_numbers.proofs.Bytes.{low_part, number_two}
use Rattle.sheet_rules.proofs.TrailerFigures.{trailer_long}
use Rattle.sheet_rules.proofs.Names.{same_self, start_next, name_stands, good_ends, good_is_name}
use Rattle.sheet_rules.proofs.Names.{names_many, names_at}
use Rattle.sheet_rules.proofs.NameRefusals.{names_pass, rest_passes}
use Rattle.sheet_rules.proofs.SheetRefusal.{Accepted, accepted_sheet}
use Rattle.sheet_rules.proofs.Cells.{cells_many, cell_at}
use Rattle.sheet_rules.proofs.Sizes.{mark_is}

-- The names, where none is refused.
module _ (S : List ℕ) (n o : ℕ) (h : names_refusal S n o ≡ none) where
  -- the name of a leaf ends at or before the offset
  pub name_ends : (i : ℕ) → i < n → name_start S (i + 1) ≤ o
  name_ends i l = omega (arith, good_ends S o (name_start S i) (names_pass S n o h i l).0, start_next S i refl)

  all_end : 0 < n → name_start S n ≡ o
  all_end l =
      let e : n - 1 + 1 ≡ n = omega arith in
      omega (arith, rest_passes S n o h, rw e at (name_ends (n - 1) (omega arith)))

  names_differ : (i j : ℕ) → i < j → j < n → name S i ≢ name S j
  unfolding repeated
  names_differ i j l b e =
      never (any_tab_found _ (name S) j i l (rw e (same_self (name S j)))) (names_pass S n o h j b).1

  names_filled : (k : ℕ) → k ≤ n → o ≤ length S → take (name_start S k) S ≡ name_bytes (tab k (name S))
  unfolding name_start name_bytes tab name
  names_filled zero l m = unfold flat_map in refl
  names_filled (suc k) l m =
      let p = name_start S k in
      let ends : next_name S p ≤ length S = omega (arith, name_ends k (omega arith), start_next S k refl) in
      rw (
        name_stands S p ends,
        names_filled k (omega arith) m,
        flat_more (λ x. length x ∷ x) (tab k (name S)) (name S k),
      )

-- the bytes of the first k cells
cells_filled :
    (S : List ℕ) (o k : ℕ) → AreBytes S → o + 2 * k ≤ length S
    → take (2 * k) (drop o S) ≡ flat_map (low_first 2) (tab k (λ j. number (take 2 (drop (o + 2 * j) S))))
unfolding tab
cells_filled S o zero b h = unfold flat_map in refl
cells_filled S o (suc k) b h =
    let e : 2 * suc k ≡ 2 * k + 2 = omega arith in
    rw (
      e,
      take-add (2 * k) 2 (drop o S),
      drop-drop (2 * k) o S,
      cells_filled S o k b (omega arith),
      flat_more (low_first 2) (tab k (λ j. number (take 2 (drop (o + 2 * j) S)))) _,
      low_part S 2 (o + 2 * k) b (omega arith),
    )

-- the trailer as it is written
trailer_stands :
    (S : List ℕ) → AreBytes S → trailer_bytes ≤ length S → right_ends S ≡ true
    → trailer S ≡ low_first 2 (leaves_of S) ++ (low_first 4 (offset_of S) ++ mark)
unfolding leaves_of offset_of
trailer_stands S b h e =
    rw (
      low_part (trailer S) 2 0 bytes (omega (arith, long)),
      low_part (trailer S) 4 2 bytes (omega (arith, long)),
      ← mark_is S e,
      ← drop-drop 4 2 (trailer S),
      take-append-drop 4 (drop 2 (trailer S)),
      take-append-drop 2 (trailer S),
    )
  where
    a : ℕ
    a = length S - trailer_bytes

    bytes : AreBytes (trailer S)
    bytes k = rw (trailer_long S h, get_or-drop a S k 0) (b (a + k))

    long : trailer_bytes ≤ length (trailer S)
    long = rw (trailer_long S h, length-drop a S) (omega arith)

-- An accepted sheet.
module _ (S : List ℕ) (due room : ℕ) (h : sheet_refusal S due room ≡ none) where
  sheet : Accepted S (leaves_of S) (offset_of S) due room
  unfolding sheet_refusal
  sheet = accepted_sheet S (leaves_of S) (offset_of S) due room h

  -- each name is one
  pub names_good : (i : ℕ) → i < leaves_of S → is_name (name S i) ≡ true
  unfolding name
  names_good i l =
      let o = offset_of S in
      good_is_name S o (name_start S i) (names_pass S (leaves_of S) o sheet.names i l).0

  -- no two names are equal
  pub names_distinct : (i j : ℕ) → i < j → j < leaves_of S → name S i ≢ name S j
  names_distinct = names_differ S (leaves_of S) (offset_of S) sheet.names

  -- names fill everything before the offset
  pub names_fill : take (offset_of S) S ≡ name_bytes (names_of S)
  unfolding names_of
  names_fill =
      let n = leaves_of S in
      let few = sheet.count in
      rw (← all_end S n (offset_of S) sheet.names (omega arith))
      (names_filled S n (offset_of S) sheet.names n (omega arith) (omega (arith, sheet.sum)))

  module _ (b : AreBytes S) where
    -- cells fill everything from there to the trailer
    pub cells_fill : drop (offset_of S) S ≡ flat_map (low_first 2) (cells_of S) ++ trailer S
    unfolding cells_of cells
    cells_fill =
        let o = offset_of S in
        let m = cell_bytes (leaves_of S) in
        let fill = P_double (leaves_of S) in
        let e : length S - trailer_bytes ≡ o + m = omega (arith, sheet.sum) in
        rw (
          ← cells_filled S o (P (leaves_of S)) b (omega (arith, sheet.sum, fill)),
          fill,
          trailer_long S (omega (arith, sheet.sum)),
          e,
          ← drop-drop m o S,
          take-append-drop m (drop o S),
        )

    -- the names and the cells that are read make a sheet, and it is this one
    pub parts_writable : Writable (names_of S) (cells_of S)
    unfolding cells_of
    parts_writable =
        let n = leaves_of S in
        let o = offset_of S in
        record {
          count = rw (names_many S) sheet.count;
          are_names = λ i l. let l' = rw (names_many S) at l in rw (names_at S i l') (names_good i l');
          distinct = λ i j l m e.
              let m' = rw (names_many S) at m in
              names_distinct i j l m' (sym (names_at S i (omega (arith, m'))) ∙ e ∙ names_at S j m');
          many = rw (names_many S) (cells_many S n o);
          small = λ k l.
              let l' = rw (cells_many S n o) at l in
              rw (cell_at S n o k l', number_two S (o + 2 * k))
              (omega (arith, b (o + 2 * k), b (o + 2 * k + 1)));
        }

    pub parts_written : sheet_of (names_of S) (cells_of S) ≡ S
    unfolding sheet_of
    parts_written =
        let o_is : length (take (offset_of S) S) ≡ offset_of S =
        length-take-le (offset_of S) S (omega (arith, sheet.sum)) in
        let trail = trailer_stands S b (omega (arith, sheet.sum)) sheet.ends in
        rw (names_many S, ← names_fill, o_is)
        (simp append_assoc (rw (← trail, ← cells_fill, take-append-drop (offset_of S) S)))
