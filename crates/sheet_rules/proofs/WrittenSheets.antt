-- The sheet written from names and cells is accepted, and read back it gives the same names and the same cells: each
-- part is found behind the parts before it.
use mathlib.Core.Path.{◌≡◌, refl, ap, sym, ◌∙◌}
use mathlib.Core.Bool.{true, false, ◌&&◌}
use mathlib.Core.List.{List, [], ◌∷◌, ◌++◌, flat_map, append_assoc}
use mathlib.Core.Option.{none}
use Prim.Native.Nat.{ℕ, zero, suc, ◌+◌, ◌-◌, ◌*◌, ◌≤◌, ◌<◌}
use native.Mathlib.Numerals.{add-one}
use native.Mathlib.Omega.{arith}
use borrow.Author.Tests.{le-leb, leb-true, eq-eqb}
use lib.Dec.{leb}
use lib.ListN.{length, get_or, take, drop, length-append}
use lib.Seq.{split_at, take-suc, take-length, take_at, drop_at, get_or_at, drop-append-add, take-append_seam}
use lib.Seq.{ext_get_or}
use lib.Seq.{drop-drop}
use Rattle.base.proofs.Bools.{and_both, and_is, is_false}
use Rattle.base.proofs.Lists.{length_flat, flat_append, flat_more}
use Rattle.limits.specs.Limits.{most_leaves}
use Rattle.pair_counts.proofs.Pairs.{P_double}
use Rattle.byte_numbers.specs.Bytes.{number, low_first}
use Rattle.sheet_rules.specs.Sheets.{trailer_bytes, trailer, leaves_of, offset_of, mark}
use Rattle.sheet_rules.specs.Sheets.{longest_name, name_at, next_name, name_start, name, is_name, same}
use Rattle.sheet_rules.specs.Sheets.{cell_bytes}
use Rattle.sheet_rules.specs.Sheets.{cells}
use Rattle.sheet_rules.specs.Sheets.{longest_sheet, names_of, cells_of, name_bytes, sheet_of, Writable}
use Rattle.sheet_rules.specs.Operations.{right_ends, right_sum, good_at, repeated, sheet_refusal}
use Rattle.byte_numbers.proofs.Bytes.{length_low, number_low}
use Rattle.sheet_rules.proofs.TrailerFigures.{trailer_long}
use Rattle.sheet_rules.proofs.Names.{same_is, same_self, good_by, any_tab_none, names_many, names_at}
use Rattle.sheet_rules.proofs.NameRefusals.{PassedNames, passed_none, passed_more, all_passed}
use Rattle.sheet_rules.proofs.SheetRefusal.{names_left}
use Rattle.sheet_rules.proofs.Cells.{cells_many, cell_at}
use Rattle.sheet_rules.proofs.Sizes.{cell_bytes_le}

-- a name has at most 40 bytes, so that all of them have at most 41 each
name_short : (x : List ℕ) → is_name x ≡ true → length x ≤ longest_name
unfolding is_name
name_short x h =
    let r = and_both (leb 1 (length x) && leb (length x) longest_name) _ h in
    leb-true (length x) longest_name (and_both (leb 1 (length x)) (leb (length x) longest_name) r.0).1

named_short :
    (l : List (List ℕ)) → ((i : ℕ) → i < length l → is_name (get_or l i []) ≡ true)
    → length (name_bytes l) ≤ (1 + longest_name) * length l
unfolding name_bytes flat_map
named_short [] h = omega arith
named_short (x ∷ l) h =
    let first = name_short x (h 0 (omega arith)) in
    let others = named_short l (λ i b. h (suc i) (omega arith)) in
    rw (length-append (length x ∷ x) (name_bytes l)) (omega arith)

-- the cell at place k of those that are written one after the other, whatever comes behind
cell_back :
    (c : List ℕ) (k : ℕ) (rest : List ℕ) → k < length c → get_or c k 0 < 65536
    → number (take 2 (drop (2 * k) (flat_map (low_first 2) c ++ rest))) ≡ get_or c k 0
unfolding number low_first flat_map
cell_back [] k rest l h = absurd (omega arith)
cell_back (x ∷ c) zero rest l h = omega arith
cell_back (x ∷ c) (suc k) rest l h =
    let e : 2 * suc k ≡ suc (suc (2 * k)) = omega arith in
    rw e (cell_back c k rest (omega arith) h)

module _ (l : List (List ℕ)) (c : List ℕ) (w : Writable l c) where
  abbrev n : ℕ
  n = length l

  abbrev o : ℕ
  o = length (name_bytes l)

  abbrev S : List ℕ
  S = sheet_of l c

  abbrev body : List ℕ
  body = flat_map (low_first 2) c

  abbrev tail : List ℕ
  tail = low_first 2 n ++ (low_first 4 o ++ mark)

  -- the three parts
  parts : S ≡ name_bytes l ++ (body ++ tail)
  unfolding sheet_of
  parts = simp append_assoc

  body_long : length body ≡ cell_bytes n
  body_long = length_flat 2 (low_first 2) (length_low 2) c ∙ rw w.many (P_double n)

  tail_long : length tail ≡ trailer_bytes
  tail_long = rw (length-append (low_first 2 n) _, length-append (low_first 4 o) mark, length_low 2 n, length_low 4 o)

  whole_long : length S ≡ o + cell_bytes n + trailer_bytes
  whole_long =
      ap length parts
      ∙ rw (length-append (name_bytes l) (body ++ tail), length-append body tail, body_long, tail_long) (omega arith)

  few : o ≤ (1 + longest_name) * most_leaves
  few = omega (arith, named_short l w.are_names, w.count.1)

  -- the trailer's figures
  trailer_is : trailer S ≡ tail
  trailer_is =
      let front : S ≡ name_bytes l ++ body ++ tail = unfold sheet_of in simp append_assoc in
      let at : length (name_bytes l ++ body) ≡ length S - trailer_bytes =
      length-append (name_bytes l) body ∙ rw body_long (omega (arith, whole_long)) in
      trailer_long S (omega (arith, whole_long))
      ∙ ap (drop (length S - trailer_bytes)) front
      ∙ drop_at (name_bytes l ++ body) tail (length S - trailer_bytes) at

  leaves_is : leaves_of S ≡ n
  unfolding leaves_of
  leaves_is =
      rw (trailer_is, take_at (low_first 2 n) (low_first 4 o ++ mark) 2 (length_low 2 n))
      (number_low 2 n (omega (arith, w.count.1)))

  offset_is : offset_of S ≡ o
  unfolding offset_of
  offset_is =
      rw (
        trailer_is,
        drop_at (low_first 2 n) (low_first 4 o ++ mark) 2 (length_low 2 n),
        take_at (low_first 4 o) mark 4 (length_low 4 o),
      )
      (number_low 4 o (omega (arith, few)))

  -- the sizes are right
  ends_right : right_ends S ≡ true
  unfolding right_ends
  ends_right =
      rw (
        le-leb trailer_bytes (length S) (omega (arith, whole_long)),
        le-leb (length S) longest_sheet (omega (arith, whole_long, few, cell_bytes_le n w.count.1)),
        trailer_is,
        ← drop-drop 4 2 tail,
        drop_at (low_first 2 n) (low_first 4 o ++ mark) 2 (length_low 2 n),
        drop_at (low_first 4 o) mark 4 (length_low 4 o),
      )
      (same_self mark)

  sum_right : right_sum S n o ≡ true
  unfolding right_sum
  sum_right = eq-eqb (o + cell_bytes n + trailer_bytes) (length S) (sym whole_long)

  -- the name of leaf i starts behind those before it
  named_parts :
      (i : ℕ) → i < n
      → (let x = get_or l i [] in name_bytes l ≡ name_bytes (take i l)
      ++ (length x ∷ (x ++ name_bytes (drop (suc i) l))))
  unfolding name_bytes flat_map
  named_parts i b =
      ap name_bytes (split_at l i [] b)
      ∙ flat_append (λ x. length x ∷ x) (take i l) (get_or l i [] ∷ drop (suc i) l)

  module _ (i : ℕ) (b : i < n) where
    abbrev x : List ℕ
    x = get_or l i []

    abbrev p : ℕ
    p = length (name_bytes (take i l))

    behind : S ≡ name_bytes (take i l) ++ (length x ∷ (x ++ (name_bytes (drop (suc i) l) ++ (body ++ tail))))
    behind = parts ∙ rw (named_parts i b) (simp append_assoc)

    length_here : get_or S p 0 ≡ length x
    length_here = rw behind (get_or_at (name_bytes (take i l)) (length x) _ 0 p refl)

    name_here : name_at S p ≡ x
    unfolding name_at
    name_here = rw (length_here, behind, drop-append-add (name_bytes (take i l)) _ 1) (take-append_seam x _)

    next_here : next_name S p ≡ length (name_bytes (take (suc i) l))
    unfolding name_bytes
    next_here =
        rw (
          length_here,
          take-suc l i [] b,
          flat_more (λ x. length x ∷ x) (take i l) x,
          length-append (name_bytes (take i l)) (length x ∷ x),
        )
        (omega arith)

    ends_here : next_name S p ≤ o
    ends_here =
        let behind_x = name_bytes (drop (suc i) l) in
        let all = ap length (named_parts i b) ∙ length-append (name_bytes (take i l)) (length x ∷ (x ++ behind_x)) in
        rw length_here (omega (arith, all, length-append x behind_x))

    good_here : good_at S o p ≡ true
    good_here = good_by S o p ends_here (rw name_here (w.are_names i b))

  start_is : (i : ℕ) → i ≤ n → name_start S i ≡ length (name_bytes (take i l))
  unfolding name_start
  start_is zero h = unfold name_bytes flat_map in refl
  start_is (suc i) h = rw (start_is i (omega arith)) (next_here i (omega arith))

  name_is : (i : ℕ) → i < n → name S i ≡ get_or l i []
  unfolding name
  name_is i b = rw (start_is i (omega arith)) (name_here i b)

  -- no name is refused
  new_here : (i : ℕ) → i < n → repeated S i ≡ false
  unfolding repeated
  new_here i b = any_tab_none (same (name S i)) (name S) i differs
    where
      differs : (k : ℕ) → k < i → same (name S i) (name S k) ≡ false
      differs k a =
          let known = name_is k (omega arith) in
          is_false (same (name S i) (name S k))
          (λ t. w.distinct k i a b (sym known ∙ sym (same_is (name S i) (name S k) t) ∙ name_is i b))

  names_pass : (i : ℕ) → i ≤ n → PassedNames S n o i (length (name_bytes (take i l)))
  names_pass zero h = unfold name_bytes flat_map in passed_none S n o
  names_pass (suc i) h =
      let b : i < n = omega arith in
      rw (add-one i)
      at (passed_more (names_pass i (omega arith)) (good_here i b) b (new_here i b) (sym (next_here i b)))

  -- it is accepted
  pub written_accepted : (due room : ℕ) → due ≤ room → sheet_refusal S due room ≡ none
  unfolding sheet_refusal
  written_accepted due room h =
      let counts = and_is _ _ (le-leb 3 n w.count.0) (le-leb n most_leaves w.count.1) in
      let names = all_passed (names_pass n (omega arith)) (omega arith) (rw (take-length l) (omega arith)) in
      rw (leaves_is, offset_is) (names_left S n o due room ends_right counts sum_right h ∙ names)

  -- the names and the cells that are read are those that were written
  pub written_names : names_of S ≡ l
  written_names = ext_get_or [] (names_of S) l (names_many S ∙ leaves_is) each
    where
      each : (i : ℕ) → i < length (names_of S) → get_or (names_of S) i [] ≡ get_or l i []
      each i b = names_at S i (rw (names_many S) at b) ∙ name_is i (rw (names_many S, leaves_is) at b)

  pub written_cells : cells_of S ≡ c
  unfolding cells_of
  written_cells = rw (leaves_is, offset_is) (ext_get_or 0 (cells S n o) c (cells_many S n o ∙ sym w.many) each)
    where
      each : (k : ℕ) → k < length (cells S n o) → get_or (cells S n o) k 0 ≡ get_or c k 0
      each k b =
          let below : k < length c = omega (arith, cells_many S n o, w.many) in
          cell_at S n o k (rw (cells_many S n o) at b)
          ∙ rw (parts, drop-append-add (name_bytes l) (body ++ tail) (2 * k))
          (cell_back c k tail below (w.small k below))
