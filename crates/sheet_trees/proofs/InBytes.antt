-- A listing in bytes, as code makes it of the listing in numbers: the same answer, and the bytes that are written.
use Rattle.std.specs.Prelude.{Ok, Err}
use mathlib.Core.Path.{◌≡◌, refl, ap, sym, ◌∙◌}
use mathlib.Core.List.{List, flat_map}
use mathlib.Core.Option.{none}
use Prim.Native.Nat.{ℕ, zero, suc, ◌-◌, ◌*◌, ◌/◌, ◌%◌, ◌≤◌}
use native.Mathlib.Omega.{arith}
use lib.ListN.{length, get_or, take, drop}
use lib.Seq.{take-suc, append_snoc, take-append_seam, take_all}
use Rattle.base.specs.Lists.{tab, filled}
use Rattle.base.proofs.Lists.{length_flat, flat_more}
use Rattle.limits.specs.declared.Kind.TheVariants.{Counts}
use Rattle.limits.specs.Limits.{most_numbers}
use Rattle.refusals.specs.declared.Refusal.{Refusal}
use Rattle.refusals.specs.Refusals.{Answer, accepted, refused, outcome, written}
use Rattle.refusals.proofs.Answers.{unless_passed}
use Rattle.rebuild_answers.proofs.Promises.{rebuilt_is_standard}
use Rattle.byte_numbers.specs.Bytes.{low_first}
use Rattle.sheet_rules.specs.Sheets.{leaves_of, cells_of}
use Rattle.sheet_rules.specs.Operations.{sheet_refusal}
use Rattle.byte_numbers.proofs.Bytes.{length_low}
use Rattle.packed_tables.specs.Packed.{table_with}
use Rattle.sheet_trees.specs.Operations.{sheet_tree, in_bytes, sheet_bytes_answer}
use Rattle.sheets.proofs.Judged.{accepted_here, other_room}
use Rattle.sheet_trees.proofs.SheetTree.{rebuilt_alone}

-- byte k of numbers in two bytes each
unfoldable pub byte_rule : List ℕ → ℕ → ℕ
byte_rule l k = get_or (low_first 2 (get_or l (k / 2) 0)) (k % 2) 0

-- the two bytes of number m, and the bytes of the first m numbers, one by one
pub low_byte : (l : List ℕ) (m : ℕ) → byte_rule l (2 * m) ≡ get_or l m 0 % 256
unfolding byte_rule low_first
low_byte l m =
    let a : 2 * m / 2 ≡ m = omega arith in
    let b : 2 * m % 2 ≡ 0 = omega arith in
    rw (a, b)

pub high_byte : (l : List ℕ) (m : ℕ) → byte_rule l (suc (2 * m)) ≡ get_or l m 0 / 256 % 256
unfolding byte_rule low_first
high_byte l m =
    let a : suc (2 * m) / 2 ≡ m = omega arith in
    let b : suc (2 * m) % 2 ≡ 1 = omega arith in
    rw (a, b)

first_bytes :
    (l : List ℕ) (m : ℕ) → m ≤ length l → tab (2 * m) (byte_rule l) ≡ flat_map (low_first 2) (take m l)
unfolding tab low_first
first_bytes l zero h = unfold flat_map in refl
first_bytes l (suc m) h =
    let e : 2 * suc m ≡ suc (suc (2 * m)) = omega arith in
    rw (
      e,
      first_bytes l m (omega arith),
      take-suc l m 0 (omega arith),
      flat_more (low_first 2) (take m l) (get_or l m 0),
      low_byte l m,
      high_byte l m,
    )
    (append_snoc (flat_map (low_first 2) (take m l)) _ _)

-- an answer in bytes: it is refused as before, and then nothing is written
same_outcome : (a : Answer (List ℕ)) → outcome a ≡ outcome (in_bytes a)
unfolding outcome in_bytes
same_outcome (accepted l) = refl
same_outcome (refused r) = refl

none_written :
    (a : Answer (List ℕ)) (r : Refusal) (out : List ℕ) → outcome a ≡ Err r → out ≡ written (in_bytes a) out
unfolding outcome in_bytes written
none_written (accepted l) r out h = absurd (let z : ◌≡◌ {A = ℕ} 0 1 = cc in omega arith)
none_written (refused x) r out h = refl

not_done : (r : Refusal) → outcome {A = List ℕ} (refused r) ≡ Ok tt → ⊥
unfolding outcome
not_done r h = let z : ◌≡◌ {A = ℕ} 0 1 = cc in omega arith

-- the bytes of numbers at the front of a buffer
pub all_bytes : (l out : List ℕ) → filled (2 * length l) (byte_rule l) out ≡ written (in_bytes (accepted l)) out
unfolding filled written in_bytes
all_bytes l out =
    rw (
      first_bytes l (length l) (omega arith),
      take_all (length l) l (omega arith),
      length_flat 2 (low_first 2) (length_low 2) l,
    )

listed : (l cells : List ℕ) → take (length l) (written (accepted l) cells) ≡ l
unfolding written
listed l cells = take-append_seam l (drop (length l) cells)

-- A sheet that is accepted with its room for bytes. The numbers have room in most_numbers cells.
module _ (S : List ℕ) (room : ℕ) (h : sheet_refusal S (4 * (leaves_of S - 2)) room ≡ none) where
  pub fits : 2 * (leaves_of S - 2) ≤ most_numbers
  fits = omega (arith, (accepted_here S (4 * (leaves_of S - 2)) room h).count)

  listing_fits : sheet_refusal S (2 * (leaves_of S - 2)) most_numbers ≡ none
  listing_fits = other_room S (4 * (leaves_of S - 2)) room h (2 * (leaves_of S - 2)) most_numbers fits

  bytes_of_tree : sheet_bytes_answer S room ≡ in_bytes (sheet_tree S)
  unfolding sheet_bytes_answer
  bytes_of_tree = unless_passed _ _ h

  pub bytes_answer : outcome (sheet_tree S) ≡ outcome (sheet_bytes_answer S room)
  bytes_answer = rw bytes_of_tree (same_outcome (sheet_tree S))

  pub bytes_refused :
      (r : Refusal) (out : List ℕ) → outcome (sheet_tree S) ≡ Err r
      → out ≡ written (sheet_bytes_answer S room) out
  bytes_refused r out e = rw bytes_of_tree (none_written (sheet_tree S) r out e)

  pub bytes_written :
      (cells out : List ℕ) → outcome (sheet_tree S) ≡ Ok tt
      → written (in_bytes (accepted (take (2 * (leaves_of S - 2)) (written (sheet_tree S) cells)))) out
      ≡ written (sheet_bytes_answer S room) out
  bytes_written cells out done = go (sheet_tree S) refl
    where
      go :
          (a : Answer (List ℕ)) → sheet_tree S ≡ a
          → written (in_bytes (accepted (take (2 * (leaves_of S - 2)) (written (sheet_tree S) cells)))) out
          ≡ written (sheet_bytes_answer S room) out
      go (refused r) e = absurd (not_done r (sym (ap outcome e) ∙ done))
      go (accepted l) e =
          let n = leaves_of S in
          let t = table_with n (cells_of S) in
          let kept =
          (rebuilt_is_standard Counts n t most_numbers l (rebuilt_alone S most_numbers listing_fits ∙ e)).0 in
          rw (bytes_of_tree, e, ← kept.numbers, listed l cells)
