-- The trailer's figures, as code reads them at their places from the end of the sheet.
use mathlib.Core.Path.{◌≡◌}
use mathlib.Core.List.{List}
use Prim.Native.Nat.{ℕ, ◌+◌, ◌-◌, ◌*◌, ◌≤◌, ◌<◌}
use native.Mathlib.Omega.{arith}
use borrow.Author.Tests.{le-ltb, lt-ltb}
use lib.ListN.{length, take, drop}
use lib.Seq.{drop-drop}
use Rattle.byte_numbers.specs.Bytes.{number}
use Rattle.byte_numbers.proofs.Bytes.{number_four}
use Rattle.sheet_rules.specs.Sheets.{trailer_bytes, trailer, leaves_of, offset_of}

-- the trailer's figures, where there is a trailer
pub trailer_long : (S : List ℕ) → trailer_bytes ≤ length S → trailer S ≡ drop (length S - trailer_bytes) S
unfolding trailer
trailer_long S h = rw (le-ltb (length S) trailer_bytes h)

pub leaves_long :
    (S : List ℕ) → trailer_bytes ≤ length S → leaves_of S ≡ number (take 2 (drop (length S - trailer_bytes) S))
unfolding leaves_of
leaves_long S h = rw (trailer_long S h)

pub offset_long :
    (S : List ℕ) → trailer_bytes ≤ length S
    → let a = length S - 6 in offset_of S ≡ number (take 2 (drop a S)) + 65536 * number (take 2 (drop (a + 2) S))
unfolding offset_of
offset_long S h =
    let e : length S - trailer_bytes + 2 ≡ length S - 6 = omega arith in
    rw (trailer_long S h, drop-drop 2 (length S - trailer_bytes) S, e) (number_four S (length S - 6))

pub leaves_short : (S : List ℕ) → length S < trailer_bytes → leaves_of S ≡ 0
unfolding leaves_of trailer number
leaves_short S h = rw (lt-ltb (length S) trailer_bytes h)

pub offset_short : (S : List ℕ) → length S < trailer_bytes → offset_of S ≡ 0
unfolding offset_of trailer number
offset_short S h = rw (lt-ltb (length S) trailer_bytes h)
