-- The bytes that a name may have, run by run: one test computed over a run of bytes carries the answer to each of them.
use mathlib.Core.Path.{◌≡◌, ap, sym, ◌∙◌}
use mathlib.Core.Bool.{Bool, false}
use Prim.Native.Nat.{ℕ, ◌+◌, ◌-◌, ◌≤◌, ◌<◌}
use native.Mathlib.Omega.{arith}
use lib.ListN.{get_or}
use Rattle.base.specs.Lists.{tab}
use Rattle.base.proofs.Lists.{getD_tab}
use Rattle.sheet_rules.specs.Sheets.{name_byte}

pub in_run :
    (v : Bool) (from many : ℕ) → tab many (λ k. name_byte (from + k)) ≡ tab many (λ k. v) → (x : ℕ) → from ≤ x
    → x < from + many → name_byte x ≡ v
in_run v from many h x l m =
    let e : from + (x - from) ≡ x = omega arith in
    rw e
    at (sym (getD_tab many (λ k. name_byte (from + k)) (x - from) false (omega arith))
    ∙ ap (λ t. get_or t (x - from) false) h
    ∙ getD_tab many (λ k. v) (x - from) false (omega arith))
