-- `name_checks::is_name_byte` meets its contract: the match makes nine runs of bytes.
use mathlib.Core.Path.{refl, sym}
use mathlib.Core.Bool.{true, false}
use native.Mathlib.Omega.{arith}
use Rattle.base.specs.Lists.{tab}
use Rattle.sheet_rules.specs.Sheets.{name_byte}
use Rattle.name_checks.proofs.NameBytes.{in_run}
use Rattle.name_checks.proofs.is_name_byte.Goals as goal

pub returns-in-65-to-90 : goal.returns-in-65-to-90
unfolding tab name_byte
returns-in-65-to-90 c =
    let x = c.args.x in
    sym (in_run true 45 2 refl x (omega arith) (omega arith))

pub returns-in-65-to-90-2 : goal.returns-in-65-to-90-2
unfolding tab name_byte
returns-in-65-to-90-2 c =
    let x = c.args.x in
    sym (in_run true 48 10 refl x (omega arith) (omega arith))

pub returns-in-65-to-90-3 : goal.returns-in-65-to-90-3
unfolding tab name_byte
returns-in-65-to-90-3 c =
    let x = c.args.x in
    sym (in_run true 65 26 refl x (omega arith) (omega arith))

pub returns-in-65-to-90-4 : goal.returns-in-65-to-90-4
unfolding tab name_byte
returns-in-65-to-90-4 c =
    let x = c.args.x in
    sym (in_run true 97 26 refl x (omega arith) (omega arith))

pub returns-in_default : goal.returns-in_default
unfolding tab name_byte
returns-in_default c =
    let x = c.args.x in
    sym (in_run false 0 45 refl x (omega arith) (omega arith))

pub returns-in_default-2 : goal.returns-in_default-2
unfolding tab name_byte
returns-in_default-2 c =
    let x = c.args.x in
    sym (in_run false 47 1 refl x (omega arith) (omega arith))

pub returns-in_default-3 : goal.returns-in_default-3
unfolding tab name_byte
returns-in_default-3 c =
    let x = c.args.x in
    sym (in_run false 58 7 refl x (omega arith) (omega arith))

pub returns-in_default-4 : goal.returns-in_default-4
unfolding tab name_byte
returns-in_default-4 c =
    let x = c.args.x in
    sym (in_run false 91 6 refl x (omega arith) (omega arith))

pub returns-in_default-5 : goal.returns-in_default-5
unfolding tab name_byte
returns-in_default-5 c =
    let x = c.args.x in
    sym (in_run false 123 133 refl x (omega arith) (omega arith))
