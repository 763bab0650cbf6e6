-- `newick_import::import_indexed` meets its contract: what reading answers; or the standard listing of the rows that
-- were read.
use mathlib.Core.Path.{◌≡◌, sym, ◌∙◌}
use Rattle.std.specs.Prelude.{Ok}
use Rattle.sheet_rules.specs.Sheets.{names_of}
use Rattle.newick_rules.specs.Importing.{imported}
use Rattle.newick_text.specs.inner.Texts.{Drawn}
use Rattle.refusals.specs.Refusals.{outcome}
use Rattle.refusals.proofs.Answers.{handed_on}
use Rattle.newick_import.proofs.Answers.{import_refused, import_done}
use Rattle.newick_import.proofs.import_indexed.Goals.{In_ok-drawn}
use Rattle.newick_import.proofs.import_indexed.Goals as goal

pub read_text-requires : goal.read_text-requires
read_text-requires c = record { count = c.requires.0; indexed = c.requires.1; strains = c.requires.2 }

pub returns-in_err-drawn : goal.returns-in_err-drawn
returns-in_err-drawn c =
    let said = rw c.in_err-drawn.was at c.read_text.ensures in
    record {
      answer = handed_on _ c.from_residual.ensures ∙ sym said;
      buffer = import_refused (imported _ _) _ _ said;
    }

-- what was read
read : (c : In_ok-drawn) → (let a = c.args in let x = a.names.now in
    (outcome (imported (names_of x.sheet) a.text.now) ≡ Ok tt)
    × Drawn (names_of x.sheet) x.many a.text.now c.in_ok-drawn.drawn)
read c = rw c.in_ok-drawn.was at c.read_text.ensures

pub finish-requires : goal.finish-requires
finish-requires c = rw c.len-n.ensures (read (goal.at.finish-requires c).In_ok-drawn).1.room

pub standard_rows-requires : goal.standard_rows-requires
standard_rows-requires c =
    let drawn = (read (goal.at.standard_rows-requires c).In_ok-drawn).1 in
    rw (c.finish.ensures.rows, c.len-n.ensures) (c.requires.0, drawn.keeps, c.requires.3)

pub returns : goal.returns
returns c =
    let said = read (goal.at.returns c).In_ok-drawn in
    record {
      answer = sym said.0;
      buffer =
          c.standard_rows.ensures
          ∙ rw (c.finish.ensures.rows, c.len-n.ensures)
          (sym (import_done _ _ c.requires.0 c.requires.2.many said.0 said.1 _));
    }
