-- `newick_writing::put_name` meets its contract: the name stands behind its length byte.
use mathlib.Core.Path.{◌≡◌, sym, ap, ◌∙◌}
use Prim.Native.Nat.{◌≤◌}
use native.Mathlib.Omega.{arith}
use lib.ListN.{length}
use Rattle.sheet_rules.specs.Sheets.{name_at, next_name, name_start, name}
use Rattle.sheet_rules.proofs.Names.{start_name, name_length}
use Rattle.newick_writing.proofs.put_name.Goals.{After-from-many}
use Rattle.newick_writing.proofs.put_name.Goals as goal

-- where the name starts, that it ends within the sheet, and that it has as many bytes as its length byte says
module _ (c : After-from-many) where
  starts :
      let a = c.args in
      c.from-start.result ≡ name_start a.sheet.now a.leaf
  starts = c.from-start.ensures ∙ c.requires.placed.start

  ends : let S = c.args.sheet.now in next_name S c.from-start.result ≤ length S
  ends = rw c.from-start.ensures c.requires.placed.ends

  many :
      let a = c.args in
      length (name a.sheet.now a.leaf) ≡ c.from-many.result
  many = sym (ap length (start_name _ _ starts)) ∙ name_length _ _ ends ∙ sym c.from-many.ensures

pub put_bytes-requires : goal.put_bytes-requires
put_bytes-requires c =
    let here = (goal.at.put_bytes-requires c).After-from-many in
    let byte = c.from-many.ensures in
    (omega (arith, ends here, byte), omega (arith, many here, here.before.requires.room.enough))

pub returns : goal.returns
unfolding name_at
returns c =
    let here = (goal.at.returns c).After-from-many in
    record {
      next = rw (many here);
      bytes = c.put_bytes.ensures ∙ rw (c.from-many.ensures, ← start_name _ _ (starts here));
    }
