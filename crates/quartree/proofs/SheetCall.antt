-- The sheet call, `quartree_rebuild_sheet`, by the number that it returns: 0 exactly when the sheet is accepted, the
-- room is enough and some tree has the sheet's table; 6 exactly when all is so but that no tree has it. What the bytes
-- then are is said in sheet_trees/proofs/Promises.antt.
use mathlib.Core.Path.{◌≡◌}
use mathlib.Core.Logic.{◌↔◌}
use mathlib.Core.List.{List}
use Prim.Native.Nat.{ℕ}
use Rattle.merging.specs.Meaning.{HasTree, HasNoTree}
use Rattle.sheet_rules.specs.Sheets.{leaves_of, cells_of}
use Rattle.packed_tables.specs.Packed.{table_with}
use Rattle.sheet_trees.specs.Operations.{sheet_bytes_answer}
use Rattle.sheet_trees.proofs.Promises.{SheetPasses, sheet_accepted_exactly_when, sheet_refused_exactly_when}
use Rattle.replies.specs.Replies.{number_alone}
use Rattle.replies.proofs.Replies.{number_alone_zero, number_alone_six}

module _ (S : List ℕ) (room : ℕ) where
  abbrev n : ℕ
  n = leaves_of S

  abbrev t : List ℕ
  t = table_with n (cells_of S)

  pub zero_exactly_when : (number_alone (sheet_bytes_answer S room) ≡ 0) ↔ (SheetPasses S room × HasTree n 1 t)
  zero_exactly_when =
      let zero = number_alone_zero (sheet_bytes_answer S room) in
      let tree = sheet_accepted_exactly_when S room in
      (λ h. tree.0 (zero.0 h), λ h. zero.1 (tree.1 h))

  pub six_exactly_when : (number_alone (sheet_bytes_answer S room) ≡ 6) ↔ (SheetPasses S room × HasNoTree n 1 t)
  six_exactly_when =
      let six = number_alone_six (sheet_bytes_answer S room) in
      let no_tree = sheet_refused_exactly_when S room in
      (λ h. no_tree.0 (six.0 h), λ h. six.1 (no_tree.1 h))
