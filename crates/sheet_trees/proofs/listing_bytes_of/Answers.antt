-- `sheet_trees::listing_bytes_of` meets its contract: nothing is written before `judge_rows` and `tree_of` are done;
-- then the listing stands in a local array, and its bytes are written.
use mathlib.Core.Path.{◌≡◌, refl, sym, ◌∙◌}
use mathlib.Core.Option.{none}
use Prim.Native.Nat.{◌-◌, ◌*◌}
use native.Mathlib.Omega.{arith}
use lib.ListN.{length}
use lib.Seq.{length-take-le}
use Rattle.refusals.specs.Refusals.{outcome}
use Rattle.refusals.proofs.Answers.{handed_on, unless_some}
use Rattle.sheet_rules.specs.Sheets.{leaves_of}
use Rattle.sheet_rules.specs.Operations.{sheet_refusal}
use Rattle.name_checks.proofs.Tells.{tells_none, tells_this, tells_some}
use Rattle.sheets.proofs.Judged.{accepted_here}
use Rattle.sheet_trees.specs.Operations.{sheet_tree, in_bytes, sheet_bytes_answer}
use Rattle.sheet_trees.proofs.InBytes.{fits, bytes_answer, bytes_refused, bytes_written}
use Rattle.sheet_trees.proofs.Promises.{sheet_bytes_gives}
use Rattle.sheet_trees.proofs.listing_bytes_of.Goals.{In_ok-judged, After-rows_of-end}
use Rattle.sheet_trees.proofs.listing_bytes_of.Goals as goal

pub returns-in_err-judged : goal.returns-in_err-judged
unfolding sheet_bytes_answer
returns-in_err-judged c =
    let a = c.args in
    let arises = tells_some _ _ c.judge_rows.ensures c.in_err-judged.was in
    let told = unless_some _ (in_bytes (sheet_tree a.sheet.now)) a.out.now _ arises in
    let all = sheet_bytes_gives _ _ outcome (handed_on _ c.from_residual.ensures ∙ told.0, told.1) in
    record { answer = all.0; buffer = all.1.0; meaning = all.1.1 }

-- `judge_rows` found nothing to refuse, and gave the sheet
passed :
    (c : In_ok-judged)
    → (let a = c.args in
    let S = a.sheet.now in
    (sheet_refusal S (4 * (leaves_of S - 2)) (length a.out.now) ≡ none) × (c.in_ok-judged.judged ≡ S))
passed c =
    let told = c.judge_rows.ensures in
    (tells_none _ _ told c.in_ok-judged.was, tells_this _ _ told c.in_ok-judged.was)

pub tree_of-requires : goal.tree_of-requires
tree_of-requires c =
    let p = passed (goal.at.tree_of-requires c).In_ok-judged in
    rw p.1 (fits _ _ p.0)

pub returns-in_err-tree_of : goal.returns-in_err-tree_of
returns-in_err-tree_of c =
    let p = passed (goal.at.returns-in_err-tree_of c).In_ok-judged in
    let told = rw p.1 at c.tree_of.ensures.answer in
    let all =
    sheet_bytes_gives _ _ outcome (
      handed_on _ c.from_residual-in_err-tree_of.ensures ∙ sym c.in_err-tree_of.was ∙ told ∙ bytes_answer _ _ p.0,
      bytes_refused _ _ p.0 _ c.args.out.now (sym told ∙ c.in_err-tree_of.was),
    ) in
    record { answer = all.0; buffer = all.1.0; meaning = all.1.1 }

-- how many numbers the listing has
module _ (c : After-rows_of-end) where
  many : c.in_ok-judged.judged ≡ c.args.sheet.now → c.rows_of-end.result ≡ leaves_of c.args.sheet.now - 2
  many e = c.rows_of-end.ensures ∙ rw (c.leaves.ensures.0, e) refl

pub slice_bounds-listing-end : goal.slice_bounds-listing-end
slice_bounds-listing-end c =
    let p = passed (goal.at.slice_bounds-listing-end c).In_ok-judged in
    omega (arith, many c p.1, fits _ _ p.0)

pub slice_bounds-write_bytes-end : goal.slice_bounds-write_bytes-end
slice_bounds-write_bytes-end c =
    let here = goal.at.slice_bounds-write_bytes-end c in
    let p = passed here.In_ok-judged in
    sym (length-take-le _ _ (omega (arith, many here.After-rows_of-end p.1, fits _ _ p.0)))

pub write_bytes-requires : goal.write_bytes-requires
write_bytes-requires c =
    let here = goal.at.write_bytes-requires c in
    let p = passed here.In_ok-judged in
    let enough = (accepted_here _ _ _ p.0).room_enough in
    let n = many here.After-rows_of-end p.1 in
    let long = length-take-le (2 * c.rows_of-end.result) c.tree_of.new.listing (omega (arith, n, fits _ _ p.0)) in
    omega (arith, long, n, enough)

pub returns : goal.returns
returns c =
    let here = goal.at.returns c in
    let p = passed here.In_ok-judged in
    let tree = rw p.1 at c.tree_of.ensures in
    let bytes = rw (many here.After-rows_of-end p.1, tree.buffer) at c.write_bytes.ensures in
    let all =
    sheet_bytes_gives _ _ outcome (
      sym c.in_ok-tree_of.was ∙ tree.answer ∙ bytes_answer _ _ p.0,
      bytes ∙ bytes_written _ _ p.0 _ _ (sym tree.answer ∙ c.in_ok-tree_of.was),
    ) in
    record { answer = all.0; buffer = all.1.0; meaning = all.1.1 }
