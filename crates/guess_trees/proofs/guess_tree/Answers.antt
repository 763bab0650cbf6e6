-- `guess_trees::guess_tree` meets its contract: what is handed on to be measured is the listing that was written.
use mathlib.Core.Path.{◌≡◌, ap, ◌∙◌}
use Prim.Native.Nat.{◌-◌, ◌*◌}
use lib.ListN.{take}
use Rattle.limits.specs.Limits.{scale_of}
use Rattle.limits.proofs.TableKinds.{leaf_count_of}
use Rattle.trees.specs.Listings.{tree_of}
use Rattle.trees.specs.Gaps.{total_gap}
use Rattle.merging.specs.Guesses.{guessed}
use Rattle.guess_trees.proofs.Listings.{listing_keeps, total_is, out_front}
use Rattle.guess_trees.proofs.guess_tree.Goals.{After-write_listing}
use Rattle.guess_trees.proofs.guess_tree.Goals as goal

-- the part of the buffer that is handed on is the listing
part :
    (c : After-write_listing)
    → (let a = c.args in
    take (2 * (a.n - 2)) c.write_listing.new.out ≡ (guessed a.n (scale_of a.kind) a.table.now).listing)
part c =
    let a = c.args in
    ap (take (2 * (a.n - 2))) c.write_listing.ensures
    ∙ out_front a.kind a.n a.table.now c.requires.0 c.requires.1 a.out.now c.requires.2

pub total_gap-requires : goal.total_gap-requires
total_gap-requires c = (
  leaf_count_of c.args.kind c.args.n c.requires.0,
  c.requires.1,
  rw (part (goal.at.total_gap-requires c).After-write_listing)
      (listing_keeps c.args.kind c.args.n c.args.table.now c.requires.0 c.requires.1),
)

pub returns : goal.returns
returns c =
    let a = c.args in
    let listed = part (goal.at.returns c).After-write_listing in
    record {
      total = c.total_gap.ensures
          ∙ ap (λ l. total_gap a.n (scale_of a.kind) a.table.now (tree_of a.n l)) listed
          ∙ total_is a.kind a.n a.table.now c.requires.0 c.requires.1;
      buffer = c.write_listing.ensures;
    }
