-- Restandardising a record, made by our operations or not. Where it is accepted, the leaf count and the origin stay,
-- the listing becomes the standard one of the record's tree, and the tree is the same, with the same table. A record
-- whose leaf count is right and whose listing keeps the rules is accepted where the room is enough.
use mathlib.Core.Path.{◌≡◌, sym, ◌∙◌}
use mathlib.Core.Bool.{true}
use mathlib.Core.List.{List}
use Prim.Native.Nat.{ℕ, ◌-◌, ◌*◌, ◌≤◌}
use Rattle.limits.specs.Limits.{IsLeafCount}
use Rattle.refusals.specs.Refusals.{accepted, answered}
use Rattle.refusals.proofs.Answers.{answered_accepted}
use Rattle.tree_records.specs.declared.Origin.{Origin}
use Rattle.tree_records.specs.Records.{TreeRecord, marked}
use Rattle.tree_records.proofs.Records.{marked_accepted}
use Rattle.trees.specs.Listings.{KeepsRules, tree_of, standard}
use Rattle.trees.specs.Edges.{same_edges}
use Rattle.trees.specs.Tables.{table_of}
use Rattle.trees.proofs.Rules.{listing_tree}
use Rattle.trees.proofs.Listings.{tree_listing, standard_once}
use Rattle.merging.proofs.OneTable.{one_table}
use Rattle.listings.specs.Operations.{listing_refusal}
use Rattle.listings.proofs.ListingRefusal.{accepted_listing, rules_left}
use Rattle.standard_listings.specs.Operations.{standardise_answer}
use Rattle.record_operations.specs.Operations.{restandardise_record}
use Rattle.made_records.specs.Made.{tree}

-- R is what restandardising makes of the record of n leaves, the listing l and the origin o
pub record Restandardised (n : ℕ) (l : List ℕ) (o : Origin) (R : TreeRecord) : Type 0 where
  pub same_leaves : R.leaves ≡ n
  pub same_origin : R.origin ≡ o
  pub new_listing : R.listing ≡ standard n (tree_of n l)
  pub keeps_rules : KeepsRules R.leaves R.listing
  pub is_standard : standard R.leaves (tree R) ≡ R.listing
  pub same_tree : same_edges n (tree R) (tree_of n l) ≡ true
  pub same_table : table_of R.leaves (tree R) ≡ table_of n (tree_of n l)

-- a record that comes of restandardising is that
pub restandardise_same :
    (n : ℕ) (l : List ℕ) (o : Origin) (room : ℕ) {R : TreeRecord} → restandardise_record n l o room ≡ accepted R
    → Restandardised n l o R
unfolding restandardise_record standardise_answer
restandardise_same n l o room {R} e =
    let m = marked_accepted n o (standardise_answer n l room) e in
    let T = tree_of n l in
    let a = answered_accepted (listing_refusal n l (2 * (n - 2)) room) (standard n T) R.listing m.0 in
    let given = accepted_listing n l (2 * (n - 2)) room a.0 in
    let is_tree = listing_tree n given.count l given.keeps in
    let listed = tree_listing n given.count T is_tree in
    let is_tree' = listing_tree n given.count (standard n T) listed.0 in
    let tables = one_table n given.count (tree_of n (standard n T)) T is_tree' is_tree in
    record {
      same_leaves = m.1;
      same_origin = m.2;
      new_listing = sym a.1;
      keeps_rules = rw (m.1, ← a.1) listed.0;
      is_standard = rw (m.1, ← a.1) (standard_once n given.count T is_tree);
      same_tree = rw (m.1, ← a.1) listed.1;
      same_table = rw (m.1, ← a.1) (tables.0 listed.1);
    }

-- and one comes of it where the leaf count, the listing and the room are right
pub restandardise_accepts :
    (n : ℕ) (l : List ℕ) (o : Origin) (room : ℕ) → IsLeafCount n → KeepsRules n l → 2 * (n - 2) ≤ room
    → (R : TreeRecord) × (restandardise_record n l o room ≡ accepted R)
unfolding restandardise_record standardise_answer answered marked
restandardise_accepts n l o room count keeps enough =
    let passes = rules_left n l (2 * (n - 2)) room count keeps.numbers enough ∙ keeps.rules in
    (record { leaves = n; listing = standard n (tree_of n l); origin = o }, rw passes)
