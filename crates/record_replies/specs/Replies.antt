-- The reply of a C call that makes a tree record, its listing in a buffer: the origin's number is the figure.
use Rattle.std.specs.Prelude.{ℕ}
use Rattle.refusals.specs.Refusals.{Answer, accepted, refused}
use Rattle.tree_records.specs.Origins.{origin_number}
use Rattle.tree_records.specs.Records.{TreeRecord}
use Rattle.replies.specs.Replies.{in_one, refusal_reply}

unfoldable pub record_reply : Answer TreeRecord → ℕ
record_reply (accepted R) = in_one 0 (origin_number R.origin)
record_reply (refused r) = refusal_reply r
