-- What the reply of a call that makes a tree record tells. Of a rebuilt tree it is 0 exactly when the call is accepted.
use Rattle.std.specs.Prelude.{Result}
use mathlib.Core.Path.{◌≡◌, refl}
use mathlib.Core.List.{List}
use Prim.Native.Nat.{ℕ}
use Rattle.refusals.specs.declared.Refusal.{Refusal}
use Rattle.refusals.specs.Refusals.{Answer, accepted, refused}
use Rattle.tree_records.specs.declared.Origin.{Origin}
use Rattle.tree_records.specs.declared.Origin.TheVariants.{Rebuilt}
use Rattle.tree_records.specs.Origins.{origin_number}
use Rattle.tree_records.specs.Records.{TreeRecord, marked, tree_outcome}
use Rattle.replies.specs.Replies.{reply, reply_with}
use Rattle.replies.specs.inner.Told.{told_reply}
use Rattle.record_replies.specs.Replies.{record_reply}

-- the reply, as code makes it of the answer q
pub record_replied :
    {r : ℕ} {q : Result Origin Refusal} (a : Answer TreeRecord) → r ≡ told_reply origin_number q → q ≡ tree_outcome a
    → r ≡ record_reply a
unfolding tree_outcome record_reply
record_replied (accepted R) h e = rw e at h
record_replied (refused x) h e = rw e at h

-- it is that of a call with the origin's number for a result
pub record_reply_is :
    (n : ℕ) (o : Origin) (a : Answer (List ℕ)) → record_reply (marked n o a) ≡ reply_with (origin_number o) a
unfolding marked record_reply reply_with
record_reply_is n o (accepted l) = refl
record_reply_is n o (refused r) = refl

-- so where the tree is rebuilt, it is that of a call with nothing to say
pub rebuilt_reply : (n : ℕ) (a : Answer (List ℕ)) → record_reply (marked n Rebuilt a) ≡ reply a
unfolding marked record_reply reply
rebuilt_reply n (accepted l) = refl
rebuilt_reply n (refused r) = refl
