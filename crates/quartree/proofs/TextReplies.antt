-- The reply of an export: the refusal, or the length of the text.
use mathlib.Core.Path.{◌≡◌}
use mathlib.Core.List.{List}
use Prim.Native.Nat.{ℕ}
use Rattle.std.specs.Prelude.{Result}
use Rattle.refusals.specs.declared.Refusal.{Refusal}
use Rattle.refusals.specs.Refusals.{Answer, accepted, refused}
use Rattle.newick_export.specs.Operations.{replied}
use Rattle.replies.specs.Replies.{length_reply}
use Rattle.replies.specs.inner.Told.{told_reply}

pub length_replied :
    (a : Answer (List ℕ)) {q : Result ℕ Refusal} {r : ℕ} → q ≡ replied a → r ≡ told_reply (λ k. k) q
    → r ≡ length_reply a
unfolding replied length_reply
length_replied (accepted t) e told = rw e at told
length_replied (refused r) e told = rw e at told
