-- `quartree::quartree_guess` meets its contract: reply, buffer and meaning are those of the operation that it calls.
use Rattle.guess_answers.specs.Operations.{guess_listing}
use Rattle.guess_answers.proofs.Promises.{reply_gives, guess_meaning}
use Rattle.guess_replies.specs.Replies.{guess_reply}
use Rattle.guess_replies.proofs.Replies.{guess_replied}
use Rattle.quartree.proofs.quartree_guess.Goals as goal

pub returns : goal.returns
unfolding guess_listing
returns c =
    let done = rw c.from.ensures at c.guess.ensures in
    let t =
    reply_gives guess_reply _ _ (guess_meaning _ _ _ _)
    (guess_replied _ c.reply.ensures done.answer, done.buffer) in
    record { answer = t.0; buffer = t.1.0; meaning = t.1.1 }
