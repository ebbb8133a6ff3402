-- The text is written from the closure and from the dependencies that were used, which are what the reply's definition asks for.
use Rattle.std.proofs.Common.{◌≡◌}
use Rattle.std.proofs.lemmas.Result.{IfOk-weaker}
use Rattle.su_show.specs.Replies.{closure_reply, IsClosureReply}
use Rattle.su_show.proofs.closures.closure.Goals as goal

pub returns : goal.returns
returns c =
    IfOk-weaker c.reply.result (λ text. text ≡ closure_reply c.args.schema.now c.closure.result c.as_slice.result.now) (λ text. IsClosureReply c.args.schema.now c.args.start text)
    (λ text same. record {
      closed = c.closure.result;
      closed_is = rw c.fds-2.ensures at c.closure.ensures;
      used = c.as_slice.result.now;
      used_is = rw c.as_slice.ensures (rw c.fds.ensures at c.in_ok-used.ensures);
      text_is = same;
    })
    c.reply.ensures
