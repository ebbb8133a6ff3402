-- Reading tells nothing, so the end is that of a file that isn't read, or that of telling the reply to the bytes that were read.
use Rattle.std.proofs.Common.{ap}
use Rattle.su_io.specs.Moments.{Moment}
use Rattle.su_io.proofs.OneText.{file_fails}
use Rattle.sysu_draw.specs.Replies.{text_limit, IsReplyTo}
use Rattle.sysu_draw.proofs.Drawings.{drawn}
use Rattle.sysu_draw.proofs.top.draw_file.Goals as goal

pub returns-in-Ok-clause-ends : goal.returns-in-Ok-clause-ends
returns-in-Ok-clause-ends g c =
    let first = c.in-Ok.ensures.ends in
    let shelf = c.in-Ok.ensures.rest in
    drawn c.args.kept c.args.path c.args.outside.now _ _ c.as_slice.result.now (rw c.as_slice.ensures first.2)
    first.0 (ap (λ (m : Moment). m.begun) shelf) first.1 (ap (λ (m : Moment). m.told) shelf) (ap (λ (m : Moment). m.writes) shelf) c.draw_text.result c.draw_text.ensures

pub returns-in-Err-clause-ends : goal.returns-in-Err-clause-ends
returns-in-Err-clause-ends g c =
    let shelf = c.in-Err.ensures.rest in
    file_fails (IsReplyTo c.args.kept c.args.path c.args.outside.now.files) c.args.path text_limit c.args.outside.now _ (ap (λ (m : Moment). m.begun) shelf) (ap (λ (m : Moment). m.told) shelf) (ap (λ (m : Moment). m.writes) shelf)
    c.in-Err.status c.in-Err.ensures.ends
