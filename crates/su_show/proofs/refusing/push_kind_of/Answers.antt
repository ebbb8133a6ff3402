-- Appending nothing behind the column's name changes no text.
use Rattle.std.proofs.Common.{append-nil}
use Rattle.std.proofs.lemmas.Result.{on_ok_weaker}
use Rattle.su_show.proofs.refusing.push_kind_of.Goals as goal

pub returns : goal.returns
returns c = on_ok_weaker c.push_all.result (λ e. rw (append-nil c.args.column.now) at e) c.push_all.ensures
