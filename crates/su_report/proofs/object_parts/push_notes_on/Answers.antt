-- The keys, and behind them what breaks the form.
use Rattle.std.proofs.lemmas.Result.{on_ok_weaker}
use Rattle.su_report.proofs.ObjectTexts.{object_told}
use Rattle.su_report.proofs.object_parts.push_notes_on.Goals as goal

pub returns : goal.returns
returns c =
    on_ok_weaker c.push_broken.result
    (λ broken. object_told c.args.schema.now c.args.o c.args.out.now.items c.push_keys_of.new.out.items c.push_broken.new.out.items c.in_ok-push_keys_of.ensures broken)
    c.push_broken.ensures
