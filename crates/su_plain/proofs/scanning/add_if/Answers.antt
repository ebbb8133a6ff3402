-- The row at i has the value, so the positions below i + 1 that match are those below i and then i itself.
use Rattle.std.proofs.Common.{◌∙◌, ◌+◌, List, sym, subst}
use Rattle.su_base.specs.declared.values.Value.{Value}
use Rattle.su_plain.specs.inside.Scans.{AreAddedBelow}
use Rattle.su_plain.proofs.Scanned.{added_yes, told_of}
use Rattle.su_plain.proofs.scanning.add_if.Goals as goal

pub returns-in_ok-push : goal.returns-in_ok-push
returns-in_ok-push c = λ before so_far.
    let rows : List (List Value) = c.args.rows.now in
    let here = told_of c.args.column c.args.value.now rows c.args.i c.index-rows-i.result c.has.result c.requires c.index-rows-i.is c.has.ensures ∙ c.if-has.true in
    subst (AreAddedBelow c.args.column c.args.value.now rows (c.args.i + 1) before) (sym c.in_ok-push.ensures.items) (added_yes c.args.column c.args.value.now rows c.args.i before c.args.positions.now.items c.requires here so_far)
