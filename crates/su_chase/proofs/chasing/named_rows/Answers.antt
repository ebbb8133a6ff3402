-- Each row has variables below the number of names, so that it can be named.
use Rattle.std.proofs.Common.{length, subst, sym, ◌∙◌}
use Rattle.su_tableau.specs.Tableaux.{AreBelow}
use Rattle.su_chase.proofs.chasing.named_rows.Goals as goal

pub named-requires : goal.named-requires
named-requires c = subst (AreBelow (length c.args.names.now)) (sym (c.as_slice.ensures ∙ c.row-item.is)) (c.requires c.loop-row.row-index c.row-item.result c.loop-row-test.true)
