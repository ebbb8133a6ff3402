-- The set of rows finds a key exactly where an equal row is in it, and rows are equal only where they are the same.
use Rattle.std.proofs.Common.{Contains, sym, ◌∙◌}
use Rattle.std.specs.Bool.{Decides}
use Rattle.su_base.proofs.Same.{has_row}
use Rattle.su_rel.proofs.relations.Relation.has.Goals as goal

pub returns : goal.returns
returns c =
    rw (← c.self.view_is)
    (let d : Decides _ (Contains c.self.inside.rows.keys c.args.row.now) = has_row c.self.inside.rows.keys c.args.row.now in
    (λ one. d.0 (sym c.contains.ensures ∙ one), λ there. c.contains.ensures ∙ d.1 there))
