-- The rows are called the same at an attribute where their symbols there are.
use Rattle.std.proofs.Common.{◌∙◌, sym}
use Rattle.su_clash.specs.inside.Renames.{renamed}
use Rattle.su_clash.proofs.Made.{agrees_at}
use Rattle.su_clash.proofs.replaying.agree_at.Goals as goal

pub returns-else-not-contains : goal.returns-else-not-contains
returns-else-not-contains c =
    let has = sym c.contains.ensures ∙ c.if-not-contains.false in
    let told = agrees_at c.args.set c.args.first.now c.args.second.now c.args.a c.index-first-a.result c.index-second-a.result c.index-first-a.is c.index-second-a.is c.requires.first c.requires.second has (renamed c.args.renames.now) in
    (λ t. told.0 (sym c.are_equal.ensures ∙ t), λ one. c.are_equal.ensures ∙ told.1 one)
