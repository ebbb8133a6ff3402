-- At an attribute of the set the two symbols there are made equal.
use Rattle.std.proofs.Common.{◌∙◌, Option, sym}
use Rattle.std.specs.Prelude.{MatchOption}
use Rattle.std.proofs.lemmas.Result.{IfOk-weaker}
use Rattle.su_clash.specs.declared.renaming.Pair.{Pair}
use Rattle.su_clash.specs.inside.Renames.{AreOne, OneAt, Makes, Meet}
use Rattle.su_clash.proofs.Made.{told}
use Rattle.su_clash.proofs.replaying.take_at.Goals as goal

pub returns : goal.returns
returns c =
    let set = c.args.set in
    let first = c.args.first.now in
    let second = c.args.second.now in
    let n = c.args.a in
    let old = c.args.renames.now in
    let new = c.equate.new.renames in
    let x = c.index-first-a.result in
    let y = c.index-second-a.result in
    let has = sym c.contains.ensures ∙ c.if-not-contains.false in
    IfOk-weaker c.equate.result (λ (met : Option Pair). MatchOption met (Makes (AreOne x y) old new) (Meet (AreOne x y) old)) (λ (met : Option Pair). MatchOption met (Makes (OneAt set first second n) old new) (Meet (OneAt set first second n) old))
    (λ met t. told set first second n old x y c.index-first-a.is c.index-second-a.is c.requires.first c.requires.second has met new t) c.equate.ensures
