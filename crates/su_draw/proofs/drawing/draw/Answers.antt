-- The shapes stand where the layout has them, and what it has keeps the promises.
use Rattle.std.proofs.Common.{◌∙◌}
use Rattle.std.proofs.lemmas.List.Elements.{All-contains}
use Rattle.su_draw.specs.inside.Lay.{IsRinged}
use Rattle.su_draw.proofs.Exactly.{stand_once}
use Rattle.su_draw.proofs.Kept.{arrows_join, sources_stand, keeps_promises, headings_stand}
use Rattle.su_draw.proofs.drawing.draw.Goals as goal

pub returns-clause-arrows : goal.returns-clause-arrows
returns-clause-arrows c =
    arrows_join c.args.lines.now c.in_ok-plan.plan.layout c.in_ok-shapes.shapes c.in_ok-plan.ensures.layout c.in_ok-shapes.ensures.laid
    (stand_once c.args.lines.now _ (c.in_ok-shapes.ensures.things ∙ c.in_ok-things.ensures.things))

pub returns-clause-sources : goal.returns-clause-sources
returns-clause-sources c =
    sources_stand c.args.lines.now c.in_ok-plan.plan.layout c.in_ok-shapes.shapes c.in_ok-plan.ensures.layout c.in_ok-shapes.ensures.laid
    (stand_once c.args.lines.now _ (c.in_ok-shapes.ensures.things ∙ c.in_ok-things.ensures.things))

pub returns-clause-promises : goal.returns-clause-promises
returns-clause-promises c =
    keeps_promises c.args.lines.now c.in_ok-plan.plan.layout c.in_ok-shapes.shapes c.in_ok-plan.ensures.layout c.in_ok-shapes.ensures.laid
    (stand_once c.args.lines.now _ (c.in_ok-shapes.ensures.things ∙ c.in_ok-things.ensures.things))

pub returns-clause-headings : goal.returns-clause-headings
returns-clause-headings c =
    headings_stand c.args.lines.now c.in_ok-plan.plan.layout c.in_ok-shapes.shapes c.in_ok-helps.helps c.in_ok-plan.ensures.layout c.in_ok-shapes.ensures.laid
    (stand_once c.args.lines.now _ (c.in_ok-shapes.ensures.things ∙ c.in_ok-things.ensures.things)) c.in_ok-helps.ensures.0 c.in_ok-helps.ensures.1

pub returns-clause-core : goal.returns-clause-core
returns-clause-core c = record {
  core = c.in_ok-plan.plan.core;
  is_core = c.in_ok-plan.ensures.core;
  rings = λ s d is. All-contains (IsRinged c.in_ok-plan.plan.core) c.in_ok-shapes.shapes s c.in_ok-shapes.ensures.ringed d is;
}
