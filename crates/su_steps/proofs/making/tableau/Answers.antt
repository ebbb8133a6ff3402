-- The labels are the least classes of the rows' items and the comparisons, so that the named rows are the tableau of the choice, or a clash shows that there is none.
use Rattle.std.proofs.Common.{◌≡◌, ◌∙◌, ◌*◌, ℕ, List, Option, MatchOption, map, length, refl, sym, subst}
use Rattle.std.proofs.lemmas.Bool.{true≢false}
use Rattle.su_where.specs.declared.literals.Literal.{Literal}
use Rattle.su_query.specs.declared.places.Place.{Place}
use Rattle.su_steps.specs.declared.classes.Classes.{Classes}
use Rattle.su_steps.specs.declared.building.Head.{Head}
use Rattle.su_steps.specs.PairSymbols.{place_symbol, comparisons}
use Rattle.su_steps.specs.inside.Numbers.{class_name}
use Rattle.su_steps.specs.inside.Heads.{head_of, IsSomeFalse, IsNoneFalse}
use Rattle.su_steps.proofs.Closed.{closed_classes, constants_in, pairs_in, outputs_in, literals_in, origins_in, closed_clash, closed_false, closed_made, closed_valid, closed_small}
use Rattle.su_steps.proofs.making.tableau.Goals as goal

-- what the head's making gives
abbrev Outcome : ℕ → Classes → List Place → List ℕ → List Literal → Option Head → Type 0
Outcome v c ps outs ls o =
    MatchOption o (IsSomeFalse (class_name (v * c.width) c) (comparisons c.width ps ls))
    (λ h. IsNoneFalse (class_name (v * c.width) c) (comparisons c.width ps ls) × (h ≡ head_of (class_name (v * c.width) c) (map (λ i. class_name (v * c.width) c (place_symbol c.width ps i)) outs) (comparisons c.width ps ls)))

pub clash-requires : goal.clash-requires
clash-requires c =
    constants_in c.args.schema.now c.args.resolved.now c.args.literals.now c.args.origins.now c.close_on.new.classes c.keeps_its_rules.ensures c.requires.resolved c.requires.literals c.requires.origins c.in_ok-close_on.ensures c.len-variables.result c.args.resolved.now.places c.args.resolved.now.outputs c.len-variables.ensures refl refl

pub returns-then-clash-clause-ready : goal.returns-then-clash-clause-ready
returns-then-clash-clause-ready c =
    c.in_ok-close_on.ensures.ready

pub returns-then-clash-clause-tableau : goal.returns-then-clash-clause-tableau
returns-then-clash-clause-tableau c =
    closed_clash c.args.schema.now c.args.resolved.now c.args.literals.now c.args.origins.now c.close_on.new.classes c.keeps_its_rules.ensures c.requires.resolved c.requires.literals c.requires.origins c.in_ok-close_on.ensures c.len-variables.result c.args.resolved.now.places c.args.resolved.now.outputs c.len-variables.ensures refl refl (c.clash.ensures.0 c.if-clash.true)

pub build_head-requires-clause-classes : goal.build_head-requires-clause-classes
build_head-requires-clause-classes c =
    closed_classes c.args.schema.now c.args.resolved.now c.args.literals.now c.args.origins.now c.close_on.new.classes c.keeps_its_rules.ensures c.requires.resolved c.requires.literals c.requires.origins c.in_ok-close_on.ensures c.len-variables.result c.as_slice-places.result.now c.as_slice-outputs.result.now c.len-variables.ensures c.as_slice-places.ensures c.as_slice-outputs.ensures

pub build_head-requires-clause-outputs : goal.build_head-requires-clause-outputs
build_head-requires-clause-outputs c =
    outputs_in c.args.schema.now c.args.resolved.now c.args.literals.now c.args.origins.now c.close_on.new.classes c.keeps_its_rules.ensures c.requires.resolved c.requires.literals c.requires.origins c.in_ok-close_on.ensures c.len-variables.result c.as_slice-places.result.now c.as_slice-outputs.result.now c.len-variables.ensures c.as_slice-places.ensures c.as_slice-outputs.ensures

pub build_head-requires-clause-places : goal.build_head-requires-clause-places
build_head-requires-clause-places c =
    literals_in c.args.schema.now c.args.resolved.now c.args.literals.now c.args.origins.now c.close_on.new.classes c.keeps_its_rules.ensures c.requires.resolved c.requires.literals c.requires.origins c.in_ok-close_on.ensures c.len-variables.result c.as_slice-places.result.now c.as_slice-outputs.result.now c.len-variables.ensures c.as_slice-places.ensures c.as_slice-outputs.ensures

pub build_head-requires-clause-pairs : goal.build_head-requires-clause-pairs
build_head-requires-clause-pairs c =
    pairs_in c.args.schema.now c.args.resolved.now c.args.literals.now c.args.origins.now c.close_on.new.classes c.keeps_its_rules.ensures c.requires.resolved c.requires.literals c.requires.origins c.in_ok-close_on.ensures c.len-variables.result c.as_slice-places.result.now c.as_slice-outputs.result.now c.len-variables.ensures c.as_slice-places.ensures c.as_slice-outputs.ensures

pub returns-in-None-clause-ready : goal.returns-in-None-clause-ready
returns-in-None-clause-ready c =
    c.in_ok-close_on.ensures.ready

pub returns-in-None-clause-tableau : goal.returns-in-None-clause-tableau
returns-in-None-clause-tableau c =
    closed_false c.args.schema.now c.args.resolved.now c.args.literals.now c.args.origins.now c.close_on.new.classes c.keeps_its_rules.ensures c.requires.resolved c.requires.literals c.requires.origins c.in_ok-close_on.ensures c.len-variables.result c.as_slice-places.result.now c.as_slice-outputs.result.now c.len-variables.ensures c.as_slice-places.ensures c.as_slice-outputs.ensures (subst (Outcome c.len-variables.result c.close_on.new.classes c.as_slice-places.result.now c.as_slice-outputs.result.now c.args.literals.now) c.in-None.is c.in_ok-head.ensures)

pub rows-requires-clause-classes : goal.rows-requires-clause-classes
rows-requires-clause-classes c =
    closed_classes c.args.schema.now c.args.resolved.now c.args.literals.now c.args.origins.now c.close_on.new.classes c.keeps_its_rules.ensures c.requires.resolved c.requires.literals c.requires.origins c.in_ok-close_on.ensures c.len-variables.result c.as_slice-places.result.now c.as_slice-outputs.result.now c.len-variables.ensures c.as_slice-places.ensures c.as_slice-outputs.ensures

pub rows-requires-clause-width : goal.rows-requires-clause-width
rows-requires-clause-width c =
    c.in_ok-close_on.ensures.ready.width

pub rows-requires-clause-origins : goal.rows-requires-clause-origins
rows-requires-clause-origins c =
    origins_in c.args.schema.now c.args.resolved.now c.args.literals.now c.args.origins.now c.close_on.new.classes c.keeps_its_rules.ensures c.requires.resolved c.requires.literals c.requires.origins c.in_ok-close_on.ensures c.len-variables.result c.as_slice-places.result.now c.as_slice-outputs.result.now c.len-variables.ensures c.as_slice-places.ensures c.as_slice-outputs.ensures

pub rows-requires-clause-few : goal.rows-requires-clause-few
rows-requires-clause-few c = c.requires.origins.few

pub new-requires-clause-valid : goal.new-requires-clause-valid
new-requires-clause-valid c =
    let h = subst (Outcome c.len-variables.result c.close_on.new.classes c.as_slice-places.result.now c.as_slice-outputs.result.now c.args.literals.now) c.in-Some.is c.in_ok-head.ensures in
    closed_valid c.args.schema.now c.args.resolved.now c.args.literals.now c.args.origins.now c.close_on.new.classes c.keeps_its_rules.ensures c.requires.resolved c.requires.literals c.requires.origins c.in_ok-close_on.ensures c.len-variables.result c.as_slice-places.result.now c.as_slice-outputs.result.now c.len-variables.ensures c.as_slice-places.ensures c.as_slice-outputs.ensures c.in_ok-rows.rows c.in-Some.head (length c.as_slice-outputs.result.now) c.in_ok-rows.ensures h.1 refl c.requires.covered

pub new-requires-clause-small : goal.new-requires-clause-small
new-requires-clause-small c =
    let h = subst (Outcome c.len-variables.result c.close_on.new.classes c.as_slice-places.result.now c.as_slice-outputs.result.now c.args.literals.now) c.in-Some.is c.in_ok-head.ensures in
    closed_small c.args.schema.now c.args.resolved.now c.args.literals.now c.args.origins.now c.close_on.new.classes c.keeps_its_rules.ensures c.requires.resolved c.requires.literals c.requires.origins c.in_ok-close_on.ensures c.len-variables.result c.as_slice-places.result.now c.as_slice-outputs.result.now c.len-variables.ensures c.as_slice-places.ensures c.as_slice-outputs.ensures c.in_ok-rows.rows c.in-Some.head (length c.as_slice-outputs.result.now) c.in_ok-rows.ensures h.1 refl

pub returns-clause-ready : goal.returns-clause-ready
returns-clause-ready c =
    c.in_ok-close_on.ensures.ready

pub returns-clause-tableau : goal.returns-clause-tableau
returns-clause-tableau c =
    let h = subst (Outcome c.len-variables.result c.close_on.new.classes c.as_slice-places.result.now c.as_slice-outputs.result.now c.args.literals.now) c.in-Some.is c.in_ok-head.ensures in
    closed_made c.args.schema.now c.args.resolved.now c.args.literals.now c.args.origins.now c.close_on.new.classes c.keeps_its_rules.ensures c.requires.resolved c.requires.literals c.requires.origins c.in_ok-close_on.ensures c.len-variables.result c.as_slice-places.result.now c.as_slice-outputs.result.now c.len-variables.ensures c.as_slice-places.ensures c.as_slice-outputs.ensures c.in_ok-rows.rows c.in-Some.head (length c.as_slice-outputs.result.now) c.in_ok-rows.ensures h.1 refl (λ w. true≢false (sym (c.clash.ensures.1 w) ∙ c.if-clash.false)) h.0 c.new.result c.new.ensures
