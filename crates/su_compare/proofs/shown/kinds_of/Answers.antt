-- The kinds so far are the first of the attributes' kinds, as many as attributes were gone through; at the end these are all.
use Rattle.std.proofs.Common.{◌≤◌, length, ◌∙◌, arith}
use Rattle.std.proofs.lemmas.List.{take_all, length-map}
use Rattle.su_schema.specs.Entries.{attribute_kinds}
use Rattle.su_compare.proofs.Gathered.{push_taken}
use Rattle.su_compare.proofs.shown.kinds_of.Goals as goal

pub loop-a-preserved : goal.loop-a-preserved
loop-a-preserved c =
    push_taken (attribute_kinds c.args.schema.now) c.loop-a.a c.attribute_kind.result c.loop-a.kinds c.push.new.self c.attribute_kind.ensures c.in_ok-push.ensures.ok c.loop-a.invariant

pub returns : goal.returns
returns c =
    let kinds = attribute_kinds c.args.schema.now in
    let n = length-map c.args.schema.now.attributes (λ a. a.kind) in
    let m = c.attributes-a-end.ensures in
    let done = c.loop-a-test.false in
    let low : length kinds ≤ c.loop-a.a = omega arith in
    c.loop-a.invariant ∙ take_all c.loop-a.a kinds low
