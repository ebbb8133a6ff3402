-- The names so far are the first of the attributes' names, as many as attributes were gone through; at the end these are all.
use Rattle.std.proofs.Common.{◌≤◌, Some, length, ap, sym, ◌∙◌, arith}
use Rattle.std.proofs.lemmas.List.{take_all, length-map}
use Rattle.su_schema.specs.Entries.{attribute_names}
use Rattle.su_compare.proofs.Gathered.{push_taken}
use Rattle.su_compare.proofs.showing.header_of.Goals as goal

pub loop-a-preserved : goal.loop-a-preserved
loop-a-preserved c =
    push_taken (attribute_names c.args.schema.now) c.loop-a.a c.in_ok-name.name c.loop-a.names c.push.new.self (c.attribute_name.ensures ∙ ap Some (sym c.in_ok-name.ensures)) c.in_ok-push.ensures.ok c.loop-a.invariant

pub returns : goal.returns
returns c =
    let names = attribute_names c.args.schema.now in
    let n = length-map c.args.schema.now.attributes (λ a. a.name) in
    let m = c.attributes-a-end.ensures in
    let done = c.loop-a-test.false in
    let low : length names ≤ c.loop-a.a = omega arith in
    c.loop-a.invariant ∙ take_all c.loop-a.a names low
