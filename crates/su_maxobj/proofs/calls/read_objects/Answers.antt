-- The sets written so far are those of the objects so far, and with as many written as there are objects the front of the array has them all.
use Rattle.std.proofs.Common.{◌≡◌, ◌≤◌, refl, length, take, sym, ap, ◌∙◌, arith}
use Rattle.std.proofs.lemmas.List.{take_all, length-map}
use Rattle.su_schema.specs.Entries.{attributes_of}
use Rattle.su_maxobj.specs.MaximalObjects.{object_sets}
use Rattle.su_maxobj.proofs.Lists.{read_more}
use Rattle.su_maxobj.proofs.calls.read_objects.Goals as goal

pub loop-o-init : goal.loop-o-init
loop-o-init c = refl

pub loop-o-preserved : goal.loop-o-preserved
loop-o-preserved c = read_more c.loop-o.sets (object_sets c.args.schema.now) c.loop-o.o c.object_attributes.result (omega arith) c.object_attributes.ensures c.loop-o.invariant

pub returns : goal.returns
returns c =
    let end : c.loop-o.o ≡ length c.args.schema.now.objects = omega arith in
    let all : length (object_sets c.args.schema.now) ≤ c.loop-o.o = omega (arith, length-map c.args.schema.now.objects attributes_of) in
    ap (λ n. take n c.loop-o.sets) (sym end) ∙ c.loop-o.invariant ∙ take_all c.loop-o.o (object_sets c.args.schema.now) all
