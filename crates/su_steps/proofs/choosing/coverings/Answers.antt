-- The coverings so far are those of the variables so far, and the next variable's covering is that of the attributes that it is mentioned with.
use Rattle.std.proofs.Common.{◌∙◌, ap, length, get_or}
use Rattle.std.specs.List.{range_with_len, filter}
use Rattle.std.specs.FinSet.{empty}
use Rattle.su_base.proofs.Items.{map-range_push}
use Rattle.su_steps.specs.Objects.{covers}
use Rattle.su_steps.specs.Choices.{coverings_of}
use Rattle.su_steps.proofs.choosing.coverings.Goals as goal

pub loop-v-preserved : goal.loop-v-preserved
loop-v-preserved c =
    map-range_push (coverings_of c.args.schema.now c.args.maximal.now c.args.resolved.now) c.loop-v.v c.loop-v.found c.push.new.self c.in_ok-covering.field-0 c.in_ok-push.ensures.ok c.loop-v.invariant
    (c.in_ok-covering.ensures ∙ ap (λ s. filter (λ m. covers c.args.schema.now (get_or c.args.maximal.now m empty) s) (range_with_len 0 (length c.args.maximal.now))) c.mentioned.ensures)
