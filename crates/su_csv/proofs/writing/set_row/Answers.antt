-- The record has the fields of the values so far, none half done, and each of these values is a stored one.
use Rattle.std.proofs.Common.{◌≡◌, ◌∙◌, ◌<◌, length, get_or}
use Rattle.su_csv.specs.Written.{field_of}
use Rattle.su_csv.specs.inside.Writers.{IsStored}
use Rattle.su_csv.proofs.ItemsSoFar.{all-one, map-one}
use Rattle.su_csv.proofs.writing.set_row.Goals as goal

pub loop-value-preserved : goal.loop-value-preserved
loop-value-preserved c =
    let lt : c.loop-value.value-index < length c.args.row.now = rw c.as_slice-value-items.ensures at c.loop-value-test.true in
    let is : c.value-item.result ≡ get_or c.args.row.now c.loop-value.value-index c.value-item.result = rw c.as_slice-value-items.ensures at c.value-item.is in record {
      fields = c.in_ok-push_value.ensures.fields ∙ map-one c.args.row.now c.loop-value.value-index c.value-item.result lt is field_of _ c.loop-value.invariant.fields;
      partial = c.in_ok-push_value.ensures.partial;
      stored = all-one c.args.row.now c.loop-value.value-index c.value-item.result lt is IsStored c.loop-value.invariant.stored c.in_ok-push_value.ensures.stored;
    }
