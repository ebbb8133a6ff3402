-- One more name stands behind those before it.
use Rattle.std.proofs.Common.{◌∙◌}
use Rattle.std.specs.Prelude.{string_bytes}
use Rattle.su_keep.proofs.NamesBefore.{key_begin, key_step}
use Rattle.su_keep.proofs.listing.push_key.Goals as goal

pub loop-place-init : goal.loop-place-init
loop-place-init c = key_begin c.args.columns.now (string_bytes c.args.out.now)

pub loop-place-preserved : goal.loop-place-preserved
loop-place-preserved c =
    key_step c.args.columns.now c.loop-place.place (string_bytes c.args.out.now) (string_bytes c.loop-place.out) (string_bytes c.push_str.new.self) (string_bytes c.push_quoted.new.out) c.comma_before.result.now c.as_str.result.now
    c.loop-place.invariant c.in_ok-push_str.ensures.bytes c.comma_before.ensures c.in_ok-push_quoted.ensures (c.as_str.ensures.value ∙ c.in_ok-column_name.ensures)
