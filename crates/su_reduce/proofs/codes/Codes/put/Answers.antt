-- The key stored at the place tells itself equal to the value, and values are equal only where they are the same.
use Rattle.std.proofs.Common.{◌≡◌, Some, slice_get, sym, ap, ◌∙◌}
use Rattle.su_base.proofs.Same.{value_eq-Decides}
use Rattle.su_reduce.proofs.codes.Codes.put.Goals as goal

pub returns-clause-code : goal.returns-clause-code
returns-clause-code c =
    let s = c.in-Ok.ensures.stored in
    let same : c.args.value ≡ s.0 = (value_eq-Decides c.args.value s.0).0 s.2 in
    ap (slice_get c.insert_full.new.self.keys) c.in_ok-code.ensures ∙ s.1 ∙ ap Some (sym same)
