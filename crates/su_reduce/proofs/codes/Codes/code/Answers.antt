-- A value found among the distinct keys stands at its code, so the code reads as the value that was asked for.
use Rattle.std.proofs.Common.{slice_get, ap, ◌∙◌}
use Rattle.su_reduce.proofs.FoundCodes.{found}
use Rattle.su_reduce.proofs.codes.Codes.code.Goals as goal

pub returns-in-Some-clause-code : goal.returns-in-Some-clause-code
returns-in-Some-clause-code c =
    let keys = c.self.inside.values.keys in
    rw (← c.self.view_is) (ap (slice_get keys) c.in_ok-code.ensures ∙ found keys c.args.value.now c.in-Some.position c.in-Some.ensures.index)
