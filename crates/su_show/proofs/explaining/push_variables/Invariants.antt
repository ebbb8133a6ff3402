use Rattle.std.proofs.Common.{◌≡◌, ◌∷◌, ◌++◌, flat_map, take}
use Rattle.std.specs.Prelude.{codes}
use Rattle.su_show.specs.QueryCauses.{variable_text}
use Rattle.su_show.proofs.explaining.push_variables.Given as goal

abbrev pub invariant-loop-name : goal.invariant-loop-name
invariant-loop-name l = l.out.items ≡ l.fn.out.items ++ codes "variables" ++ flat_map (λ v. 32 ∷ variable_text v) (take l.name-index l.resolved.variables)
