-- The codes are the distinct keys of a map, and values are equal only where they are the same.
use Rattle.std.specs.Prelude.{pos}
use Rattle.std.proofs.lemmas.Map.Made.{AllPairs-from_IsDistinct}
use Rattle.su_base.proofs.Same.{value_eq-Decides}
use Rattle.su_base.specs.declared.values.Value.TheVariants.{Int}
use Rattle.su_reduce.proofs.codes.Codes.keeps_its_rules.Goals as goal

pub returns : goal.returns
returns c = rw (← c.self.view_is) (λ i j l m. AllPairs-from_IsDistinct value_eq-Decides c.self.inside.values.keys c.len-count.ensures.unique i j (Int (pos 0)) l m)
