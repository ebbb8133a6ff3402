-- Pairs that aren't none name columns well where each column is a name.
use Rattle.std.proofs.Common.{arith, rules}
use Rattle.std.proofs.lemmas.Bool.Decides.{nat_tests}
use Rattle.su_schema.proofs.NamesGiven.{given_test}
use Rattle.su_schema.proofs.wellnamed.name_columns.Goals as goal

pub returns-then-not-is_empty : goal.returns-then-not-is_empty
returns-then-not-is_empty c = given_test (λ x. x.column) c.args.pairs.now _ (grind (arith, nat_tests, c.if-not-is_empty.ensures)) (search rules)
