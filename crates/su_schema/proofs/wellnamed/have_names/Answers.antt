-- Columns that aren't none are well named where the name of each is a name.
use Rattle.std.proofs.Common.{arith, rules}
use Rattle.std.proofs.lemmas.Bool.Decides.{nat_tests}
use Rattle.su_schema.proofs.NamesGiven.{given_test}
use Rattle.su_schema.proofs.wellnamed.have_names.Goals as goal

pub returns-then-not-is_empty : goal.returns-then-not-is_empty
returns-then-not-is_empty c = given_test (λ x. x.name) c.args.columns.now _ (grind (arith, nat_tests, c.if-not-is_empty.ensures)) (search rules)
