-- A comparison of a place with a constant fits rows that have the place.
use Rattle.std.proofs.Common.{◌+◌, arith}
use Rattle.su_where.proofs.Layers.{compare_fits}
use Rattle.su_where_tests.proofs.tests.seven.Goals as goal

pub returns : goal.returns
returns c = compare_fits (c.args.place + 1) _ (omega arith, tt)
