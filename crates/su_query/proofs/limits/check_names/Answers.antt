-- Names without variables mention at most the blank one, and they compare nothing, so only their number can pass a limit.
use Rattle.std.proofs.Common.{arith}
use Rattle.std.proofs.lemmas.List.{length-map}
use Rattle.su_query.specs.Limits.{plain_ref}
use Rattle.su_query.proofs.Counted.{names_few_variables, nothing_compared}
use Rattle.su_query.proofs.limits.check_names.Goals as goal

pub returns-then-names-gt128-clause-passed : goal.returns-then-names-gt128-clause-passed
returns-then-names-gt128-clause-passed c =
    let many = c.if-names-gt128.true in
    (names_few_variables c.args.names.now, omega (arith, many, length-map c.args.names.now plain_ref))

pub returns-clause-few : goal.returns-clause-few
returns-clause-few c =
    let few = c.if-names-gt128.false in
    record {
      few_variables = names_few_variables c.args.names.now;
      few_outputs = omega (arith, few, length-map c.args.names.now plain_ref);
      few_comparisons = nothing_compared;
    }
