-- Each test is one of the definition's checks, in their order: where one fails those before it have passed, and where none fails the schema has one dependency more.
use Rattle.std.proofs.Common.{◌≡◌, ◌<◌, None, false, inl, inr, nat_le, [], length, ◌∙◌, arith}
use Rattle.std.proofs.lemmas.Bool.Decides.{nat_tests}
use Rattle.std.proofs.lemmas.Result.{err_from_is_err_and}
use Rattle.su_schema.specs.declared.definitions.Definition.TheVariants.{Fd}
use Rattle.su_schema.specs.Entries.{attribute_names}
use Rattle.su_schema.specs.NameChecks.{first_failing, name_checks}
use Rattle.su_schema.specs.Checks.{checks}
use Rattle.su_schema.proofs.Accepted.{accepted, is_refused}
use Rattle.su_schema.proofs.PairsSoFar.{first_failing-append, first_failing-passed}
use Rattle.su_schema.proofs.OneMore.{stays_valid, fd_shape}
use Rattle.su_schema.proofs.schemas.Schema.fd.Goals as goal

pub returns-in_err-left-clause-refused : goal.returns-in_err-left-clause-refused
returns-in_err-left-clause-refused c =
    let p = err_from_is_err_and c.from_residual.result c.from_residual.ensures.1 in
    let less : length c.args.self.now.fds < 256 = rw (← c.fds.ensures) c.if-fds-ge256.false in
    let room : nat_le 256 (length c.args.self.now.fds) ≡ false = grind (arith, nat_tests, less) in
    rw (p.1, p.2)
    (elim c.in_err-left.ensures.refused [
      | inl none ↦ inl none
      | inr fails ↦ inr (is_refused c.args.self.now (Fd c.args.left.now c.args.right.now) _ (rw room (first_failing-append (name_checks (attribute_names c.args.self.now) [] c.args.left.now) _ _ fails)))
    ])

pub returns-in_err-right-clause-refused : goal.returns-in_err-right-clause-refused
returns-in_err-right-clause-refused c =
    let p = err_from_is_err_and c.from_residual-in_err-right.result c.from_residual-in_err-right.ensures.1 in
    let less : length c.args.self.now.fds < 256 = rw (← c.fds.ensures) c.if-fds-ge256.false in
    let room : nat_le 256 (length c.args.self.now.fds) ≡ false = grind (arith, nat_tests, less) in
    rw (p.1, p.2)
    (elim c.in_err-right.ensures.refused [
      | inl none ↦ inl none
      | inr fails ↦ inr (is_refused c.args.self.now (Fd c.args.left.now c.args.right.now) _ (rw room (first_failing-passed (name_checks (attribute_names c.args.self.now) [] c.args.left.now) (name_checks (attribute_names c.args.self.now) [] c.args.right.now) c.in_ok-left.ensures.passed ∙ fails)))
    ])

pub invariant_of-self-2 : goal.invariant_of-self-2
invariant_of-self-2 c =
    let less : length c.args.self.now.fds < 256 = rw (← c.fds.ensures) c.if-fds-ge256.false in
    let room : nat_le 256 (length c.args.self.now.fds) ≡ false = grind (arith, nat_tests, less) in
    let none : first_failing (checks c.args.self.now (Fd c.args.left.now c.args.right.now)) ≡ None =
    rw room (first_failing-passed (name_checks (attribute_names c.args.self.now) [] c.args.left.now) (name_checks (attribute_names c.args.self.now) [] c.args.right.now) c.in_ok-left.ensures.passed ∙ c.in_ok-right.ensures.passed) in
    let shape = fd_shape c.self.inside c.args.self.now c.self.view_is _ c.args.left.now c.args.right.now _ _ c.in_ok-push.ensures.ok c.in_ok-left.ensures.numbers c.in_ok-right.ensures.numbers in
    record {
      valid = stays_valid c.self.inside c.args.self.now _ (Fd c.args.left.now c.args.right.now) c.self.view_is c.self.invariant.valid c.requires none shape;
      attribute_sets = c.self.invariant.attribute_sets;
    }

pub returns-clause-ok : goal.returns-clause-ok
returns-clause-ok c =
    let less : length c.args.self.now.fds < 256 = rw (← c.fds.ensures) c.if-fds-ge256.false in
    let room : nat_le 256 (length c.args.self.now.fds) ≡ false = grind (arith, nat_tests, less) in
    let none : first_failing (checks c.args.self.now (Fd c.args.left.now c.args.right.now)) ≡ None =
    rw room (first_failing-passed (name_checks (attribute_names c.args.self.now) [] c.args.left.now) (name_checks (attribute_names c.args.self.now) [] c.args.right.now) c.in_ok-left.ensures.passed ∙ c.in_ok-right.ensures.passed) in
    let shape = fd_shape c.self.inside c.args.self.now c.self.view_is _ c.args.left.now c.args.right.now _ _ c.in_ok-push.ensures.ok c.in_ok-left.ensures.numbers c.in_ok-right.ensures.numbers in
    accepted c.args.self.now _ (Fd c.args.left.now c.args.right.now) none shape
