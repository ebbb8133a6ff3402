-- The condition is the only one that can be read there, so what is left behind it, or a ref of it that is no column, refuses the statement.
use Rattle.std.proofs.Common.{◌≡◌, ◌∙◌, sym, ap, Err}
use Rattle.std.proofs.lemmas.Result.{err_from_is_err_and}
use Rattle.su_lex.specs.declared.ends.LexEnd.TheVariants.{Syntax}
use Rattle.su_query.proofs.Exits.{condition_no_end, condition_no_columns}
use Rattle.su_query.proofs.forms.condition_form.Goals as goal

pub returns-in_err-expect_end-clause-syntax : goal.returns-in_err-expect_end-clause-syntax
returns-in_err-expect_end-clause-syntax c =
    let p = err_from_is_err_and c.from_residual-in_err-expect_end.result c.from_residual-in_err-expect_end.ensures.1 in
    rw (p.1, p.2) (λ s relation cond f.
    let h : c.in_err-expect_end.field-0.0 ≡ Syntax = cc in
    let bad = c.in_err-expect_end.ensures.syntax (ap Err h) in
    condition_no_end c.args.reader.now c.name.new.self c.expect_word.new.self c.cond.new.reader c.in_ok-relation.relation c.in_ok-cond.cond c.in_ok-relation.ensures.found.0 c.in_ok-expect_word.ensures.found c.in_ok-cond.ensures.found bad relation cond f)

pub returns-then-not-branch-clause-syntax : goal.returns-then-not-branch-clause-syntax
returns-then-not-branch-clause-syntax c =
    λ s relation cond f. condition_no_columns c.args.reader.now c.name.new.self c.expect_word.new.self c.cond.new.reader c.in_ok-relation.relation c.in_ok-cond.cond c.in_ok-relation.ensures.found.0 c.in_ok-expect_word.ensures.found c.in_ok-cond.ensures.found (sym c.in_ok-are_columns.ensures ∙ c.if-not-branch.true) relation cond f
