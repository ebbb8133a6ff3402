-- A text is one list of symbols, and these are one statement at most, so what was read is the only one.
use Rattle.std.proofs.Common.{Err, ap, inl, inr}
use Rattle.su_query.proofs.Ready.{form_ready}
use Rattle.su_query.proofs.Uniqueness.{statement_unique}
use Rattle.su_query.proofs.reading.read.Goals as goal

pub returns-in-Err-Syntax-clause-refused : goal.returns-in-Err-Syntax-clause-refused
returns-in-Err-Syntax-clause-refused c = inr (inl (c.in-Err-Syntax.ensures.syntax (ap Err c.in-Err-Syntax.field-0-is)))

pub returns-in-Ok-statement_of-clause-only : goal.returns-in-Ok-statement_of-clause-only
returns-in-Ok-statement_of-clause-only c other h =
    let text = c.args.text.now in
    statement_unique text c.in-Ok-statement_of.statement other (c.in-Ok-statement_of.ensures.found text c.in-Ok.ensures.symbols) h

pub returns-in-Ok-statement_of-clause-ready : goal.returns-in-Ok-statement_of-clause-ready
returns-in-Ok-statement_of-clause-ready c =
    let is = c.in-Ok-statement_of.ensures.found c.args.text.now c.in-Ok.ensures.symbols in
    form_ready c.in-Ok-statement_of.statement is.symbols is.form

pub returns-in-Err-clause-refused : goal.returns-in-Err-clause-refused
returns-in-Err-clause-refused c =
    elim c.in-Err.ensures.refused [
      | inl e ↦ inl e
      | inr refused ↦ inr (refused c.args.text.now c.in-Ok.ensures.symbols)
    ]
