-- What the reader takes is what the grammar spells, and what it refuses nothing spells.
use Rattle.std.proofs.Common.{ap, sym, inr, subst, Err}
use Rattle.su_lex.specs.Nesting.{IsDeep}
use Rattle.su_query.specs.Forms.{IsForm}
use Rattle.su_query.specs.inside.ReadForms.{ReadsForm}
use Rattle.su_query.proofs.Readable.{form_readable}
use Rattle.su_query.proofs.Spelled.{form_spelled}
use Rattle.su_query.proofs.reading.read_form.Goals as goal

pub returns-in-Ok-clause-found : goal.returns-in-Ok-clause-found
returns-in-Ok-clause-found c =
    let shallow : ¬ (IsDeep c.args.symbols) = λ deep.
    let yes = c.nests_too_deep.ensures.1 (subst IsDeep (sym c.as_slice.ensures) deep) in
    let no = c.if-nests_too_deep.false in
    absurd (cc) in
    λ text spelled. record {
      symbols = c.args.symbols;
      spelled = spelled;
      shallow = shallow;
      form = form_spelled c.in-Ok.statement c.args.symbols (subst (ReadsForm c.in-Ok.statement) c.new-reader.ensures c.in-Ok.ensures.found);
    }

pub returns-in-Err-Syntax-clause-refused : goal.returns-in-Err-Syntax-clause-refused
returns-in-Err-Syntax-clause-refused c =
    let shallow : ¬ (IsDeep c.args.symbols) = λ deep.
    let yes = c.nests_too_deep.ensures.1 (subst IsDeep (sym c.as_slice.ensures) deep) in
    let no = c.if-nests_too_deep.false in
    absurd (cc) in
    inr (λ text spelled. inr (
      c.args.symbols,
      spelled,
      shallow,
      λ st form. c.in-Err-Syntax.ensures.syntax (ap Err c.in-Err-Syntax.field-0-is) st (form_readable st _ (subst (IsForm st) (sym c.new-reader.ensures) form)),
    ))
