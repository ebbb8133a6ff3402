-- A row of the sheet's width is pushed as its codes, and for one of another width nothing is claimed of the codes.
use Rattle.std.proofs.Common.{◌∙◌, ap, sym}
use Rattle.su_reduce.specs.Sheets.{Rows}
use Rattle.su_reduce.proofs.CodeExtensions.{extends_self}
use Rattle.su_reduce.proofs.sheeting.push_codes.Goals as goal

pub returns-then-row-width-clause-codes : goal.returns-then-row-width-clause-codes
returns-then-row-width-clause-codes c = extends_self c.args.codes.now

pub returns-then-row-width-clause-pushed : goal.returns-then-row-width-clause-pushed
returns-then-row-width-clause-pushed c = record {
  codes = c.in_ok-push_blank.ensures.0;
  width = ap (λ (s : Rows). s.width) c.in_ok-push_blank.ensures.1;
  rows = ap (λ (s : Rows). s.rows) c.in_ok-push_blank.ensures.1;
  coded = λ same. absurd (c.if-row-width.true (same ∙ sym c.width.ensures));
}

pub returns-clause-pushed : goal.returns-clause-pushed
returns-clause-pushed c = record {
  codes = c.deref.result.now;
  width = c.in_ok-push.ensures.width;
  rows = c.in_ok-push.ensures.ok;
  coded = λ same. record {
    below = rw c.deref.ensures.value c.in_ok-put_codes.ensures.coded;
    is = rw c.deref.ensures.value c.in_ok-put_codes.ensures.values;
  };
}
