-- What was read are the terms so far, and any list that the symbols spell has these as a front; the word for a term shows that it goes on, and else it ends.
use Rattle.std.proofs.Common.{◌∷◌, [], codes, All, refl, sym, ap, subst, ◌∙◌, Err}
use Rattle.std.proofs.lemmas.List.Elements.{All-push}
use Rattle.std.proofs.lemmas.Result.{err_from_is_err_and}
use Rattle.su_lex.specs.declared.meaning.Symbol.TheVariants.{Word}
use Rattle.su_lex.specs.Names.{Begins}
use Rattle.su_check.specs.Ranges.{IsTermInRange}
use Rattle.su_check.specs.inside.LineReaders.{term_symbols, term_before}
use Rattle.su_check.proofs.TermSymbols.{term_at, ends_term}
use Rattle.su_check.proofs.Runs.{flat_push, lead_next, lead_none, left_on, gives_on}
use Rattle.su_check.proofs.lines.terms.Goals as goal

no_word : ¬ (Begins (Word (codes "term")) [])
no_word begins = absurd (cc begins.1)

pub returns-in_err-term-clause-only : goal.returns-in_err-term-clause-only
returns-in_err-term-clause-only c = λ all are e.
    let p = err_from_is_err_and c.from_residual.result c.from_residual.ensures.1 in
    let m = lead_next term_symbols (IsTermInRange c.args.width) (Word (codes "term")) term_before term_at all c.loop-terms.terms c.loop-terms.reader _ [] (c.loop-terms.invariant.left all are e) (c.loop-terms-test.ensures.yes refl) no_word in
    gives_on _ _ c.in_err-term.field-0.0 c.from_residual.result (p.1 ∙ ap Err p.2) (c.in_err-term.ensures.only m.0 m.2 m.1 (ends_term c.args.width all _ m.2 m.4) m.3)

pub loop-terms-preserved : goal.loop-terms-preserved
loop-terms-preserved c =
    let term = c.in_ok-term.field-0 in
    let here = c.loop-terms-test.ensures.yes refl in
    record {
      whole = rw c.in_ok-push.ensures.ok
          (flat_push term_symbols c.loop-terms.terms term c.args.reader.now c.loop-terms.reader c.term.new.reader c.loop-terms.invariant.whole (here ∙ ap (λ s. Word (codes "term") ∷ s) c.in_ok-term.ensures.found.0 ∙ sym (term_at term _)));
      are = subst (All (IsTermInRange c.args.width)) (sym c.in_ok-push.ensures.ok) (All-push (IsTermInRange c.args.width) c.loop-terms.terms term c.loop-terms.invariant.are c.in_ok-term.ensures.found.1);
      left = λ all are e.
          let m = lead_next term_symbols (IsTermInRange c.args.width) (Word (codes "term")) term_before term_at all c.loop-terms.terms c.loop-terms.reader _ [] (c.loop-terms.invariant.left all are e) here no_word in
          left_on term_symbols (IsTermInRange c.args.width) all c.loop-terms.terms c.push.new.self m.0 term m.2 _ [] m.4 c.in_ok-push.ensures.ok (c.in_ok-term.ensures.only m.0 m.2 m.1 (ends_term c.args.width all _ m.2 m.4) m.3);
    }

pub returns-clause-only : goal.returns-clause-only
returns-clause-only c = λ all are e.
    let end = c.loop-terms-test.ensures.no refl in
    let m = lead_none term_symbols (IsTermInRange c.args.width) (Word (codes "term")) term_before term_at all c.loop-terms.terms c.loop-terms.reader [] (c.loop-terms.invariant.left all are e) end.1 in
    (m.0, end.0 ∙ m.1)
