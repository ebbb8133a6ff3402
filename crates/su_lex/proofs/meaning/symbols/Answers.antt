-- The symbols so far are a front of every list of symbols that the text has, and what is left begins with a symbol or is empty; so an end without a symbol refutes every list.
use Rattle.std.proofs.Common.{◌≡◌, ◌<◌, ◌∷◌, ◌++◌, [], sym, refl, ap, ◌∙◌, arith, length, append_assoc, append-nil, drop, Err}
use Rattle.std.proofs.lemmas.Bool.Decides.{nat_tests}
use Rattle.std.proofs.lemmas.List.{take_rest, nil_from_length}
use Rattle.std.proofs.lemmas.Result.{err_from_is_err_and}
use Rattle.su_lex.specs.Blanks as b
use Rattle.su_lex.specs.declared.ends.LexEnd.TheVariants.{Syntax}
use Rattle.su_lex.proofs.Gaps.{IsSolid}
use Rattle.su_lex.proofs.Written.{symbols_from, symbols_to}
use Rattle.su_lex.proofs.OneByOne.{symbols_before, symbols_behind, symbol_more, peel_symbol, no_symbols}
use Rattle.su_lex.proofs.meaning.symbols.Goals as goal

pub loop-rest-init : goal.loop-rest-init
loop-rest-init c =
    let text = c.args.text.now in
    let rest = c.after_blanks-rest.result.now in
    let blanks = c.after_blanks-rest.ensures in
    let stays : IsSolid rest = record { no_space = blanks.no_space; no_comment = blanks.no_comment } in
    record {
      solid = stays;
      before = λ more xs. rw c.in_ok-symbols.ensures (symbols_before text rest more blanks.behind xs);
      only = λ all a. (all, rw c.in_ok-symbols.ensures refl, symbols_behind text rest all blanks.behind stays a);
    }

pub loop-rest-preserved : goal.loop-rest-preserved
loop-rest-preserved c =
    let rest = c.loop-rest.rest.now in
    let x = c.in_ok-symbol.symbol in
    let f = c.in_ok-symbol.ensures.found in
    let blanks = c.after_blanks-rest-in-loop-rest.ensures in
    let next = c.after_blanks-rest-in-loop-rest.result.now in
    let behind = rw take_rest at blanks.behind in
    let stays : IsSolid next = record { no_space = blanks.no_space; no_comment = blanks.no_comment } in
    record {
      solid = stays;
      before = λ more xs.
          rw (c.in_ok-push.ensures.ok, append_assoc)
          (c.loop-rest.invariant.before (x ∷ more) (symbol_more rest x c.in_ok-symbol.n more f (symbols_before (drop c.in_ok-symbol.n rest) next more behind xs)));
      only = λ all a.
          let m = c.loop-rest.invariant.only all a in
          let p = peel_symbol rest x c.in_ok-symbol.n m.0 f m.2 in (
            p.more,
            m.1 ∙ ap (λ v. c.loop-rest.symbols ++ v) p.all_is ∙ sym (append_assoc c.loop-rest.symbols (x ∷ []) p.more) ∙ ap (λ v. v ++ p.more) (sym c.in_ok-push.ensures.ok),
            symbols_behind (drop c.in_ok-symbol.n rest) next p.more behind stays p.behind,
          );
    }

pub returns-in_err-symbol-clause-syntax : goal.returns-in_err-symbol-clause-syntax
returns-in_err-symbol-clause-syntax c =
    let some : 0 < length c.loop-rest.rest.now = grind (arith, nat_tests, c.loop-rest-test.ensures) in
    let p = err_from_is_err_and c.from_residual-in_err-symbol.result c.from_residual-in_err-symbol.ensures.1 in
    rw (p.1, p.2)
    (λ s xs all.
    let m = c.loop-rest.invariant.only xs (symbols_to c.args.text.now xs all) in
    let h : c.in_err-symbol.field-0.0 ≡ Syntax = cc in
    no_symbols c.loop-rest.rest.now m.0 (c.in_err-symbol.ensures.none (ap Err h)) c.loop-rest.invariant.solid some m.2)

pub returns-clause-symbols : goal.returns-clause-symbols
returns-clause-symbols c =
    let e : length c.loop-rest.rest.now ≡ 0 = grind (arith, nat_tests, c.loop-rest-test.ensures) in
    symbols_from c.args.text.now c.loop-rest.symbols (rw append-nil at (c.loop-rest.invariant.before [] (b.none _ _ (nil_from_length _ e))))
