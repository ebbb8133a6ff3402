-- What was written is the spaced form of the symbols so far, with whether the last one opens; so a refusal at the space or within the next symbol leaves a front of the whole.
use Rattle.std.proofs.lemmas.Result.{err_from_is_err_and}
use Rattle.su_lex.proofs.Printed.{one_behind, spaced_front, symbol_front}
use Rattle.su_lex.proofs.spelling.push_spaced.Goals as goal

pub loop-symbol-preserved : goal.loop-symbol-preserved
loop-symbol-preserved c =
    one_behind c.args.symbols.now c.loop-symbol.symbol-index c.symbol-item.result c.args.out.now.items c.loop-symbol.out.items c.push_space_if.new.out.items c.push_symbol.new.out.items c.loop-symbol.tight c.opens-tight.result
    c.loop-symbol-test.true c.symbol-item.is c.loop-symbol.invariant (rw c.wants_space.ensures at c.in_ok-push_space_if.ensures.ok) c.in_ok-push_symbol.ensures.ok c.opens-tight.ensures

pub returns-in_err-push_space_if-clause-front : goal.returns-in_err-push_space_if-clause-front
returns-in_err-push_space_if-clause-front c =
    let p = err_from_is_err_and c.from_residual.result c.from_residual.ensures.1 in
    rw p.1 (spaced_front c.args.symbols.now c.loop-symbol.symbol-index c.args.out.now.items c.loop-symbol.out.items c.push_space_if.new.out.items c.loop-symbol.tight c.loop-symbol.invariant
    c.in_err-push_space_if.ensures.unchanged)

pub returns-in_err-push_symbol-clause-front : goal.returns-in_err-push_symbol-clause-front
returns-in_err-push_symbol-clause-front c =
    let p = err_from_is_err_and c.from_residual-in_err-push_symbol.result c.from_residual-in_err-push_symbol.ensures.1 in
    rw p.1 (symbol_front c.args.symbols.now c.loop-symbol.symbol-index c.symbol-item.result c.args.out.now.items c.loop-symbol.out.items c.push_space_if.new.out.items c.push_symbol.new.out.items c.loop-symbol.tight
    c.loop-symbol-test.true c.symbol-item.is c.loop-symbol.invariant (rw c.wants_space.ensures at c.in_ok-push_space_if.ensures.ok) c.in_err-push_symbol.ensures.front)
