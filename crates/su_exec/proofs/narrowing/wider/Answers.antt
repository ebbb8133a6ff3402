-- Of two values the one farther on this side is met by all that meets the nearer one.
use Rattle.std.proofs.Common.{◌≡◌, true, false, sym}
use Rattle.su_where.specs.Operator.{compares}
use Rattle.su_reduce.specs.Codes.{decode}
use Rattle.su_exec.proofs.narrowing.wider.Goals as goal

pub returns-then-compares-clause-best : goal.returns-then-compares-clause-best
returns-then-compares-clause-best c = λ op side x h.
    let values = c.args.codes.now in
    let told : compares c.args.side (decode values c.args.best) (decode values c.args.code) ≡ true = sym (rw (c.value.ensures, c.value-2.ensures, c.if-compares.true) at c.compares.ensures) in
    side.farther x (decode values c.args.best) (decode values c.args.code) told h

pub returns-clause-code : goal.returns-clause-code
returns-clause-code c = λ op side x h.
    let values = c.args.codes.now in
    let told : compares c.args.side (decode values c.args.best) (decode values c.args.code) ≡ false = sym (rw (c.value.ensures, c.value-2.ensures, c.if-compares.false) at c.compares.ensures) in
    side.nearer x (decode values c.args.best) (decode values c.args.code) told h
