-- Without `where` the condition is all of nothing; behind it a condition is read.
use Rattle.std.proofs.Common.{refl, sym, ap}
use Rattle.std.proofs.lemmas.Result.{IfOk-weaker}
use Rattle.su_where.specs.declared.conditions.Condition.TheVariants.{All}
use Rattle.su_query.specs.inside.ReadConditions.{ReadsCond}
use Rattle.su_query.specs.inside.ReadQueries as g
use Rattle.su_query.specs.inside.ReadQueries.{ReadsWhere}
use Rattle.su_query.proofs.forms.wanted.Goals as goal

pub returns-then-not-takes_word-clause-found : goal.returns-then-not-takes_word-clause-found
returns-then-not-takes_word-clause-found c =
    let none = c.if-not-takes_word.ensures.no refl in
    g.nothing _ _ _ (sym none.0) (ap All c.new.ensures) none.1

pub returns-clause-found : goal.returns-clause-found
returns-clause-found c =
    let s = c.args.reader.now in
    let t = c.takes_word.new.self in
    let r = c.cond.new.reader in
    IfOk-weaker c.cond.result (λ d. ReadsCond d t r) (λ d. ReadsWhere d s r) (λ d h. g.condition d s t r (c.if-not-takes_word.ensures.yes refl) h) c.cond.ensures.found
