-- In the ascending list a search finds the variable's own place, at which its value stands, or tells that it has none.
use Rattle.std.proofs.Common.{◌≡◌, ℕ, pos, IfOk, ap, ◌∙◌, sym, subst, arith}
use Rattle.std.specs.Prelude.{Result}
use Rattle.std.specs.Result.{MatchResult}
use Rattle.std.proofs.lemmas.List.{get_or_default}
use Rattle.su_base.specs.declared.values.Value.{Value}
use Rattle.su_base.specs.declared.values.Value.TheVariants.{Int}
use Rattle.su_tableau.specs.Valuations.{nth, value_of}
use Rattle.su_chase.specs.inside.Rows.{value_in}
use Rattle.su_chase.proofs.Searches.{value_searched}
use Rattle.su_chase.proofs.freezing.value_at.Goals as goal

pub returns-in-Err : goal.returns-in-Err
returns-in-Err c =
    let ks = c.args.variables.now in
    let vs = c.args.values.now in
    let k = c.in-Var.k in
    let found = subst (λ (r : Result ℕ ℕ). MatchResult r (λ i. nth vs i ≡ value_in ks vs k) (λ _. Int (pos 0) ≡ value_in ks vs k)) c.in-Err.is
    (value_searched ks vs c.requires.ascending c.requires.each k c.binary_search.result c.binary_search.ensures.position) in
    found ∙ ap (value_of (value_in ks vs)) (sym c.in-Var.is)

pub returns-in-Ok : goal.returns-in-Ok
returns-in-Ok c =
    let ks = c.args.variables.now in
    let vs = c.args.values.now in
    let k = c.in-Var.k in
    let i = c.in-Ok.i in
    let found : nth vs i ≡ value_in ks vs k = subst (λ (r : Result ℕ ℕ). MatchResult r (λ i. nth vs i ≡ value_in ks vs k) (λ _. Int (pos 0) ≡ value_in ks vs k)) c.in-Ok.is
    (value_searched ks vs c.requires.ascending c.requires.each k c.binary_search.result c.binary_search.ensures.position) in
    let read : c.index-values-i.result ≡ nth vs i = c.index-values-i.is ∙ get_or_default vs i c.index-values-i.result (Int (pos 0)) (let b = c.in-Ok.ensures.bound in let e = c.requires.each in omega arith) in
    subst (λ (w : Value). IfOk c.copy-in-Ok.result (λ v. v ≡ w)) (read ∙ found ∙ ap (value_of (value_in ks vs)) (sym c.in-Var.is)) c.copy-in-Ok.ensures
