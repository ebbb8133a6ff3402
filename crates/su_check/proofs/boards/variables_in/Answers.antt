-- What is gathered are the variables of the rows so far and no others, and sorting them keeps the members.
use Rattle.std.proofs.Common.{◌≡◌, [], get_or, Contains, sym, subst, ◌∙◌, ⊎_elim, arith, below_more}
use Rattle.std.specs.List.Sorted.{IsNonDecreasingBy}
use Rattle.std.proofs.lemmas.List.{get_or_default}
use Rattle.std.proofs.lemmas.List.Sorted.{Contains-permutation, IsPermutation-sym, IsNonDecreasingBy-from_sort}
use Rattle.su_tableau.specs.declared.symbols.Sym.TheVariants.{Var}
use Rattle.su_check.proofs.boards.variables_in.Goals as goal

pub loop-row-preserved : goal.loop-row-preserved
loop-row-preserved c =
    let i = c.loop-row.row-index in let rows = c.args.rows.now in
    let is = c.as_slice.ensures ∙ c.row-item.is ∙ get_or_default rows i c.row-item.result [] c.loop-row-test.true in
    let pushed = c.in_ok-push_variables.ensures in
    record {
      all = λ k.
          below_more (λ j. Contains (get_or rows j []) (Var k) → Contains c.push_variables.new.out k) i
          (λ j h has. pushed.old k (c.loop-row.invariant.all k j h has)) (λ has. pushed.row k (subst (λ r. Contains r (Var k)) (sym is) has));
      only = λ k has.
          ⊎_elim
          (λ (a : Contains c.loop-row.variables k). c.loop-row.invariant.only k a)
          (λ (b : Contains c.as_slice.result.now (Var k)). (i, c.loop-row-test.true, subst (λ r. Contains r (Var k)) is b))
          (pushed.only k has);
    }

pub returns-clause-ascending : goal.returns-clause-ascending
returns-clause-ascending c = subst (IsNonDecreasingBy (λ v. v)) (sym c.from_vec.ensures) (IsNonDecreasingBy-from_sort (λ v. v) c.sort_unstable.new.self.items c.sort_unstable.ensures.sorted)

pub returns-clause-all : goal.returns-clause-all
returns-clause-all c = λ k.
    let same : c.into_vec-variables.result.items ≡ c.loop-row.variables = c.into_vec-variables.ensures in
    let moved = c.sort_unstable.ensures.permutation in (
      λ has. c.loop-row.invariant.only k (subst (λ o. Contains o k) same (Contains-permutation _ _ k (IsPermutation-sym _ _ moved) (subst (λ o. Contains o k) c.from_vec.ensures has))),
      λ stands. subst (λ o. Contains o k) (sym c.from_vec.ensures) (Contains-permutation _ _ k moved (subst (λ o. Contains o k) (sym same) (c.loop-row.invariant.all k stands.0 (let l = stands.1 in let e = c.loop-row-test.false in omega arith) stands.2))),
    )
