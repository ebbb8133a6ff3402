-- No row so far has the variable, and some row does; the column at which it stands there has its kind under every typing.
use Rattle.std.proofs.Common.{◌≡◌, List, [], get_or, Contains, subst, ◌∙◌, arith, below_more}
use Rattle.std.proofs.lemmas.List.{get_or_default}
use Rattle.su_tableau.specs.declared.symbols.Sym.{Sym}
use Rattle.su_tableau.specs.declared.symbols.Sym.TheVariants.{Var}
use Rattle.su_chase.proofs.FrozenValues.{not_placed}
use Rattle.su_chase.proofs.freezing.kind_of_variable.Goals as goal

pub loop-row-preserved : goal.loop-row-preserved
loop-row-preserved c =
    let rows = c.args.rows.now in
    let n = c.loop-row.row-index in
    let row_is : c.as_slice.result.now ≡ get_or rows n [] = c.as_slice.ensures ∙ c.row-item.is ∙ get_or_default rows n c.row-item.result [] c.loop-row-test.true in
    below_more (λ i. ¬ Contains (get_or rows i []) (Var c.args.k)) n c.loop-row.invariant
    (subst (λ (row : List Sym). ¬ Contains row (Var c.args.k)) row_is (not_placed _ c.place_in.result c.place_in.ensures c.in_default.not-Some))

pub returns : goal.returns
returns c = λ var_kind fits.
    let at = c.requires.occurs in
    absurd (c.loop-row.invariant at.0 (let l = at.1 in let e = c.loop-row-test.false in omega arith) at.2)
