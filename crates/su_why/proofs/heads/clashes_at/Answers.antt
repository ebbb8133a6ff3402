-- A constant clashes beside another value, a variable where it stood beside another.
use Rattle.std.proofs.Common.{◌≡◌, true, false, not, Some, refl, ap, ◌∙◌, arith}
use Rattle.std.specs.Prelude.{slice_get}
use Rattle.su_base.specs.declared.values.Value.{Value}
use Rattle.su_tableau.specs.declared.symbols.Sym.TheVariants.{Const, Var}
use Rattle.su_why.proofs.Clashes.{read_at, constant_clash, constant_agrees, variable_clash, variable_agrees}
use Rattle.su_why.proofs.heads.clashes_at.Goals as goal

pub returns-in-Const : goal.returns-in-Const
returns-in-Const c =
    let outputs = c.args.outputs.now in let h = c.args.row.now in let j = c.args.j in
    let w : Value = c.index-row-j.result in
    let v : Value = c.in-Const.value in
    let stands : slice_get outputs j ≡ Some (Const v) = read_at outputs j c.index-outputs-j.result c.requires.outputs c.index-outputs-j.is ∙ ap Some c.in-Const.is in
    let beside : slice_get h j ≡ Some w = read_at h j w c.requires.row c.index-row-j.is in (
      λ t. constant_clash outputs h j c.requires.outputs c.requires.row v w stands beside (λ e. let same = c.is_one.ensures.1 e in absurd (grind (arith, t, same))),
      λ clash. elim c.is_one.result as (λ b. c.is_one.result ≡ b → not b ≡ true) [
        | true ↦ λ t. absurd (constant_agrees outputs h j c.requires.outputs c.requires.row v w stands beside (c.is_one.ensures.0 t) clash)
        | false ↦ λ f. refl
      ] refl,
    )

pub returns-in-Var : goal.returns-in-Var
returns-in-Var c =
    let outputs = c.args.outputs.now in let h = c.args.row.now in let j = c.args.j in
    let stands : slice_get outputs j ≡ Some (Var c.in-Var.k) = read_at outputs j c.index-outputs-j.result c.requires.outputs c.index-outputs-j.is ∙ ap Some c.in-Var.is in (
      λ t. variable_clash outputs h j c.requires.outputs c.requires.row c.in-Var.k stands (c.stood_otherwise.ensures.0 t),
      λ clash. elim c.stood_otherwise.result as (λ b. c.stood_otherwise.result ≡ b → b ≡ true) [
        | true ↦ λ t. refl
        | false ↦ λ f. absurd (variable_agrees outputs h j c.requires.outputs c.requires.row c.in-Var.k stands (λ s. let t = c.stood_otherwise.ensures.1 s in absurd (grind (arith, t, f))) clash)
      ] refl,
    )
