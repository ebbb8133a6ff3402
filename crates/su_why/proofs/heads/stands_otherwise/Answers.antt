-- What is read at the places decides.
use Rattle.std.proofs.Common.{◌≡◌, true, false, not, Some, refl, sym, ap, ◌∙◌, arith}
use Rattle.std.specs.Prelude.{slice_get}
use Rattle.std.proofs.lemmas.Bool.{false≢true}
use Rattle.std.proofs.lemmas.Option.{same_Some}
use Rattle.su_base.specs.declared.values.Value.{Value}
use Rattle.su_tableau.specs.declared.symbols.Sym.{Sym}
use Rattle.su_tableau.specs.declared.symbols.Sym.TheVariants.{Var}
use Rattle.su_why.proofs.Clashes.{read_at}
use Rattle.su_why.proofs.heads.stands_otherwise.Goals as goal

pub returns-then-not-is_var : goal.returns-then-not-is_var
returns-then-not-is_var c = (
  λ t. absurd (false≢true t),
  λ w.
      let x : Sym = c.index-outputs-i.result in
      let is : x ≡ Var c.args.k = same_Some x (Var c.args.k) (sym (read_at c.args.outputs.now c.args.i x c.requires.outputs c.index-outputs-i.is) ∙ w.0) in
      let t = c.is_var.ensures.1 is in
      let f = c.if-not-is_var.true in
      absurd (grind (arith, t, f)),
)

pub returns : goal.returns
returns c =
    let h = c.args.row.now in
    let x : Sym = c.index-outputs-i.result in
    let v : Value = c.index-row-i.result in
    let w : Value = c.index-row-j.result in
    let own : slice_get h c.args.i ≡ Some v = read_at h c.args.i v c.requires.own c.index-row-i.is in
    let other : slice_get h c.args.j ≡ Some w = read_at h c.args.j w c.requires.other c.index-row-j.is in
    let one : x ≡ Var c.args.k = c.is_var.ensures.0 (let f = c.if-not-is_var.false in grind (arith, f)) in (
      λ t. (
        read_at c.args.outputs.now c.args.i x c.requires.outputs c.index-outputs-i.is ∙ ap Some one,
        λ e. let same = c.is_one.ensures.1 (same_Some v w (sym own ∙ e ∙ other)) in absurd (grind (arith, t, same)),
      ),
      λ differ. elim c.is_one.result as (λ b. c.is_one.result ≡ b → not b ≡ true) [
        | true ↦ λ t. absurd (differ.1 (own ∙ ap Some (c.is_one.ensures.0 t) ∙ sym other))
        | false ↦ λ f. refl
      ] refl,
    )
