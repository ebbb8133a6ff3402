-- `==` on values is the order's test of equality.
use Rattle.std.proofs.Common.{◌≡◌, sym, ap, ◌∙◌}
use Rattle.std.specs.Ordering.{is_eq}
use Rattle.su_base.specs.Value.{compare_values}
use Rattle.su_base.proofs.Rows.{eq-values}
use Rattle.su_tableau.specs.declared.symbols.Sym.{Sym}
use Rattle.su_tableau.specs.declared.symbols.Sym.TheVariants.{Const}
use Rattle.su_clash.specs.inside.Renames.{is_same}
use Rattle.su_clash.proofs.renaming.is_same.Goals as goal

pub returns-in-Const-Const : goal.returns-in-Const-Const
returns-in-Const-Const c =
    let a = c.in-Const-Const.a in
    let b = c.in-Const-Const.b in
    let told : is_same c.args.x.now c.args.y.now ≡ is_eq (compare_values a b) = ap (λ (x : Sym). is_same x c.args.y.now) c.in-Const-Const.is-0 ∙ ap (is_same (Const a)) c.in-Const-Const.is-1 in
    c.eq.ensures ∙ eq-values a b ∙ sym told
