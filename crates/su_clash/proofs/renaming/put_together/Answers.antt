-- A variable goes; what takes its place is called by itself.
use Rattle.std.proofs.Common.{◌≡◌, sym, subst}
use Rattle.su_tableau.specs.declared.symbols.Sym.{Sym}
use Rattle.su_tableau.specs.declared.symbols.Sym.TheVariants.{Const, Var}
use Rattle.su_clash.specs.inside.Renames.{renamed, AreOne, Makes}
use Rattle.su_clash.proofs.Names.{makes_one, makes_other}
use Rattle.su_clash.proofs.renaming.put_together.Goals as goal

pub returns-in_ok-push-in-Const-Var : goal.returns-in_ok-push-in-Const-Var
returns-in_ok-push-in-Const-Var c =
    let old = c.args.renames.now in
    let new = c.push.new.self in
    let k = c.in-Const-Var.k in
    let t : Sym = Const c.in-Const-Var.one in
    let own : renamed old (Var k) ≡ Var k = subst (λ (x : Sym). renamed old x ≡ x) c.in-Const-Var.is-1 c.requires.to in
    let other : renamed old t ≡ t = subst (λ (x : Sym). renamed old x ≡ x) c.in-Const-Var.is-0 c.requires.from in
    subst (λ (x : Sym). Makes (AreOne x c.args.to) old new) (sym c.in-Const-Var.is-0)
    (subst (λ (x : Sym). Makes (AreOne t x) old new) (sym c.in-Const-Var.is-1) (makes_other old new k t c.in_ok-push-in-Const-Var.ensures.ok own other))

pub returns-in_ok-push-in-Var-default : goal.returns-in_ok-push-in-Var-default
returns-in_ok-push-in-Var-default c =
    let old = c.args.renames.now in
    let new = c.push-in-Var-default.new.self in
    let k = c.in-Var-default.k in
    let t : Sym = c.args.to in
    let own : renamed old (Var k) ≡ Var k = subst (λ (x : Sym). renamed old x ≡ x) c.in-Var-default.is-0 c.requires.from in
    subst (λ (x : Sym). Makes (AreOne x t) old new) (sym c.in-Var-default.is-0)
    (makes_one old new k t c.in_ok-push-in-Var-default.ensures.ok own c.requires.to)
