-- A constant that the disjunct's equalities have is an item, named by its class; any other is in no class and stands for itself.
use Rattle.std.proofs.Common.{◌≡◌, ◌*◌, ◌∙◌, sym, ap, subst, IfOk, arith}
use Rattle.su_tableau.specs.declared.symbols.Sym.TheVariants.{Const}
use Rattle.su_classes.specs.inside.Symbols.{constant_place}
use Rattle.su_steps.proofs.ConstantNames.{known_name, other_name}
use Rattle.su_steps.proofs.classes.Classes.constant_name.Goals as goal

pub returns-then-item-len : goal.returns-then-item-len
returns-then-item-len c =
    let s = c.args.self.now in
    let at = c.place-item.ensures ∙ ap (λ vs. constant_place vs c.args.value.now) c.as_slice.ensures in
    subst (λ x. IfOk c.item_name.result (λ y. y ≡ x)) (known_name s.constants (c.args.variables * s.width) s.table.items c.args.value.now c.place-item.result at (let l = c.len.ensures in let t = c.if-item-len.true in omega arith)) c.item_name.ensures

pub returns : goal.returns
returns c =
    let s = c.args.self.now in
    let at = c.place-item.ensures ∙ ap (λ vs. constant_place vs c.args.value.now) c.as_slice.ensures in
    ap Const c.in_ok-copy.ensures ∙ sym (other_name s.constants (c.args.variables * s.width) s.table.items c.args.value.now c.place-item.result at (let l = c.len.ensures in let t = c.if-item-len.false in omega arith))
