-- The shape so far is that of the cells before; the next cell adds the first place of its variable, and the variable itself only where that place is its own.
use Rattle.std.proofs.Common.{◌≡◌, ◌<◌, ◌+◌, ℕ, [], ◌∷◌, ◌++◌, length, Contains, sym, ap, subst, ◌∙◌}
use Rattle.std.proofs.lemmas.Option.{get_or_from_slice_get}
use Rattle.su_tableau.specs.declared.symbols.Sym.TheVariants.{Var}
use Rattle.su_reduce.specs.Shapes.{IsShapeOf, cell_at, variable_place}
use Rattle.su_reduce.proofs.Places.{contains_at, place_holds, one_var}
use Rattle.su_reduce.proofs.ShapeSteps.{shape_again, shape_new, shape_on}
use Rattle.su_reduce.proofs.shapes.add_cell.Goals as goal

pub returns-in_default : goal.returns-in_default
returns-in_default c =
    let cells = c.args.cells.now in
    let p = c.args.p in
    let shape = c.args.shape.now in
    let none : (k : ℕ) → cell_at cells p ≡ Var k → ⊥ = λ k e. c.in_default.ensures k (sym (get_or_from_slice_get cells p c.get.result.now (Var 0) c.get.ensures) ∙ e) in
    rw c.in_ok-push.ensures.items (shape_on cells p p shape.vars.items shape.firsts.items shape.places.items c.requires.so_far c.requires.within (λ k e. absurd (none k e)) (λ k e. absurd (none k e)))

pub returns-in_ok-push-4 : goal.returns-in_ok-push-4
returns-in_ok-push-4 c =
    let cells = c.args.cells.now in
    let p = c.args.p in
    let k = c.in-Some.k in
    let vars = c.args.shape.now.vars.items in
    let firsts = c.args.shape.now.firsts.items in
    let places = c.args.shape.now.places.items in
    let is : cell_at cells p ≡ Var k = get_or_from_slice_get cells p c.get.result.now (Var 0) c.get.ensures ∙ c.in-Some.ensures in
    let first : c.place-first.result ≡ variable_place cells k = c.place-first.ensures ∙ ap (λ cs. variable_place cs k) c.as_slice.ensures in
    let more = shape_new cells p k vars firsts places c.requires.so_far c.requires.within is (sym first ∙ c.if-first-p.true) in
    rw (c.in_ok-push-2.ensures.items, c.in_ok-push-3.ensures.items, c.in_ok-push-4.ensures.items)
    (subst (λ (q : ℕ). IsShapeOf cells (p + 1) (vars ++ k ∷ []) (firsts ++ p ∷ []) (places ++ q ∷ [])) (sym c.if-first-p.true) more)

pub returns-else-first-p : goal.returns-else-first-p
returns-else-first-p c =
    let cells = c.args.cells.now in
    let p = c.args.p in
    let k = c.in-Some.k in
    let vars = c.args.shape.now.vars.items in
    let firsts = c.args.shape.now.firsts.items in
    let places = c.args.shape.now.places.items in
    let low = c.requires.within in
    let is : cell_at cells p ≡ Var k = get_or_from_slice_get cells p c.get.result.now (Var 0) c.get.ensures ∙ c.in-Some.ensures in
    let first : c.place-first.result ≡ variable_place cells k = c.place-first.ensures ∙ ap (λ cs. variable_place cs k) c.as_slice.ensures in
    let there = shape_again cells p k vars firsts places c.requires.so_far low is (λ e. c.if-first-p.false (first ∙ e)) in
    rw c.in_ok-push-2.ensures.items
    (shape_on cells p c.place-first.result vars firsts places c.requires.so_far (subst (λ q. q < length cells) (sym first) (place_holds cells k (contains_at cells p k low is)).0)
    (λ j other. first ∙ ap (variable_place cells) (one_var (cell_at cells p) k j is other)) (λ j other. subst (λ y. Contains vars y) (one_var (cell_at cells p) k j is other) there))
