-- The lines so far are those of the scopes so far, and the next scope's come to the end.
use Rattle.std.proofs.Common.{◌≡◌, ◌+◌, ◌∙◌, ℕ, List, [], ◌∷◌, ◌++◌, take, refl, sym, ap, subst, arith}
use Rattle.std.proofs.lemmas.List.{take_all, take_more}
use Rattle.su_show.specs.Lines.{AreLines}
use Rattle.su_show.specs.inside.AddedTexts.{Adds}
use Rattle.su_show.proofs.Lines.{adds_one}
use Rattle.su_dangling_text.specs.declared.scopes.Scope.{Scope}
use Rattle.su_dangling_text.specs.Lines.{LinesOf}
use Rattle.su_dangling_text.proofs.telling.dangling_text.Goals as goal

pub loop-scope-init : goal.loop-scope-init
loop-scope-init c = ([], c.new-out.ensures.items, refl)

pub loop-scope-preserved : goal.loop-scope-preserved
loop-scope-preserved c =
    let P = LinesOf c.args.db.now in
    let scopes = c.args.scopes.now in
    let i = c.loop-scope.scope-index in
    let scope : Scope = c.scope-item.result in
    let next : take (i + 1) scopes ≡ take i scopes ++ scope ∷ [] = take_more scopes i scope c.loop-scope-test.true ∙ ap (λ (x : Scope). take i scopes ++ x ∷ []) (sym c.scope-item.is) in
    subst (λ (xs : List Scope). Adds (AreLines P xs) [] c.push_scope.new.out.items) (sym next)
    (adds_one P (take i scopes) scope [] c.loop-scope.out.items c.push_scope.new.out.items c.loop-scope.invariant c.in_ok-push_scope.ensures)

pub returns : goal.returns
returns c =
    let P = LinesOf c.args.db.now in
    let scopes = c.args.scopes.now in
    let w = c.loop-scope.invariant in
    let all : take c.loop-scope.scope-index scopes ≡ scopes = take_all c.loop-scope.scope-index scopes (let t = c.loop-scope-test.false in omega arith) in
    subst (λ (text : List ℕ). AreLines P scopes text) (sym (c.from_vec.ensures ∙ w.1)) (subst (λ (xs : List Scope). AreLines P xs w.0) all w.2)
