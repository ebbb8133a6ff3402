-- An edge of no variables with the row of no values excludes nothing, so it may stand for no edges.
use Rattle.std.proofs.Common.{◌≡◌, ◌<◌, ◌++◌, ◌∷◌, [], List, ℕ, length, refl, ap, ◌∙◌, inl, inr, rules, arith}
use Rattle.std.proofs.lemmas.List.{nil_from_length}
use Rattle.su_exec.specs.inside.Edges.{Edge}
use Rattle.su_exec.proofs.executing.some_edges.Goals as goal

pub returns-then-not-is_empty : goal.returns-then-not-is_empty
returns-then-not-is_empty c =
    let many : 0 < length c.args.edges.items = search (rules, c.if-not-is_empty.true, c.is_empty.ensures) in
    (many, inl refl)

pub returns : goal.returns
returns c =
    let es : List (Edge ℕ) = c.args.edges.items in
    let few : length es ≡ 0 = search (rules, c.if-not-is_empty.false, c.is_empty.ensures) in
    let none : es ≡ [] = nil_from_length es few in
    let unit : Edge ℕ = record { vars = []; rows = [] ∷ [] } in
    let is : c.push.new.self.items ≡ unit ∷ [] = c.in_ok-push.ensures.items ∙ ap (λ xs. xs ++ c.in_ok-unit.unit ∷ []) none ∙ ap (λ (e : Edge ℕ). e ∷ []) c.in_ok-unit.ensures in
    let one : length c.push.new.self.items ≡ 1 = ap length is in
    (omega arith, inr (none, is))
