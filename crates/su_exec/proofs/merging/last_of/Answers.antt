-- A body of one edge gives what that edge gives, and shrinking it keeps that and leaves no check.
use Rattle.std.proofs.Common.{◌≡◌, ◌∷◌, [], List, ℕ, sym, subst}
use Rattle.su_exec.specs.declared.checks.Check.{Check}
use Rattle.su_exec.specs.inside.Bodies.{AreThere}
use Rattle.su_exec.specs.inside.Edges.{Edge}
use Rattle.su_exec.proofs.MergeSteps.{last_is, last_keeps, last_vars}
use Rattle.su_exec.proofs.merging.last_of.Goals as goal

pub returns : goal.returns
returns c =
    let values = c.args.codes.now in
    let needed = c.args.needed.now in
    let es : List (Edge ℕ) = c.args.body.edges.items in
    let olds : List Check = c.args.body.checks.items in
    let a : Edge ℕ = c.remove-last.result in
    let rest : List (Edge ℕ) = c.remove-last.new.self.items in
    let g : Edge ℕ = c.in_ok-whole.whole in
    let news : List Check = c.shrunk.new.rest.checks.items in
    let after : List (Edge ℕ) = c.shrunk.new.rest.edges.items in
    let one = last_is es rest a c.requires.one c.remove-last.ensures.value c.remove-last.ensures.items in
    let there : AreThere needed olds (a ∷ []) = subst (λ (xs : List (Edge ℕ)). AreThere needed olds xs) one.0 c.requires.there in
    let none : news ≡ [] = c.in_ok-whole.ensures.settled one.1 there in
    let behind : AreThere needed olds (a ∷ rest) = subst (λ (xs : List (Edge ℕ)). AreThere needed olds (a ∷ xs)) (sym one.1) there in
    record {
      keeps = last_keeps values needed olds news es rest after a g one.0 one.1 c.in_ok-whole.ensures.edges none c.in_ok-whole.ensures.keeps;
      vars = last_vars needed news rest after g one.1 c.in_ok-whole.ensures.edges (c.in_ok-whole.ensures.there behind);
    }
