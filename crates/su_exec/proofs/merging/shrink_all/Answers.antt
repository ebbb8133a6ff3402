-- Each edge is taken from the front, shrunk and put at the end, which keeps what the body gives the needed variables; after as many steps as there are edges each was shrunk.
use Rattle.std.proofs.Common.{◌≡◌, ◌∷◌, ◌++◌, ◌<◌, ◌+◌, [], List, ℕ, length, refl, ap, sym, subst, rules, arith, length-append}
use Rattle.std.proofs.lemmas.List.Edits.{length-remove}
use Rattle.su_exec.specs.declared.checks.Check.{Check}
use Rattle.su_exec.specs.inside.Bodies.{AreThere}
use Rattle.su_exec.specs.inside.Checks.{all_hold}
use Rattle.su_exec.specs.inside.Edges.{Edge, Keeps}
use Rattle.su_exec.proofs.PartSteps.{keeps_refl, keeps_trans}
use Rattle.su_exec.proofs.MergeSteps.{front_is}
use Rattle.su_exec.proofs.merging.shrink_all.Goals as goal

pub loop-init : goal.loop-init
loop-init c = record { len = refl; there = c.requires; keeps = keeps_refl c.args.needed.now c.args.body.now.edges.items (all_hold c.args.codes.now c.args.body.now.checks.items) }

pub loop-preserved : goal.loop-preserved
loop-preserved c =
    let values = c.args.codes.now in
    let needed = c.args.needed.now in
    let start : List (Edge ℕ) = c.args.body.now.edges.items in
    let first : List Check = c.args.body.now.checks.items in
    let es : List (Edge ℕ) = c.loop.body.edges.items in
    let olds : List Check = c.loop.body.checks.items in
    let a : Edge ℕ = c.remove-a.result in
    let rest : List (Edge ℕ) = c.remove-a.new.self.items in
    let g : Edge ℕ = c.in_ok-joined.joined in
    let news : List Check = c.shrunk.new.rest.checks.items in
    let after : List (Edge ℕ) = c.shrunk.new.rest.edges.items in
    let final : List (Edge ℕ) = c.push.new.self.items in
    let len : c.len-end.result ≡ length es = search (rules, c.len-end.ensures, c.loop.invariant.len) in
    let test = c.loop-test.true in
    let low : 0 < length es = omega arith in
    let fewer : length rest + 1 ≡ length es = rw c.remove-a.ensures.items (length-remove es 0 low) in
    let is : es ≡ a ∷ rest = front_is es rest a low c.remove-a.ensures.value c.remove-a.ensures.items in
    let put : final ≡ after ++ g ∷ [] = c.in_ok-push.ensures.items in
    let kept : after ≡ rest = c.in_ok-joined.ensures.edges in
    let step : Keeps needed es (all_hold values olds) final (all_hold values news) =
    subst (λ (fs : List (Edge ℕ)). Keeps needed es (all_hold values olds) fs (all_hold values news)) (sym put)
    (subst (λ (xs : List (Edge ℕ)). Keeps needed xs (all_hold values olds) (after ++ g ∷ []) (all_hold values news)) (sym is) c.in_ok-joined.ensures.keeps) in
    let there : AreThere needed news (after ++ g ∷ []) = c.in_ok-joined.ensures.there (subst (λ (xs : List (Edge ℕ)). AreThere needed olds xs) is c.loop.invariant.there) in
    let longer = length-append after (g ∷ []) in
    let same : length after ≡ length rest = ap length kept in
    let all : length final ≡ length (after ++ g ∷ []) = ap length put in
    let before = c.loop.invariant.len in
    record {
      len = omega arith;
      there = subst (λ (fs : List (Edge ℕ)). AreThere needed news fs) (sym put) there;
      keeps = keeps_trans needed start es final (all_hold values first) (all_hold values olds) (all_hold values news) c.loop.invariant.keeps step;
    }
