-- Propagating keeps every choice and only shrinks domains, so what was assigned stays so, and a choice that sends the row to the target would be left at the end.
use Rattle.std.proofs.Common.{◌≡◌, ◌∙◌, ℕ, length, sym, subst}
use Rattle.su_map.specs.inside.Choices.{IsChoice, Shrinks}
use Rattle.su_map.proofs.ShrunkDomains.{assigned_then}
use Rattle.su_map.proofs.domains.descend.Goals as goal

pub returns-in-Some-clause-left : goal.returns-in-Some-clause-left
returns-in-Some-clause-left c = λ yes.
    let n = length c.args.domains.now in let net = c.args.net.now in let m = c.args.mask in
    let mid = c.assign.new.next in let new = c.propagate.new.domains in
    let len : length mid ≡ n = c.assign.auto.next ∙ c.requires.next in
    assigned_then net n m c.args.row c.args.target c.args.domains.now mid new (c.requires.mask c.args.row c.requires.row) c.requires.mask
    (subst (λ k. Shrinks k mid new) len c.propagate.ensures.shrinks)
    c.propagate.ensures.alive
    (subst (λ k. (choice : ℕ → ℕ) → IsChoice net k m mid choice → IsChoice net k m new choice) len c.propagate.ensures.all)
    c.in-Some.ensures.left

pub returns-in-Some-clause-none : goal.returns-in-Some-clause-none
returns-in-Some-clause-none c = λ no' choice ch is.
    let n = length c.args.domains.now in let net = c.args.net.now in let m = c.args.mask in
    let len : length c.assign.new.next ≡ n = c.assign.auto.next ∙ c.requires.next in
    c.propagate.ensures.none no' choice (subst (λ k. IsChoice net k m c.assign.new.next choice) (sym len) (c.in-Some.ensures.left.all choice ch is))
