-- Each row that is near keeps the targets that agree with one in the row's domain; a choice sends both to targets that agree, so it keeps its own, and an empty set leaves no choice.
use Rattle.std.proofs.Common.{◌≡◌, ◌∙◌, ℕ, length, sym, ap, arith}
use Rattle.std.specs.Int.{bit_at}
use Rattle.su_map.specs.inside.Choices.{IsChoice}
use Rattle.su_map.proofs.Members.{no_member, without_in, with_in}
use Rattle.su_map.proofs.ShrunkDomains.{set_choice, set_shrinks, set_alive}
use Rattle.su_map.proofs.domains.revise.Goals as goal
use Rattle.su_map.proofs.domains.revise.Goals.{After-supported-left, then-left-before, else-left-before}

-- what a choice has for row q stays
stays : (c : After-supported-left) (choice : ℕ → ℕ) → IsChoice c.args.net.now (length c.args.domains.now) c.args.mask c.args.domains.now choice → bit_at c.supported-left.result (choice c.lowest-q.result) ≡ 1
stays c choice ch =
    let q = c.lowest-q.result in let row = c.args.row in
    let now = c.loop.invariant.all choice ch in
    let r = c.loop.invariant.rest q c.lowest-q.ensures.member in
    let hr = c.requires.mask row c.requires.row in
    let hq = c.requires.mask q r.0 in
    c.supported-left.ensures.supported (choice row) (choice q) (now.within row hr c.requires.row) (now.within q hq r.0) (now.fit row q hr hq c.requires.row r.0 (λ e. r.2 (sym e)) r.1)

pub returns-then-left-eq0-clause-none : goal.returns-then-left-eq0-clause-none
returns-then-left-eq0-clause-none c = λ none choice ch.
    no_member c.supported-left.result (choice c.lowest-q.result) c.if-left-eq0.true (stays (goal.at.returns-then-left-eq0-clause-none c).After-supported-left choice ch)

pub loop-preserved : goal.loop-preserved
loop-preserved c =
    let q = c.lowest-q.result in
    let n = length c.args.domains.now in
    let r = c.loop.invariant.rest q c.lowest-q.ensures.member in
    let hq = c.requires.mask q r.0 in
    record {
      rest = λ p one. c.loop.invariant.rest p (without_in c.loop.rest c.without-fewer.result q p c.without-fewer.ensures.same c.without-fewer.ensures.out one);
      shrinks = set_shrinks n q c.supported-left.result c.args.domains.now c.loop.domains (omega arith) c.supported-left.ensures.wanted c.loop.invariant.shrinks;
      alive = λ p h. set_alive q c.supported-left.result c.loop.domains (omega arith) (let l = c.if-left-eq0.false in omega arith) p (c.loop.invariant.alive p h);
      all = λ choice ch. set_choice c.args.net.now n c.args.mask q c.supported-left.result c.loop.domains choice (omega arith) (stays (goal.at.loop-preserved c).After-supported-left choice ch) (c.loop.invariant.all choice ch);
      within = λ p one.
          elim c.if-left-before.branch [
            | then-left-before w ↦ with_in (λ p. bit_at c.args.mask p ≡ 1) c.loop.shrunk w.with-shrunk.result q w.with-shrunk.ensures.same r.0 c.loop.invariant.within p (ap (λ s. bit_at s p) (sym w.shrunk-is) ∙ one)
            | else-left-before w ↦ c.loop.invariant.within p (ap (λ s. bit_at s p) (sym w.shrunk-is) ∙ one)
          ];
    }
