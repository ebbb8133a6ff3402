-- Each masked row so far has its own targets that are in the mask as its domain; a row whose domain is empty has no target at all.
use Rattle.std.proofs.Common.{◌≡◌, ◌↔◌, ◌∙◌, ℕ, get_or, sym, ap, subst, true≢false, arith, below_more}
use Rattle.std.specs.Int.{bit_at}
use Rattle.su_base.proofs.Items.{get_or-set_each}
use Rattle.su_map.specs.inside.Netted.{base_of}
use Rattle.su_map.proofs.Members.{no_member}
use Rattle.su_map.proofs.rooms.begin.Goals as goal
use Rattle.su_map.proofs.rooms.begin.Goals.{then-has+else-left-eq0, else-has}

pub loop-r-preserved : goal.loop-r-preserved
loop-r-preserved c = λ r low.
    let n = c.loop-r.r in
    let P : ℕ → ℕ → Type 0 = λ r v. bit_at c.args.rows r ≡ 1 → (x : ℕ) → (bit_at v x ≡ 1) ↔ ((bit_at (base_of c.args.net.now r) x ≡ 1) × (bit_at c.args.to_mask x ≡ 1)) in
    elim c.if-has.branch [
      | then-has+else-left-eq0 w ↦ subst (λ d. P r (get_or d r 0)) (sym w.domains-is) (get_or-set_each P 0 c.loop-r.domains n w.both-left.result (omega arith) c.loop-r.invariant (λ one x. subst (λ b. (bit_at w.both-left.result x ≡ 1) ↔ ((bit_at b x ≡ 1) × (bit_at c.args.to_mask x ≡ 1))) w.base.ensures (w.both-left.ensures x)) r low)
      | else-has w ↦ subst (λ d. P r (get_or d r 0)) (sym w.domains-is) (below_more (λ r. P r (get_or c.loop-r.domains r 0)) n c.loop-r.invariant (λ one. absurd (true≢false (sym (c.has.ensures.1 one) ∙ w.if-has.false))) r low)
    ]

pub returns-then-left-eq0-clause-none : goal.returns-then-left-eq0-clause-none
returns-then-left-eq0-clause-none c = λ no'. (c.loop-r.r, omega arith, c.has.ensures.0 c.if-has.true, λ x b k. no_member c.both-left.result x c.if-left-eq0.true ((c.both-left.ensures x).1 (ap (λ m. bit_at m x) c.base.ensures ∙ b, k)))
