-- A choice that sends the row to the target keeps the targets that agree with it, so no choice is lost where a domain is cut to them; an empty domain shows that there is none.
use Rattle.std.proofs.Common.{◌≡◌, ◌≢◌, ◌<◌, ◌∙◌, ℕ, length, length-set, get_or, set, inl, inr, refl, sym, ap, subst, ⊎_elim, arith, get_or-set_other, get_or-set_same}
use Rattle.std.specs.Int.{bit_at}
use Rattle.su_map.specs.inside.Netted.{agree_of}
use Rattle.std.proofs.lemmas.Bool.{cases_eq}
use Rattle.su_map.specs.inside.Choices.{IsChoice}
use Rattle.su_map.proofs.Members.{no_member, without_in}
use Rattle.su_map.proofs.ShrunkDomains.{begun_by, agreed, set_choice, set_shrinks, set_alive}
use Rattle.su_map.proofs.SearchStates.{without_less}
use Rattle.su_map.proofs.domains.assign.Goals as goal
use Rattle.su_map.proofs.domains.assign.Goals.{After-both-left}

pub loop-rest-init : goal.loop-rest-init
loop-rest-init c =
    let n = length c.args.domains.now in let m = c.args.mask in let row = c.args.row in let v = c.bit-left.result in
    let low : row < n = c.requires.mask row c.requires.row in
    let a = begun_by c.args.net.now n m row c.args.target v c.args.domains.now c.copy_from_slice.new.self c.copy_from_slice.ensures.after low c.bit-left.ensures c.requires.in_domain in
    record {
      rest = λ q one.
          let ne : q ≢ row = λ e. absurd (let z = ap (bit_at c.without-rest.result) e ∙ c.without-rest.ensures.out in omega arith) in
          let r = (c.both.ensures q).0 (sym (c.without-rest.ensures.same q ne) ∙ one) in
          (r.0, ap (λ s. bit_at s q) (sym c.near.ensures) ∙ r.1, ne);
      done = λ q x ne op is h. inl (c.without-rest.ensures.same q (λ e. ne (sym e)) ∙ (c.both.ensures q).1 (op, ap (λ s. bit_at s q) c.near.ensures ∙ is));
      size = length-set c.copy_from_slice.new.self row v ∙ ap length c.copy_from_slice.ensures.after;
      shrinks = a.shrinks;
      only = a.only;
      alive = a.alive;
      all = a.all;
      changed = λ q one. ⊎_elim (λ (e : bit_at 0 q ≡ 1). absurd (no_member 0 q refl e)) (λ (e : q ≡ row). subst (λ q. bit_at m q ≡ 1) (sym e) c.requires.row) (c.noted-changed.ensures q one);
    }

-- what a choice has for row q stays
stays : (c : After-both-left) (choice : ℕ → ℕ) → IsChoice c.args.net.now (length c.args.domains.now) c.args.mask c.args.domains.now choice → choice c.args.row ≡ c.args.target → bit_at c.both-left.result (choice c.lowest-q.result) ≡ 1
stays c choice ch is =
    let q = c.lowest-q.result in let row = c.args.row in
    let now = c.loop-rest.invariant.all choice ch is in
    let r = c.loop-rest.invariant.rest q c.lowest-q.ensures.member in
    let hr = c.requires.mask row c.requires.row in
    let hq = c.requires.mask q r.0 in
    (c.both-left.ensures (choice q)).1 (
      now.within q hq r.0,
      ap (λ s. bit_at s (choice q)) c.agree.ensures ∙ agreed c.args.net.now row q c.args.target choice is (now.fit row q hr hq c.requires.row r.0 (λ e. r.2 (sym e)) r.1),
    )

pub returns-then-left-eq0-clause-none : goal.returns-then-left-eq0-clause-none
returns-then-left-eq0-clause-none c = λ none choice ch is.
    no_member c.both-left.result (choice c.lowest-q.result) c.if-left-eq0.true (stays (goal.at.returns-then-left-eq0-clause-none c).After-both-left choice ch is)

pub loop-rest-preserved : goal.loop-rest-preserved
loop-rest-preserved c =
    let q = c.lowest-q.result in
    let n = length c.args.domains.now in
    let net = c.args.net.now in let row = c.args.row in
    let r = c.loop-rest.invariant.rest q c.lowest-q.ensures.member in
    let hq = c.requires.mask q r.0 in
    let v = c.both-left.result in let next = c.loop-rest.next in
    let low : q < length next = let s = c.loop-rest.invariant.size in omega arith in
    record {
      rest = λ p one. c.loop-rest.invariant.rest p (without_in c.loop-rest.rest c.without-fewer.result q p c.without-fewer.ensures.same c.without-fewer.ensures.out one);
      done = λ p x ne op near h.
          ⊎_elim
          (λ (e : p ≡ q).
          let has : bit_at (get_or (set next q v) q 0) x ≡ 1 = subst (λ p. bit_at (get_or (set next q v) p 0) x ≡ 1) e h in
          let left : bit_at v x ≡ 1 = ap (λ d. bit_at d x) (sym (get_or-set_same next q v 0 low)) ∙ has in
          let agrees = ap (λ s. bit_at s x) (sym c.agree.ensures) ∙ ((c.both-left.ensures x).0 left).1 in
          inr (subst (λ p. bit_at (agree_of net row p c.args.target) x ≡ 1) (sym e) agrees))
          (λ (other : p ≢ q).
          ⊎_elim
          (λ (waits : bit_at c.loop-rest.rest p ≡ 1). inl (c.without-fewer.ensures.same p other ∙ waits))
          (λ (agrees : bit_at (agree_of net row p c.args.target) x ≡ 1). inr agrees)
          (c.loop-rest.invariant.done p x ne op near (ap (λ d. bit_at d x) (sym (get_or-set_other next q p v 0 other)) ∙ h)))
          (cases_eq p q);
      size = length-set next q v ∙ c.loop-rest.invariant.size;
      shrinks = set_shrinks n q v c.args.domains.now next low (λ x one. ((c.both-left.ensures x).0 one).0) c.loop-rest.invariant.shrinks;
      only = λ x one. c.loop-rest.invariant.only x (ap (λ d. bit_at d x) (sym (get_or-set_other next q row v 0 (λ e. r.2 (sym e)))) ∙ one);
      alive = λ p h. set_alive q v next low (let l = c.if-left-eq0.false in omega arith) p (c.loop-rest.invariant.alive p h);
      all = λ choice ch is. set_choice net n c.args.mask q v next choice low (stays (goal.at.loop-rest-preserved c).After-both-left choice ch is) (c.loop-rest.invariant.all choice ch is);
      changed = λ p one.
          ⊎_elim
          (λ (before : bit_at c.loop-rest.changed p ≡ 1). c.loop-rest.invariant.changed p before)
          (λ (e : p ≡ q). subst (λ p. bit_at c.args.mask p ≡ 1) (sym e) r.0)
          (c.noted-changed-in-loop-rest.ensures p one);
    }

pub loop-rest-smaller : goal.loop-rest-smaller
loop-rest-smaller c = without_less c.loop-rest.rest c.without-fewer.result c.lowest-q.result c.lowest-q.ensures.member c.without-fewer.ensures.out c.without-fewer.ensures.same

pub returns-clause-left : goal.returns-clause-left
returns-clause-left c =
    let i = c.loop-rest.invariant in
    record {
      shrinks = i.shrinks;
      only = i.only;
      fits = λ q x ne op near h.
          ⊎_elim
          (λ (waits : bit_at c.loop-rest.rest q ≡ 1). absurd (no_member c.loop-rest.rest q (omega arith) waits))
          (λ (agrees : bit_at (agree_of c.args.net.now c.args.row q c.args.target) x ≡ 1). agrees)
          (i.done q x ne op near h);
      alive = i.alive;
      all = i.all;
    }
