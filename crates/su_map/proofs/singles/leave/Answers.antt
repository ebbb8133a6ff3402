-- A sending that sends the row to the target sends row q to a target that agrees with it, so that none is lost where the domain of q is cut to these; an empty domain shows that there is none.
use Rattle.std.proofs.Common.{◌≡◌, ◌∙◌, ℕ, [], Contains, refl, subst, arith}
use Rattle.std.specs.Int.{bit_at}
use Rattle.su_tableau.specs.declared.symbols.Sym.TheVariants.{Var}
use Rattle.su_map.specs.Lists.{row_of}
use Rattle.su_map.specs.inside.Sendings.{IsSending}
use Rattle.su_map.proofs.Members.{no_member}
use Rattle.su_map.proofs.Sendings.{rows_fewer, sending_stays, told_sending}
use Rattle.su_map.proofs.singles.leave.Goals as goal
use Rattle.su_map.proofs.singles.leave.Goals.{After-agreeing-left}

pub fill_shared-requires-clause-below : goal.fill_shared-requires-clause-below
fill_shared-requires-clause-below c = λ k has. c.requires.sides.symbols.rows c.args.q [] c.requires.other k (subst (λ r. Contains r (Var k)) c.row-2.ensures.is has)

pub fill_shared-requires-clause-noted : goal.fill_shared-requires-clause-noted
fill_shared-requires-clause-noted c = λ k has. c.requires.sides.noted c.args.row c.requires.row c.requires.row_in k (subst (λ r. Contains r (Var k)) c.row.ensures.is has)

pub agreeing-left-requires-clause-columns : goal.agreeing-left-requires-clause-columns
agreeing-left-requires-clause-columns c = λ e a low is.
    let wide = c.row-2.ensures.width in
    let same = c.requires.sides.width in
    let v = c.fill_shared.ensures.is_var e a (omega arith) is in
    let cell = c.fill_shared.ensures.some e a v.0 (omega arith) is v.1 in
    let b = cell.below in
    let w = c.row.ensures.width in
    omega arith

pub agreeing-left-requires-clause-within : goal.agreeing-left-requires-clause-within
agreeing-left-requires-clause-within c = λ j h. c.requires.rows c.args.q j c.requires.other (c.is_other.ensures c.if-not-is_other.false) h

-- what a sending has for row q stays
stays : (c : After-agreeing-left) (a : ℕ → ℕ) → IsSending c.args.sides.now.from.now c.args.sides.now.mask c.args.sides.now.to.now c.args.domains.now a → a c.args.row ≡ c.args.target → bit_at c.agreeing-left.result (a c.args.q) ≡ 1
stays c a f is =
    let from = c.args.sides.now.from.now in let to = c.args.sides.now.to.now in let q = c.args.q in
    let other = c.is_other.ensures c.if-not-is_other.false in
    (c.agreeing-left.ensures (a q)).1 (
      f.within q c.requires.other other,
      told_sending from to c.args.sides.now.mask c.args.domains.now a c.args.row q c.args.target c.fill_shared.new.columns c.head.result.now c.row.result.now c.row-2.result.now (row_of to c.args.target)
          c.head.ensures c.row.ensures.is c.row-2.ensures.is refl (c.keeps_its_rules.ensures.valid.widths q [] c.requires.other ∙ c.requires.sides.width)
          c.requires.row c.requires.other c.requires.row_in other c.fill_shared.ensures f is,
    )

pub returns-clause-rows : goal.returns-clause-rows
returns-clause-rows c =
    rows_fewer c.args.sides.now.from.now c.args.sides.now.mask c.args.sides.now.to.now c.args.domains.now c.args.q c.agreeing-left.result (let l = c.requires.other in let r = c.requires.room in omega arith) (λ x one. ((c.agreeing-left.ensures x).0 one).0) c.requires.rows

pub returns-clause-all : goal.returns-clause-all
returns-clause-all c = λ a f is.
    sending_stays c.args.sides.now.from.now c.args.sides.now.mask c.args.sides.now.to.now c.args.domains.now c.args.q c.agreeing-left.result a (let l = c.requires.other in let r = c.requires.room in omega arith) (stays (goal.at.returns-clause-all c).After-agreeing-left a f is) f

pub returns-then-left-eq0-clause-none : goal.returns-then-left-eq0-clause-none
returns-then-left-eq0-clause-none c = λ no' a f is. no_member c.agreeing-left.result (a c.args.q) c.if-left-eq0.true (stays (goal.at.returns-then-left-eq0-clause-none c).After-agreeing-left a f is)
