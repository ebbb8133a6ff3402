-- The rows so far are sent to rows of the universe; a row that is not sent there shows that the valuation doesn't send them all.
use Rattle.std.proofs.Common.{◌≡◌, [], get_or, Contains, refl, sym, ◌∙◌, subst, arith, true≢false, below_more}
use Rattle.std.proofs.lemmas.List.{get_or_default}
use Rattle.su_tableau.specs.Valuations.{nth, values_of}
use Rattle.su_tableau.specs.Tableaux.{AreBelow}
use Rattle.su_tableau.proofs.valuations.holds.Goals as goal

pub is_sent-requires : goal.is_sent-requires
is_sent-requires c = subst (AreBelow _) (sym c.row.ensures.is) (c.requires.rows c.loop-i.i [] (omega arith))

pub returns-then-not-is_sent : goal.returns-then-not-is_sent
returns-then-not-is_sent c = (
  λ no. absurd (true≢false (sym no)),
  λ sends. sym (c.if-not-is_sent.true) ∙ c.is_sent.ensures.1 (subst (λ r. Contains c.args.universe.now (values_of (nth c.args.values.now) r)) (sym c.row.ensures.is) (sends c.loop-i.i [] (omega arith))),
)

pub loop-i-preserved : goal.loop-i-preserved
loop-i-preserved c = λ n d.
    let i = c.loop-i.i in
    let same : c.row.result.now ≡ get_or c.args.t.now.rows i d = c.row.ensures.is ∙ get_or_default c.args.t.now.rows i [] d (omega arith) in
    below_more (λ n. Contains c.args.universe.now (values_of (nth c.args.values.now) (get_or c.args.t.now.rows n d))) i (λ n h. c.loop-i.invariant n d h)
    (subst (λ r. Contains c.args.universe.now (values_of (nth c.args.values.now) r)) same (c.is_sent.ensures.0 c.if-not-is_sent.false)) n

pub returns : goal.returns
returns c = (λ yes k d h. c.loop-i.invariant k d (omega arith), λ sends. refl)
