-- Rows go to a target where constants are kept and equal symbols go to equal ones, which is agreement at the shared places, with itself and with the head.
use Rattle.std.proofs.Common.{refl, sym, ◌∙◌, true≢false}
use Rattle.su_refute.proofs.SharedPlaces.{shared_within, at_agree, agree_at}
use Rattle.su_refute.proofs.nets.goes.Goals as goal

pub agree_at-requires : goal.agree_at-requires
agree_at-requires c = shared_within c.args.row.now c.args.row.now _ _ c.args.own.now c.requires.own c.requires.same c.requires.same

pub agree_at-requires-2 : goal.agree_at-requires-2
agree_at-requires-2 c = shared_within c.args.head.now c.args.row.now _ _ c.args.heads.now c.requires.heads refl c.requires.same

pub returns-then-not-keeps_constants : goal.returns-then-not-keeps_constants
returns-then-not-keeps_constants c = (
  λ none. absurd (true≢false (sym none)),
  λ g. absurd (true≢false (sym (c.keeps_constants.ensures.1 g.constants) ∙ c.if-not-keeps_constants.true)),
)

pub returns-then-not-agree_at : goal.returns-then-not-agree_at
returns-then-not-agree_at c =
    let row = c.args.row.now in let target = c.args.target.now in (
      λ none. absurd (true≢false (sym none)),
      λ g. absurd (true≢false (sym (c.agree_at.ensures.1 (agree_at row target row target c.args.own.now c.requires.own g.itself)) ∙ c.if-not-agree_at.true)),
    )

pub returns : goal.returns
returns c =
    let head = c.args.head.now in let row = c.args.row.now in let target = c.args.target.now in (
      λ yes. record {
        constants = c.keeps_constants.ensures.0 c.if-not-keeps_constants.false;
        itself = at_agree row target row target c.args.own.now c.requires.own (c.agree_at.ensures.0 c.if-not-agree_at.false);
        head_symbols = at_agree head head row target c.args.heads.now c.requires.heads (c.agree_at-2.ensures.0 yes);
      },
      λ g. c.agree_at-2.ensures.1 (agree_at head head row target c.args.heads.now c.requires.heads g.head_symbols),
    )
