-- A term that isn't kept has its cover's line for its end; that it were kept after all contradicts the test.
use Rattle.std.proofs.Common.{inr, refl, sym, ◌∙◌}
use Rattle.std.proofs.lemmas.Bool.{true≢false}
use Rattle.std.proofs.lemmas.Result.{on_ok_weaker}
use Rattle.su_show.specs.MinimalLines.{cover_of, cover_text}
use Rattle.su_show.proofs.minimal_lines.push_end.Goals as goal

pub returns-else-is_kept : goal.returns-else-is_kept
returns-else-is_kept c =
    on_ok_weaker c.push_cover_of.result
    (λ e. (cover_text (cover_of c.args.reduced.now c.args.number), e, inr (λ kept. true≢false (sym (c.is_kept.ensures.1 kept) ∙ c.if-is_kept.false), refl)))
    c.push_cover_of.ensures
