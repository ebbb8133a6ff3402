-- The mark is three bytes, and stripping it leaves what stands behind them; without one nothing is stripped.
use Rattle.std.proofs.Common.{◌≡◌, ◌∙◌, ◌-◌, sym, take, drop, length}
use Rattle.std.proofs.lemmas.List.{length-drop}
use Rattle.std.proofs.Math.Seq.{take-length}
use Rattle.su_csv.proofs.RecordsSoFar.{with-mark, without-mark}
use Rattle.su_csv.proofs.reading.without_mark.Goals as goal

pub returns-then-has_mark : goal.returns-then-has_mark
returns-then-has_mark c =
    let whole : take (length c.args.bytes.now - 3) (drop 3 c.args.bytes.now) ≡ drop 3 c.args.bytes.now = rw (← length-drop 3 c.args.bytes.now) (take-length (drop 3 c.args.bytes.now)) in
    whole ∙ sym (with-mark c.args.bytes.now (sym c.has_mark.ensures ∙ c.if-has_mark.true))

pub returns-else-has_mark : goal.returns-else-has_mark
returns-else-has_mark c = sym (without-mark c.args.bytes.now (sym c.has_mark.ensures ∙ c.if-has_mark.false))
