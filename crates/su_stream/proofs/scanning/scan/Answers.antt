-- The bytes before the count are behind the text, and each one more moves its state.
use Rattle.std.proofs.Common.{◌<◌, length, ap, sym, ◌∙◌, ◌++◌, ◌∷◌, [], take, get_or, append_assoc, subst, arith}
use Rattle.std.proofs.lemmas.List.{take_more}
use Rattle.su_stream.specs.inside.OpenTexts.{IsAt}
use Rattle.su_stream.proofs.Steps.{one_step}
use Rattle.su_stream.proofs.scanning.scan.Goals as goal

pub loop-count-preserved : goal.loop-count-preserved
loop-count-preserved c =
    let bytes = c.args.bytes.now in
    let n = c.loop-count.count in
    let byte = get_or bytes n 0 in
    let less : n < length bytes = omega (arith, c.loop-count-test.true) in
    record {
      within = omega (arith, less);
      at = λ text a.
          let step = one_step c.loop-count.state (text ++ take n bytes) byte (sym c.if-ends.ensures) (c.loop-count.invariant.at text a) in
          let same = append_assoc text (take n bytes) (byte ∷ []) ∙ ap (λ v. text ++ v) (sym (take_more bytes n 0 less)) in
          rw c.after-state.ensures (subst (IsAt _) same step);
    }
