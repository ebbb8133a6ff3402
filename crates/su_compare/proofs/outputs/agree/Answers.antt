-- The kinds of the outputs so far are the same on both sides, and lists of one length that are the same at each place are equal; one place that differs shows that they aren't.
use Rattle.std.proofs.Common.{◌≡◌, true, false, true≢false, get_or, below_more, rules, refl, sym, ap, ◌∙◌, arith}
use Rattle.std.proofs.lemmas.List.{length-map, same_lists}
use Rattle.su_base.specs.declared.values.Kind.{Kind}
use Rattle.su_compare.specs.Outputs.{output_kinds}
use Rattle.su_compare.proofs.outputs.agree.Goals as goal

pub returns-then-not-is_same : goal.returns-then-not-is_same
returns-then-not-is_same c =
    let ks = output_kinds c.args.schema.now c.args.first.now in
    let ls = output_kinds c.args.schema.now c.args.second.now in
    let no' : c.is_same.result ≡ false = search rules in (
      λ f. absurd (true≢false (sym f)),
      λ e. absurd (true≢false (sym (c.is_same.ensures.1 (sym (c.output_kind-kind.ensures c.output_kind-kind.result) ∙ ap (λ xs. get_or xs c.loop-i.i c.output_kind-kind.result) e ∙ c.output_kind.ensures c.output_kind-kind.result)) ∙ no')),
    )

pub loop-i-preserved : goal.loop-i-preserved
loop-i-preserved c =
    let ks = output_kinds c.args.schema.now c.args.first.now in
    let ls = output_kinds c.args.schema.now c.args.second.now in
    let yes' : c.is_same.result ≡ true = search rules in
    let here : (d : Kind) → get_or ks c.loop-i.i d ≡ get_or ls c.loop-i.i d = λ d. c.output_kind-kind.ensures d ∙ c.is_same.ensures.0 yes' ∙ sym (c.output_kind.ensures d) in
    λ k d low. (below_more (λ j. (d : Kind) → get_or ks j d ≡ get_or ls j d) c.loop-i.i (λ j l d. c.loop-i.invariant j d l) here) k low d

pub returns : goal.returns
returns c =
    let schema = c.args.schema.now in
    let ks = output_kinds schema c.args.first.now in
    let ls = output_kinds schema c.args.second.now in
    let m = c.len.ensures in
    let n = c.len-2.ensures in
    let e = c.if-len.false in
    let top = c.len-i-end.ensures in
    let done = c.loop-i-test.false in
    let all : ks ≡ ls = same_lists ks ls (grind (arith, length-map)) (λ k d low. c.loop-i.invariant k d (grind (arith, length-map))) in
    (λ f. all, λ f. refl)
