-- The symbols so far are alike from the place on; lists of one length are alike exactly where each pair of symbols is, and a pair that isn't tells them apart.
use Rattle.std.proofs.Common.{◌∙◌, refl, sym, ap, arith, true≢false}
use Rattle.std.proofs.lemmas.List.{get_or_default}
use Rattle.su_min.specs.inside.Constants.{with_one_variable}
use Rattle.su_min.proofs.Likeness.{ends_same, ends_at}
use Rattle.su_min.proofs.alike.ends_are_alike.Goals as goal

pub returns-then-not-is_alike : goal.returns-then-not-is_alike
returns-then-not-is_alike c =
    let xs = c.args.xs.now in let ys = c.args.ys.now in let i = c.loop-i.i in (
      λ none. absurd (true≢false (sym none)),
      λ same.
          let e = ends_at xs ys c.args.start i c.index-xs-i.result c.requires same (omega arith) (omega arith) in
          let x = ap with_one_variable c.index-xs-i.is in
          let y = ap with_one_variable (c.index-ys-i.is ∙ get_or_default ys i c.index-ys-i.result c.index-xs-i.result (let l = c.requires in omega arith)) in
          absurd (true≢false (sym (c.is_alike.ensures.1 (x ∙ e ∙ sym y)) ∙ c.if-not-is_alike.true)),
    )

pub returns : goal.returns
returns c = (
  λ one. ends_same c.args.xs.now c.args.ys.now c.args.start c.requires (λ k d low high. c.loop-i.invariant k d low (omega arith)),
  λ same. refl,
)
