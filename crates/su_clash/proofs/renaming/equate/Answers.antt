-- What the symbols are called is put together, and with it the symbols.
use Rattle.std.proofs.Common.{◌≡◌, ◌∙◌, List, Option, sym, ap, subst}
use Rattle.std.specs.Prelude.{MatchOption}
use Rattle.std.proofs.lemmas.Result.{IfOk-weaker}
use Rattle.su_clash.specs.declared.renaming.Pair.{Pair}
use Rattle.su_clash.specs.declared.renaming.Rename.{Rename}
use Rattle.su_clash.specs.inside.Renames.{renamed, AreOne, Makes, Meet}
use Rattle.su_clash.proofs.Names.{same_is, already, told_at}
use Rattle.su_clash.proofs.renaming.equate.Goals as goal

pub returns-then-are_equal : goal.returns-then-are_equal
returns-then-are_equal c =
    let old = c.args.renames.now in
    let x = c.args.x.now in
    let y = c.args.y.now in
    already old x y (subst (λ (rs : List Rename). renamed rs x ≡ renamed rs y) c.as_slice.ensures
    (same_is (renamed c.as_slice.result.now x) (renamed c.as_slice.result.now y) (sym c.are_equal.ensures ∙ c.if-are_equal.true)))

pub put_together-requires-clause-from : goal.put_together-requires-clause-from
put_together-requires-clause-from c =
    let old = c.args.renames.now in
    let x = c.args.x.now in
    let is : c.in_ok-from.from ≡ renamed old x = c.in_ok-from.ensures ∙ c.name_of.ensures ∙ ap (λ (rs : List Rename). renamed rs x) c.as_slice-2.ensures in
    ap (renamed old) is ∙ c.requires.again x ∙ sym is

pub put_together-requires-clause-to : goal.put_together-requires-clause-to
put_together-requires-clause-to c =
    let old = c.args.renames.now in
    let y = c.args.y.now in
    let is : c.in_ok-to.to ≡ renamed old y = c.in_ok-to.ensures ∙ c.name_of-2.ensures ∙ ap (λ (rs : List Rename). renamed rs y) c.as_slice-3.ensures in
    ap (renamed old) is ∙ c.requires.again y ∙ sym is

pub returns : goal.returns
returns c =
    let old = c.args.renames.now in
    let x = c.args.x.now in
    let y = c.args.y.now in
    let from_is : c.in_ok-from.from ≡ renamed old x = c.in_ok-from.ensures ∙ c.name_of.ensures ∙ ap (λ (rs : List Rename). renamed rs x) c.as_slice-2.ensures in
    let to_is : c.in_ok-to.to ≡ renamed old y = c.in_ok-to.ensures ∙ c.name_of-2.ensures ∙ ap (λ (rs : List Rename). renamed rs y) c.as_slice-3.ensures in
    let from = c.in_ok-from.from in
    let to = c.in_ok-to.to in
    let new = c.put_together.new.renames in
    IfOk-weaker c.put_together.result (λ (met : Option Pair). MatchOption met (Makes (AreOne from to) old new) (Meet (AreOne from to) old)) (λ (met : Option Pair). MatchOption met (Makes (AreOne x y) old new) (Meet (AreOne x y) old))
    (λ met told. told_at old c.requires x y from to from_is to_is met new told) c.put_together.ensures
