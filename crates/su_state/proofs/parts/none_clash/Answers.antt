-- The rows so far agree on the right side with the first one of their left part, so any two of them with one left part agree with each other.
use Rattle.std.proofs.Common.{◌++◌, ◌<◌, ◌≤◌, ◌+◌, List, [], length, refl, subst, sym, ap, ◌∙◌, arith}
use Rattle.std.proofs.lemmas.List.{length-append}
use Rattle.std.proofs.lemmas.List.Elements.{All-append, Contains-get_or}
use Rattle.su_base.specs.declared.values.Value.{Value}
use Rattle.su_state.specs.inside.Sides.{AgreeAt, row_at}
use Rattle.su_state.specs.inside.Parts.{noted_in, Notes}
use Rattle.su_state.proofs.Noted.{alike_more, noted_within, none_of_alike}
use Rattle.su_state.proofs.parts.none_clash.Goals as goal

pub loop-position-preserved : goal.loop-position-preserved
loop-position-preserved c =
    let rows : List (List Value) = c.args.stored.now ++ c.args.more.now in
    let n = c.loop-position.position in
    let first = c.in_ok-first.first in
    let old = noted_in c.loop-position.notes in
    let new = noted_in c.first_with.new.notes in
    let notes : Notes c.args.sides.now.left old new (row_at rows n) n first = subst (λ (row : List Value). Notes c.args.sides.now.left old new row n first) c.row_in_both-row.ensures c.in_ok-first.ensures in
    let alike : AgreeAt c.args.sides.now.right (row_at rows n) (row_at rows first) =
    subst (λ (row : List Value). AgreeAt c.args.sides.now.right row (row_at rows first)) c.row_in_both-row.ensures
    (subst (AgreeAt c.args.sides.now.right c.row_in_both-row.result.now) c.row_in_both.ensures (c.if-not-agree.ensures.0 refl)) in
    alike_more c.args.sides.now rows old new n first c.loop-position.invariant notes alike

pub returns : goal.returns
returns c =
    let rows : List (List Value) = c.args.stored.now ++ c.args.more.now in
    none_of_alike c.args.sides.now rows (noted_in c.loop-position.notes) c.loop-position.position (omega (arith, length-append c.args.stored.now c.args.more.now)) c.loop-position.invariant c.requires.width

pub agree-requires-clause-same : goal.agree-requires-clause-same
agree-requires-clause-same c =
    let rows : List (List Value) = c.args.stored.now ++ c.args.more.now in
    let n = c.loop-position.position in
    let first = c.in_ok-first.first in
    let old = noted_in c.loop-position.notes in
    let new = noted_in c.first_with.new.notes in
    let notes : Notes c.args.sides.now.left old new (row_at rows n) n first = subst (λ (row : List Value). Notes c.args.sides.now.left old new row n first) c.row_in_both-row.ensures c.in_ok-first.ensures in
    let below : n < length rows = omega (arith, length-append c.args.stored.now c.args.more.now) in
    let within : first < n + 1 = noted_within c.args.sides.now rows old new (row_at rows n) n first c.loop-position.invariant notes in
    ap length c.row_in_both-row.ensures ∙ c.requires.width (row_at rows n) (row_at rows first) (Contains-get_or rows n [] below) (Contains-get_or rows first [] (omega (arith, below, within))) ∙ ap length (sym c.row_in_both.ensures)

pub agree-requires-clause-few : goal.agree-requires-clause-few
agree-requires-clause-few c =
    let rows : List (List Value) = c.args.stored.now ++ c.args.more.now in
    let below : c.loop-position.position < length rows = omega (arith, length-append c.args.stored.now c.args.more.now) in
    rw c.row_in_both-row.ensures (All-append (λ row. length row ≤ 32) c.args.stored.now c.args.more.now c.requires.stored c.requires.more c.loop-position.position [] below)
