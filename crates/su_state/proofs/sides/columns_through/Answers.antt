-- The columns so far are those from which the object takes the attributes below the next; all attributes asked for are the schema's, so at the end none is missing.
use Rattle.std.proofs.Common.{sym, ◌∙◌, arith}
use Rattle.std.proofs.lemmas.Bool.{false≢true}
use Rattle.su_state.proofs.Columns.{columns_none, columns_skip, columns_with, columns_all}
use Rattle.su_state.proofs.sides.columns_through.Goals as goal
use Rattle.su_state.proofs.sides.columns_through.Goals.{then-contains, else-contains}

pub loop-a-init : goal.loop-a-init
loop-a-init c = λ entry at. columns_none entry c.args.attributes c.empty-columns.result c.empty-columns.ensures

pub loop-a-preserved : goal.loop-a-preserved
loop-a-preserved c =
    elim c.if-contains.branch [
      | then-contains w ↦ λ entry at. rw w.columns-is (columns_with entry c.args.attributes c.loop-a.columns c.loop-a.a w.with_column-columns.result (c.loop-a.invariant entry at) (sym w.if-contains.ensures) (w.with_column-columns.ensures entry at))
      | else-contains w ↦ λ entry at. rw w.columns-is (columns_skip entry c.args.attributes c.loop-a.columns c.loop-a.a (c.loop-a.invariant entry at) (λ k in' _. false≢true (w.if-contains.ensures ∙ in')))
    ]

pub returns : goal.returns
returns c = λ entry at. columns_all entry c.args.attributes c.loop-a.columns c.loop-a.a (c.loop-a.invariant entry at) (λ a in'. let below = c.requires.attributes a in' in omega (arith, below))
