-- What is found so far are the constants of the rows so far that have constants at all of the attributes; at the end the rows so far are all rows.
use Rattle.std.proofs.Common.{◌≡◌, ◌↔◌, ◌∙◌, ℕ, List, take, length, Contains, sym, ap, subst, arith}
use Rattle.su_base.specs.declared.values.Value.{Value}
use Rattle.std.proofs.Math.Seq.{take-length}
use Rattle.su_tableau.specs.declared.symbols.Sym.{Sym}
use Rattle.su_tableau.specs.Tableaux.{AreBelow}
use Rattle.su_window.specs.inside.Readings.{AreConstants}
use Rattle.su_window.proofs.Constants.{rows_more}
use Rattle.su_window.proofs.windows.constant_rows.Goals as goal

pub push_constants-requires-clause-below : goal.push_constants-requires-clause-below
push_constants-requires-clause-below c =
    subst (AreBelow (length c.args.names.now)) (sym (c.as_slice.ensures ∙ c.row-item.is)) (c.requires.below c.loop-row.row-index c.row-item.result c.loop-row-test.true)

pub loop-row-preserved : goal.loop-row-preserved
loop-row-preserved c =
    rows_more c.args.names.now c.args.rows.now c.args.attributes.now c.loop-row.row-index c.as_slice.result.now c.row-item.result c.loop-row.found c.push_constants.new.found c.loop-row-test.true c.row-item.is c.as_slice.ensures c.in_ok-push_constants.ensures c.loop-row.invariant

pub returns : goal.returns
returns c =
    let rows = c.args.rows.now in
    let done = c.loop-row-test.false in
    let end = c.loop-row.auto.row-index-end in
    let whole : take c.loop-row.row-index rows ≡ rows = ap (λ (k : ℕ). take k rows) (omega (arith, done, end)) ∙ take-length rows in
    subst (λ (rs : List (List Sym)). (h : List Value) → Contains c.loop-row.found h ↔ ((row : List Sym) × Contains rs row × AreConstants c.args.names.now row c.args.attributes.now h)) whole c.loop-row.invariant
