-- The values so far have their columns' kinds, so the first that hasn't is the fault; a row of the right width with no such value fits.
use Rattle.std.proofs.Common.{◌≡◌, ◌<◌, ◌+◌, ℕ, slice_get, length, Some, refl, sym, ap, ◌∙◌, arith, below_more}
use Rattle.std.proofs.lemmas.Bool.{false≢true}
use Rattle.std.proofs.lemmas.Option.{slice_get-get_or}
use Rattle.su_base.specs.declared.values.Value.{Value}
use Rattle.su_base.specs.declared.values.Column.{Column}
use Rattle.su_base.specs.Value.{kind_of}
use Rattle.su_state.proofs.Typed.{typed_from}
use Rattle.su_state.proofs.checks.check_row.Goals as goal

pub returns-then-not-has_kind-clause-refused : goal.returns-then-not-has_kind-clause-refused
returns-then-not-has_kind-clause-refused c =
    let at : slice_get c.args.columns.now c.loop-column.column ≡ Some c.index-columns-column.result =
    slice_get-get_or c.args.columns.now c.loop-column.column c.index-columns-column.result c.loop-column-test.true ∙ ap Some (sym c.index-columns-column.is) in (
      sym c.len.ensures ∙ c.if-len-columns.false,
      record {
        other = (c.index-columns-column.result, c.get.result.now, at, c.get.ensures, λ e. false≢true (sym c.if-not-has_kind.true ∙ c.has_kind.ensures.1 (e ∙ ap (λ k. k.kind) c.index-columns-column.is)));
        before = λ k column value less there stored. c.loop-column.invariant k column value less there stored;
      },
      refl,
    )

pub loop-column-preserved : goal.loop-column-preserved
loop-column-preserved c =
    let at : slice_get c.args.columns.now c.loop-column.column ≡ Some c.index-columns-column.result =
    slice_get-get_or c.args.columns.now c.loop-column.column c.index-columns-column.result c.loop-column-test.true ∙ ap Some (sym c.index-columns-column.is) in
    let kinds : kind_of c.get.result.now ≡ c.index-columns-column.result.kind = c.has_kind.ensures.0 c.if-not-has_kind.false ∙ ap (λ k. k.kind) (sym c.index-columns-column.is) in
    let all : (k : ℕ) → k < c.loop-column.column + 1 → (column : Column) (value : Value) → slice_get c.args.columns.now k ≡ Some column → slice_get c.args.row.now k ≡ Some value → kind_of value ≡ column.kind =
    below_more (λ k. (column : Column) (value : Value) → slice_get c.args.columns.now k ≡ Some column → slice_get c.args.row.now k ≡ Some value → kind_of value ≡ column.kind)
    c.loop-column.column
    (λ k less column value there stored. c.loop-column.invariant k column value less there stored)
    (λ column value there stored.
    let one : Some column ≡ Some c.index-columns-column.result = sym there ∙ at in
    let two : Some value ≡ Some c.get.result.now = sym stored ∙ c.get.ensures in
    let same_column : column ≡ c.index-columns-column.result = cc in
    let same_value : value ≡ c.get.result.now = cc in
    ap kind_of same_value ∙ kinds ∙ ap (λ k. k.kind) (sym same_column)) in
    λ k column value less there stored. all k less column value there stored

pub returns-clause-ok : goal.returns-clause-ok
returns-clause-ok c =
    let end : c.loop-column.column ≡ length c.args.columns.now = omega arith in
    typed_from c.args.columns.now c.args.row.now (sym c.len.ensures ∙ c.if-len-columns.false)
    (λ k column value less there stored. c.loop-column.invariant k column value (omega arith) there stored)
