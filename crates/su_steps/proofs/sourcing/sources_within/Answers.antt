-- The objects found so far are those below the number that have the columns; where these are the essential columns of a row, having them is being one of its sources.
use Rattle.std.proofs.Common.{◌≡◌, ℕ, true, sym, ap, ◌∙◌, arith}
use Rattle.std.specs.FinSet.{contains, is_subset, contains-empty}
use Rattle.std.specs.Ordering.{nat_cmp}
use Rattle.std.proofs.lemmas.Bool.{true≢false, false≢true}
use Rattle.su_tableau.proofs.EssentialCells.{set_more, set_same}
use Rattle.su_steps.specs.Objects.{attributes_at}
use Rattle.su_steps.proofs.Sourced.{source_is, found_are}
use Rattle.su_steps.proofs.sourcing.sources_within.Goals as goal
use Rattle.su_steps.proofs.sourcing.sources_within.Goals.{then-within, else-within}

pub loop-o-init : goal.loop-o-init
loop-o-init c = λ n. (λ one. absurd (false≢true (sym (contains-empty nat_cmp n) ∙ ap (λ s. contains s n) (sym c.empty-found.ensures) ∙ one)), λ h. let l = h.0 in absurd (omega arith))

pub loop-o-preserved : goal.loop-o-preserved
loop-o-preserved c = λ n.
    let P : ℕ → Type 0 = λ o. is_subset c.args.columns (attributes_at c.args.schema.now o) ≡ true in
    let test = c.within.ensures ∙ ap (is_subset c.args.columns) c.object_attributes.ensures in
    elim c.if-within.branch [
      | then-within w ↦ let m = set_more c.loop-o.found P c.loop-o.o (sym test ∙ w.if-within.true) c.loop-o.invariant n in
          let same = ap (λ s. contains s n) (w.found-is ∙ w.insert-found.ensures) in (λ one. m.0 (sym same ∙ one), λ h. same ∙ m.1 h)
      | else-within w ↦ let m = set_same c.loop-o.found P c.loop-o.o (λ e. true≢false (sym e ∙ sym test ∙ w.if-within.false)) c.loop-o.invariant n in
          let same = ap (λ s. contains s n) w.found-is in (λ one. m.0 (sym same ∙ one), λ h. same ∙ m.1 h)
    ]

pub returns-clause-objects : goal.returns-clause-objects
returns-clause-objects c = found_are c.args.schema.now c.args.columns c.loop-o.found c.loop-o.o (omega arith) c.loop-o.invariant

pub returns-clause-sources : goal.returns-clause-sources
returns-clause-sources c = λ t m row essential n. source_is c.args.schema.now t m row n c.args.columns c.loop-o.found c.loop-o.o essential (omega arith) c.loop-o.invariant
