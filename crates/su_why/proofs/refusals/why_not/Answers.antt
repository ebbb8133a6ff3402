-- The prepared terms are typed and the kept numbers lie below their count, so that each kept number gets the finding of its own term.
use Rattle.std.proofs.Common.{◌<◌, ℕ, List, length, All, sym, subst}
use Rattle.std.specs.List.{AllZip}
use Rattle.su_tableau.specs.Kinds.{IsTyped}
use Rattle.su_schema.specs.Entries.{attribute_kinds}
use Rattle.su_why.specs.declared.refusals.WhyNot.{WhyNot}
use Rattle.su_min.specs.Kept.{Minimised}
use Rattle.su_min.specs.Reduction.{term_at}
use Rattle.su_why.specs.WhyNot.{IsWhyNot}
use Rattle.su_answer.proofs.Minimals.{minimals_fit}
use Rattle.su_answer.proofs.Union.{kept_low}
use Rattle.su_why.proofs.refusals.why_not.Goals as goal

pub refusals-requires-clause-typed : goal.refusals-requires-clause-typed
refusals-requires-clause-typed c =
    let db = c.args.db.now in
    let p = c.requires in
    let fit = minimals_fit c.terms_are_valid_and_typed.ensures db.schema p.maximal p.query c.args.prepared.now c.keeps_its_rules.ensures.valid p.resolved p.is in
    subst (λ (ms : List Minimised). All (λ (m : Minimised). IsTyped (attribute_kinds db.schema) m.tableau) ms) (sym c.as_slice-minimals.ensures) (λ k d l. (fit k d l).1)

pub refusals-requires-clause-within : goal.refusals-requires-clause-within
refusals-requires-clause-within c =
    let p = c.args.prepared.now in
    subst (λ (ks : List ℕ). All (λ k. k < length c.as_slice-minimals.result.now) ks) (sym c.as_slice-kept.ensures)
    (subst (λ (ms : List Minimised). All (λ k. k < length ms) p.reduced.kept) (sym c.as_slice-minimals.ensures) (kept_low p c.requires.is.reduced))

pub returns : goal.returns
returns c =
    let db = c.args.db.now in
    let p = c.args.prepared.now in
    let row = c.args.row.now in
    let whys : List (WhyNot) = c.in_ok-whys.whys in
    subst (λ (ks : List ℕ). AllZip (λ k (f : WhyNot). IsWhyNot db row (term_at p.minimals k) f) ks whys) c.as_slice-kept.ensures
    (subst (λ (ms : List Minimised). AllZip (λ k (f : WhyNot). IsWhyNot db row (term_at ms k) f) c.as_slice-kept.result.now whys) c.as_slice-minimals.ensures c.in_ok-whys.ensures)
