-- The prepared terms are typed and the kept numbers lie below their count, so that each kept number gets the support of its own term.
use Rattle.std.proofs.Common.{◌≡◌, ◌<◌, ℕ, List, length, All, sym, subst}
use Rattle.std.specs.List.{AllZip}
use Rattle.su_tableau.specs.Kinds.{IsTyped}
use Rattle.su_schema.specs.Entries.{attribute_kinds}
use Rattle.su_reduce.specs.declared.support.Support.{Support}
use Rattle.su_min.specs.Kept.{Minimised}
use Rattle.su_min.specs.Reduction.{term_at}
use Rattle.su_answer.specs.Support.{IsSupport}
use Rattle.su_answer.proofs.Minimals.{minimals_fit}
use Rattle.su_answer.proofs.Union.{kept_low}
use Rattle.su_answer.proofs.supporting.support.Goals as goal

pub supports_of-requires-clause-typed : goal.supports_of-requires-clause-typed
supports_of-requires-clause-typed c =
    let db = c.args.db.now in
    let p = c.requires in
    let fit = minimals_fit c.terms_are_valid_and_typed.ensures db.schema p.maximal p.query c.args.prepared.now c.keeps_its_rules.ensures.valid p.resolved p.is in
    subst (λ (ms : List Minimised). All (λ (m : Minimised). IsTyped (attribute_kinds db.schema) m.tableau) ms) (sym c.as_slice-minimals.ensures) (λ k d l. (fit k d l).1)

pub supports_of-requires-clause-within : goal.supports_of-requires-clause-within
supports_of-requires-clause-within c =
    let p = c.args.prepared.now in
    subst (λ (ks : List ℕ). All (λ k. k < length c.as_slice-minimals.result.now) ks) (sym c.as_slice-kept.ensures)
    (subst (λ (ms : List Minimised). All (λ k. k < length ms) p.reduced.kept) (sym c.as_slice-minimals.ensures) (kept_low p c.requires.is.reduced))

pub returns : goal.returns
returns c =
    let db = c.args.db.now in
    let p = c.args.prepared.now in
    let supports : List Support = c.in_ok-supports.supports in
    subst (λ (ks : List ℕ). AllZip (λ k (s : Support). (s.term ≡ k) × IsSupport db (term_at p.minimals k) s) ks supports) c.as_slice-kept.ensures
    (subst (λ (ms : List Minimised). AllZip (λ k (s : Support). (s.term ≡ k) × IsSupport db (term_at ms k) s) c.as_slice-kept.result.now supports) c.as_slice-minimals.ensures c.in_ok-supports.ensures)
