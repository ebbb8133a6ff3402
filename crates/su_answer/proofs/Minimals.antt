-- How many terms there are, and what holds of their tableaux once they are minimised.
use Rattle.std.proofs.Common.{◌≡◌, ⊎_elim, ◌*◌, ◌≤◌, List, [], ◌∷◌, map, length, All, refl, sym, ap, ◌∙◌, subst, arith, None}
use Rattle.std.specs.List.{AllZip, range_with_len}
use Rattle.std.specs.Ordering.{nat_cmp}
use Rattle.std.specs.FinSet.{FinSet}
use Rattle.std.proofs.lemmas.List.Elements.{All-contains}
use Rattle.std.proofs.lemmas.List.FromFn.{length-range_with_len}
use Rattle.su_base.proofs.Items.{All-members}
use Rattle.su_base.proofs.Combinations.{length-pairs}
use Rattle.su_where.specs.Disjunct.{disjuncts_of}
use Rattle.su_tableau.specs.Tableaux.{Tab, IsValid}
use Rattle.su_tableau.specs.Kinds.{IsTyped}
use Rattle.su_schema.specs.SchemaValue.{SchemaValue}
use Rattle.su_schema.specs.Entries.{attribute_kinds}
use Rattle.su_schema.specs.Valid as schemas
use Rattle.su_query.specs.Ranges.{IsResolved}
use Rattle.su_query.specs.declared.resolving.Resolved.{Resolved}
use Rattle.su_min.specs.Kept.{Minimised, IsMinimised}
use Rattle.su_steps.specs.declared.results.Term.{Term}
use Rattle.su_steps.specs.Choices.{choices}
use Rattle.su_steps.specs.Cases.{Case, Gives, IsOutOf}
use Rattle.su_steps.specs.Terms.{case_of, cases, AreTerms}
use Rattle.su_steps.specs.Refusals.{IsAccepted}
use Rattle.su_steps.specs.Laws.{TermsAreValidAndTyped}
use Rattle.su_answer.specs.declared.preparing.Prepared.{Prepared}
use Rattle.su_answer.specs.Prepared.{IsMinimisedOf, IsPrepared}
use Rattle.su_answer.proofs.PairedLists.{zip_second}
use Rattle.su_steps.proofs.Outs.{AreInTurn, terms_of}

terms_count : (schema : SchemaValue) (maximal : List (FinSet nat_cmp)) (q : Resolved) (cs : List Case) (ts : List Term) → AreInTurn schema maximal q cs ts → length ts ≤ length cs
terms_count schema maximal q [] ts h = let e = ap (λ (xs : List Term). length xs) h in omega arith
terms_count schema maximal q (c ∷ cs) ts h =
    ⊎_elim
    (λ (none : IsOutOf schema maximal q c None × AreInTurn schema maximal q cs ts). let i = terms_count schema maximal q cs ts none.1 in omega arith)
    (λ (some : (t : Term) × (later : List Term) × (ts ≡ t ∷ later) × Gives schema maximal q c t × AreInTurn schema maximal q cs later).
    let i = terms_count schema maximal q cs some.1 some.4 in
    let e = ap (λ (xs : List Term). length xs) some.2 in
    omega arith)
    h

pub few_terms : (schema : SchemaValue) (maximal : List (FinSet nat_cmp)) (q : Resolved) (ts : List Term) → AreTerms schema maximal q ts → IsAccepted schema maximal q → length ts ≤ 256
few_terms schema maximal q ts terms accepted =
    let count = terms_count schema maximal q (cases schema maximal q) ts (terms_of schema maximal q ts terms) in
    let pairs = length-pairs case_of (range_with_len 0 (length (disjuncts_of q.cond))) (choices schema maximal q) in
    let range = length-range_with_len 0 (length (disjuncts_of q.cond)) in
    let product : length (cases schema maximal q) ≡ length (disjuncts_of q.cond) * length (choices schema maximal q) = pairs ∙ ap (λ n. n * length (choices schema maximal q)) range in
    let few = accepted.few_terms in
    omega (arith, count, product, few)

pub same_tableaux : (ts : List Term) (ms : List Minimised) → AllZip (λ t m. IsMinimisedOf t.tableau m) ts ms → map (λ (m : Minimised). m.tableau) ms ≡ map (λ (t : Term). t.tableau) ts
same_tableaux [] [] h = refl
same_tableaux [] (m ∷ ms) h = absurd h
same_tableaux (t ∷ ts) [] h = absurd h
same_tableaux (t ∷ ts) (m ∷ ms) h = let i = same_tableaux ts ms h.1 in let j = h.0.tableau in cc

-- what holds of the terms' tableaux holds of the minimised ones
pub of_minimals : (P : Tab → Type 0) (ts : List Term) (ms : List Minimised) → AllZip (λ t m. IsMinimisedOf t.tableau m) ts ms → All (λ (t : Term). P t.tableau) ts → All (λ (m : Minimised). P m.tableau) ms
of_minimals P ts ms zip all = All-members (λ (m : Minimised). P m.tableau) ms (λ m c.
    let w = zip_second (λ t m. IsMinimisedOf t.tableau m) ts ms m zip c in
    subst P (sym w.2.tableau) (All-contains (λ (t : Term). P t.tableau) ts w.0 all w.1))

pub all_minimised : (ts : List Term) (ms : List Minimised) → AllZip (λ t m. IsMinimisedOf t.tableau m) ts ms → All IsMinimised ms
all_minimised ts ms zip = All-members IsMinimised ms (λ m c. (zip_second (λ t m. IsMinimisedOf t.tableau m) ts ms m zip c).2.minimised)

-- the minimised tableaux of a prepared query are valid and well typed
pub minimals_fit : TermsAreValidAndTyped → (schema : SchemaValue) (maximal : List (FinSet nat_cmp)) (q : Resolved) (p : Prepared) → schemas.IsValid schema → IsResolved schema q → IsPrepared schema maximal q p
    → All (λ (m : Minimised). IsValid m.tableau × IsTyped (attribute_kinds schema) m.tableau) p.minimals
minimals_fit law schema maximal q p valid resolved is = of_minimals (λ t. IsValid t × IsTyped (attribute_kinds schema) t) p.terms p.minimals is.minimals (law schema maximal q p.terms valid resolved is.terms)
