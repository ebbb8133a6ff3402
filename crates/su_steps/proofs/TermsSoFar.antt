-- The terms of the cases so far, one case more.
use Rattle.std.proofs.Common.{◌≡◌, ℕ, ◌+◌, ◌<◌, Option, Some, None, List, [], ◌∷◌, ◌++◌, map, length, get_or, take, sym, ap, ◌∙◌, subst, append_assoc, append-nil}
use Rattle.std.specs.Prelude.{MatchOption}
use Rattle.std.specs.List.{filter_map}
use Rattle.std.specs.Ordering.{nat_cmp}
use Rattle.std.specs.FinSet.{FinSet}
use Rattle.std.proofs.lemmas.List.{take_more, map-append}
use Rattle.std.proofs.lemmas.List.Elements.{filter_map-append}
use Rattle.std.proofs.lemmas.Slice.Zip.{all_zipped_more}
use Rattle.su_schema.specs.SchemaValue.{SchemaValue}
use Rattle.su_query.specs.declared.resolving.Resolved.{Resolved}
use Rattle.su_steps.specs.declared.results.Term.{Term}
use Rattle.su_steps.specs.Choices.{choices}
use Rattle.su_steps.specs.Cases.{Case, IsOutOf}
use Rattle.su_steps.specs.Terms.{case_of, AreTermsOf}

module _ (schema : SchemaValue) (maximal : List (FinSet nat_cmp)) (q : Resolved) where
  abbrev Are : List Case → List Term → Type 0
  Are cs ts = AreTermsOf schema maximal q cs ts

  terms_more : (cs : List Case) (ts next : List Term) (c : Case) (out : Option Term) → Are cs ts → IsOutOf schema maximal q c out → MatchOption out (next ≡ ts) (λ x. next ≡ ts ++ x ∷ []) → Are (cs ++ c ∷ []) next
  terms_more cs ts next c None h is e = record {
    outs = h.outs ++ None ∷ [];
    each = all_zipped_more (IsOutOf schema maximal q) cs h.outs c None h.each is;
    are = e ∙ h.are ∙ sym (filter_map-append (λ out. out) h.outs (None ∷ []) ∙ append-nil (filter_map (λ out. out) h.outs));
  }
  terms_more cs ts next c (Some x) h is e = record {
    outs = h.outs ++ Some x ∷ [];
    each = all_zipped_more (IsOutOf schema maximal q) cs h.outs c (Some x) h.each is;
    are = e ∙ ap (λ xs. xs ++ x ∷ []) h.are ∙ sym (filter_map-append (λ out. out) h.outs (Some x ∷ []));
  }

  -- the cases of a disjunct with the first choices, one choice more
  cases_more : (cs : List Case) (i k : ℕ) → k < length (choices schema maximal q) → (cs ++ map (case_of i) (take k (choices schema maximal q))) ++ case_of i (get_or (choices schema maximal q) k []) ∷ [] ≡ cs ++ map (case_of i) (take (k + 1) (choices schema maximal q))
  cases_more cs i k l =
      let all = choices schema maximal q in
      append_assoc cs (map (case_of i) (take k all)) (case_of i (get_or all k []) ∷ [])
      ∙ ap (λ xs. cs ++ xs) (sym (ap (map (case_of i)) (take_more all k [] l) ∙ map-append (case_of i) (take k all) (get_or all k [] ∷ [])))

  -- one choice more
  pub choice_step : (cs : List Case) (i k : ℕ) (choice : List ℕ) (before next : List Term) (out : Option Term) → k < length (choices schema maximal q) → choice ≡ get_or (choices schema maximal q) k [] → Are (cs ++ map (case_of i) (take k (choices schema maximal q))) before
      → IsOutOf schema maximal q (case_of i choice) out → MatchOption out (next ≡ before) (λ x. next ≡ before ++ x ∷ []) → Are (cs ++ map (case_of i) (take (k + 1) (choices schema maximal q))) next
  choice_step cs i k choice before next out l is are gives e =
      let all = choices schema maximal q in
      let more = terms_more (cs ++ map (case_of i) (take k all)) before next (case_of i choice) out are gives e in
      subst (λ xs. Are xs next) (ap (λ c. (cs ++ map (case_of i) (take k all)) ++ case_of i c ∷ []) is ∙ cases_more cs i k l) more
