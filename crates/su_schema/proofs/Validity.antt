-- A definition whose checks pass leaves a valid schema valid.
use Rattle.std.proofs.Common.{◌≡◌, ◌≢◌, ◌<◌, ◌≤◌, ℕ, Bool, true, false, not, ◌||◌, List, [], ◌∷◌, ◌++◌, length, map, slice_get, Option, Some, None, refl, sym, ◌∙◌, All, AllPairs, get_or, zero, suc, append-nil, append_assoc, nat_eq, arith}
use Rattle.std.specs.Prelude.{if◌then◌else◌}
use Rattle.std.specs.List.{list_any}
use Rattle.std.specs.Str.{bytes_eq}
use Rattle.std.specs.Ordering.{nat_cmp}
use Rattle.std.specs.FinSet.{FinSet, contains, contains-from_list_nat, contains-empty}
use Rattle.std.proofs.lemmas.Bool.{false≢true, not-false}
use Rattle.std.proofs.lemmas.Bool.Decides.{nat_tests}
use Rattle.std.proofs.lemmas.List.{map-append}
use Rattle.std.proofs.lemmas.List.Elements.{All-push, All-cons, All-head, All-tail}
use Rattle.std.proofs.lemmas.List.Folds.{list_any_at}
use Rattle.std.proofs.lemmas.List.Quantifiers.{all_pairs_push}
use Rattle.std.proofs.lemmas.Slice.Eq.{bytes_eq-Decides}
use Rattle.su_base.specs.Name.{IsName}
use Rattle.su_base.specs.declared.values.Kind.{Kind}
use Rattle.su_base.specs.declared.values.Column.{Column}
use Rattle.su_base.specs.declared.values.Kind.TheVariants.{Int, Text}
use Rattle.su_fd.specs.declared.Fd.{Fd}
use Rattle.su_schema.specs.declared.faults.SchemaFault.{SchemaFault}
use Rattle.su_schema.specs.declared.definitions.Pair.{Pair}
use Rattle.su_schema.specs.SchemaValue.{SchemaValue, AttributeEntry, RelationEntry, ObjectEntry}
use Rattle.su_schema.specs.Valid.{IsObject, IsLink, IsDependency, IsSomeBelow}
use Rattle.su_schema.specs.Entries.{AreDistinctNames, attribute_names, column_names}
use Rattle.su_base.specs.Value.{same_kind}
use Rattle.su_schema.specs.NameChecks.{Check, first_failing, name_checks, apart_checks}
use Rattle.su_schema.specs.Known.{is_known, number_of, attribute_kind, column_kind}
use Rattle.su_schema.specs.Checks.{pair_checks}
use Rattle.su_schema.specs.Definitions.{numbers_of}
use Rattle.su_schema.proofs.Numbers.{any_within}

-- a first check that passes
pub pass : (fails : Bool) (fault : SchemaFault) (rest : Option SchemaFault) → (if fails then Some fault else rest) ≡ None → (fails ≡ false) × (rest ≡ None)
pass false fault rest h = (refl, h)
pass true fault rest h = cc

pub passed_both : (xs ys : List Check) → first_failing (xs ++ ys) ≡ None → (first_failing xs ≡ None) × (first_failing ys ≡ None)
passed_both [] ys h = (refl, h)
passed_both (x ∷ xs) ys h =
    elim x.fails as (λ b. (if b then Some x.fault else first_failing (xs ++ ys)) ≡ None → ((if b then Some x.fault else first_failing xs) ≡ None) × (first_failing ys ≡ None)) [
      | true ↦ λ e. cc
      | false ↦ λ e. passed_both xs ys e
    ] h

-- what was at a place stays there when more is added
pub slice_get-grows : {X : Type 0} (xs ys : List X) (k : ℕ) (x : X) → slice_get xs k ≡ Some x → slice_get (xs ++ ys) k ≡ Some x
slice_get-grows [] ys k x h = cc
slice_get-grows (y ∷ xs) ys zero x h = h
slice_get-grows (y ∷ xs) ys (suc k) x h = slice_get-grows xs ys k x h

-- no name before is one that is not known
pub apart_from : (names : List (List ℕ)) (name : List ℕ) → is_known names name ≡ false → (k : ℕ) (d : List ℕ) → k < length names → get_or names k d ≢ name
apart_from names name new k d within same =
    false≢true (sym new ∙ list_any_at (λ n. bytes_eq name n) names k d within ((bytes_eq-Decides name (get_or names k d)).1 (sym same)))

pub names_more : (names : List (List ℕ)) (name : List ℕ) → AreDistinctNames names → IsName name → is_known names name ≡ false → AreDistinctNames (names ++ name ∷ [])
names_more names name are named new = record {
  named = All-push IsName names name are.named named;
  apart = all_pairs_push (λ x y. x ≢ y) names name are.apart (apart_from names name new);
}

pub apart_names : (before names : List (List ℕ)) → AllPairs (λ x y. x ≢ y) before → first_failing (apart_checks before names) ≡ None → AllPairs (λ x y. x ≢ y) (before ++ names)
apart_names before [] apart h = rw append-nil apart
apart_names before (n ∷ names) apart h =
    let p = pass (is_known before n) _ _ h in
    rw (← append_assoc before (n ∷ []) names) (apart_names (before ++ n ∷ []) names (all_pairs_push (λ x y. x ≢ y) before n apart (apart_from before n p.0)) p.1)

module _ (s t : SchemaValue) (attributes : (k : ℕ) (x : AttributeEntry) → slice_get s.attributes k ≡ Some x → slice_get t.attributes k ≡ Some x)
    (relations : (k : ℕ) (x : RelationEntry) → slice_get s.relations k ≡ Some x → slice_get t.relations k ≡ Some x) where
  -- an object stays one when attributes and relations are added
  pub object_more : (o : ObjectEntry) → IsObject s o → IsObject t o
  object_more o is = record {
    relation = is.relation;
    stored = relations o.relation is.relation is.stored;
    some = is.some;
    joined = λ k d within. let j : IsLink s is.relation.columns (get_or o.links k d) = is.joined k d within in (j.0, j.1, attributes _ _ j.2, j.3, j.4);
    ascending = is.ascending;
    apart = is.apart;
  }

-- what is below n is below more
pub IsSomeBelow-more : (n m : ℕ) (numbers : FinSet nat_cmp) → n ≤ m → IsSomeBelow n numbers → IsSomeBelow m numbers
IsSomeBelow-more n m numbers le is = record { some = is.some; below = λ k in'. let b : k < n = is.below k in' in omega arith }

pub dependency_more : (s t : SchemaValue) (fd : Fd) → length s.attributes ≤ length t.attributes → IsDependency s fd → IsDependency t fd
dependency_more s t fd le is = record { left = IsSomeBelow-more (length s.attributes) (length t.attributes) fd.left le is.left; right = IsSomeBelow-more (length s.attributes) (length t.attributes) fd.right le is.right }

-- names whose checks pass are known
pub known_all : (known before names : List (List ℕ)) → first_failing (name_checks known before names) ≡ None → All (λ n. is_known known n ≡ true) names
known_all known before [] h = λ k d within. absurd (omega arith)
known_all known before (n ∷ names) h =
    let p = pass (not (is_known known n)) _ _ h in
    let q = pass (is_known before n) _ _ p.1 in
    All-cons (λ m. is_known known m ≡ true) n names (not-false (is_known known n) p.0) (known_all known (before ++ n ∷ []) names q.1)

pub number_below : (known : List (List ℕ)) (name : List ℕ) → is_known known name ≡ true → number_of known name < length known
number_below known name in' = grind (arith, nat_tests, any_within (λ n. bytes_eq name n) known, in')

any_below : (known names : List (List ℕ)) (k : ℕ) → All (λ n. is_known known n ≡ true) names → list_any (λ y. nat_eq y k) (map (number_of known) names) ≡ true → k < length known
any_below known [] k all one = absurd (false≢true one)
any_below known (n ∷ names) k all one =
    let low : number_of known n < length known = number_below known n (All-head (λ m. is_known known m ≡ true) n names all) in
    elim (nat_eq (number_of known n) k) as (λ b. nat_eq (number_of known n) k ≡ b → (b || list_any (λ y. nat_eq y k) (map (number_of known) names)) ≡ true → k < length known) [
      | true ↦ λ same _. let e : number_of known n ≡ k = grind (arith, nat_tests, same) in omega arith
      | false ↦ λ _ rest. any_below known names k (All-tail (λ m. is_known known m ≡ true) n names all) rest
    ] refl one

-- the numbers of names whose checks pass
pub numbers_some : (known names : List (List ℕ)) → 0 < length names → first_failing (name_checks known [] names) ≡ None → IsSomeBelow (length known) (numbers_of known names)
numbers_some known [] some h = absurd (omega arith)
numbers_some known (n ∷ names) some h = record {
  some = λ none.
      let has : contains (numbers_of known (n ∷ names)) (number_of known n) ≡ true = contains-from_list_nat (map (number_of known) (n ∷ names)) (number_of known n) ∙ grind (arith, nat_tests) in
      let out : contains (numbers_of known (n ∷ names)) (number_of known n) ≡ false = rw none (contains-empty nat_cmp (number_of known n)) in
      false≢true (sym out ∙ has);
  below = λ k in'. any_below known (n ∷ names) k (known_all known [] (n ∷ names) h) (sym (contains-from_list_nat (map (number_of known) (n ∷ names)) k) ∙ in');
}

-- what a pair's checks say when they pass
pub record IsPassed (schema : SchemaValue) (columns : List Column) (pair : Pair) : Type 0 where
  pub attribute : is_known (attribute_names schema) pair.attribute ≡ true
  pub column : is_known (column_names columns) pair.column ≡ true
  pub kinds : same_kind (attribute_kind schema pair.attribute) (column_kind columns pair.column) ≡ true

pub passed_pairs : (schema : SchemaValue) (columns : List Column) (before pairs : List Pair) → first_failing (pair_checks schema columns before pairs) ≡ None → All (IsPassed schema columns) pairs
passed_pairs schema columns before [] h = λ k d within. absurd (omega arith)
passed_pairs schema columns before (p ∷ pairs) h =
    let a = pass (not (is_known (attribute_names schema) p.attribute)) _ _ h in
    let b = pass (not (is_known (column_names columns) p.column)) _ _ a.1 in
    let c = pass (is_known (map (λ p. p.attribute) before) p.attribute) _ _ b.1 in
    let d = pass (is_known (map (λ p. p.column) before) p.column) _ _ c.1 in
    let e = pass (not (same_kind (attribute_kind schema p.attribute) (column_kind columns p.column))) _ _ d.1 in
    let here : IsPassed schema columns p = record { attribute = not-false _ a.0; column = not-false _ b.0; kinds = not-false _ e.0 } in
    All-cons (IsPassed schema columns) p pairs here (passed_pairs schema columns (before ++ p ∷ []) pairs e.1)

-- the columns of pairs whose checks pass differ
pub apart_columns : (schema : SchemaValue) (columns : List Column) (before pairs : List Pair) → AllPairs (λ x y. x ≢ y) (map (λ p. p.column) before) → first_failing (pair_checks schema columns before pairs) ≡ None
    → AllPairs (λ x y. x ≢ y) (map (λ p. p.column) (before ++ pairs))
apart_columns schema columns before [] apart h = rw append-nil apart
apart_columns schema columns before (p ∷ pairs) apart h =
    let a = pass (not (is_known (attribute_names schema) p.attribute)) _ _ h in
    let b = pass (not (is_known (column_names columns) p.column)) _ _ a.1 in
    let c = pass (is_known (map (λ p. p.attribute) before) p.attribute) _ _ b.1 in
    let d = pass (is_known (map (λ p. p.column) before) p.column) _ _ c.1 in
    let e = pass (not (same_kind (attribute_kind schema p.attribute) (column_kind columns p.column))) _ _ d.1 in
    let names : List (List ℕ) = map (λ p. p.column) before in
    let more : AllPairs (λ x y. x ≢ y) (map (λ p. p.column) (before ++ p ∷ [])) = rw map-append (all_pairs_push (λ x y. x ≢ y) names p.column apart (apart_from names p.column d.0)) in
    rw (← append_assoc before (p ∷ []) pairs) (apart_columns schema columns (before ++ p ∷ []) pairs more e.1)

pub same_kinds : (a b : Kind) → same_kind a b ≡ true → a ≡ b
same_kinds Int Int h = refl
same_kinds Int Text h = cc
same_kinds Text Int h = cc
same_kinds Text Text h = refl
