-- The object that pairs make whose checks pass.
use Rattle.std.proofs.Common.{◌≡◌, ◌≢◌, ◌<◌, ℕ, true, List, [], ◌∷◌, length, map, slice_get, Some, None, refl, sym, ap, ◌∙◌, All, AllPairs, get_or, nat_eq, arith}
use lib.ListN.{length-map}
use Rattle.std.specs.Str.{bytes_eq}
use Rattle.std.proofs.lemmas.Bool.Decides.{nat_tests}
use Rattle.std.proofs.lemmas.Option.{slice_get-get_or}
use Rattle.std.proofs.lemmas.List.{get_or-map}
use Rattle.std.proofs.lemmas.List.Elements.{All-head, All-map, All-contains}
use Rattle.std.proofs.lemmas.Slice.Eq.{bytes_eq-Decides}
use Rattle.su_base.specs.declared.values.Kind.TheVariants.{Int}
use Rattle.su_base.specs.declared.values.Column.{Column}
use Rattle.su_schema.specs.declared.definitions.Pair.{Pair}
use Rattle.su_schema.specs.declared.links.Link.{Link}
use Rattle.su_schema.specs.SchemaValue.{SchemaValue, AttributeEntry, RelationEntry}
use Rattle.su_schema.specs.Valid.{IsLink}
use Rattle.su_schema.specs.Entries.{attribute_names, relation_names, column_names}
use Rattle.su_schema.specs.NameChecks.{first_failing}
use Rattle.su_schema.specs.Known.{is_known, number_of, columns_at, attribute_kind, column_kind}
use Rattle.su_schema.specs.Checks.{pair_checks}
use Rattle.su_schema.specs.Definitions.{link_of, links_of}
use Rattle.su_schema.proofs.LinkOrder.{ascending-IsBelow, ascending-holds, Ordered, ascending-AllPairs}
use Rattle.su_schema.proofs.Numbers.{same_number}
use Rattle.su_schema.proofs.Validity.{IsPassed, passed_pairs, apart_columns, number_below, same_kinds}

-- a known name's relation
pub relation_there : (schema : SchemaValue) (name : List ℕ) → is_known (relation_names schema) name ≡ true
    → (e : RelationEntry) × (slice_get schema.relations (number_of (relation_names schema) name) ≡ Some e) × (columns_at schema (number_of (relation_names schema) name) ≡ e.columns)
relation_there schema name known =
    let none : RelationEntry = record { name = []; columns = [] } in
    let r : ℕ = number_of (relation_names schema) name in
    let within : r < length schema.relations = rw (← length-map schema.relations (λ e. e.name)) (number_below (relation_names schema) name known) in
    (get_or schema.relations r none, slice_get-get_or schema.relations r none within, get_or-map (λ e. e.columns) schema.relations r none [] within)

module _ (schema : SchemaValue) (columns : List Column) where
  -- a pair whose checks pass names a link
  link_is : (pair : Pair) → IsPassed schema columns pair → IsLink schema columns (link_of schema columns pair)
  link_is pair is =
      let no_attribute : AttributeEntry = record { name = []; kind = Int } in
      let no_column : Column = record { name = []; kind = Int } in
      let a : ℕ = number_of (attribute_names schema) pair.attribute in
      let k : ℕ = number_of (column_names columns) pair.column in
      let a_within : a < length schema.attributes = rw (← length-map schema.attributes (λ e. e.name)) (number_below (attribute_names schema) pair.attribute is.attribute) in
      let k_within : k < length columns = rw (← length-map columns (λ e. e.name)) (number_below (column_names columns) pair.column is.column) in
      let a_kind : attribute_kind schema pair.attribute ≡ (get_or schema.attributes a no_attribute).kind = get_or-map (λ e. e.kind) schema.attributes a no_attribute Int a_within in
      let k_kind : column_kind columns pair.column ≡ (get_or columns k no_column).kind = get_or-map (λ e. e.kind) columns k no_column Int k_within in (
        get_or schema.attributes a no_attribute,
        get_or columns k no_column,
        slice_get-get_or schema.attributes a no_attribute a_within,
        slice_get-get_or columns k no_column k_within,
        sym a_kind ∙ same_kinds _ _ is.kinds ∙ k_kind,
      )

  module _ (pairs : List Pair) (some : 0 < length pairs) (pass_all : first_failing (pair_checks schema columns [] pairs) ≡ None) where
    abbrev linked : List Link
    linked = map (link_of schema columns) pairs

    all : All (IsPassed schema columns) pairs
    all = passed_pairs schema columns [] pairs pass_all

    all_links : All (IsLink schema columns) linked
    all_links = All-map (IsLink schema columns) (link_of schema columns) pairs (λ k d within. link_is (get_or pairs k d) (all k d within))

    pub joined : All (IsLink schema columns) (links_of schema columns pairs)
    joined = λ k d within. All-contains (IsLink schema columns) linked _ all_links (ascending-IsBelow linked (length schema.attributes) k d within).one

    -- no two pairs name one column
    numbers_apart : AllPairs (λ k l. k.column ≢ l.column) linked
    numbers_apart = λ i j d less within same.
        let no_pair : Pair = record { attribute = []; column = [] } in
        let names : List (List ℕ) = column_names columns in
        let j_within : j < length pairs = rw (← length-map pairs (link_of schema columns)) within in
        let i_within : i < length pairs = omega arith in
        let p : Pair = get_or pairs i no_pair in
        let q : Pair = get_or pairs j no_pair in
        let at_i : get_or linked i d ≡ link_of schema columns p = get_or-map (link_of schema columns) pairs i no_pair d i_within in
        let at_j : get_or linked j d ≡ link_of schema columns q = get_or-map (link_of schema columns) pairs j no_pair d j_within in
        let numbers : number_of names p.column ≡ number_of names q.column = sym (ap (λ l. l.column) at_i) ∙ same ∙ ap (λ l. l.column) at_j in
        let one : bytes_eq q.column p.column ≡ true = sym (same_number names p.column q.column (all i no_pair i_within).column (all j no_pair j_within).column) ∙ rw numbers (grind (arith, nat_tests)) in
        let differ : get_or (map (λ p. p.column) pairs) i [] ≢ get_or (map (λ p. p.column) pairs) j [] =
        apart_columns schema columns [] pairs (λ a b e l w. absurd (omega arith)) pass_all i j [] less (rw (length-map pairs (λ p. p.column)) j_within) in
        differ (get_or-map (λ p. p.column) pairs i no_pair [] i_within ∙ sym ((bytes_eq-Decides q.column p.column).0 one) ∙ sym (get_or-map (λ p. p.column) pairs j no_pair [] j_within))

    pub ordered : AllPairs Ordered (links_of schema columns pairs)
    ordered = ascending-AllPairs linked numbers_apart (length schema.attributes)

-- the pairs of an object give at least one link
pub some_links : (schema : SchemaValue) (columns : List Column) (pairs : List Pair) → 0 < length pairs → first_failing (pair_checks schema columns [] pairs) ≡ None → 0 < length (links_of schema columns pairs)
some_links schema columns [] some h = absurd (omega arith)
some_links schema columns (p ∷ ps) some h =
    let is : IsPassed schema columns p = All-head (IsPassed schema columns) p ps (passed_pairs schema columns [] (p ∷ ps) h) in
    let a : ℕ = number_of (attribute_names schema) p.attribute in
    let within : a < length schema.attributes = rw (← length-map schema.attributes (λ e. e.name)) (number_below (attribute_names schema) p.attribute is.attribute) in
    let same : nat_eq a a ≡ true = grind (arith, nat_tests) in
    ascending-holds (map (link_of schema columns) (p ∷ ps)) (length schema.attributes) a (link_of schema columns p) within (rw same refl)
