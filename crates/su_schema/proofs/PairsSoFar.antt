-- A list of pairs that is read pair by pair: what has been found when i pairs are read.
use Rattle.std.proofs.Common.{◌≡◌, ◌+◌, ◌<◌, ℕ, Bool, true, false, not, ◌==◌, List, [], ◌∷◌, ◌++◌, length, map, take, drop, get_or, Option, Some, None, refl, sym, ap, ◌∙◌, All, add-one, suc, slice_get, nat_eq, arith}
use Rattle.std.specs.Prelude.{if◌then◌else◌}
use Rattle.std.proofs.Math.Seq.{drop-cons}
use Rattle.std.specs.List.{list_any}
use Rattle.std.specs.Str.{bytes_eq}
use Rattle.std.proofs.lemmas.Option.{get_or_from_slice_get, slice_get-map, slice_get-get_or}
use Rattle.std.proofs.lemmas.List.{take_more, map-append, get_or-map}
use Rattle.std.proofs.lemmas.List.Elements.{All-push, All-head, All-tail}
use Rattle.su_base.specs.declared.values.Column.{Column}
use Rattle.su_schema.specs.declared.faults.SchemaFault.{SchemaFault}
use Rattle.su_schema.specs.declared.faults.SchemaFault.TheVariants.{Twice, Unknown}
use Rattle.su_schema.specs.declared.links.Link.{Link}
use Rattle.su_schema.specs.declared.definitions.Pair.{Pair}
use Rattle.su_schema.specs.SchemaValue.{SchemaValue}
use Rattle.su_schema.specs.Entries.{place_of, attribute_names, attribute_kinds, column_names, relation_columns}
use Rattle.su_schema.specs.NameChecks.{Check, first_failing}
use Rattle.su_schema.specs.Known.{is_known, number_of, columns_at, attribute_kind, column_kind}
use Rattle.su_schema.specs.Checks.{known_checks, fresh_checks, one_kind, pair_checks}
use Rattle.su_schema.specs.Definitions.{link_of}
use lib.ListN.{length-map}
use Rattle.std.proofs.lemmas.Bool.Decides.{nat_tests}
use Rattle.su_base.specs.declared.values.Kind.{Kind}
use Rattle.su_base.specs.declared.values.Kind.TheVariants.{Int}
use Rattle.su_schema.proofs.Numbers.{known-Some, known-None, same_number, any_within}

-- the columns of a relation that is there
pub columns_there : (schema : SchemaValue) (r : ℕ) (columns : List Column) → slice_get (relation_columns schema) r ≡ Some columns → columns_at schema r ≡ columns
columns_there schema r columns at = get_or_from_slice_get (relation_columns schema) r columns [] at

-- the place of a column in a relation that is there
pub column_place : (schema : SchemaValue) (r : ℕ) (name : List ℕ) (place : Option ℕ) → r < length (relation_columns schema)
    → slice_get (map (λ columns. place_of (column_names columns) name) (relation_columns schema)) r ≡ Some place → place_of (column_names (columns_at schema r)) name ≡ place
column_place schema r name place within at =
    let there : slice_get (relation_columns schema) r ≡ Some (columns_at schema r) = slice_get-get_or (relation_columns schema) r [] within in
    let both : Some (place_of (column_names (columns_at schema r)) name) ≡ Some place = sym (slice_get-map (λ columns. place_of (column_names columns) name) (relation_columns schema) r ∙ rw there refl) ∙ at in
    cc

-- a first failing check stays the first when more follow
pub first_failing-append : (xs ys : List Check) (fault : SchemaFault) → first_failing xs ≡ Some fault → first_failing (xs ++ ys) ≡ Some fault
first_failing-append [] ys fault h = cc
first_failing-append (x ∷ xs) ys fault h =
    elim x.fails as (λ b. (if b then Some x.fault else first_failing xs) ≡ Some fault → (if b then Some x.fault else first_failing (xs ++ ys)) ≡ Some fault) [
      | true ↦ λ e. e
      | false ↦ λ e. first_failing-append xs ys fault e
    ] h

-- and checks that pass are passed over
pub first_failing-passed : (xs ys : List Check) → first_failing xs ≡ None → first_failing (xs ++ ys) ≡ first_failing ys
first_failing-passed [] ys h = refl
first_failing-passed (x ∷ xs) ys h =
    elim x.fails as (λ b. (if b then Some x.fault else first_failing xs) ≡ None → (if b then Some x.fault else first_failing (xs ++ ys)) ≡ first_failing ys) [
      | true ↦ λ e. cc
      | false ↦ λ e. first_failing-passed xs ys e
    ] h

passed : (a : Bool) (fault : SchemaFault) (rest : Option SchemaFault) → (if not a then Some fault else rest) ≡ None → (a ≡ true) × (rest ≡ None)
passed true fault rest h = (refl, h)
passed false fault rest h = cc

-- both names of a pair whose checks pass are known
pub known_both : (schema : SchemaValue) (columns : List Column) (pair : Pair) → first_failing (known_checks schema columns pair) ≡ None
    → (is_known (attribute_names schema) pair.attribute ≡ true) × (is_known (column_names columns) pair.column ≡ true)
known_both schema columns pair h =
    let one : (is_known (attribute_names schema) pair.attribute ≡ true) × ((if not (is_known (column_names columns) pair.column) then Some (Unknown pair.column) else None) ≡ None) = passed _ _ _ h in
    (one.0, (passed _ _ _ one.1).0)

module _ (schema : SchemaValue) (columns : List Column) (pair : Pair) where
  pub attribute_unknown : place_of (attribute_names schema) pair.attribute ≡ None → first_failing (known_checks schema columns pair) ≡ Some (Unknown pair.attribute)
  attribute_unknown none = let out : is_known (attribute_names schema) pair.attribute ≡ false = known-None (attribute_names schema) pair.attribute none in rw out refl

  pub column_unknown : (a : ℕ) → place_of (attribute_names schema) pair.attribute ≡ Some a → place_of (column_names columns) pair.column ≡ None → first_failing (known_checks schema columns pair) ≡ Some (Unknown pair.column)
  column_unknown a found none =
      let in' : is_known (attribute_names schema) pair.attribute ≡ true = (known-Some (attribute_names schema) pair.attribute a found).0 in
      let out : is_known (column_names columns) pair.column ≡ false = known-None (column_names columns) pair.column none in
      rw (in', out) refl

  pub both_found : (a k : ℕ) → place_of (attribute_names schema) pair.attribute ≡ Some a → place_of (column_names columns) pair.column ≡ Some k
      → (first_failing (known_checks schema columns pair) ≡ None) × (record { attribute = a; column = k } ≡ link_of schema columns pair)
  both_found a k attribute column =
      let known-a = known-Some (attribute_names schema) pair.attribute a attribute in
      let known-k = known-Some (column_names columns) pair.column k column in
      (rw (known-a.0, known-k.0) refl, rw (known-a.1, known-k.1) refl)

module _ (schema : SchemaValue) (columns : List Column) (pair : Pair) (pass : first_failing (known_checks schema columns pair) ≡ None) where
  -- the numbers of a pair whose names are known are in range
  pub attribute_within : number_of (attribute_names schema) pair.attribute < length schema.attributes
  attribute_within =
      let names : List (List ℕ) = attribute_names schema in
      let within : number_of names pair.attribute < length names = grind (arith, nat_tests, any_within (λ n. bytes_eq pair.attribute n) names, (known_both schema columns pair pass).0) in
      rw (← length-map schema.attributes (λ a. a.name)) within

  pub column_within : number_of (column_names columns) pair.column < length columns
  column_within =
      let names : List (List ℕ) = column_names columns in
      let within : number_of names pair.column < length names = grind (arith, nat_tests, any_within (λ n. bytes_eq pair.column n) names, (known_both schema columns pair pass).1) in
      rw (← length-map columns (λ c. c.name)) within

  -- and so are their kinds
  pub kind_of_attribute : (kind : Kind) → slice_get (attribute_kinds schema) (number_of (attribute_names schema) pair.attribute) ≡ Some kind → attribute_kind schema pair.attribute ≡ kind
  kind_of_attribute kind at = get_or_from_slice_get (attribute_kinds schema) (number_of (attribute_names schema) pair.attribute) kind Int at

  pub kind_of_column : (column : Column) → column ≡ get_or columns (number_of (column_names columns) pair.column) column → column_kind columns pair.column ≡ column.kind
  kind_of_column column at = get_or-map (λ c. c.kind) columns (number_of (column_names columns) pair.column) column Int column_within ∙ ap (λ c. c.kind) (sym at)

-- a number stands among those of the pairs before exactly where its name does
any_attribute : (schema : SchemaValue) (columns : List Column) (ps : List Pair) (name : List ℕ) → All (λ p. is_known (attribute_names schema) p.attribute ≡ true) ps → is_known (attribute_names schema) name ≡ true
    → list_any (λ l. l.attribute == number_of (attribute_names schema) name) (map (link_of schema columns) ps) ≡ is_known (map (λ p. p.attribute) ps) name
any_attribute schema columns [] name all known = refl
any_attribute schema columns (p ∷ ps) name all known =
    let names : List (List ℕ) = attribute_names schema in
    let head : nat_eq (number_of names p.attribute) (number_of names name) ≡ bytes_eq name p.attribute = same_number names p.attribute name (All-head (λ p. is_known names p.attribute ≡ true) p ps all) known in
    let tail : list_any (λ l. l.attribute == number_of names name) (map (link_of schema columns) ps) ≡ is_known (map (λ p. p.attribute) ps) name = any_attribute schema columns ps name (All-tail (λ p. is_known names p.attribute ≡ true) p ps all) known in
    rw (head, tail) refl

any_column : (schema : SchemaValue) (columns : List Column) (ps : List Pair) (name : List ℕ) → All (λ p. is_known (column_names columns) p.column ≡ true) ps → is_known (column_names columns) name ≡ true
    → list_any (λ l. l.column == number_of (column_names columns) name) (map (link_of schema columns) ps) ≡ is_known (map (λ p. p.column) ps) name
any_column schema columns [] name all known = refl
any_column schema columns (p ∷ ps) name all known =
    let names : List (List ℕ) = column_names columns in
    let head : nat_eq (number_of names p.column) (number_of names name) ≡ bytes_eq name p.column = same_number names p.column name (All-head (λ p. is_known names p.column ≡ true) p ps all) known in
    let tail : list_any (λ l. l.column == number_of names name) (map (link_of schema columns) ps) ≡ is_known (map (λ p. p.column) ps) name = any_column schema columns ps name (All-tail (λ p. is_known names p.column ≡ true) p ps all) known in
    rw (head, tail) refl

-- no pair that was read is refused, and the links are theirs
pub record PairsSoFar (schema : SchemaValue) (columns : List Column) (pairs : List Pair) (i : ℕ) (links : List Link) : Type 0 where
  pub checks : first_failing (pair_checks schema columns [] pairs) ≡ first_failing (pair_checks schema columns (take i pairs) (drop i pairs))
  pub links_are : links ≡ map (link_of schema columns) (take i pairs)
  pub known_attributes : All (λ p. is_known (attribute_names schema) p.attribute ≡ true) (take i pairs)
  pub known_columns : All (λ p. is_known (column_names columns) p.column ≡ true) (take i pairs)

module _ (schema : SchemaValue) (columns : List Column) (pairs : List Pair) (i : ℕ) (links : List Link) (far : PairsSoFar schema columns pairs i links) (pair : Pair) (within : i < length pairs) (at : pair ≡ get_or pairs i pair) where
  -- the checks that are left begin with those of this pair
  here : first_failing (pair_checks schema columns [] pairs)
      ≡ first_failing (known_checks schema columns pair ++ fresh_checks (take i pairs) pair ++ one_kind schema columns pair ∷ pair_checks schema columns (take i pairs ++ pair ∷ []) (drop (i + 1) pairs))
  here =
      let cut : drop i pairs ≡ pair ∷ drop (i + 1) pairs = rw add-one (drop-cons pairs i pair within ∙ ap (λ p. p ∷ drop (suc i) pairs) (sym at)) in
      far.checks ∙ ap (λ rest. first_failing (pair_checks schema columns (take i pairs) rest)) cut

  pub pair_unknown : (fault : SchemaFault) → first_failing (known_checks schema columns pair) ≡ Some fault → first_failing (pair_checks schema columns [] pairs) ≡ Some fault
  pair_unknown fault fails =
      let rest : List Check = fresh_checks (take i pairs) pair ++ one_kind schema columns pair ∷ pair_checks schema columns (take i pairs ++ pair ∷ []) (drop (i + 1) pairs) in
      here ∙ first_failing-append (known_checks schema columns pair) rest fault fails

  module _ (pass : first_failing (known_checks schema columns pair) ≡ None) where
    both : (is_known (attribute_names schema) pair.attribute ≡ true) × (is_known (column_names columns) pair.column ≡ true)
    both = known_both schema columns pair pass

    is_attribute : list_any (λ l. l.attribute == (link_of schema columns pair).attribute) links ≡ is_known (map (λ p. p.attribute) (take i pairs)) pair.attribute
    is_attribute = rw far.links_are (any_attribute schema columns (take i pairs) pair.attribute far.known_attributes both.0)

    is_column : list_any (λ l. l.column == (link_of schema columns pair).column) links ≡ is_known (map (λ p. p.column) (take i pairs)) pair.column
    is_column = rw far.links_are (any_column schema columns (take i pairs) pair.column far.known_columns both.1)

    pub attribute_twice : list_any (λ l. l.attribute == (link_of schema columns pair).attribute) links ≡ true → first_failing (pair_checks schema columns [] pairs) ≡ Some (Twice pair.attribute)
    attribute_twice there = let twice : is_known (map (λ p. p.attribute) (take i pairs)) pair.attribute ≡ true = sym is_attribute ∙ there in here ∙ rw (both.0, both.1, twice) refl

    module _ (new : list_any (λ l. l.attribute == (link_of schema columns pair).attribute) links ≡ false) where
      fresh : is_known (map (λ p. p.attribute) (take i pairs)) pair.attribute ≡ false
      fresh = sym is_attribute ∙ new

      pub column_twice : list_any (λ l. l.column == (link_of schema columns pair).column) links ≡ true → first_failing (pair_checks schema columns [] pairs) ≡ Some (Twice pair.column)
      column_twice there = let twice : is_known (map (λ p. p.column) (take i pairs)) pair.column ≡ true = sym is_column ∙ there in here ∙ rw (both.0, both.1, fresh, twice) refl

      module _ (own : list_any (λ l. l.column == (link_of schema columns pair).column) links ≡ false) where
        alone : is_known (map (λ p. p.column) (take i pairs)) pair.column ≡ false
        alone = sym is_column ∙ own

        abbrev later : List Check
        later = pair_checks schema columns (take i pairs ++ pair ∷ []) (drop (i + 1) pairs)

        after : first_failing (pair_checks schema columns [] pairs) ≡ first_failing (one_kind schema columns pair ∷ pair_checks schema columns (take i pairs ++ pair ∷ []) (drop (i + 1) pairs))
        after = here ∙ rw (both.0, both.1, fresh, alone) refl

        pub kinds_differ : (fault : SchemaFault) → first_failing (one_kind schema columns pair ∷ []) ≡ Some fault → first_failing (pair_checks schema columns [] pairs) ≡ Some fault
        kinds_differ fault fails = after ∙ first_failing-append (one_kind schema columns pair ∷ []) later fault fails

        pub pair_next : first_failing (one_kind schema columns pair ∷ []) ≡ None → PairsSoFar schema columns pairs (i + 1) (links ++ link_of schema columns pair ∷ [])
        pair_next agree =
            let more : take (i + 1) pairs ≡ take i pairs ++ pair ∷ [] = take_more pairs i pair within ∙ ap (λ p. take i pairs ++ p ∷ []) (sym at) in
            record {
              checks = rw more (after ∙ first_failing-passed (one_kind schema columns pair ∷ []) later agree);
              links_are = rw (more, map-append, far.links_are) refl;
              known_attributes = rw more (All-push (λ p. is_known (attribute_names schema) p.attribute ≡ true) (take i pairs) pair far.known_attributes both.0);
              known_columns = rw more (All-push (λ p. is_known (column_names columns) p.column ≡ true) (take i pairs) pair far.known_columns both.1);
            }
