-- The words of an explanation's lines are closed.
use Rattle.std.proofs.Common.{◌≡◌, ℕ, ◌+◌, ◌*◌, ◌/◌, ◌%◌, zero, suc, true, false, List, [], ◌∷◌, ◌++◌, map, length, take, Option, Some, None, refl, All}
use Rattle.std.specs.Prelude.{codes, decimal, slice_index_or}
use Rattle.std.specs.Fmt.{signed_decimal}
use Rattle.su_lex.specs.TokenForms.{quoted}
use Rattle.std.specs.List.{AllByRecursion}
use Rattle.std.specs.Ordering.{nat_cmp}
use Rattle.std.specs.FinSet.{FinSet}
use Rattle.std.proofs.lemmas.List.Elements.{recursion_from_All}
use Rattle.su_base.specs.Name.{IsName}
use Rattle.su_base.specs.declared.values.Value.{Value}
use Rattle.su_base.specs.declared.values.Value.TheVariants as value
use Rattle.su_lex.specs.Spelling.{spelled, spaced}
use Rattle.su_lex.specs.declared.meaning.Symbol.TheVariants.{Word}
use Rattle.su_where.specs.declared.operators.Op.{Op}
use Rattle.su_where.specs.declared.operators.Op.TheVariants as op
use Rattle.su_tableau.specs.declared.symbols.Sym.{Sym}
use Rattle.su_tableau.specs.declared.symbols.Sym.TheVariants.{Const, Var}
use Rattle.su_tableau.specs.Tableaux.{Tab}
use Rattle.su_map.specs.Lists.{row_of}
use Rattle.su_min.specs.declared.reduced.Cover.{Cover}
use Rattle.su_query.specs.declared.resolving.Resolved.{Resolved}
use Rattle.su_query.specs.declared.statements.Query.{Query}
use Rattle.su_query.specs.Operands.{op_sym, qualified, IsVariable}
use Rattle.su_query.specs.ShownParts.{value_symbols}
use Rattle.su_query.specs.Shown.{query_symbols, query_text}
use Rattle.su_lex.specs.Symbols.{IsSymbol}
use Rattle.su_schema.specs.SchemaValue.{SchemaValue}
use Rattle.su_schema.specs.Valid.{IsValid}
use Rattle.su_schema.specs.Entries.{attribute_names, object_names}
use Rattle.su_schema.specs.SetMembers.{numbers_in}
use Rattle.su_ddl.specs.ShownDefinitions.{name_at, names_in}
use Rattle.su_steps.specs.declared.results.Origin.{Origin}
use Rattle.su_steps.specs.declared.results.Term.{Term}
use Rattle.su_steps.specs.Objects.{width}
use Rattle.su_show.specs.QueryCauses.{variable_text}
use Rattle.su_show.specs.RowLines.{attributes_shown}
use Rattle.su_show.specs.Symbols.{variable_at, pair_ref, symbol_text, symbol_at}
use Rattle.su_show.specs.TableauLines.{operator_at}
use Rattle.su_readback.specs.Words.{is_closed, are_closed}
use Rattle.su_readback.specs.Explanations.{query_shown, term_shown, cell_shown, row_shown, head_shown, compare_shown, cover_shown}
use Rattle.su_readback.proofs.Closed.{both, AllClosed, closed_append, name_closed, names_closed, name_at-closed, names_at-closed, decimal_closed}
use Rattle.su_readback.proofs.Spelled.{signed_closed, quoted_closed, spaced_line, query_words_closed}

pub map_closed : {A : Type 0} (f : A → List ℕ) → ((x : A) → is_closed false (f x) ≡ true) → (xs : List A) → AllClosed (map f xs)
map_closed f h [] = refl
map_closed f h (x ∷ xs) = both _ _ (h x) (map_closed f h xs)

pub decimals_closed : (ns : List ℕ) → AllClosed (map decimal ns)
decimals_closed ns = map_closed decimal decimal_closed ns

pub query_closed : (query : Query) → All IsSymbol (query_symbols query) → are_closed (query_shown query).words ≡ true
query_closed query h = query_words_closed (query_text query) (spaced_line (query_symbols query) (recursion_from_All IsSymbol (query_symbols query) h))

variable_closed : (v : Option (List ℕ)) → IsVariable v → is_closed false (variable_text v) ≡ true
variable_closed None h = refl
variable_closed (Some name) h = name_closed name h

pub variables_closed : (vs : List (Option (List ℕ))) → AllByRecursion IsVariable vs → AllClosed (map variable_text vs)
variables_closed [] h = refl
variables_closed (v ∷ vs) h = both _ _ (variable_closed v h.0) (variables_closed vs h.1)

variable_is : (vs : List (Option (List ℕ))) (k : ℕ) → AllByRecursion IsVariable vs → IsVariable (slice_index_or vs k None)
variable_is [] k h = tt
variable_is (v ∷ vs) zero h = h.0
variable_is (v ∷ vs) (suc k) h = variable_is vs k h.1

ref_closed : (v : Option (List ℕ)) (a : List ℕ) → IsVariable v → is_closed false a ≡ true → is_closed false (spaced (qualified v (Word a ∷ []))) ≡ true
ref_closed None a h k = closed_append false a [] k refl
ref_closed (Some v) a h k = closed_append false v (46 ∷ (a ++ [])) (name_closed v h) (closed_append false (46 ∷ []) (a ++ []) refl (closed_append false a [] k refl))

value_closed : (v : Value) → is_closed false (spaced (value_symbols v)) ≡ true
value_closed (value.Int n) = closed_append false (signed_decimal n) [] (signed_closed n) refl
value_closed (value.Text content) = closed_append false (quoted content) [] (quoted_closed content) refl

operator_closed : (o : Op) → is_closed false (spelled (op_sym o)) ≡ true
operator_closed op.Equal = refl
operator_closed op.NotEqual = refl
operator_closed op.Less = refl
operator_closed op.LessEqual = refl
operator_closed op.Greater = refl
operator_closed op.GreaterEqual = refl

operator_at-closed : (ops : List Op) (i : ℕ) → is_closed false (operator_at ops i) ≡ true
operator_at-closed ops i = name_at-closed (map (λ o. spelled (op_sym o)) ops) i (map_closed (λ o. spelled (op_sym o)) operator_closed ops)

module _ (schema : SchemaValue) (valid : IsValid schema) (q : Resolved) (named : AllByRecursion IsVariable q.variables) where
  attribute_closed : (a : ℕ) → is_closed false (name_at (attribute_names schema) a) ≡ true
  attribute_closed a = name_at-closed (attribute_names schema) a (names_closed (attribute_names schema) (recursion_from_All IsName (attribute_names schema) valid.attribute_names.named))

  all_objects : AllClosed (object_names schema)
  all_objects = names_closed (object_names schema) (recursion_from_All IsName (object_names schema) valid.object_names.named)

  pub objects_closed : (set : FinSet nat_cmp) → AllClosed (names_in (object_names schema) set)
  objects_closed set = names_at-closed (object_names schema) (numbers_in set (length (object_names schema))) all_objects

  symbol_closed : (s : Sym) → is_closed false (symbol_text schema q s) ≡ true
  symbol_closed (Const c) = value_closed c
  symbol_closed (Var k) =
      let ref = pair_ref schema q k in
      ref_closed ref.variable ref.attribute (variable_is q.variables (k / width schema) named) (attribute_closed (k % width schema))

  symbol_at-closed : (symbols : List Sym) (i : ℕ) → is_closed false (symbol_at schema q symbols i) ≡ true
  symbol_at-closed symbols i = name_at-closed (map (symbol_text schema q) symbols) i (map_closed (symbol_text schema q) symbol_closed symbols)

  cell_closed : (cells : List Sym) (a : ℕ) → is_closed false (cell_shown schema q cells a) ≡ true
  cell_closed cells a =
      closed_append false (name_at (attribute_names schema) a ++ codes "=") (symbol_at schema q cells a) (closed_append false (name_at (attribute_names schema) a) (codes "=") (attribute_closed a) refl)
      (symbol_at-closed cells a)

  pub row_closed : (t : Tab) (r : ℕ) (o : Origin) → are_closed (row_shown schema q t r o).words ≡ true
  row_closed t r o =
      both _ _ (decimal_closed r)
      (both _ _ (variable_closed (variable_at q o.variable) (variable_is q.variables o.variable named))
      (both _ _ (name_at-closed (object_names schema) o.object all_objects) (map_closed (cell_shown schema q (row_of t r)) (cell_closed (row_of t r)) (attributes_shown schema o.object))))

  pub head_closed : (t : Tab) → are_closed (head_shown schema q t).words ≡ true
  head_closed t = map_closed (symbol_text schema q) symbol_closed (take t.outputs t.head)

  pub compare_closed : (t : Tab) (i : ℕ) → are_closed (compare_shown schema q t i).words ≡ true
  compare_closed t i = both _ _ (symbol_at-closed t.head (t.outputs + 2 * i)) (both _ _ (operator_at-closed t.operators i) (both _ _ (symbol_at-closed t.head (t.outputs + 2 * i + 1)) refl))

  pub sources_closed : (r : ℕ) (set : FinSet nat_cmp) → are_closed ([] ∷ [] ∷ codes "sources" ∷ decimal r ∷ names_in (object_names schema) set) ≡ true
  sources_closed r set = both _ _ (decimal_closed r) (objects_closed set)

pub term_closed : (i : ℕ) (t : Term) → are_closed (term_shown i t).words ≡ true
term_closed i t = both _ _ (decimal_closed i) (both _ _ (decimal_closed t.disjunct) (decimals_closed t.choice))

pub cover_closed : (c : Cover) → are_closed (cover_shown c).words ≡ true
cover_closed c = both _ _ (decimal_closed c.by) (decimals_closed c.mapping.list)
