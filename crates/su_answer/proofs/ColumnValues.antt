-- Stored rows, read through the columns of a source.
use Rattle.std.proofs.Common.{◌≡◌, ℕ, ◌<◌, List, [], ◌∷◌, map, Contains, Some, refl, sym, ap, ◌∙◌, subst, pos, arith, ⊎_elim}
use Rattle.std.specs.Prelude.{slice_index_or, slice_get, option_and_then, length}
use Rattle.std.proofs.lemmas.Option.{get_or_from_slice_get, slice_get-get_or}
use Rattle.su_base.specs.declared.values.Value.{Value}
use Rattle.su_base.specs.declared.values.Value.TheVariants.{Int}
use Rattle.su_base.proofs.Items.{Contains-cases, Contains-later, Contains-nil}
use Rattle.su_tableau.specs.declared.symbols.Sym.{Sym}
use Rattle.su_tableau.specs.Valuations.{value_of, values_of}
use Rattle.su_schema.specs.SchemaValue.{ObjectEntry}
use Rattle.su_schema.specs.Entries.{column_of}
use Rattle.su_state.specs.Enforced.{read}
use Rattle.su_exec.specs.Outputs.{values_at}

-- the value that stands in the column is the one that is read
read_column : (object : ObjectEntry) (stored : List Value) (a k : ℕ) → column_of object a ≡ Some k → k < length stored → read object a stored ≡ Some (slice_index_or stored k (Int (pos 0)))
read_column object stored a k e l = ap (option_and_then (slice_get stored)) e ∙ slice_get-get_or stored k (Int (pos 0)) l

column_read : (object : ObjectEntry) (stored : List Value) (a k : ℕ) (x : Value) → column_of object a ≡ Some k → read object a stored ≡ Some x → slice_index_or stored k (Int (pos 0)) ≡ x
column_read object stored a k x e r = get_or_from_slice_get stored k x (Int (pos 0)) (sym (ap (option_and_then (slice_get stored)) e) ∙ r)

module _ (object : ObjectEntry) (stored : List Value) (v : ℕ → Value) (cell : ℕ → Sym) where
  -- what stands in the columns is read
  pub reads_each : (attributes columns : List ℕ) → map (column_of object) attributes ≡ map Some columns → ((k : ℕ) → Contains columns k → k < length stored) → values_at columns stored ≡ values_of v (map cell attributes)
      → (a : ℕ) → Contains attributes a → read object a stored ≡ Some (value_of v (cell a))
  reads_each [] columns e low same a c = absurd (Contains-nil a c)
  reads_each (b ∷ bs) [] e low same a c = absurd (cc)
  reads_each (b ∷ bs) (k ∷ ks) e low same a c =
      let first : column_of object b ≡ Some k = cc in
      let rest : map (column_of object) bs ≡ map Some ks = cc in
      let value : slice_index_or stored k (Int (pos 0)) ≡ value_of v (cell b) = cc in
      let values : values_at ks stored ≡ values_of v (map cell bs) = cc in
      ⊎_elim
      (λ (h : b ≡ a). subst (λ q. read object q stored ≡ Some (value_of v (cell q))) h (read_column object stored b k first (low k (0, omega arith, refl)) ∙ ap Some value))
      (λ (h : Contains bs a). reads_each bs ks rest (λ j m. low j (Contains-later k ks j m)) values a h)
      (Contains-cases b bs a c)

  -- what is read stands in the columns
  pub each_read : (attributes columns : List ℕ) → map (column_of object) attributes ≡ map Some columns → ((a : ℕ) → Contains attributes a → read object a stored ≡ Some (value_of v (cell a))) → values_at columns stored ≡ values_of v (map cell attributes)
  each_read [] [] e r = refl
  each_read [] (k ∷ ks) e r = absurd (cc)
  each_read (b ∷ bs) [] e r = absurd (cc)
  each_read (b ∷ bs) (k ∷ ks) e r =
      let first : column_of object b ≡ Some k = cc in
      let rest : map (column_of object) bs ≡ map Some ks = cc in
      let value = column_read object stored b k (value_of v (cell b)) first (r b (0, omega arith, refl)) in
      let values = each_read bs ks rest (λ a c. r a (Contains-later b bs a c)) in
      ap (λ x. x ∷ values_at ks stored) value ∙ ap (λ xs. value_of v (cell b) ∷ xs) values
