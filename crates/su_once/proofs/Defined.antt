-- A definition has one answer on databases that are alike, and leaves them alike.
use Rattle.std.proofs.Common.{◌≡◌, ◌+◌, ℕ, List, [], ◌∷◌, length, Result, Ok, Err, refl, ap, sym, ◌∙◌, subst, Contains}
use Rattle.std.specs.Prelude.{◌↔◌}
use Rattle.std.proofs.lemmas.List.{length-append}
use Rattle.su_base.specs.declared.values.Value.{Value}
use Rattle.su_rel.specs.Stored.{Stored}
use Rattle.su_schema.specs.declared.definitions.Definition.{Definition}
use Rattle.su_schema.specs.declared.definitions.Definition.TheVariants.{Attribute, Relation, Object, Fd, Maximal}
use Rattle.su_schema.specs.declared.faults.SchemaFault.{SchemaFault}
use Rattle.su_schema.specs.SchemaValue.{SchemaValue}
use Rattle.su_schema.specs.Definitions.{applied}
use Rattle.su_index.specs.Tables.{rows_at}
use Rattle.su_state.specs.declared.faults.DefineFault.{DefineFault}
use Rattle.su_state.specs.declared.faults.DefineFault.TheVariants.{Schema, Breaks, NoMemory}
use Rattle.su_state.specs.DatabaseValue.{DatabaseValue, rows_of}
use Rattle.su_state.specs.Definitions.{tables_with, Defines}
use Rattle.su_state.specs.Breaches.{Breach, IsFirstOf}
use Rattle.su_state.specs.NewBreaches.{IsNewBreach, told}
use Rattle.su_state.proofs.Added.{rows_more}
use Rattle.su_once.specs.States.{AreAlike, OneDefinition}
use Rattle.su_once.proofs.Breached.{first_among, one_first}
use Rattle.su_once.proofs.Changed.{same_schema}

abbrev pub HaveRows : List Stored → List Stored → Type 0
HaveRows t u = (r : ℕ) (z : List Value) → Contains (rows_at t r) z ↔ Contains (rows_at u r) z

-- what breaks an addition among some rows breaks it among the same rows
new_among : (schema : SchemaValue) (t u : List Stored) → HaveRows t u → (definition : Definition) (b : Breach) → IsNewBreach schema t definition b → IsNewBreach schema u definition b
new_among schema t u same definition b (h, added) =
    (record { relation = h.relation; breach = h.breach; stored = ((same h.relation b.first).0 h.stored.0, (same h.relation b.second).0 h.stored.1) }, added)

-- ---- one answer

same_rows : (definition : Definition) (t : List Stored) (r : ℕ) → rows_at (tables_with definition t) r ≡ rows_at t r
same_rows (Relation name columns) t r = rows_more t (columns ∷ []) r
same_rows (Attribute name kind) t r = refl
same_rows (Object own relation pairs) t r = refl
same_rows (Fd left right) t r = refl
same_rows (Maximal objects) t r = refl

same_number : (definition : Definition) (t u : List Stored) → length t ≡ length u → length (tables_with definition t) ≡ length (tables_with definition u)
same_number (Relation name columns) t u e = length-append t (record { width = length columns; rows = [] } ∷ []) ∙ ap (λ n. n + 1) e ∙ sym (length-append u (record { width = length columns; rows = [] } ∷ []))
same_number (Attribute name kind) t u e = e
same_number (Object own relation pairs) t u e = e
same_number (Fd left right) t u e = e
same_number (Maximal objects) t u e = e

one_schema : (s x y : SchemaValue) (definition : Definition) → applied s definition ≡ Ok x → applied s definition ≡ Ok y → x ≡ y
one_schema s x y definition e f = let both : ◌≡◌ {A = Result SchemaValue SchemaFault} (Ok x) (Ok y) = sym e ∙ f in cc

one_fault : (s : SchemaValue) (x y : SchemaFault) (definition : Definition) → applied s definition ≡ Err x → applied s definition ≡ Err y → x ≡ y
one_fault s x y definition e f = let both : ◌≡◌ {A = Result SchemaValue SchemaFault} (Err x) (Err y) = sym e ∙ f in cc

added_or_refused : (s x : SchemaValue) (y : SchemaFault) (definition : Definition) → applied s definition ≡ Ok x → applied s definition ≡ Err y → ⊥
added_or_refused s x y definition e f = let both : ◌≡◌ {A = Result SchemaValue SchemaFault} (Ok x) (Err y) = sym e ∙ f in absurd (cc)

module _ (a : DatabaseValue) (u : List Stored) (tables : length a.tables ≡ length u) (rows : HaveRows a.tables u) (counts : (r : ℕ) → length (rows_of a r) ≡ length (rows_at u r)) (definition : Definition) where
  abbrev b : DatabaseValue
  b = record { schema = a.schema; tables = u }

  alike_added : (c d : DatabaseValue) → c.schema ≡ d.schema → c.tables ≡ tables_with definition a.tables → d.tables ≡ tables_with definition u → AreAlike c d
  alike_added c d schema one other = record {
    schema = schema;
    tables = ap (λ (t : List Stored). length t) one ∙ same_number definition a.tables u tables ∙ sym (ap (λ (t : List Stored). length t) other);
    rows = λ r z.
        let x : rows_of c r ≡ rows_of a r = ap (λ t. rows_at t r) one ∙ same_rows definition a.tables r in
        let y : rows_of d r ≡ rows_at u r = ap (λ t. rows_at t r) other ∙ same_rows definition u r in (
          λ h. subst (λ (v : List (List Value)). Contains v z) (sym y) ((rows r z).0 (subst (λ (v : List (List Value)). Contains v z) x h)),
          λ h. subst (λ (v : List (List Value)). Contains v z) (sym x) ((rows r z).1 (subst (λ (v : List (List Value)). Contains v z) y h)),
        );
    counts = λ r.
        let x : rows_of c r ≡ rows_of a r = ap (λ t. rows_at t r) one ∙ same_rows definition a.tables r in
        let y : rows_of d r ≡ rows_at u r = ap (λ t. rows_at t r) other ∙ same_rows definition u r in
        ap (λ (v : List (List Value)). length v) x ∙ counts r ∙ sym (ap (λ (v : List (List Value)). length v) y);
  }

  still : (c d : DatabaseValue) → c ≡ a → d ≡ b → AreAlike c d
  still c d one other = subst (λ (v : DatabaseValue). AreAlike v d) (sym one) (subst (λ (v : DatabaseValue). AreAlike a v) (sym other) (record { schema = refl; tables = tables; rows = rows; counts = counts }))

  -- added, and broken by rows
  not_both : (s c : SchemaValue) (t v : List Stored) (x : Breach) → HaveRows v t → applied a.schema definition ≡ Ok c → applied a.schema definition ≡ Ok s
      → ((y : Breach) → ¬ IsNewBreach c t definition y) → IsFirstOf (IsNewBreach s v definition) x → ⊥
  not_both s c t v x same added tried none breaks =
      none x (subst (λ (k : SchemaValue). IsNewBreach k t definition x) (one_schema a.schema s c definition tried added) (new_among s v t same definition x breaks.0))

  back : HaveRows u a.tables
  back r z = ((rows r z).1, (rows r z).0)

  defines : (c d : DatabaseValue) (x y : Result (Unit {0}) DefineFault) → Defines a definition x c → Defines b definition y d → (x ≡ y) × AreAlike c d
  defines c d (Ok i) (Ok j) h k = (refl, alike_added c d (one_schema a.schema c.schema d.schema definition h.0 k.0) h.1 k.1)
  defines c d (Ok i) (Err (Schema g)) h k = absurd (added_or_refused a.schema c.schema g definition h.0 k.0)
  defines c d (Ok i) (Err (Breaks fd name first second)) h ((s, x, tried, breaks, is), same) = absurd (not_both s c.schema a.tables u x back h.0 tried h.2 breaks)
  defines c d (Err (Schema f)) (Ok j) h k = absurd (added_or_refused a.schema d.schema f definition k.0 h.0)
  defines c d (Err (Schema f)) (Err (Schema g)) h k = (ap (λ e. Err (Schema e)) (one_fault a.schema f g definition h.0 k.0), still c d h.1 k.1)
  defines c d (Err (Schema f)) (Err (Breaks fd name first second)) h ((s, x, tried, breaks, is), same) = absurd (added_or_refused a.schema s f definition tried h.0)
  defines c d (Err (Breaks fd name first second)) (Ok j) ((s, x, tried, breaks, is), same) k = absurd (not_both s d.schema u a.tables x rows k.0 tried k.2 breaks)
  defines c d (Err (Breaks fd name first second)) (Err (Schema g)) ((s, x, tried, breaks, is), same) k = absurd (added_or_refused a.schema s g definition tried k.0)
  defines c d (Err (Breaks fd name first second)) (Err (Breaks gd other third fourth)) ((s, x, tried, breaks, is), same) ((v, y, also, broken, are), too) =
      let schema = one_schema a.schema v s definition also tried in
      let moved = first_among (IsNewBreach s u definition) (IsNewBreach s a.tables definition) (new_among s u a.tables back definition) (new_among s a.tables u rows definition) y (subst (λ (k : SchemaValue). IsFirstOf (IsNewBreach k u definition) y) schema broken) in
      let one = one_first (IsNewBreach s a.tables definition) x y breaks moved in
      let faults = is ∙ ap (told s) one ∙ ap (λ (k : SchemaValue). told k y) (sym schema) ∙ sym are in
      (ap Err faults, still c d same too)
  defines c d (Err NoMemory) y h k = absurd h
  defines c d (Ok i) (Err NoMemory) h k = absurd k
  defines c d (Err (Schema f)) (Err NoMemory) h k = absurd k
  defines c d (Err (Breaks fd name first second)) (Err NoMemory) h k = absurd k

pub one_defined : OneDefinition
one_defined a b c d definition x y alike h k =
    defines a b.tables alike.tables alike.rows alike.counts definition c d x y h (subst (λ (v : DatabaseValue). Defines v definition y d) (same_schema a b alike.schema) k)
