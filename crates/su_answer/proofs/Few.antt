-- A row of a task has no more candidates than all its sources have rows together.
use Rattle.std.proofs.Common.{◌≡◌, ◌+◌, ◌*◌, ◌<◌, ◌≤◌, ℕ, List, [], ◌∷◌, map, length, get_or, drop, Option, Some, refl, sym, ap, subst, ◌∙◌, ◌⊎◌, inl, inr, arith}
use Rattle.std.proofs.lemmas.Bool.{cases_lt}
use Rattle.std.proofs.lemmas.List.{get_or_default}
use Rattle.std.proofs.lemmas.Option.{slice_get_within, same_Some}
use Rattle.su_base.specs.declared.values.Value.{Value}
use Rattle.su_base.proofs.Numbers.{pigeonhole}
use Rattle.su_tableau.specs.Tableaux.{Tab}
use Rattle.su_index.specs.Tables.{table_at}
use Rattle.su_schema.specs.SchemaValue.{ObjectEntry}
use Rattle.su_schema.specs.Entries.{column_of}
use Rattle.su_state.specs.DatabaseValue.{DatabaseValue, IsWellKept}
use Rattle.su_exec.specs.declared.tasks.Source.{Source}
use Rattle.su_exec.specs.declared.tasks.TaskRow.{TaskRow}
use Rattle.su_rel.specs.MoreThan.{AreMoreThan}
use Rattle.su_exec.specs.Outputs.{IsOutput, values_at}
use Rattle.su_schema.specs.SetMembers.{numbers_in}
use Rattle.su_answer.specs.Joined.{IsSourceOf, IsTaskRowOf}
use Rattle.su_answer.specs.Support.{IsCandidate}
use Rattle.su_answer.specs.inside.Alone.{alone}
use Rattle.su_answer.proofs.Single.{output_is}

-- the values come from a stored row of an object's relation, and k numbers both
record ComesFrom (db : DatabaseValue) (attributes : List ℕ) (h : List Value) (k : ℕ) : Type 0 where
  object : ℕ
  position : ℕ
  source : Source
  few_objects : object < 64
  few_rows : position < 1000000
  is : IsSourceOf db.schema attributes object source
  number : k ≡ object * 1000000 + position
  gives : values_at source.columns (get_or (table_at db.tables source.relation).rows position []) ≡ h

pub same_columns : (xs ys : List ℕ) → map Some xs ≡ map Some ys → xs ≡ ys
same_columns [] [] e = refl
same_columns [] (y ∷ ys) e = absurd (let l = ap (λ (zs : List (Option ℕ)). length zs) e in let no : ⊥ = omega (arith, l) in no)
same_columns (x ∷ xs) [] e = absurd (let l = ap (λ (zs : List (Option ℕ)). length zs) e in let no : ⊥ = omega (arith, l) in no)
same_columns (x ∷ xs) (y ∷ ys) e =
    let first : x ≡ y = same_Some x y (ap (λ (zs : List (Option ℕ)). get_or zs 0 (Some x)) e) in
    let later = same_columns xs ys (ap (λ (zs : List (Option ℕ)). drop 1 zs) e) in
    cc

module _ (db : DatabaseValue) (attributes : List ℕ) where
  same_values : (h j : List Value) (k : ℕ) → ComesFrom db attributes h k → ComesFrom db attributes j k → h ≡ j
  same_values h j k a b =
      let an = a.number in
      let bn = b.number in
      let ar = a.few_rows in
      let br = b.few_rows in
      let o : b.object ≡ a.object = omega (arith, an, bn, ar, br) in
      let p : a.position ≡ b.position = omega (arith, an, bn, ar, br) in
      let is : IsSourceOf db.schema attributes a.object b.source = subst (λ n. IsSourceOf db.schema attributes n b.source) o b.is in
      let object : a.is.object ≡ is.object = same_Some a.is.object is.object (sym a.is.is ∙ is.is) in
      let relation : a.source.relation ≡ b.source.relation = a.is.relation ∙ ap (λ (x : ObjectEntry). x.relation) object ∙ sym is.relation in
      let columns : a.source.columns ≡ b.source.columns = same_columns a.source.columns b.source.columns (sym a.is.columns ∙ ap (λ (x : ObjectEntry). map (column_of x) attributes) object ∙ is.columns) in
      sym a.gives
      ∙ ap (λ cs. values_at cs (get_or (table_at db.tables a.source.relation).rows a.position [])) columns
      ∙ ap (λ n. values_at b.source.columns (get_or (table_at db.tables n).rows a.position [])) relation
      ∙ ap (λ n. values_at b.source.columns (get_or (table_at db.tables b.source.relation).rows n [])) p
      ∙ b.gives

module _ (db : DatabaseValue) (t : Tab) (m i : ℕ) (r : TaskRow) (kept : IsWellKept db) (is : IsTaskRowOf db.schema t m i r) where
  abbrev columns : List ℕ
  columns = numbers_in is.attributes t.width

  comes : (h : List Value) → IsCandidate db.tables r h → (k : ℕ) × ComesFrom db columns h k
  comes h c =
      let a = c.agrees in
      let f = is.from a.source a.of_row in
      let rows : List (List Value) = (table_at db.tables a.source.relation).rows in
      let low = a.in_table.1 in
      let few = kept.few a.source.relation in
      let below = slice_get_within db.schema.objects f.0 f.2.object f.2.is in
      let objects = kept.valid.few_objects in (
        f.0 * 1000000 + a.in_table.0,
        record {
          object = f.0;
          position = a.in_table.0;
          source = a.source;
          few_objects = omega (arith, below, objects);
          few_rows = omega (arith, low, few);
          is = f.2;
          number = refl;
          gives = ap (values_at a.source.columns) (get_or_default rows a.in_table.0 [] a.stored low ∙ a.in_table.2) ∙ a.same ∙ c.gives;
        },
      )

  module _ (n : ℕ) (more : AreMoreThan n (IsOutput db.tables (alone r))) where
    from : (a : ℕ) → a < n + 1 → (k : ℕ) × ComesFrom db columns (more.member a) k
    from a l = comes (more.member a) ((output_is db.tables r (more.member a)).0 (more.each a (omega (arith, l))))

    abbrev place : (a : ℕ) → (a < n + 1) ⊎ (n + 1 ≤ a) → ℕ
    place a (inl l) = (from a l).0
    place a (inr g) = 0

    place_is : (a : ℕ) (c : (a < n + 1) ⊎ (n + 1 ≤ a)) → a < n + 1 → ComesFrom db columns (more.member a) (place a c)
    place_is a (inl l) low = (from a l).1
    place_is a (inr g) low = absurd (let no : ⊥ = omega (arith, g, low) in no)

    at_most : n + 1 ≤ 64000000
    at_most = pigeonhole 64000000 (n + 1) (λ a. place a (cases_lt a (n + 1)))
        (λ a l. let w = place_is a (cases_lt a (n + 1)) l in let e = w.number in let o = w.few_objects in let p = w.few_rows in omega (arith, e, o, p))
        (λ a b l h e. more.differ a b l (omega (arith, h)) (same_values db columns (more.member a) (more.member b) (place a (cases_lt a (n + 1))) (place_is a (cases_lt a (n + 1)) (omega (arith, l, h)))
        (subst (λ k. ComesFrom db columns (more.member b) k) (sym e) (place_is b (cases_lt b (n + 1)) h))))

  -- there are never more candidates than 64 objects have rows
  pub never_more : (n : ℕ) → 64000000 ≤ n → ¬ AreMoreThan n (IsOutput db.tables (alone r))
  never_more n big more = let few = at_most n more in absurd (let no : ⊥ = omega (arith, big, few) in no)
