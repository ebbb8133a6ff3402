-- Rows that are put in: what inserts make of a relation's rows, whether they are new or not.
use Rattle.std.proofs.Common.{◌≡◌, inl, inr, ⊎_elim, ℕ, Bool, true, false, List, [], ◌∷◌, ◌++◌, length, Contains, Ok, refl, arith, sym, ap, ◌∙◌, subst, slice_get, unwrap_or, if◌then◌else◌, append-nil}
use Rattle.std.proofs.lemmas.Bool.{cases_eq}
use Rattle.std.proofs.lemmas.Option.{unwrap_or-slice_get}
use Rattle.std.proofs.lemmas.List.Elements.{Contains-append_left, Contains-append_right, Contains-append_cases}
use Rattle.su_base.specs.declared.values.Value.{Value}
use Rattle.su_base.proofs.Items.{Contains-nil, Contains-head, Contains-one}
use Rattle.su_rel.specs.Stored.{Stored}
use Rattle.su_index.specs.Tables.{rows_at}
use Rattle.su_state.specs.DatabaseValue.{DatabaseValue, rows_of}
use Rattle.su_state.specs.Changes.{ChangesOnly}
use Rattle.su_state.specs.RowChanges.{Inserts}
use Rattle.su_state.specs.Loads.{InsertsAll}
use Rattle.su_changes.specs.Changes.{AreSame, ChangesRows, LeadTo}
use Rattle.su_changes.proofs.Leading.{same-then, LeadTo-one}
use Rattle.su_effects.specs.inside.Statements.{AreNewOf}

abbrev Row : Type 0
Row = List Value

rows_there : (t u : List Stored) (r : ℕ) → slice_get t r ≡ slice_get u r → rows_at t r ≡ rows_at u r
rows_there t u r same =
    let none : Stored = record { width = 0; rows = [] } in
    let table = sym (unwrap_or-slice_get t r none) ∙ ap (λ o. unwrap_or o none) same ∙ unwrap_or-slice_get u r none in
    ap (λ (x : Stored). x.rows) table

same_by : (rows others : List Row) → others ≡ rows → AreSame rows others
same_by rows others is row = (λ has. subst (λ (all : List Row). Contains all row) is has, λ has. subst (λ (all : List Row). Contains all row) (sym is) has)

-- the rows of the other relations, and the schema, are as before
pub record StaysBut (r : ℕ) (old new : DatabaseValue) : Type 0 where
  pub schema : new.schema ≡ old.schema
  pub others : (s : ℕ) → ¬ (s ≡ r) → AreSame (rows_of old s) (rows_of new s)

pub stays_only : (r : ℕ) (old new : DatabaseValue) → ChangesOnly r old new → StaysBut r old new
stays_only r old new only = record {
  schema = only.schema;
  others = λ s other. same_by (rows_of old s) (rows_of new s) (rows_there new.tables old.tables s (only.others s other));
}

pub stays_same : (r : ℕ) (old new : DatabaseValue) → new ≡ old → StaysBut r old new
stays_same r old new same = record {
  schema = ap (λ (d : DatabaseValue). d.schema) same;
  others = λ s other. same_by (rows_of old s) (rows_of new s) (ap (λ (d : DatabaseValue). rows_of d s) same);
}

pub change_leads : (r : ℕ) (rows : List Row) (is_in : Bool) (old new : DatabaseValue) → ChangesRows is_in rows (rows_of old r) (rows_of new r) → StaysBut r old new → LeadTo old (record { relation = r; rows = rows; is_in = is_in } ∷ []) new
change_leads r rows is_in old new made stays = LeadTo-one old new (record { relation = r; rows = rows; is_in = is_in }) (made, stays.others)

-- these rows are in the relation's set, with those that were there
pub record ArePut (r : ℕ) (rows : List Row) (old new : DatabaseValue) : Type 0 where
  pub stays : StaysBut r old new
  pub rows_are : ChangesRows true rows (rows_of old r) (rows_of new r)

pub row_put : (r : ℕ) (row : Row) (is_new : Bool) (old new : DatabaseValue) → Inserts old r row (Ok is_new) new → ArePut r (row ∷ []) old new
row_put r row true old new inserts = record {
  stays = stays_only r old new inserts.1.only;
  rows_are = λ other. (
    λ has. ⊎_elim (λ (was : Contains (rows_of old r) other). inl was) (λ (is : other ≡ row). inr (subst (λ (x : Row). Contains (row ∷ []) x) (sym is) (Contains-head row []))) ((inserts.1.rows other).0 has),
    λ has. (inserts.1.rows other).1 (⊎_elim (λ (was : Contains (rows_of old r) other). inl was) (λ (is : Contains (row ∷ []) other). inr (sym (Contains-one row other is))) has),
  );
}
row_put r row false old new inserts = record {
  stays = stays_same r old new inserts.1;
  rows_are = λ other.
      let same : rows_of new r ≡ rows_of old r = ap (λ (d : DatabaseValue). rows_of d r) inserts.1 in (
        λ has. inl (subst (λ (all : List Row). Contains all other) same has),
        λ has. subst (λ (all : List Row). Contains all other) (sym same)
            (⊎_elim (λ (was : Contains (rows_of old r) other). was)
            (λ (is : Contains (row ∷ []) other). subst (λ (x : Row). Contains (rows_of old r) x) (Contains-one row other is) inserts.0.1) has),
      );
}

put_then : (r : ℕ) (rows more : List Row) (a b c : DatabaseValue) → ArePut r rows a b → ArePut r more b c → ArePut r (rows ++ more) a c
put_then r rows more a b c one next = record {
  stays = record {
    schema = next.stays.schema ∙ one.stays.schema;
    others = λ s other. same-then (rows_of a s) (rows_of b s) (rows_of c s) (one.stays.others s other) (next.stays.others s other);
  };
  rows_are = λ x. (
    λ has. ⊎_elim
        (λ (was : Contains (rows_of b r) x). ⊎_elim (λ (old : Contains (rows_of a r) x). inl old) (λ (is : Contains rows x). inr (Contains-append_left rows more x is)) ((one.rows_are x).0 was))
        (λ (is : Contains more x). inr (Contains-append_right rows more x is))
        ((next.rows_are x).0 has),
    λ has. (next.rows_are x).1 (⊎_elim
        (λ (old : Contains (rows_of a r) x). inl ((one.rows_are x).1 (inl old)))
        (λ (is : Contains (rows ++ more) x). ⊎_elim (λ (l : Contains rows x). inl ((one.rows_are x).1 (inr l))) (λ (m : Contains more x). inr m) (Contains-append_cases rows more x is))
        has),
  );
}

pub all_put : (r : ℕ) (rows : List Row) (count : ℕ) (old new : DatabaseValue) → InsertsAll old r rows count new → ArePut r rows old new
all_put r [] count old new (none, same) = record {
  stays = stays_same r old new same;
  rows_are = λ x.
      let is : rows_of new r ≡ rows_of old r = ap (λ (d : DatabaseValue). rows_of d r) same in (
        λ has. inl (subst (λ (all : List Row). Contains all x) is has),
        λ has. ⊎_elim (λ (was : Contains (rows_of old r) x). subst (λ (all : List Row). Contains all x) (sym is) was) (λ (never : Contains [] x). absurd (Contains-nil x never)) has,
      );
}
all_put r (row ∷ rows) count old new (between, is_new, more, first, rest, counted) =
    put_then r (row ∷ []) rows old between new (row_put r row is_new old between first) (all_put r rows more between new rest)

-- those of them that were not there are put in
pub put_leads : (r : ℕ) (rows kept : List Row) (old new : DatabaseValue) → AreNewOf (rows_of old r) rows kept → ArePut r rows old new → LeadTo old (record { relation = r; rows = kept; is_in = true } ∷ []) new
put_leads r rows kept old new are put =
    change_leads r kept true old new (λ x. (λ has. (are.all x).1 ((put.rows_are x).0 has), λ has. (put.rows_are x).1 ((are.all x).0 has))) put.stays

-- ---- the rows that a table doesn't have

module _ (stored rows kept : List Row) (row : Row) (are : AreNewOf stored rows kept) where
  -- a row that is there already is passed over
  new_there : Contains stored row → AreNewOf stored (rows ++ row ∷ []) kept
  new_there there = record {
    all = λ x. (
      λ has. ⊎_elim (λ (s : Contains stored x). inl s) (λ (r : Contains rows x). inr (Contains-append_left rows (row ∷ []) x r)) ((are.all x).0 has),
      λ has. ⊎_elim
          (λ (s : Contains stored x). inl s)
          (λ (a : Contains (rows ++ row ∷ []) x). ⊎_elim (λ (r : Contains rows x). (are.all x).1 (inr r)) (λ (o : Contains (row ∷ []) x). inl (subst (λ (y : Row). Contains stored y) (Contains-one row x o) there)) (Contains-append_cases rows (row ∷ []) x a))
          has,
    );
  }

  -- any other is kept
  new_added : AreNewOf stored (rows ++ row ∷ []) (kept ++ row ∷ [])
  new_added = record {
    all = λ x. (
      λ has. ⊎_elim
          (λ (s : Contains stored x). inl s)
          (λ (a : Contains (kept ++ row ∷ []) x). ⊎_elim
          (λ (k : Contains kept x). ⊎_elim (λ (s : Contains stored x). inl s) (λ (r : Contains rows x). inr (Contains-append_left rows (row ∷ []) x r)) ((are.all x).0 (inr k)))
          (λ (o : Contains (row ∷ []) x). inr (Contains-append_right rows (row ∷ []) x o))
          (Contains-append_cases kept (row ∷ []) x a))
          has,
      λ has. ⊎_elim
          (λ (s : Contains stored x). inl s)
          (λ (a : Contains (rows ++ row ∷ []) x). ⊎_elim
          (λ (r : Contains rows x). ⊎_elim (λ (s : Contains stored x). inl s) (λ (k : Contains kept x). inr (Contains-append_left kept (row ∷ []) x k)) ((are.all x).1 (inr r)))
          (λ (o : Contains (row ∷ []) x). inr (Contains-append_right kept (row ∷ []) x o))
          (Contains-append_cases rows (row ∷ []) x a))
          has,
    );
  }

  -- the row is kept where it isn't there
  pub new_next : (is_new : Bool) → (is_new ≡ false → Contains stored row) → AreNewOf stored (rows ++ row ∷ []) (kept ++ (if is_new then row ∷ [] else []))
  new_next true there = new_added
  new_next false there = rw append-nil (new_there (there refl))

-- ---- no row

no_change : (is_in : Bool) (a b : List Row) → ChangesRows is_in [] a b → AreSame a b
no_change true a b made = λ x. (λ has. ⊎_elim (λ (was : Contains a x). was) (λ (never : Contains [] x). absurd (Contains-nil x never)) ((made x).0 has), λ has. (made x).1 (inl has))
no_change false a b made = λ x. (λ has. ((made x).0 has).0, λ has. (made x).1 (has, λ never. Contains-nil x never))

pub none_lead : (r : ℕ) (rows : List Row) (is_in : Bool) (old new : DatabaseValue) → length rows ≡ 0 → LeadTo old (record { relation = r; rows = rows; is_in = is_in } ∷ []) new → LeadTo old [] new
none_lead r [] is_in old new none (between, (own, others), same) = λ s.
    same-then (rows_of old s) (between s) (rows_of new s)
    (elim (cases_eq s r) [
      | inl is ↦ subst (λ (n : ℕ). AreSame (rows_of old n) (between n)) (sym is) (no_change is_in (rows_of old r) (between r) own)
      | inr differ ↦ others s differ
    ])
    (same s)
none_lead r (row ∷ rows) is_in old new none leads = absurd (omega arith)
