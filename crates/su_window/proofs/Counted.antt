-- The members that are read, object by object and row by row.
use Rattle.std.proofs.Common.{◌≡◌, ◌↔◌, ◌⊎◌, ℕ, ◌+◌, ◌<◌, ◌≤◌, inl, inr, ⊎_elim, List, [], ◌∷◌, ◌++◌, map, take, length, get_or, Contains, Some, None, refl, sym, ap, ◌∙◌, subst, arith}
use Rattle.std.specs.Prelude.{All, slice_get}
use Rattle.std.proofs.lemmas.Bool.{cases_lt, cases_eq}
use Rattle.std.proofs.lemmas.List.{length-map, map_push, map_more, length_push, get_or_append_left, get_or_push}
use Rattle.std.proofs.lemmas.List.Elements.{Contains-append_left, Contains-append_right, Contains-push_cases, Contains-get_or}
use Rattle.std.proofs.lemmas.Option.{slice_get_within}
use Rattle.su_base.specs.declared.values.Value.{Value}
use Rattle.su_base.proofs.Items.{AllDiffer-push, Contains-nil, Contains-map, Contains-map_source, Contains-take}
use Rattle.std.proofs.Math.Seq.{take-length}
use Rattle.su_state.specs.DatabaseValue.{DatabaseValue}
use Rattle.su_window.specs.declared.readings.Reading.{Reading}
use Rattle.su_state.specs.Views.{taken, view_of, view_through}
use Rattle.su_rel.specs.MoreThan.{AreMoreThan}
use Rattle.su_base.specs.Lists.{AllDiffer}
use Rattle.su_window.specs.Members.{Member, IsMember}
use Rattle.su_window.specs.Padded.{object_at, rows_under, member_read, IsReading, AreReadings}
use Rattle.su_window.specs.inside.Readings.{lists_before, IsBefore, AreSoFar}
use Rattle.su_window.proofs.Objects.{placed_at}

-- ---- lists with one element more

pub in_pushed : {X : Type 0} (xs : List X) (y x : X) → Contains xs x ⊎ (x ≡ y) → Contains (xs ++ y ∷ []) x
in_pushed xs y x s =
    ⊎_elim
    (λ (c : Contains xs x). Contains-append_left xs (y ∷ []) x c)
    (λ (e : x ≡ y). Contains-append_right xs (y ∷ []) x (0, omega arith, sym e))
    s

pub of_pushed : {X : Type 0} (xs : List X) (y x : X) → Contains (xs ++ y ∷ []) x → Contains xs x ⊎ (x ≡ y)
of_pushed xs y x c = ⊎_elim (λ (l : Contains xs x). inl l) (λ (e : y ≡ x). inr (sym e)) (Contains-push_cases xs y x c)

-- ---- views

view_is : (db : DatabaseValue) (o : ℕ) → o < length db.schema.objects → view_of db o ≡ map (taken db.schema (object_at db.schema o)) (rows_under db o)
view_is db o low = ap (view_through db) (placed_at db.schema o low)

-- past the last object there is none
past : (db : DatabaseValue) (o : ℕ) → length db.schema.objects ≤ o → (x : List Value) → Contains (view_of db o) x → ⊥
past db o high x c =
    elim (slice_get db.schema.objects o) as (λ e. slice_get db.schema.objects o ≡ e → Contains (view_through db e) x → ⊥) [
      | None ↦ λ _ none. Contains-nil x none
      | Some object ↦ λ at _. let l = slice_get_within db.schema.objects o object at in omega (arith, l, high)
    ] refl c

before_member : (db : DatabaseValue) (o p : ℕ) → o ≤ length db.schema.objects → (o < length db.schema.objects) ⊎ (p ≡ 0) → (m : Member) → IsBefore db o p m → IsMember db m
before_member db o p few some m (inl (less, c)) = subst (λ (xs : List (List Value)). Contains xs m.values) (sym (view_is db m.object (omega (arith, less, few)))) c
before_member db o p few (inl low) m (inr (is, c)) =
    let w = Contains-map_source (taken db.schema (object_at db.schema o)) (take p (rows_under db o)) m.values c in
    let there : Contains (view_of db o) m.values = subst (λ (xs : List (List Value)). Contains xs m.values) (sym (view_is db o low)) (subst (Contains (map (taken db.schema (object_at db.schema o)) (rows_under db o))) w.2 (Contains-map (taken db.schema (object_at db.schema o)) (rows_under db o) w.0 (Contains-take p (rows_under db o) w.0 w.1))) in
    subst (λ (k : ℕ). Contains (view_of db k) m.values) (sym is) there
before_member db o p few (inr none) m (inr (is, c)) = absurd (Contains-nil m.values (subst (λ (k : ℕ). Contains (lists_before db o k) m.values) none c))

-- ---- one row more

module _ (db : DatabaseValue) (o p : ℕ) (low : o < length db.schema.objects) (there : p < length (rows_under db o)) where
  abbrev reading : Reading
  reading = record { object = o; position = p }

  abbrev member : Member
  member = member_read db reading

  lists_more : lists_before db o (p + 1) ≡ lists_before db o p ++ member.values ∷ []
  lists_more = map_more (taken db.schema (object_at db.schema o)) (rows_under db o) p [] there

  pub list_more : (x : List Value) → (Contains (lists_before db o p) x ⊎ (x ≡ member.values)) ↔ Contains (lists_before db o (p + 1)) x
  list_more x = (
    λ s. subst (λ (xs : List (List Value)). Contains xs x) (sym lists_more) (in_pushed (lists_before db o p) member.values x s),
    λ c. of_pushed (lists_before db o p) member.values x (subst (λ (xs : List (List Value)). Contains xs x) lists_more c),
  )

  before_more : (m : Member) → (IsBefore db o p m ⊎ (m ≡ member)) → IsBefore db o (p + 1) m
  before_more m (inl (inl earlier)) = inl earlier
  before_more m (inl (inr (is, c))) = inr (is, (list_more m.values).0 (inl c))
  before_more m (inr e) = inr (ap (λ (q : Member). q.object) e, (list_more m.values).0 (inr (ap (λ (q : Member). q.values) e)))

  of_before : (m : Member) → IsBefore db o (p + 1) m → IsBefore db o p m ⊎ (m ≡ member)
  of_before m (inl earlier) = inl (inl earlier)
  of_before m (inr (is, c)) =
      ⊎_elim
      (λ (before : Contains (lists_before db o p) m.values). inl (inr (is, before)))
      (λ (e : m.values ≡ member.values). inr (λ i. record { object = is i; values = e i }))
      ((list_more m.values).1 c)

  module _ (readings : List Reading) (so_far : AreSoFar db o p readings) where
    abbrev members : List Member
    members = map (member_read db) readings

    -- a member that was read already
    pub stays : Contains (lists_before db o p) member.values → AreSoFar db o (p + 1) readings
    stays old = record {
      each = so_far.each;
      exact = λ m. (
        λ c. before_more m (inl ((so_far.exact m).0 c)),
        λ b.
            (so_far.exact m).1
            (⊎_elim
            (λ (before : IsBefore db o p m). before)
            (λ (e : m ≡ member). inr (ap (λ (q : Member). q.object) e, subst (Contains (lists_before db o p)) (sym (ap (λ (q : Member). q.values) e)) old))
            (of_before m b)),
      );
      once = so_far.once;
    }

    module _ (new : ¬ Contains (lists_before db o p) member.values) where
      not_read : ¬ Contains members member
      not_read c =
          ⊎_elim
          (λ (l : (o < o) × Contains (map (taken db.schema (object_at db.schema o)) (rows_under db o)) member.values). let less = l.0 in omega (arith, less))
          (λ (r : (o ≡ o) × Contains (lists_before db o p) member.values). new r.1)
          ((so_far.exact member).0 c)

      pub grows : (more : List Reading) → more ≡ readings ++ reading ∷ [] → AreSoFar db o (p + 1) more
      grows more push =
          let pushed : map (member_read db) more ≡ members ++ member ∷ [] = ap (map (member_read db)) push ∙ map_push (member_read db) readings reading in
          record {
            each = subst (λ (rs : List Reading). All (IsReading db) rs) (sym push)
                (λ i d l.
                ⊎_elim
                (λ (less : i < length readings). subst (IsReading db) (sym (get_or_append_left readings (reading ∷ []) d i less)) (so_far.each i d less))
                (λ (g : length readings ≤ i).
                let long = length_push readings reading in
                let is : i ≡ length readings = omega (arith, l, g, long) in
                subst (IsReading db) (sym (ap (λ (k : ℕ). get_or (readings ++ reading ∷ []) k d) is ∙ get_or_push readings reading d (length readings) refl)) (record { object = low; position = there }))
                (cases_lt i (length readings)));
            exact = λ m. (
              λ c.
                  ⊎_elim
                  (λ (before : Contains members m). before_more m (inl ((so_far.exact m).0 before)))
                  (λ (e : m ≡ member). before_more m (inr e))
                  (of_pushed members member m (subst (λ (xs : List Member). Contains xs m) pushed c)),
              λ b.
                  subst (λ (xs : List Member). Contains xs m) (sym pushed)
                  (in_pushed members member m
                  (⊎_elim
                  (λ (before : IsBefore db o p m). inl ((so_far.exact m).1 before))
                  (λ (e : m ≡ member). inr e)
                  (of_before m b))),
            );
            once = subst AllDiffer (sym pushed) (AllDiffer-push members member so_far.once not_read);
          }

      pub many : 20000 ≤ length readings → AreMoreThan 20000 (IsMember db)
      many full =
          let all : List Member = members ++ member ∷ [] in
          let long : length all ≡ length readings + 1 = length_push members member ∙ ap (λ (n : ℕ). n + 1) (length-map readings (member_read db)) in
          record {
            member = λ i. get_or all i member;
            each = λ i l.
                ⊎_elim
                (λ (before : Contains members (get_or all i member)). before_member db o p (omega (arith, low)) (inl low) (get_or all i member) ((so_far.exact (get_or all i member)).0 before))
                (λ (e : get_or all i member ≡ member). subst (IsMember db) (sym e) (before_member db o (p + 1) (omega (arith, low)) (inl low) member (before_more member (inr refl))))
                (of_pushed members member (get_or all i member) (Contains-get_or all i member (omega (arith, l, long, full))));
            differ = λ i j less l. AllDiffer-push members member so_far.once not_read i j member less (omega (arith, l, long, full));
          }

-- ---- one object more

pub object_done : (db : DatabaseValue) (o p : ℕ) (readings : List Reading) → p ≡ length (rows_under db o) → AreSoFar db o p readings → AreSoFar db (o + 1) 0 readings
object_done db o p readings whole so_far =
    let all : lists_before db o p ≡ map (taken db.schema (object_at db.schema o)) (rows_under db o) = ap (λ (k : ℕ). lists_before db o k) whole ∙ ap (map (taken db.schema (object_at db.schema o))) (take-length (rows_under db o)) in
    record {
      each = so_far.each;
      exact = λ m. (
        λ c.
            ⊎_elim
            (λ (l : (m.object < o) × Contains (map (taken db.schema (object_at db.schema m.object)) (rows_under db m.object)) m.values). inl (let less = l.0 in omega (arith, less), l.1))
            (λ (r : (m.object ≡ o) × Contains (lists_before db o p) m.values).
            inl (let is = r.0 in omega (arith, is), subst (λ (k : ℕ). Contains (map (taken db.schema (object_at db.schema k)) (rows_under db k)) m.values) (sym r.0) (subst (λ (xs : List (List Value)). Contains xs m.values) all r.1)))
            ((so_far.exact m).0 c),
        λ b.
            (so_far.exact m).1
            (⊎_elim
            (λ (l : (m.object < o + 1) × Contains (map (taken db.schema (object_at db.schema m.object)) (rows_under db m.object)) m.values).
            elim (cases_eq m.object o) [
              | inl is ↦ inr (is, subst (λ (xs : List (List Value)). Contains xs m.values) (sym all) (subst (λ (k : ℕ). Contains (map (taken db.schema (object_at db.schema k)) (rows_under db k)) m.values) is l.1))
              | inr apart ↦ let less = l.0 in inl (omega (arith, less, apart), l.1)
            ])
            (λ (r : (m.object ≡ o + 1) × Contains (lists_before db (o + 1) 0) m.values). absurd (Contains-nil m.values r.1))
            b),
      );
      once = so_far.once;
    }

pub none_read : (db : DatabaseValue) (readings : List Reading) → readings ≡ [] → AreSoFar db 0 0 readings
none_read db readings none =
    subst (AreSoFar db 0 0) (sym none)
    (record {
      each = λ i d l. absurd (omega (arith, l));
      exact = λ m. (
        λ c. absurd (Contains-nil m c),
        λ b.
            ⊎_elim
            (λ (l : (m.object < 0) × Contains (map (taken db.schema (object_at db.schema m.object)) (rows_under db m.object)) m.values). let less = l.0 in absurd (omega (arith, less)))
            (λ (r : (m.object ≡ 0) × Contains (lists_before db 0 0) m.values). absurd (Contains-nil m.values r.1))
            b,
      );
      once = λ i j d less l. absurd (omega (arith, l));
    })

pub all_read : (db : DatabaseValue) (o : ℕ) (readings : List Reading) → o ≡ length db.schema.objects → AreSoFar db o 0 readings → AreReadings db readings
all_read db o readings whole so_far = record {
  each = so_far.each;
  members = record {
    exact = λ m. (
      λ c. before_member db o 0 (omega (arith, whole)) (inr refl) m ((so_far.exact m).0 c),
      λ is.
          ⊎_elim
          (λ (l : m.object < length db.schema.objects). (so_far.exact m).1 (inl (omega (arith, l, whole), subst (λ (xs : List (List Value)). Contains xs m.values) (view_is db m.object l) is)))
          (λ (g : length db.schema.objects ≤ m.object). absurd (past db m.object g m.values is))
          (cases_lt m.object (length db.schema.objects)),
    );
    once = so_far.once;
  };
}
