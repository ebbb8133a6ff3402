-- What breaks a dependency through an object of a relation, by the columns of its sides.
use Rattle.std.proofs.Common.{◌≡◌, ◌≢◌, ℕ, List, map, slice_get, Some, refl, sym, ap, subst, ◌∙◌, Contains, arith}
use Rattle.std.specs.Prelude.{option_map}
use Rattle.std.proofs.lemmas.Option.{slice_get-map}
use Rattle.su_base.specs.declared.values.Value.{Value}
use Rattle.su_fd.specs.declared.dependencies.Fd.{Fd}
use Rattle.su_fd.specs.MetDependencies.{LiesIn}
use Rattle.su_schema.specs.SchemaValue.{SchemaValue, ObjectEntry}
use Rattle.su_schema.specs.Entries.{attributes_of}
use Rattle.su_state.specs.Enforced.{Break}
use Rattle.su_state.specs.Breaches.{Breach, IsFirstOf, IsBreach, IsBreachWith}
use Rattle.su_state.specs.declared.sides.Sides.{Sides}
use Rattle.su_state.specs.inside.Sides.{IsAtMost, AreSidesOf, Clash, IsLeastClash}
use Rattle.su_state.specs.inside.SomeBreaches.{OfDependency, ThroughObject}
use Rattle.su_state.proofs.BreachOrder.{breach_at_most}
use Rattle.su_state.proofs.Columns.{break_from_clash, clash_from_break}
use Rattle.su_state.proofs.Least.{at_most_itself}

-- what a reader of the schema answers of the object with a number
pub of_object : {X : Type 0} (v : ObjectEntry → X) (objects : List ObjectEntry) (o : ℕ) (entry : ObjectEntry) (x : X) → slice_get objects o ≡ Some entry → slice_get (map v objects) o ≡ Some x → v entry ≡ x
of_object v objects o entry x placed answered =
    let same : Some (v entry) ≡ Some x = sym (slice_get-map v objects o ∙ ap (option_map v) placed) ∙ answered in
    cc

-- what breaks the dependency with this number through the object with this number
module _ (schema : SchemaValue) (f o : ℕ) where
  its_object : (relation : ℕ) (b : Breach) → (breach : IsBreach schema relation b) → b.object ≡ o → slice_get schema.objects o ≡ Some breach.object
  its_object relation b breach at = subst (λ (n : ℕ). slice_get schema.objects n ≡ Some breach.object) at breach.placed

  module _ (fd : Fd) (entry : ObjectEntry) (numbered : slice_get schema.fds f ≡ Some fd) (placed : slice_get schema.objects o ≡ Some entry) where
    -- the dependency and the object of these numbers are no others
    pub own_break : (relation : ℕ) (b : Breach) → IsBreach schema relation b → b.dependency ≡ f → b.object ≡ o → Break fd entry b.first b.second × (entry.relation ≡ relation)
    own_break relation b breach of_fd through =
        let its_number : slice_get schema.fds f ≡ Some breach.fd = subst (λ (n : ℕ). slice_get schema.fds n ≡ Some breach.fd) of_fd breach.numbered in
        let one : Some breach.fd ≡ Some fd = sym its_number ∙ numbered in
        let two : Some breach.object ≡ Some entry = sym (its_object relation b breach through) ∙ placed in
        let same_fd : breach.fd ≡ fd = cc in
        let same_object : breach.object ≡ entry = cc in (
          subst (λ (d : Fd). Break d entry b.first b.second) same_fd (subst (λ (e : ObjectEntry). Break breach.fd e b.first b.second) same_object breach.broken),
          sym (ap (λ (e : ObjectEntry). e.relation) same_object) ∙ breach.on,
        )

    pub own_breach : (relation : ℕ) (first second : List Value) → entry.relation ≡ relation → Break fd entry first second → IsBreach schema relation (record { dependency = f; object = o; first = first; second = second })
    own_breach relation first second on broken = record { fd = fd; object = entry; numbered = numbered; placed = placed; on = on; broken = broken }

-- what a row breaks
module _ (schema : SchemaValue) (relation : ℕ) (rows : List (List Value)) (row : List Value) (f o : ℕ) where
  abbrev pub ByRow : Breach → Type 0
  ByRow = ThroughObject o (OfDependency f (IsBreachWith schema relation rows row))

  pub elsewhere : (r : ℕ) → slice_get (map (λ (e : ObjectEntry). e.relation) schema.objects) o ≡ Some r → r ≢ relation → (b : Breach) → ¬ ByRow b
  elsewhere r answered apart b h =
      let breach : IsBreach schema relation b = h.0.0.breach in
      apart (sym (of_object (λ (e : ObjectEntry). e.relation) schema.objects o breach.object r (its_object schema f o relation b breach h.1) answered) ∙ breach.on)

  module _ (fd : Fd) (entry : ObjectEntry) (numbered : slice_get schema.fds f ≡ Some fd) (placed : slice_get schema.objects o ≡ Some entry) where
    breaks_own : (b : Breach) → ByRow b → Break fd entry row b.second
    breaks_own b h = subst (λ (x : List Value). Break fd entry x b.second) h.0.0.first (own_break schema f o fd entry numbered placed relation b h.0.0.breach h.0.1 h.1).0

    pub not_enforced : (¬ LiesIn fd (attributes_of entry)) → (b : Breach) → ¬ ByRow b
    not_enforced out b h = out (breaks_own b h).lies

    pub no_clash : (sides : Sides) → AreSidesOf entry fd sides → ((other : List Value) → Contains rows other → ¬ Clash sides row other) → (b : Breach) → ¬ ByRow b
    no_clash sides are none b h = none b.second h.0.0.stored (clash_from_break entry fd sides row b.second are (breaks_own b h))

    -- from the least clash of the sides to the first breach
    pub least_first : (sides : Sides) (other : List Value) → AreSidesOf entry fd sides → entry.relation ≡ relation → IsLeastClash sides rows row other
        → IsFirstOf ByRow (record { dependency = f; object = o; first = row; second = other })
    least_first sides other are on least =
        let here : Breach = record { dependency = f; object = o; first = row; second = other } in
        let breach : IsBreach schema relation here = own_breach schema f o fd entry numbered placed relation row other on (break_from_clash entry fd sides row other are least.clash) in
        let by : IsBreachWith schema relation rows row here = record { breach = breach; first = refl; stored = least.stored } in (
          ((by, refl), refl),
          λ b h. breach_at_most here b
              (λ less. absurd (let same : b.dependency ≡ f = h.0.1 in omega (arith, less, same)))
              (λ _ less. absurd (let same : b.object ≡ o = h.1 in omega (arith, less, same)))
              (λ _ _. subst (IsAtMost row) (sym h.0.0.first) (at_most_itself row))
              (λ _ _ _. least.least b.second h.0.0.stored (clash_from_break entry fd sides row b.second are (breaks_own b h))),
        )
