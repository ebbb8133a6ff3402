-- What a choice of a query gives to its rows, and the cases one after another.
use Rattle.std.proofs.Common.{◌≡◌, ℕ, ◌<◌, ◌≤◌, min, List, [], length, get_or, refl, sym, ap, subst, arith}
use Rattle.std.specs.Prelude.{All}
use Rattle.std.specs.List.{range_with_len}
use Rattle.std.specs.Ordering.{nat_cmp}
use Rattle.std.specs.FinSet.{FinSet, empty}
use Rattle.std.proofs.Math.Nat.{le-mul_of_pos_right, mul_comm}
use Rattle.std.proofs.lemmas.List.Elements.{Contains-get_or}
use Rattle.su_base.proofs.Items.{Contains-filter_source, length-filter, Contains-range_below, get_or-map_range}
use Rattle.std.proofs.lemmas.List.FromFn.{length-range_with_len}
use Rattle.su_schema.specs.SchemaValue.{SchemaValue}
use Rattle.su_query.specs.declared.places.Place.{Place}
use Rattle.su_query.specs.declared.resolving.Resolved.{Resolved}
use Rattle.su_query.specs.Ranges.{IsResolved}
use Rattle.su_query.specs.Sets.{mentioned_with}
use Rattle.su_steps.specs.Objects.{covers}
use Rattle.su_steps.specs.Choices.{coverings_of, coverings, choices, origin, origins_of}
use Rattle.su_steps.specs.Limits.{row_count, disjunct_count, HasFewTerms}
use Rattle.su_steps.specs.inside.Ready.{FitOrigins, IsShown, IsChoice}
use Rattle.su_steps.proofs.ResolvedQueries.{place_in}
use Rattle.su_steps.proofs.Chosen.{coverings_count, choice_of, origin_in, place_object, has_origin}

module _ (schema : SchemaValue) (maximal : List (FinSet nat_cmp)) (q : Resolved) where
  pub fit_origins : (choice : List ℕ) → IsChoice schema maximal q choice → row_count schema maximal choice ≤ 64 → FitOrigins schema q (origins_of schema maximal choice)
  fit_origins choice is few = record { in_range = λ k d l. origin_in schema maximal q choice is (get_or (origins_of schema maximal choice) k d) (Contains-get_or (origins_of schema maximal choice) k d l); few = few }

  pub shown_rows : IsResolved schema q → (choice : List ℕ) → IsChoice schema maximal q choice → IsShown schema q (origins_of schema maximal choice)
  shown_rows resolved choice is k p l =
      let place : Place = get_or q.places k p in
      let has = Contains-get_or q.places k p l in
      let low = (place_in schema q resolved place has).0 in
      let w = place_object schema maximal q choice is place has low in
      (origin place.variable w.0, has_origin schema maximal q choice is place.variable w.0 low w.1, refl, w.2)

  -- the numbers of covering maximal objects are in range, and there are no more than maximal objects
  covering_is : (k : ℕ) (d : List ℕ) → k < length (coverings schema maximal q) → get_or (coverings schema maximal q) k d ≡ coverings_of schema maximal q k
  covering_is k d l = get_or-map_range (coverings_of schema maximal q) (length q.variables) k d (let e = coverings_count schema maximal q in omega arith)

  pub coverings_low : All (λ ms. All (λ m. m < length maximal) ms) (coverings schema maximal q)
  coverings_low k d l = subst (All (λ m. m < length maximal)) (sym (covering_is k d l))
      (λ j e h.
      let w = Contains-filter_source (λ m. covers schema (get_or maximal m empty) (mentioned_with q.places k)) (range_with_len 0 (length maximal)) (get_or (coverings_of schema maximal q k) j e) (Contains-get_or (coverings_of schema maximal q k) j e h) in
      Contains-range_below (length maximal) (get_or (coverings_of schema maximal q k) j e) w.0)

  pub coverings_few : length maximal ≤ 128 → All (λ ms. length ms ≤ 128) (coverings schema maximal q)
  coverings_few few k d l =
      let e = ap length (covering_is k d l) in
      let f = length-filter (λ m. covers schema (get_or maximal m empty) (mentioned_with q.places k)) (range_with_len 0 (length maximal)) in
      let g = length-range_with_len 0 (length maximal) in
      omega arith

  -- there are no more choices than the limit of terms where there is a disjunct
  pub count_is : (count i : ℕ) → count ≡ min (length (choices schema maximal q)) 257 → HasFewTerms schema maximal q → i < disjunct_count q → count ≡ length (choices schema maximal q)
  count_is count i e few l =
      let some : 0 < disjunct_count q = omega arith in
      let m = le-mul_of_pos_right (length (choices schema maximal q)) some in
      let c = mul_comm (disjunct_count q) (length (choices schema maximal q)) in
      omega arith

  pub choice_in : (k : ℕ) → k < length (choices schema maximal q) → IsChoice schema maximal q (get_or (choices schema maximal q) k [])
  choice_in k l = choice_of schema maximal q (get_or (choices schema maximal q) k []) (Contains-get_or (choices schema maximal q) k [] l)
