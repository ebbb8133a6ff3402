-- Different items stand in no shorter list, and so many pass a test as in any other list with just these items.
use Rattle.std.proofs.Common.{◌≡◌, ◌<◌, ◌≤◌, ◌⊎◌, ℕ, zero, suc, Bool, true, false, cond, List, [], ◌∷◌, length, get_or, ap, sym, ◌∙◌, Contains, inl, inr, arith}
use Rattle.std.specs.List.{filter, count_by}
use Rattle.std.proofs.lemmas.Bool.{cases_lt}
use Rattle.std.proofs.lemmas.List.{get_or_default}
use Rattle.std.proofs.lemmas.List.Elements.{Contains-get_or}
use Rattle.std.proofs.lemmas.List.Sums.{length-filter}
use Rattle.su_base.specs.declared.values.Value.{Value}
use Rattle.su_base.specs.Lists.{AllDiffer}
use Rattle.su_min.proofs.Holes.{pigeonhole}
use Rattle.su_base.proofs.Items.{Contains-filter, Contains-filter_source}
use Rattle.su_once.proofs.Lists.{Ascends, ascends_from}

abbrev Row : Type 0
Row = List Value

-- n different items of a list: there are no more than its items
module _ {X : Type 0} (n : ℕ) (list : ℕ → X) (rows : List X) (there : (i : ℕ) → i < n → Contains rows (list i)) where
  place : (i : ℕ) → (i < n) ⊎ (n ≤ i) → ℕ
  place i (inl less) = (there i less).0
  place i (inr past) = 0

  below : (i : ℕ) (s : (i < n) ⊎ (n ≤ i)) → i < n → place i s < length rows
  unfolding place
  below i (inl less) within = (there i less).1
  below i (inr past) within = absurd (omega arith)

  own : (i : ℕ) (s : (i < n) ⊎ (n ≤ i)) (d : X) → i < n → get_or rows (place i s) d ≡ list i
  unfolding place
  own i (inl less) d within = get_or_default rows (there i less).0 d (list i) (there i less).1 ∙ (there i less).2
  own i (inr past) d within = absurd (omega arith)

  pub no_more : ((i j : ℕ) → i < j → j < n → ¬ (list i ≡ list j)) → n ≤ length rows
  no_more differ =
      pigeonhole (length rows) n (λ i. place i (cases_lt i n)) (λ i less. below i (cases_lt i n) less)
      (λ i j less within same.
      differ i j less within (sym (own i (cases_lt i n) (list i) (omega (arith, less, within))) ∙ ap (λ p. get_or rows p (list i)) same ∙ own j (cases_lt j n) (list i) within))

abbrev Apart : Row → Row → Type 0
Apart a b = ¬ (a ≡ b)

apart_more : (p : Row → Bool) (r : Row) (rs : List Row) (b : Bool) → Ascends Apart (r ∷ rs) → Ascends Apart (filter p rs) → Ascends Apart (cond b (r ∷ filter p rs) (filter p rs))
apart_more p r rs true differ rest = (λ y there. differ.0 y (Contains-filter_source p rs y there).0, rest)
apart_more p r rs false differ rest = rest

still_apart : (p : Row → Bool) (rows : List Row) → Ascends Apart rows → Ascends Apart (filter p rows)
still_apart p [] differ = tt
still_apart p (r ∷ rs) differ = apart_more p r rs (p r) differ (still_apart p rs differ.1)

by_place : (rows : List Row) → Ascends Apart rows → (i j : ℕ) → i < j → j < length rows → ¬ (get_or rows i [] ≡ get_or rows j [])
by_place [] differ i j less within = absurd (omega (arith, within))
by_place (r ∷ rs) differ zero zero less within = absurd (omega (arith, less))
by_place (r ∷ rs) differ (suc i) zero less within = absurd (omega (arith, less))
by_place (r ∷ rs) differ zero (suc j) less within = differ.0 (get_or rs j []) (Contains-get_or rs j [] (omega (arith, within)))
by_place (r ∷ rs) differ (suc i) (suc j) less within = by_place rs differ.1 i j (omega (arith, less)) (omega (arith, within))

pub no_longer : (rows others : List Row) → Ascends Apart rows → ((row : Row) → Contains rows row → Contains others row) → length rows ≤ length others
no_longer rows others differ within = no_more (length rows) (λ i. get_or rows i []) others (λ i less. within (get_or rows i []) (Contains-get_or rows i [] less)) (by_place rows differ)

fewer : (p : Row → Bool) (rows others : List Row) → AllDiffer rows → ((row : Row) → Contains rows row → Contains others row) → length (filter p rows) ≤ length (filter p others)
fewer p rows others differ within =
    no_longer (filter p rows) (filter p others) (still_apart p rows (ascends_from Apart rows [] (λ i j less inside. differ i j [] less inside)))
    (λ row there. let inside = Contains-filter_source p rows row there in Contains-filter p others row (within row inside.0) inside.1)

-- so many of the same different rows pass a test
pub one_count : (p : Row → Bool) (rows others : List Row) → AllDiffer rows → AllDiffer others → ((row : Row) → Contains rows row → Contains others row) → ((row : Row) → Contains others row → Contains rows row) → count_by p rows ≡ count_by p others
one_count p rows others differ apart f g =
    let one = fewer p rows others differ f in
    let other = fewer p others rows apart g in
    let a = length-filter p rows in
    let b = length-filter p others in
    omega (arith, one, other, a, b)
