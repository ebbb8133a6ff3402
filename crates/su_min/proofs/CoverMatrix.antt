-- What the matrix tells of the terms.
use Rattle.std.proofs.Common.{◌≡◌, ◌⊎◌, ◌<◌, ◌≤◌, ◌↔◌, ◌∙◌, ℕ, Bool, true, false, List, [], length, get_or, All, sym, ap, subst, inl, inr, ⊎_elim, arith, true≢false}
use Rattle.std.proofs.lemmas.Bool.{cases_Bool, cases_lt}
use Rattle.std.proofs.lemmas.List.{get_or_default}
use Rattle.su_min.specs.Kept.{Minimised, IsMinimised}
use Rattle.su_min.specs.Cover.{Covers}
use Rattle.su_min.specs.Reduction.{term_at, IsDropped, IsKeptTerm, IsLeastCover}
use Rattle.su_min.specs.inside.Matrix.{entry, IsSquare, AreKnown, IsRowOf, IsMatrix, IsDroppedIn, IsPreorder, IsFirstCover}
use Rattle.su_min.proofs.Covers.{covers_itself, covers_through}
use Rattle.su_min.proofs.MatrixRows.{item_at}

module _ (terms : List Minimised) (matrix : List (List Bool)) (m : IsMatrix terms matrix) where
  pub tells : (j i : ℕ) → j < length terms → i < length terms → (entry matrix j i ≡ true) ↔ Covers (term_at terms j) (term_at terms i)
  tells j i hj hi = (m.row j hj).tells i hi

  pub all_minimised : All IsMinimised terms
  all_minimised = λ i d h. subst IsMinimised (get_or_default terms i (term_at [] 0) d h) (m.row i h).minimised

  pub is_square : IsSquare matrix
  is_square = record { columns = λ j h. let e = m.rows in (m.row j (omega arith)).columns ∙ sym m.rows }

  pub is_preorder : IsPreorder (entry matrix) (length matrix)
  is_preorder =
      let e = m.rows in
      record {
        itself = λ i h. (tells i i (omega arith) (omega arith)).1 (covers_itself (term_at terms i));
        through = λ i j k hi hj hk a b.
            let li : i < length terms = omega arith in let lj : j < length terms = omega arith in let lk : k < length terms = omega arith in
            (tells i k li lk).1 (covers_through (term_at terms i) (term_at terms j) (term_at terms k) ((tells i j li lj).0 a) ((tells j k lj lk).0 b));
      }

  pub dropped_in : (i : ℕ) → i < length terms → IsDropped terms i → IsDroppedIn (entry matrix) (length matrix) i
  dropped_in i h d = record {
    other = d.other;
    below = let e = m.rows in let l = d.below in omega arith;
    covers_it = (tells d.other i d.below h).1 d.covers;
    why =
        ⊎_elim
        (λ (none : Covers (term_at terms i) (term_at terms d.other) → ⊥).
        ⊎_elim
        (λ (one : entry matrix i d.other ≡ true). absurd (none ((tells i d.other h d.below).0 one)))
        (λ (other : entry matrix i d.other ≡ false). inl other)
        (cases_Bool (entry matrix i d.other)))
        (λ (lt : d.other < i). inr lt)
        d.why;
  }

  pub dropped_from : (i : ℕ) → i < length terms → IsDroppedIn (entry matrix) (length matrix) i → IsDropped terms i
  dropped_from i h d =
      let below : d.other < length terms = let e = m.rows in let l = d.below in omega arith in
      record {
        other = d.other;
        below = below;
        covers = (tells d.other i below h).0 d.covers_it;
        why =
            ⊎_elim
            (λ (none : entry matrix i d.other ≡ false). inl (λ c. true≢false (sym ((tells i d.other h below).1 c) ∙ none)))
            (λ (lt : d.other < i). inr lt)
            d.why;
      }

  pub kept_from : (i : ℕ) → i < length terms → (IsDroppedIn (entry matrix) (length matrix) i → ⊥) → IsKeptTerm terms i
  kept_from i h none = record { below = h; stays = λ d. none (dropped_in i h d) }

  pub least_cover : (i k : ℕ) → i < length terms → IsFirstCover (entry matrix) (length matrix) i k → IsLeastCover terms i k
  least_cover i k h f =
      let below : k < length terms = let e = m.rows in let l = f.below in omega arith in
      record {
        kept = kept_from k below f.stays;
        covers = (tells k i below h).0 f.covers_it;
        least = λ j kept c.
            ⊎_elim
            (λ (lt : j < k). absurd (f.least j lt ((tells j i kept.below h).1 c) (λ d. kept.stays (dropped_from j kept.below d))))
            (λ (le : k ≤ j). le)
            (cases_lt j k);
      }

-- ---- what is known before a search

-- no marks tell nothing
pub none_known : (terms : List Minimised) → AreKnown terms []
none_known terms i low marked = absurd (true≢false (sym marked))

-- the first term's row is marks
pub first_known : (terms : List Minimised) (row : List Bool) → IsRowOf (term_at terms 0) terms row → AreKnown terms row
first_known terms row r i low marked = (r.tells i low).0 marked

same_covers : (terms : List Minimised) (i j : ℕ) (a x : Minimised) → i < length terms → j < length terms → a ≡ get_or terms j a → x ≡ get_or terms i x → i ≡ j → Covers a x
same_covers terms i j a x hi hj ea ex same =
    let e : a ≡ x = item_at terms j a hj ea ∙ ap (term_at terms) (sym same) ∙ sym (item_at terms i x hi ex) in
    subst (Covers a) e (covers_itself a)

-- a term covers itself, and where it covers the first term what that one covers
pub known_covers : (terms : List Minimised) (i j : ℕ) (a x z : Minimised) (marks : List Bool) (first : Bool)
    → i < length terms → j < length terms → a ≡ get_or terms j a → x ≡ get_or terms i x → z ≡ get_or terms 0 z
    → AreKnown terms marks → (first ≡ true → Covers a z)
    → (i ≡ j) ⊎ ((first ≡ true) × (get_or marks i false ≡ true))
    → Covers a x
known_covers terms i j a x z marks first hi hj ea ex ez known one cases =
    ⊎_elim
    (λ (same : i ≡ j). same_covers terms i j a x hi hj ea ex same)
    (λ (both : (first ≡ true) × (get_or marks i false ≡ true)).
    let to : Covers z x =
    subst (λ m. Covers m x) (sym (item_at terms 0 z (omega arith) ez)) (subst (Covers (term_at terms 0)) (sym (item_at terms i x hi ex)) (known i hi both.1)) in
    covers_through a z x (one both.0) to)
    cases
