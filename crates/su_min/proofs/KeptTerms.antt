-- Each term is kept or covered by a kept one, and what covers a kept term is covered by it.
use Rattle.std.proofs.Common.{◌≡◌, ◌≢◌, ◌⊎◌, ℕ, ◌<◌, ◌≤◌, List, map, length, Contains, sym, subst, inl, inr, ⊎_elim, arith}
use Rattle.std.proofs.lemmas.Bool.{cases_eq, cases_lt}
use Rattle.std.proofs.lemmas.List.Elements.{All-contains}
use Rattle.su_base.proofs.Items.{Contains-map_source, Contains-or_not}
use Rattle.su_min.specs.Kept.{Minimised}
use Rattle.su_min.specs.Cover.{Covers}
use Rattle.su_min.specs.declared.reduced.Cover.{Cover}
use Rattle.su_min.specs.declared.reduced.Reduced.{Reduced}
use Rattle.su_min.specs.Reduction.{term_at, IsKeptTerm, IsCover, IsReduced}
use Rattle.su_min.specs.Laws.{HasCover}
use Rattle.su_min.proofs.Covers.{covers_itself, covers_through}

-- ---- kept terms

module _ (terms : List Minimised) where
  -- a kept term is not after what covers it, and so two kept terms of which one covers the other are the same
  no_earlier : (i j : ℕ) → IsKeptTerm terms i → j < length terms → Covers (term_at terms j) (term_at terms i) → i ≤ j
  no_earlier i j kept low c =
      ⊎_elim
      (λ (lt : j < i). absurd (kept.stays (record { other = j; below = low; covers = c; why = inr lt })))
      (λ (le : i ≤ j). le)
      (cases_lt j i)

  kept_same : (i k : ℕ) → IsKeptTerm terms i → IsKeptTerm terms k → Covers (term_at terms k) (term_at terms i) → i ≡ k
  kept_same i k ki kk c =
      ⊎_elim
      (λ (e : i ≡ k). e)
      (λ (ne : i ≢ k).
      let first : i ≤ k = no_earlier i k ki kk.below c in
      let before : i < k = omega (arith, ne, first) in
      absurd (ki.stays (record {
        other = k;
        below = kk.below;
        covers = c;
        why = inl (λ back. kk.stays (record { other = i; below = ki.below; covers = back; why = inr before }));
      })))
      (cases_eq i k)

  module _ (r : Reduced) (is : IsReduced terms r) where
    -- each term is kept or covered by a kept one
    pub kept_or_covered : (i : ℕ) → i < length terms → Contains r.kept i ⊎ HasCover terms r.kept i
    kept_or_covered i low =
        ⊎_elim
        (λ (c : Contains (map (λ (d : Cover). d.dropped) r.covers) i).
        let w = Contains-map_source (λ (d : Cover). d.dropped) r.covers i c in
        let cover = All-contains (IsCover terms) r.covers w.0 is.covers w.1 in
        inr (record {
          by = w.0.by;
          is_kept = (is.kept.members w.0.by).1 (cover.least.kept.below, cover.least.kept);
          below = cover.least.kept.below;
          covers = subst (λ n. Covers (term_at terms w.0.by) (term_at terms n)) w.2 cover.least.covers;
        }))
        (λ (out : Contains (map (λ (d : Cover). d.dropped) r.covers) i → ⊥).
        inl ((is.kept.members i).1 (low, record { below = low; stays = λ d. out ((is.dropped.members i).1 (low, d)) })))
        (Contains-or_not cases_eq (map (λ (d : Cover). d.dropped) r.covers) i)

    -- what covers a kept term is covered by it, and is no earlier
    pub kept_back : (i : ℕ) → IsKeptTerm terms i → (j : ℕ) → j < length terms → Covers (term_at terms j) (term_at terms i) → Covers (term_at terms i) (term_at terms j) × (i ≤ j)
    kept_back i kept j low c = (
      ⊎_elim
          (λ (h : Contains r.kept j).
          let same = kept_same i j kept ((is.kept.members j).0 h).1 c in
          subst (λ n. Covers (term_at terms i) (term_at terms n)) same (covers_itself (term_at terms i)))
          (λ (h : HasCover terms r.kept j).
          let through = covers_through (term_at terms h.by) (term_at terms j) (term_at terms i) h.covers c in
          let same = kept_same i h.by kept ((is.kept.members h.by).0 h.is_kept).1 through in
          subst (λ n. Covers (term_at terms n) (term_at terms j)) (sym same) h.covers)
          (kept_or_covered j low),
      no_earlier i j kept low c,
    )
