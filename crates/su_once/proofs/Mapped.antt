-- Of a tableau there is one kept set and one fold, and of a union one list of kept terms and of covers.
use Rattle.std.proofs.Common.{◌≡◌, ℕ, List, [], ◌∷◌, map, refl, sym, ap, ◌∙◌, subst, All, true, true≢false, arith}
use Rattle.std.specs.declared.cmp.Ordering.{Ordering}
use Rattle.std.specs.Ordering.{nat_cmp, is_le, is_eq, ordering_reverse}
use Rattle.std.specs.declared.cmp.Ordering.TheVariants.{Less, Equal, Greater}
use Rattle.std.specs.Cmp.Lexicographic.{slice_cmp, nat_list_cmp_total, texts_ties, same_text}
use Rattle.std.proofs.lemmas.List.Elements.{All-head, All-tail}
use Rattle.su_base.proofs.AscendingNumbers.{exactly_one}
use Rattle.su_tableau.specs.Tableaux.{Tab}
use Rattle.su_min.specs.declared.reduced.Cover.{Cover}
use Rattle.su_min.specs.Kept.{all_rows, IsKept, IsFold, Minimised, IsMinimised}
use Rattle.su_min.specs.Reduction.{term_at, IsLeastCover, IsFirstMapping, IsCover}
use Rattle.su_once.specs.Tableaux.{OneFirstMapping, OneKeptSet, OneFold, OneReduction}

-- lists of which neither is behind the other are one
neither_behind : (a b : List ℕ) (o : Ordering) → slice_cmp nat_cmp b a ≡ o → is_le (slice_cmp nat_cmp a b) ≡ true → is_le o ≡ true → a ≡ b
neither_behind a b Less e x y = absurd (true≢false (sym x ∙ ap is_le (nat_list_cmp_total.antisymm a b ∙ ap ordering_reverse e)))
neither_behind a b Equal e x y = sym (same_text b a (sym (texts_ties b a ∙ ap is_eq e)))
neither_behind a b Greater e x y = absurd (true≢false (sym y))

pub one_first : OneFirstMapping
one_first s m t k list other x y = neither_behind list other (slice_cmp nat_cmp other list) refl (x.first other y.maps) (y.first list x.maps)

pub one_kept : OneKeptSet
one_kept t m n x y = let a = x.least n y.maps in let b = y.least m x.maps in omega (arith, a, b)

pub one_fold : OneFold
one_fold t m list other x y = one_first t (all_rows t) t m list other x y

pub one_minimised : (t : Tab) (m n : Minimised) → m.tableau ≡ t → n.tableau ≡ t → IsMinimised m → IsMinimised n → m ≡ n
one_minimised t m n of_m of_n x y =
    let mask : m.mask ≡ n.mask = one_kept t m.mask n.mask (subst (λ (v : Tab). IsKept v m.mask) of_m x.kept) (subst (λ (v : Tab). IsKept v n.mask) of_n y.kept) in
    let first : IsFold t n.mask m.fold = subst (λ (k : ℕ). IsFold t k m.fold) mask (subst (λ (v : Tab). IsFold v m.mask m.fold) of_m x.fold) in
    let fold : m.fold ≡ n.fold = one_fold t n.mask m.fold n.fold first (subst (λ (v : Tab). IsFold v n.mask n.fold) of_n y.fold) in
    let tableau : m.tableau ≡ n.tableau = of_m ∙ sym of_n in
    λ i. record { tableau = tableau i; mask = mask i; fold = fold i }

one_least_cover : (terms : List Minimised) (i k j : ℕ) → IsLeastCover terms i k → IsLeastCover terms i j → k ≡ j
one_least_cover terms i k j x y = let a = x.least j y.kept y.covers in let b = y.least k x.kept x.covers in omega (arith, a, b)

one_cover : (terms : List Minimised) (c d : Cover) → c.dropped ≡ d.dropped → IsCover terms c → IsCover terms d → c ≡ d
one_cover terms c d same x y =
    let by : c.by ≡ d.by = one_least_cover terms d.dropped c.by d.by (subst (λ (i : ℕ). IsLeastCover terms i c.by) same x.least) y.least in
    let one = subst (λ (k : ℕ). IsFirstMapping (term_at terms k) (term_at terms d.dropped) c.mapping) by (subst (λ (i : ℕ). IsFirstMapping (term_at terms c.by) (term_at terms i) c.mapping) same x.mapping) in
    let other = y.mapping in
    let a = term_at terms d.by in
    let b = term_at terms d.dropped in
    let list = one_first _ _ _ _ c.mapping.list d.mapping.list one.1 other.1 in
    let mapping : c.mapping ≡ d.mapping = one.0 ∙ ap (λ l. record { from = a.tableau; from_mask = a.mask; to = b.tableau; to_mask = b.mask; list = l }) list ∙ sym other.0 in
    λ i. record { dropped = same i; by = by i; mapping = mapping i }

one_list_of_covers : (terms : List Minimised) (cs ds : List Cover) → map (λ c. c.dropped) cs ≡ map (λ c. c.dropped) ds → All (IsCover terms) cs → All (IsCover terms) ds → cs ≡ ds
one_list_of_covers terms [] [] same a b = refl
one_list_of_covers terms [] (d ∷ ds) same a b = absurd (cc)
one_list_of_covers terms (c ∷ cs) [] same a b = absurd (cc)
one_list_of_covers terms (c ∷ cs) (d ∷ ds) same a b =
    let first : c.dropped ≡ d.dropped = cc in
    let behind : map (λ (x : Cover). x.dropped) cs ≡ map (λ (x : Cover). x.dropped) ds = cc in
    let one = one_cover terms c d first (All-head (IsCover terms) c cs a) (All-head (IsCover terms) d ds b) in
    let rest = one_list_of_covers terms cs ds behind (All-tail (IsCover terms) c cs a) (All-tail (IsCover terms) d ds b) in
    λ i. one i ∷ rest i

pub one_reduced : OneReduction
one_reduced terms r s x y =
    let kept : r.kept ≡ s.kept = exactly_one _ r.kept s.kept x.kept y.kept in
    let dropped = exactly_one _ (map (λ (c : Cover). c.dropped) r.covers) (map (λ (c : Cover). c.dropped) s.covers) x.dropped y.dropped in
    let covers : r.covers ≡ s.covers = one_list_of_covers terms r.covers s.covers dropped x.covers y.covers in
    λ i. record { kept = kept i; covers = covers i }
