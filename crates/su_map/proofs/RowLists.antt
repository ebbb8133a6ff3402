-- A mapping row by row, and the order of row lists.
use Rattle.std.proofs.Common.{◌≡◌, ◌⊎◌, ℕ, zero, suc, ◌<◌, List, [], ◌∷◌, map, length, get_or, Contains, inl, inr, sym, ap, subst, ◌∙◌, true, arith}
use Rattle.std.specs.Int.{bit_at}
use Rattle.std.specs.Ordering.{nat_cmp, is_le, ordering_then}
use Rattle.std.specs.Cmp.{nat_cmp_is}
use Rattle.std.specs.Cmp.Lexicographic.{slice_cmp}
use Rattle.std.specs.declared.cmp.Ordering.TheVariants.{Less, Equal}
use Rattle.std.proofs.lemmas.Cmp.{tied_itself, nat_list_cmp_total}
use Rattle.std.proofs.lemmas.List.{length-map, get_or-map, get_or_default, same_lists}
use Rattle.su_tableau.specs.declared.symbols.Sym.{Sym}
use Rattle.su_tableau.specs.Tableaux.{Tab}
use Rattle.su_tableau.specs.Mapping.{images_of}
use Rattle.su_map.specs.Lists.{row_numbers, row_of, IsMapping}
use Rattle.su_map.specs.inside.Choices.{IsBefore}
use Rattle.su_map.proofs.Ranks.{rank, rank_in, rank_at, ranked_at}

-- ---- rows

pub in_rows : (t : Tab) (m i : ℕ) → i < length t.rows → bit_at m i ≡ 1 → Contains (row_numbers t m) i
in_rows t m i l b = (rank m i, rank_in m (length t.rows) i l b, get_or_default (row_numbers t m) (rank m i) i 0 (rank_in m (length t.rows) i l b) ∙ rank_at m (length t.rows) i l b)

pub of_rows : (t : Tab) (m i : ℕ) → Contains (row_numbers t m) i → (i < length t.rows) × (bit_at m i ≡ 1)
of_rows t m i c =
    let r = ranked_at m (length t.rows) c.0 c.1 in
    let same : r.number ≡ i = sym r.is ∙ get_or_default (row_numbers t m) c.0 0 i c.1 ∙ c.2 in
    (subst (λ k. k < length t.rows) same r.below, subst (λ k. bit_at m k ≡ 1) same r.member)

-- a mapping by the places of its list
pub record MapsRows (s : Tab) (m : ℕ) (t : Tab) (k : ℕ) (list : List ℕ) : Type 0 where
  pub symbols : ℕ → Sym
  pub one_each : length list ≡ length (row_numbers s m)
  pub head : images_of symbols s.head ≡ t.head
  pub rows : (i : ℕ) → i < length list → images_of symbols (row_of s (get_or (row_numbers s m) i 0)) ≡ row_of t (get_or list i 0)
  pub targets : (i : ℕ) → i < length list → (get_or list i 0 < length t.rows) × (bit_at k (get_or list i 0) ≡ 1)

module _ (s : Tab) (m : ℕ) (t : Tab) (k : ℕ) (list : List ℕ) where
  -- a row of the part, and its image
  image_at : (f : ℕ → Sym) (i : ℕ) → i < length (row_numbers s m) → get_or (map (images_of f) (map (row_of s) (row_numbers s m))) i [] ≡ images_of f (row_of s (get_or (row_numbers s m) i 0))
  image_at f i low =
      get_or-map (images_of f) (map (row_of s) (row_numbers s m)) i [] [] (let e = length-map (row_numbers s m) (row_of s) in omega arith)
      ∙ ap (images_of f) (get_or-map (row_of s) (row_numbers s m) i 0 [] low)

  images_length : (f : ℕ → Sym) → length (map (images_of f) (map (row_of s) (row_numbers s m))) ≡ length (row_numbers s m)
  images_length f = length-map (map (row_of s) (row_numbers s m)) (images_of f) ∙ length-map (row_numbers s m) (row_of s)

  pub row_by_row : IsMapping s m t k list → MapsRows s m t k list
  row_by_row f =
      let len : length list ≡ length (row_numbers s m) = sym (length-map list (row_of t)) ∙ ap length (sym f.rows) ∙ images_length f.symbols in
      record {
        symbols = f.symbols;
        one_each = len;
        head = f.head;
        rows = λ i h. sym (image_at f.symbols i (omega arith)) ∙ ap (λ rs. get_or rs i []) f.rows ∙ get_or-map (row_of t) list i 0 [] h;
        targets = λ i h. of_rows t k (get_or list i 0) (f.targets i 0 h);
      }

  pub from_rows : MapsRows s m t k list → IsMapping s m t k list
  from_rows f =
      let len = f.one_each in
      let images = images_length f.symbols in
      record {
        symbols = f.symbols;
        head = f.head;
        rows = same_lists (map (images_of f.symbols) (map (row_of s) (row_numbers s m))) (map (row_of t) list) (images ∙ sym len ∙ sym (length-map list (row_of t))) (λ i d h.
            let low : i < length (row_numbers s m) = omega arith in
            get_or_default (map (images_of f.symbols) (map (row_of s) (row_numbers s m))) i d [] h
            ∙ image_at f.symbols i low ∙ f.rows i (omega arith) ∙ sym (get_or-map (row_of t) list i 0 d (omega arith)));
        targets = λ i d h. let r = f.targets i h in subst (Contains (row_numbers t k)) (get_or_default list i 0 d h) (in_rows t k (get_or list i 0) r.0 r.1);
      }

-- ---- the order of lists

list_less : (p : ℕ) (a b : List ℕ) → p < length a → p < length b → ((i : ℕ) → i < p → get_or a i 0 ≡ get_or b i 0) → get_or a p 0 < get_or b p 0 → slice_cmp nat_cmp a b ≡ Less
list_less p [] b l r same less = absurd (omega arith)
list_less p (x ∷ xs) [] l r same less = absurd (omega arith)
list_less zero (x ∷ xs) (y ∷ ys) l r same less = ap (λ o. ordering_then o (slice_cmp nat_cmp xs ys)) (sym (nat_cmp_is x y Less less))
list_less (suc p) (x ∷ xs) (y ∷ ys) l r same less =
    ap (λ o. ordering_then o (slice_cmp nat_cmp xs ys)) (sym (nat_cmp_is x y Equal (same 0 (omega arith)))) ∙ list_less p xs ys (omega arith) (omega arith) (λ i h. same (suc i) (omega arith)) less

-- a list that is the same or before is not behind
pub list_upto : (a b : List ℕ) → (b ≡ a) ⊎ IsBefore a b → is_le (slice_cmp nat_cmp a b) ≡ true
list_upto a b (inl same) = ap is_le (ap (slice_cmp nat_cmp a) same ∙ tied_itself nat_list_cmp_total a)
list_upto a b (inr before) = ap is_le (list_less before.place a b before.in_both.0 before.in_both.1 before.same before.less)
