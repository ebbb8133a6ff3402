-- A row list is a mapping exactly where each row goes to its target by itself and each two rows agree.
use Rattle.std.proofs.Common.{◌≡◌, ◌≢◌, ℕ, ◌<◌, ◌⊎◌, List, [], map, length, get_or, All, Contains, inl, inr, refl, sym, ap, subst, ◌∙◌, ⊎_elim, arith}
use Rattle.std.specs.Int.{bit_at}
use Rattle.std.proofs.lemmas.Bool.{cases_eq}
use Rattle.std.proofs.lemmas.List.{length-map, get_or-map, get_or_default, same_lists}
use Rattle.su_tableau.specs.declared.symbols.Sym.{Sym}
use Rattle.su_tableau.specs.declared.symbols.Sym.TheVariants.{Const, Var}
use Rattle.su_tableau.specs.Tableaux.{Tab}
use Rattle.su_tableau.specs.Mapping.{image_of, images_of}
use Rattle.su_tableau.proofs.ChangedValuations.{InRow, in_row, Stands, stands}
use Rattle.su_map.specs.Lists.{row_numbers, row_of, IsMapping}
use Rattle.su_tableau.specs.Parts.{Cell}
use Rattle.su_map.specs.Candidates.{KeepsConstants, MapAlike}
use Rattle.su_map.specs.inside.Netted.{Netted, IsTarget}
use Rattle.su_map.specs.inside.Nets.{IsNetFor}
use Rattle.su_map.specs.inside.Choices.{IsChoiceInto}
use Rattle.su_map.proofs.Cells.{cell_from, cell_contains}
use Rattle.su_map.proofs.Ranks.{rank, choice_by, rank_in, rank_at, ranked_at}
use Rattle.su_map.proofs.RowLists.{row_by_row, from_rows}

-- a mapping by a target for each row
pub record MapsBy (s : Tab) (m : ℕ) (t : Tab) (k : ℕ) (a : ℕ → ℕ) : Type 0 where
  pub symbols : ℕ → Sym
  pub head : images_of symbols s.head ≡ t.head
  pub rows : (i : ℕ) → i < length s.rows → bit_at m i ≡ 1 → images_of symbols (row_of s i) ≡ row_of t (a i)
  pub targets : (i : ℕ) → i < length s.rows → bit_at m i ≡ 1 → (a i < length t.rows) × (bit_at k (a i) ≡ 1)

pub mapping_by : (s t : Tab) (m k : ℕ) (list : List ℕ) → IsMapping s m t k list → MapsBy s m t k (choice_by m list)
mapping_by s t m k list map' =
    let f = row_by_row s m t k list map' in
    let len = f.one_each in
    record {
      symbols = f.symbols;
      head = f.head;
      rows = λ i h b.
          let r = rank_in m (length s.rows) i h b in
          ap (λ n. images_of f.symbols (row_of s n)) (sym (rank_at m (length s.rows) i h b)) ∙ f.rows (rank m i) (omega arith);
      targets = λ i h b. let r = rank_in m (length s.rows) i h b in f.targets (rank m i) (omega arith);
    }

pub by_mapping : (s t : Tab) (m k : ℕ) (a : ℕ → ℕ) → MapsBy s m t k a → IsMapping s m t k (map a (row_numbers s m))
by_mapping s t m k a f =
    let len = length-map (row_numbers s m) a in
    from_rows s m t k (map a (row_numbers s m)) (record {
      symbols = f.symbols;
      one_each = len;
      head = f.head;
      rows = λ p h.
          let low : p < length (row_numbers s m) = omega arith in
          let r = ranked_at m (length s.rows) p low in
          ap (λ n. images_of f.symbols (row_of s n)) r.is ∙ f.rows r.number r.below r.member ∙ ap (λ n. row_of t (a n)) (sym r.is) ∙ ap (row_of t) (sym (get_or-map a (row_numbers s m) p 0 0 low));
      targets = λ p h.
          let low : p < length (row_numbers s m) = omega arith in
          let r = ranked_at m (length s.rows) p low in
          subst (λ j. (j < length t.rows) × (bit_at k j ≡ 1)) (ap a (sym r.is) ∙ sym (get_or-map a (row_numbers s m) p 0 0 low)) (f.targets r.number r.below r.member);
    })

-- ---- one list of symbols, line by line

pub images_keep : (f : ℕ → Sym) (xs us : List Sym) → images_of f xs ≡ us → KeepsConstants xs us
images_keep f xs us e c v d cell = ap (λ r. get_or r c d) (sym e) ∙ get_or-map (image_of f) xs c (Var 0) d cell.below ∙ ap (image_of f) (cell.is (Var 0))

pub image_at : (f : ℕ → Sym) (xs us : List Sym) (c k : ℕ) (d : Sym) → images_of f xs ≡ us → Cell xs c (Var k) → get_or us c d ≡ f k
image_at f xs us c k d e cell = ap (λ r. get_or r c d) (sym e) ∙ get_or-map (image_of f) xs c (Var 0) d cell.below ∙ ap (image_of f) (cell.is (Var 0))

pub images_agree : (f : ℕ → Sym) (xs us ys vs : List Sym) → images_of f xs ≡ us → images_of f ys ≡ vs → MapAlike xs us ys vs
images_agree f xs us ys vs e g c b k d at cell = image_at f xs us c k d e at ∙ sym (image_at f ys vs b k d g cell)

pub images_are : (f : ℕ → Sym) (xs us : List Sym) → length xs ≡ length us → KeepsConstants xs us → ((c k : ℕ) → Cell xs c (Var k) → f k ≡ get_or us c (Var k)) → images_of f xs ≡ us
images_are f xs us len keeps vars =
    let l = length-map xs (image_of f) in
    let same : (x : Sym) (c : ℕ) (d : Sym) → c < length us → Cell xs c x → image_of f x ≡ get_or us c d =
    λ x c d low.
    elim x as (λ x. Cell xs c x → image_of f x ≡ get_or us c d) [
      | Const v ↦ λ cell. sym (keeps c v d cell)
      | Var k ↦ λ cell. vars c k cell ∙ get_or_default us c (Var k) d low
    ] in
    same_lists (images_of f xs) us (l ∙ len) (λ c d h.
    let low : c < length xs = omega arith in
    let x = get_or xs c (Var 0) in
    get_or-map (image_of f) xs c (Var 0) d low ∙ same x c d (omega arith) (cell_from xs c (Var 0) x low refl))

-- ---- what a mapping gives

pub mapping_head : (s t : Tab) (m k : ℕ) (list : List ℕ) → IsMapping s m t k list → KeepsConstants s.head t.head × MapAlike s.head t.head s.head t.head
mapping_head s t m k list f = (images_keep f.symbols s.head t.head f.head, images_agree f.symbols s.head t.head s.head t.head f.head f.head)

pub by_target : (s t : Tab) (m k : ℕ) (a : ℕ → ℕ) → MapsBy s m t k a → (i : ℕ) → i < length s.rows → bit_at m i ≡ 1 → IsTarget s t i (a i)
by_target s t m k a f i h b =
    let e = f.rows i h b in
    record {
      constants = images_keep f.symbols (row_of s i) (row_of t (a i)) e;
      head_symbols = images_agree f.symbols s.head t.head (row_of s i) (row_of t (a i)) f.head e;
      itself = images_agree f.symbols (row_of s i) (row_of t (a i)) (row_of s i) (row_of t (a i)) e e;
    }

-- each row has a target by itself
pub mapping_target : (s t : Tab) (m k : ℕ) (list : List ℕ) → IsMapping s m t k list → (i : ℕ) → i < length s.rows → bit_at m i ≡ 1 → ((j : ℕ) → j < length t.rows → bit_at k j ≡ 1 → IsTarget s t i j → ⊥) → ⊥
mapping_target s t m k list f i h b none =
    let g = mapping_by s t m k list f in
    let r = g.targets i h b in
    none (choice_by m list i) r.0 r.1 (by_target s t m k (choice_by m list) g i h b)

pub maps_choice : (s t : Tab) (m k : ℕ) (net : Netted) (a : ℕ → ℕ) → IsNetFor s m t k net → MapsBy s m t k a → IsChoiceInto net (length s.rows) m k a
maps_choice s t m k net a for f =
    let n = for.is_net in
    let one = λ (i : ℕ) (h : i < length s.rows) (b : bit_at m i ≡ 1). let r = f.targets i h b in (n.base i (a i) h (for.has_rows i b)).1 (r.0, for.has_targets (a i) r.1, by_target s t m k a f i h b) in
    record {
      within = λ i h b. (one i h b, (f.targets i h b).1);
      fit = λ i q hi hq bi bq ne near.
          (n.agree i q (a i) hi hq (for.has_rows i bi) (for.has_rows q bq) ne near (one i hi bi) (a q) (one q hq bq)).1
          (images_agree f.symbols (row_of s i) (row_of t (a i)) (row_of s q) (row_of t (a q)) (f.rows i hi bi) (f.rows q hq bq));
    }

-- ---- what a choice gives

-- the image of a variable: what the target head has at its place in the head, else what the target has at its place in a row
abbrev image_found : (s t : Tab) (m : ℕ) (a : ℕ → ℕ) (k : ℕ) → InRow s.head k ⊎ (InRow s.head k → ⊥) → Stands (row_of s) (bit_at m) (length s.rows) k ⊎ (Stands (row_of s) (bit_at m) (length s.rows) k → ⊥) → Sym
image_found s t m a k (inl h) o = get_or t.head h.column (Var k)
image_found s t m a k (inr none) (inl o) = get_or (row_of t (a o.line)) o.column (Var k)
image_found s t m a k (inr none) (inr out) = Var k

head_found : (s t : Tab) (m : ℕ) (a : ℕ → ℕ) (k c : ℕ) → MapAlike s.head t.head s.head t.head → Cell s.head c (Var k) → (h : InRow s.head k ⊎ (InRow s.head k → ⊥)) (o : Stands (row_of s) (bit_at m) (length s.rows) k ⊎ (Stands (row_of s) (bit_at m) (length s.rows) k → ⊥)) → image_found s t m a k h o ≡ get_or t.head c (Var k)
head_found s t m a k c agrees cell (inl h) o = agrees h.column c k (Var k) (record { below = h.below; is = h.is }) cell
head_found s t m a k c agrees cell (inr none) o = absurd (none (record { column = c; below = cell.below; is = cell.is }))

row_found_at : (s t : Tab) (m : ℕ) (a : ℕ → ℕ) (i k c : ℕ) → i < length s.rows → bit_at m i ≡ 1 → ((q : ℕ) → q < length s.rows → bit_at m q ≡ 1 → (Contains s.head (Var k) → ⊥) → (e c : ℕ) (d : Sym) → Cell (row_of s q) e (Var k) → Cell (row_of s i) c (Var k) → get_or (row_of t (a q)) e d ≡ get_or (row_of t (a i)) c d) → IsTarget s t i (a i) → Cell (row_of s i) c (Var k) → (h : InRow s.head k ⊎ (InRow s.head k → ⊥)) (o : Stands (row_of s) (bit_at m) (length s.rows) k ⊎ (Stands (row_of s) (bit_at m) (length s.rows) k → ⊥)) → image_found s t m a k h o ≡ get_or (row_of t (a i)) c (Var k)
row_found_at s t m a i k c low one agrees target cell (inl h) o = target.head_symbols h.column c k (Var k) (record { below = h.below; is = h.is }) cell
row_found_at s t m a i k c low one agrees target cell (inr none) (inl o) =
    agrees o.line o.line_in o.is_looked (λ has. none (record { column = has.0; below = has.1; is = λ d. get_or_default s.head has.0 d (Var k) has.1 ∙ has.2 })) o.column c (Var k) (record { below = o.below; is = o.is }) cell
row_found_at s t m a i k c low one agrees target cell (inr none) (inr out) = absurd (out (record { line = i; line_in = low; is_looked = one; column = c; below = cell.below; is = cell.is }))

pub choice_maps : (s t : Tab) (m k : ℕ) (net : Netted) (a : ℕ → ℕ) → IsNetFor s m t k net → length s.head ≡ length t.head → s.width ≡ t.width → All (λ row. length row ≡ s.width) s.rows → All (λ row. length row ≡ t.width) t.rows → IsChoiceInto net (length s.rows) m k a → MapsBy s m t k a
choice_maps s t m k net a for heads width ws wt f =
    let n = for.is_net in
    let based = λ (i : ℕ) (h : i < length s.rows) (b : bit_at m i ≡ 1). (n.base i (a i) h (for.has_rows i b)).0 (f.within i h b).0 in
    let symbols : ℕ → Sym = λ v. image_found s t m a v (in_row s.head v) (stands (row_of s) (bit_at m) (length s.rows) v) in
    let pair = λ (v i : ℕ) (hi : i < length s.rows) (bi : bit_at m i ≡ 1) (q : ℕ) (hq : q < length s.rows) (bq : bit_at m q ≡ 1) (free : Contains s.head (Var v) → ⊥) (e c : ℕ) (d : Sym) (at : Cell (row_of s q) e (Var v)) (cell : Cell (row_of s i) c (Var v)).
    ⊎_elim
    (λ (same : q ≡ i). ap (λ q. get_or (row_of t (a q)) e d) same ∙ (based i hi bi).2.itself e c v d (subst (λ q. Cell (row_of s q) e (Var v)) same at) cell)
    (λ (ne : q ≢ i).
    let near = n.near q i hq hi (for.has_rows q bq) (for.has_rows i bi) ne (record { variable = v; in_one = cell_contains (row_of s q) e (Var v) at; in_other = cell_contains (row_of s i) c (Var v) cell; free = free }) in
    (n.agree q i (a q) hq hi (for.has_rows q bq) (for.has_rows i bi) ne near (f.within q hq bq).0 (a i) (f.within i hi bi).0).0 (f.fit q i hq hi bq bi ne near) e c v d at cell)
    (cases_eq q i) in
    record {
      symbols = symbols;
      head = images_are symbols s.head t.head heads n.head_constants (λ c v cell. head_found s t m a v c n.head_agrees cell (in_row s.head v) (stands (row_of s) (bit_at m) (length s.rows) v));
      rows = λ i h b.
          let r = based i h b in
          images_are symbols (row_of s i) (row_of t (a i)) (ws i [] h ∙ width ∙ sym (wt (a i) [] r.0)) r.2.constants
          (λ c v cell. row_found_at s t m a i v c h b (λ q hq bq free e c' d at cell'. pair v i h b q hq bq free e c' d at cell') r.2 cell (in_row s.head v) (stands (row_of s) (bit_at m) (length s.rows) v));
      targets = λ i h b. let r = based i h b in (r.0, (f.within i h b).1);
    }

pub heads_are : (h h' g g' : List Sym) → h ≡ g → h' ≡ g' → KeepsConstants h h' × MapAlike h h' h h' → KeepsConstants g g' × MapAlike g g' g g'
heads_are h h' g g' e f p = subst (λ g. KeepsConstants g g' × MapAlike g g' g g') e (subst (λ g'. KeepsConstants h g' × MapAlike h g' h g') f p)
