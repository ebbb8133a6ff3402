-- Inclusion gives a mapping, by reading variables as new values.
use Rattle.std.proofs.Common.{◌≡◌, ℕ, zero, suc, ◌+◌, ◌-◌, ◌<◌, ◌≤◌, cond, ltb, List, [], ◌∷◌, map, length, get_or, refl, sym, ap, ◌∙◌, subst, arith}
use Rattle.std.proofs.lemmas.Bool.{cond-true, cond-false, lt-ltb, le-ltb}
use Rattle.std.proofs.lemmas.List.Elements.{All-map}
use Rattle.std.proofs.lemmas.List.{length-map, get_or-map, length-replicate}
use Rattle.su_base.specs.declared.values.Kind.{Kind}
use Rattle.su_base.specs.declared.values.Kind.TheVariants.{Int as IntKind, Text as TextKind}
use Rattle.su_base.specs.declared.values.Value.{Value}
use Rattle.su_tableau.specs.declared.symbols.Sym.{Sym}
use Rattle.su_tableau.specs.declared.symbols.Sym.TheVariants.{Const, Var}
use Rattle.su_base.specs.Value.{kind_of}
use Rattle.su_tableau.specs.Tableaux.{Tab}
use Rattle.su_tableau.specs.Valuations.{value_of, values_of, Ext}
use Rattle.su_tableau.specs.Kinds.{Kinds, sym_kind, IsUniverse, IsTyped}
use Rattle.su_tableau.specs.Mapping.{image_of, images_of, Maps}
use Rattle.su_tableau.specs.Equivalent.{IsWithin}
use Rattle.su_tableau.specs.FrozenTableaux.{size, new_value, frozen, frozen_head, frozen_rows, top, row_top, rows_top, tab_top}
use Rattle.su_base.proofs.Items.{map-map_equal}

-- ---- new values

pub size-new_value : (k : Kind) (n : ℕ) → size (new_value k n) ≡ n
size-new_value IntKind n = refl
size-new_value TextKind n = length-replicate n 0

kind-new_value : (k : Kind) (n : ℕ) → kind_of (new_value k n) ≡ k
kind-new_value IntKind n = refl
kind-new_value TextKind n = refl

-- the symbol that a value was made from
abbrev pub thawed : ℕ → Value → Sym
thawed n c = cond (ltb (size c) n) (Const c) (Var (size c - n))

row_top-le : (rows : List (List Sym)) (k : ℕ) (d : List Sym) → k < length rows → row_top (get_or rows k d) ≤ rows_top rows
row_top-le [] k d h = absurd (omega arith)
row_top-le (x ∷ xs) zero d h = omega arith
row_top-le (x ∷ xs) (suc k) d h = let i = row_top-le xs k d (omega arith) in omega arith

-- ---- there and back

thawed_const : (n : ℕ) (c : Value) → suc (size c) ≤ n → thawed n c ≡ Const c
thawed_const n c h = cond-true (ltb (size c) n) (Const c) (Var (size c - n)) (lt-ltb (size c) n h)

pub thawed_frozen : (f : ℕ → Kind) (n : ℕ) (x : Sym) → top x ≤ n → thawed n (value_of (frozen f n) x) ≡ x
thawed_frozen f n (Const c) h = thawed_const n c h
thawed_frozen f n (Var k) h =
    let e = size-new_value (f k) (n + k) in
    let back : size (new_value (f k) (n + k)) - n ≡ k = omega arith in
    cond-false (ltb (size (new_value (f k) (n + k))) n) (Const (new_value (f k) (n + k))) (Var (size (new_value (f k) (n + k)) - n)) (le-ltb _ n (omega arith)) ∙ ap Var back

all_thawed : (f : ℕ → Kind) (n : ℕ) (xs : List Sym) → row_top xs ≤ n → map (thawed n) (values_of (frozen f n) xs) ≡ xs
all_thawed f n [] h = refl
all_thawed f n (x ∷ xs) h =
    let i = all_thawed f n xs (omega arith) in
    let j = thawed_frozen f n x (omega arith) in
    cc

-- the symbols that a valuation's values were made from
image_thawed : (v : ℕ → Value) (n : ℕ) (x : Sym) → top x ≤ n → image_of (λ k. thawed n (v k)) x ≡ thawed n (value_of v x)
image_thawed v n (Const c) h = sym (thawed_const n c h)
image_thawed v n (Var k) h = refl

images_thawed : (v : ℕ → Value) (n : ℕ) (xs : List Sym) → row_top xs ≤ n → images_of (λ k. thawed n (v k)) xs ≡ map (thawed n) (values_of v xs)
images_thawed v n [] h = refl
images_thawed v n (x ∷ xs) h =
    let i = images_thawed v n xs (omega arith) in
    let j = image_thawed v n x (omega arith) in
    cc

kinds_frozen : (f : ℕ → Kind) (n : ℕ) (xs : List Sym) → map kind_of (values_of (frozen f n) xs) ≡ map (sym_kind f) xs
kinds_frozen f n xs = map-map_equal (value_of (frozen f n)) kind_of (sym_kind f) (elim [ Const c ↦ refl | Var k ↦ kind-new_value (f k) (n + k) ]) xs

-- ---- the theorem

pub frozen_typed : (kinds : Kinds) (t : Tab) (typed : IsTyped kinds t) (n : ℕ) → IsUniverse kinds (frozen_rows typed.var_kind n t)
frozen_typed kinds t typed n =
    let f = typed.var_kind in
    All-map (λ row. map kind_of row ≡ kinds) (values_of (frozen f n)) t.rows (λ k d h. kinds_frozen f n (get_or t.rows k d) ∙ typed.fits k d h)

-- the frozen head is an answer of t over the frozen rows
pub frozen_answer : (t : Tab) (f : ℕ → Kind) (n : ℕ) → Ext t (frozen_rows f n t) (frozen_head f n t)
frozen_answer t f n =
    record {
      valuation = frozen f n;
      holds = λ k d h.
          (k, subst (λ l. k < l) (sym (length-map t.rows (values_of (frozen f n)))) h, get_or-map (values_of (frozen f n)) t.rows k d (values_of (frozen f n) (get_or t.rows k d)) h);
      gives = refl;
    }

-- where it is one of s, s has a mapping to t
pub frozen_maps : (s t : Tab) (f : ℕ → Kind) (n : ℕ) → tab_top s ≤ n → tab_top t ≤ n → Ext s (frozen_rows f n t) (frozen_head f n t) → Maps s t
frozen_maps s t f n low_s low_t e =
    let z = frozen f n in
    let v = e.valuation in
    record {
      symbols = λ k. thawed n (v k);
      head = images_thawed v n s.head (omega arith) ∙ ap (map (thawed n)) e.gives ∙ all_thawed f n t.head (omega arith);
      rows = λ k d h.
          let row = get_or s.rows k d in
          let image = images_of (λ k. thawed n (v k)) row in
          let c = e.holds k d h in
          let j = c.0 in
          let lt : j < length t.rows = subst (λ l. j < l) (length-map t.rows (values_of z)) c.1 in
          let w = get_or t.rows j image in
          let same : values_of z w ≡ values_of v row = sym (get_or-map (values_of z) t.rows j image (values_of v row) lt) ∙ c.2 in
          let low_row : row_top row ≤ n = let i = row_top-le s.rows k d h in omega arith in
          let low : row_top w ≤ n = let i = row_top-le t.rows j image lt in omega arith in
          (j, lt, sym (all_thawed f n w low) ∙ ap (map (thawed n)) same ∙ sym (images_thawed v n row low_row));
    }

pub within_maps : (kinds : Kinds) (s t : Tab) → IsTyped kinds s → IsTyped kinds t → IsWithin kinds t s → Maps s t
within_maps kinds s t typed_s typed_t within =
    let n : ℕ = tab_top s + tab_top t in
    let f = typed_t.var_kind in
    frozen_maps s t f n (omega arith) (omega arith) (within (frozen_rows f n t) (frozen_head f n t) (frozen_typed kinds t typed_t n) (frozen_answer t f n))
