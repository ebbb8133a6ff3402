-- A row of the matrix, one entry more at a time, and the rows as a matrix.
use Rattle.std.proofs.Common.{◌≡◌, ◌<◌, ◌+◌, ◌↔◌, ◌∙◌, ℕ, Bool, true, false, List, [], ◌∷◌, ◌++◌, map, length, get_or, Result, Ok, Err, sym, ap, subst, arith, below_more}
use Rattle.std.specs.Prelude.{MatchResult, IfOk}
use Rattle.std.specs.List.{AllZip, range_with_len}
use Rattle.std.proofs.lemmas.List.FromFn.{length-range_with_len, get_or-range_with_len}
use Rattle.std.proofs.lemmas.List.{get_or_append_left, get_or_default, length-append}
use Rattle.std.proofs.Math.Seq.{get_or-append_seam}
use Rattle.su_tableau.specs.Tableaux.{Tab, AreVarsBelow}
use Rattle.su_map.specs.Rooms.{Space, IsRoomFor, HasSizesOf}
use Rattle.su_min.specs.Kept.{Minimised}
use Rattle.su_min.specs.Cover.{Covers}
use Rattle.su_min.specs.Reduction.{term_at}
use Rattle.su_min.specs.inside.Matrix.{IsRowOf, IsMatrix, AreMarks}
use Rattle.su_base.proofs.Items.{AllZip-length, AllZip-get_or}

pub room_same : (t : Tab) (old new : Space) → IsRoomFor t old → HasSizesOf old new → IsRoomFor t new
room_same t old new r s = record {
  rows = let l = r.rows in let e = s.rows in omega arith;
  symbols = subst (λ n. AreVarsBelow n t) (sym s.symbols) r.symbols;
}

abbrev pub Tells : Minimised → List Minimised → List Bool → ℕ → Type 0
Tells term terms row n = (i : ℕ) → i < n → (get_or row i false ≡ true) ↔ Covers term (term_at terms i)

pub item_at : (terms : List Minimised) (n : ℕ) (x : Minimised) → n < length terms → x ≡ get_or terms n x → x ≡ term_at terms n
item_at terms n x low at = at ∙ get_or_default terms n x (term_at [] 0) low

pub row_more : (term : Minimised) (terms : List Minimised) (row new : List Bool) (n : ℕ) (b : Bool) (x : Minimised)
    → n < length terms → length row ≡ n → new ≡ row ++ b ∷ [] → x ≡ get_or terms n x
    → (b ≡ true) ↔ Covers term x
    → Tells term terms row n
    → Tells term terms new (n + 1)
row_more term terms row new n b x low len is at here before =
    let last : get_or new n false ≡ b = ap (λ l. get_or l n false) is ∙ ap (λ k. get_or (row ++ b ∷ []) k false) (sym len) ∙ get_or-append_seam row b [] false in
    let item = item_at terms n x low at in
    below_more (λ i. (get_or new i false ≡ true) ↔ Covers term (term_at terms i)) n
    (λ i l.
    let early : get_or new i false ≡ get_or row i false = ap (λ l. get_or l i false) is ∙ get_or_append_left row (b ∷ []) false i (omega arith) in
    (λ e. (before i l).0 (sym early ∙ e), λ c. early ∙ (before i l).1 c))
    (λ e. subst (Covers term) item (here.0 (sym last ∙ e)), λ c. last ∙ here.1 (subst (Covers term) (sym item) c))

pub marks_more : (P : ℕ → Type 0) (n : ℕ) (marks new : List Bool) (b : Bool) → new ≡ marks ++ b ∷ [] → (b ≡ true) ↔ P n → AreMarks P n marks → AreMarks P (n + 1) new
marks_more P n marks new b is here m =
    let all = m.all in
    let len = ap length is ∙ length-append marks (b ∷ []) in
    let last : get_or new n false ≡ b = ap (λ l. get_or l n false) is ∙ ap (λ k. get_or (marks ++ b ∷ []) k false) (sym all) ∙ get_or-append_seam marks b [] false in
    record {
      all = omega arith;
      tells = below_more (λ i. (get_or new i false ≡ true) ↔ P i) n
          (λ i l.
          let early : get_or new i false ≡ get_or marks i false = ap (λ l. get_or l i false) is ∙ get_or_append_left marks (b ∷ []) false i (omega arith) in
          (λ e. (m.tells i l).0 (sym early ∙ e), λ p. early ∙ (m.tells i l).1 p))
          (λ e. here.0 (sym last ∙ e), λ p. last ∙ here.1 p);
    }

-- the rows of the first terms, one row more at a time
pub rows_more : (terms : List Minimised) (rows new : List (List Bool)) (j : ℕ) (row : List Bool)
    → length rows ≡ j → new ≡ rows ++ row ∷ [] → IsRowOf (term_at terms j) terms row
    → ((k : ℕ) → k < j → IsRowOf (term_at terms k) terms (get_or rows k []))
    → (k : ℕ) → k < j + 1 → IsRowOf (term_at terms k) terms (get_or new k [])
rows_more terms rows new j row long is here before =
    below_more (λ k. IsRowOf (term_at terms k) terms (get_or new k [])) j
    (λ k l.
    let early : get_or new k [] ≡ get_or rows k [] = ap (λ l. get_or l k []) is ∙ get_or_append_left rows (row ∷ []) [] k (omega arith) in
    subst (IsRowOf (term_at terms k) terms) (sym early) (before k l))
    (let last : get_or new j [] ≡ row = ap (λ l. get_or l j []) is ∙ ap (λ k. get_or (rows ++ row ∷ []) k []) (sym long) ∙ get_or-append_seam rows row [] [] in
    subst (IsRowOf (term_at terms j) terms) (sym last) here)

pub rows_matrix : (terms : List Minimised) (rows : List (List Bool)) → AllZip (λ j row. IsRowOf (term_at terms j) terms row) (range_with_len 0 (length terms)) rows → IsMatrix terms rows
rows_matrix terms rows zip =
    let R = λ (j : ℕ) (row : List Bool). IsRowOf (term_at terms j) terms row in
    let places = range_with_len 0 (length terms) in
    let count = length-range_with_len 0 (length terms) in
    record {
      rows = sym (AllZip-length R places rows zip) ∙ count;
      row = λ j h.
          let zero_more : 0 + j ≡ j = omega arith in
          subst (λ i. R i (get_or rows j [])) (get_or-range_with_len 0 (length terms) j 0 h ∙ zero_more) (AllZip-get_or R places rows j 0 [] zip (omega arith));
    }

-- ---- what collecting into a result gives

-- a fact of each two members that holds under a premise
pub zip_given : {A B : Type 0} (K : Type 0) (R : A → B → Type 0) (xs : List A) (ys : List B) → K → AllZip (λ x y. K → R x y) xs ys → AllZip R xs ys
zip_given K R [] [] k all = tt
zip_given K R [] (y ∷ ys) k all = absurd all
zip_given K R (x ∷ xs) [] k all = absurd all
zip_given K R (x ∷ xs) (y ∷ ys) k all = (all.0 k, zip_given K R xs ys k all.1)

zip_ok : (E : Type 0) {A B : Type 0} (R : A → B → Type 0) (xs : List A) (ys : List B) → AllZip (λ x (r : Result B E). IfOk r (R x)) xs (map Ok ys) → AllZip R xs ys
zip_ok E R [] [] all = tt
zip_ok E R [] (y ∷ ys) all = absurd all
zip_ok E R (x ∷ xs) [] all = absurd all
zip_ok E R (x ∷ xs) (y ∷ ys) all = (all.0, zip_ok E R xs ys all.1)

pub collected : (E : Type 0) {A B V : Type 0} (R : A → B → Type 0) (items : V → List B) (Q : E → Type 0) (xs : List A) (rs : List (Result B E)) (r : Result V E) (P : List B → Type 0)
    → ((ys : List B) → AllZip R xs ys → P ys)
    → AllZip (λ x (o : Result B E). IfOk o (R x)) xs rs
    → MatchResult r (λ v. (ys : List B) × (rs ≡ map Ok ys) × (items v ≡ ys)) Q
    → IfOk r (λ v. P (items v))
collected E R items Q xs rs (Ok v) P use_it zip got = subst P (sym got.2) (use_it got.0 (zip_ok E R xs got.0 (subst (λ l. AllZip (λ x (o : Result _ E). IfOk o (R x)) xs l) got.1 zip)))
collected E R items Q xs rs (Err e) P use_it zip got = tt
