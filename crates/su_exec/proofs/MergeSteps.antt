-- Steps of merging: one edge shrinks, two are joined, or are taken out.
use Rattle.std.proofs.Common.{◌≡◌, ℕ, ◌+◌, ◌-◌, ◌<◌, ◌≤◌, ◌⊎◌, Bool, true, false, Option, None, List, [], ◌∷◌, ◌++◌, length, get_or, set, refl, sym, ap, subst, ◌∙◌, inl, inr, ⊎_elim, arith}
use Rattle.std.specs.Prelude.{map, nat_lt, MatchBool, ◌&&◌, ◌||◌}
use Rattle.std.specs.List.{remove}
use Rattle.std.specs.Cmp.{first_so, second_so}
use Rattle.std.proofs.lemmas.Bool.{cases_Bool, cases_eq, cases_lt, true≢false, and_from}
use Rattle.std.proofs.lemmas.Bool.Decides.{nat_tests}
use Rattle.std.proofs.lemmas.List.{get_or_default, get_or-set_same, get_or-set_other, length-set}
use Rattle.std.proofs.lemmas.List.Edits.{length-remove, get_or-remove_below, get_or-remove_above}
use Rattle.std.proofs.lemmas.List.Elements.{All-cons, All-head, All-tail}
use Rattle.std.proofs.lemmas.List.Folds.{Any-from_list_any, list_any_at}
use Rattle.su_base.specs.declared.values.Value.{Value}
use Rattle.su_exec.specs.declared.checks.Check.{Check}
use Rattle.su_exec.specs.declared.checks.Test.{Test}
use Rattle.su_exec.specs.inside.Bodies.{AreAlone, AreThere, IsGiven, IsOver, IsWanted}
use Rattle.su_exec.specs.inside.Checks.{all_hold, all_pass, check_vars}
use Rattle.su_exec.specs.inside.Edges.{Edge, Fits, FitsAll, Keeps, among, always, has}
use Rattle.su_exec.specs.inside.Joins.{IsJoinOf, IsReal, IsUpTo, test_at}
use Rattle.su_exec.specs.inside.Sifts.{IsSifted}
use Rattle.su_exec.proofs.ProjectedJoins.{is_test, first_among, second_among}
use Rattle.su_exec.proofs.PartSteps.{agree_from, fits_agree, patched, patched_in, patched_out}
use Rattle.su_exec.proofs.Parts.{alone, one_of, put_step, shrunk, test_once, twice}
use Rattle.su_exec.proofs.BodySteps.{front_out, front_parts, has_first, has_second, hold_test, moved_back, there_step}
use Rattle.su_exec.proofs.Splits.{Splits}

-- ---- fronts

pub front_is : (es rest : List (Edge ℕ)) (a : Edge ℕ) → 0 < length es → a ≡ get_or es 0 a → rest ≡ remove es 0 → es ≡ a ∷ rest
front_is [] rest a l e r = absurd (omega arith)
front_is (x ∷ es) rest a l e r = ap (λ (y : Edge ℕ). y ∷ es) (sym e) ∙ ap (λ (ys : List (Edge ℕ)). a ∷ ys) (sym r)

pub last_is : (es rest : List (Edge ℕ)) (a : Edge ℕ) → length es ≡ 1 → a ≡ get_or es 0 a → rest ≡ remove es 0 → (es ≡ a ∷ []) × (rest ≡ [])
last_is [] rest a n e r = absurd (omega arith)
last_is (x ∷ []) rest a n e r = (ap (λ (y : Edge ℕ). y ∷ []) (sym e), r)
last_is (x ∷ y ∷ es) rest a n e r = absurd (omega arith)

-- ---- one edge

module _ (values : List Value) (needed : List ℕ) (olds news : List Check) (tests : List Test) (a : Edge ℕ) (rest after : List (Edge ℕ)) (kept : after ≡ rest)
    (same : (values : List Value) (v : ℕ → ℕ) → all_hold values olds v ≡ (all_pass values tests (map v a.vars) (map v a.vars) && all_hold values news v))
    (fewer : (k : ℕ) → has (check_vars news) k ≡ true → has (check_vars olds) k ≡ true) where
  moved : (P : List (Edge ℕ) → Type 0) (g : Edge ℕ) → P (rest ++ g ∷ []) → P (after ++ g ∷ [])
  moved P g p = subst (λ (es : List (Edge ℕ)). P (es ++ g ∷ [])) (sym kept) p

  -- an edge that loses the rows that fail the tests
  module _ (g : Edge ℕ) (sifted : IsSifted (all_pass values tests) a g) where
    pub sifted_keeps : Keeps needed (a ∷ rest) (all_hold values olds) (after ++ g ∷ []) (all_hold values news)
    sifted_keeps =
        let pass : (ℕ → ℕ) → Bool = test_at (all_pass values tests) a.vars a.vars in
        moved (λ es. Keeps needed (a ∷ rest) (all_hold values olds) es (all_hold values news)) g (
          λ v f p.
              let both = sym (same values v) ∙ p in
              let fit : Fits v g = (sifted.rows v).1 (All-head (Fits v) a rest f, first_so (pass v) (all_hold values news v) both) in
              record { valuation = v; fits = (moved_back g rest v).0 (All-cons (Fits v) g rest fit (All-tail (Fits v) a rest f)); passes = second_so (pass v) (all_hold values news v) both; same = refl },
          λ v f p.
              let all : FitsAll v (g ∷ rest) = (moved_back g rest v).1 f in
              let fit = (sifted.rows v).0 (All-head (Fits v) g rest all) in
              record { valuation = v; fits = All-cons (Fits v) a rest fit.0 (All-tail (Fits v) g rest all); passes = same values v ∙ and_from (pass v) (all_hold values news v) fit.1 p; same = refl },
        )

    pub sifted_there : AreThere needed olds (a ∷ rest) → AreThere needed news (after ++ g ∷ [])
    sifted_there there =
        let out : (k : ℕ) → among (a ∷ []) k ≡ true → has g.vars k ≡ true = λ k h. ap (λ ks. has ks k) sifted.vars ∙ alone a k h in
        moved (λ es. AreThere needed news es) g
        (there_step needed olds news (a ∷ rest) (a ∷ []) rest g there (front_parts a rest) fewer (λ k h n. out k h) (λ k h n. out k h))

  -- an edge that is joined with itself
  module _ (wanted : List ℕ) (g : Edge ℕ) (in_needed : (k : ℕ) → has needed k ≡ true → has wanted k ≡ true) (in_rest : (k : ℕ) → among rest k ≡ true → has wanted k ≡ true) (in_checks : (k : ℕ) → has (check_vars news) k ≡ true → has wanted k ≡ true)
      (joined : IsJoinOf a a (all_pass values tests) None g) (out : (k : ℕ) → among (a ∷ a ∷ []) k ≡ true → has wanted k ≡ true → has g.vars k ≡ true) where
    pub shrunk_keeps : Keeps needed (a ∷ rest) (all_hold values olds) (after ++ g ∷ []) (all_hold values news)
    shrunk_keeps =
        let s : (ℕ → ℕ) → Bool = test_at (all_pass values tests) a.vars a.vars in
        moved (λ es. Keeps needed (a ∷ rest) (all_hold values olds) es (all_hold values news)) g
        (put_step needed (check_vars news) (a ∷ rest) (a ∷ []) rest g (all_hold values olds) s (all_hold values news) (front_out a rest) (same values) (shrunk a g s (joined.keeps tt)) (test_once a s (is_test a a (all_pass values tests))) (hold_test values news)
        (λ k h r. out k (twice a k h) (in_rest k r)) (λ k h n. out k (twice a k h) (in_needed k n)) (λ k h n. out k (twice a k h) (in_checks k n)))

    pub shrunk_there : AreThere needed olds (a ∷ rest) → AreThere needed news (after ++ g ∷ [])
    shrunk_there there =
        moved (λ es. AreThere needed news es) g
        (there_step needed olds news (a ∷ rest) (a ∷ []) rest g there (front_parts a rest) fewer (λ k h n. out k (twice a k h) (in_needed k n)) (λ k h n. out k (twice a k h) (in_checks k n)))

-- all checks are of the one edge
pub all_of_one : (needed : List ℕ) (olds : List Check) (a : Edge ℕ) → AreThere needed olds (a ∷ []) → (k : ℕ) → has (check_vars olds) k ≡ true → (has a.vars k || has a.vars k) ≡ true
all_of_one needed olds a there k h = let e = alone a k (there k (has_second needed (check_vars olds) k h)) in grind (arith, e)

-- ---- two edges

-- a variable of a body is one of the edge that is taken out, or of the rest
pub among_removed : (es : List (Edge ℕ)) (i : ℕ) (a : Edge ℕ) (k : ℕ) → i < length es → a ≡ get_or es i a → among es k ≡ true → (has a.vars k ≡ true) ⊎ (among (remove es i) k ≡ true)
among_removed es i a k l e h =
    let T : Edge ℕ → Bool = λ e. has e.vars k in
    let x = Any-from_list_any T es h in
    let n = length-remove es i l in
    let xl = x.2 in
    ⊎_elim
    (λ (s : x.0 ≡ i). inl (ap T (e ∙ get_or_default es i a x.1 l ∙ ap (λ j. get_or es j x.1) (sym s) ∙ x.3) ∙ x.4))
    (λ (ne : x.0 ≡ i → ⊥).
    ⊎_elim
    (λ (b : x.0 < i). inr (list_any_at T (remove es i) x.0 x.1 (omega arith) (ap T (get_or-remove_below es i x.1 x.0 b l ∙ x.3) ∙ x.4)))
    (λ (b : i ≤ x.0).
    let f : x.0 - 1 + 1 ≡ x.0 = omega arith in
    inr (list_any_at T (remove es i) (x.0 - 1) x.1 (omega arith) (ap T (get_or-remove_above es i x.1 (x.0 - 1) (omega arith) l ∙ ap (λ j. get_or es j x.1) f ∙ x.3) ∙ x.4)))
    (cases_lt x.0 i))
    (cases_eq x.0 i)

pub two_parts : (es : List (Edge ℕ)) (i j : ℕ) (a b : Edge ℕ) (fs rest : List (Edge ℕ)) → j < length es → b ≡ get_or es j b → fs ≡ remove es j → i < length fs → a ≡ get_or fs i a → rest ≡ remove fs i → (k : ℕ) → among es k ≡ true → (among (a ∷ b ∷ []) k ≡ true) ⊎ (among rest k ≡ true)
two_parts es i j a b fs rest jl be fe il ae re k h =
    ⊎_elim
    (λ (x : has b.vars k ≡ true). inl (second_among a b k x))
    (λ (x : among (remove es j) k ≡ true).
    ⊎_elim
    (λ (y : has a.vars k ≡ true). inl (first_among a b k y))
    (λ (y : among (remove fs i) k ≡ true). inr (ap (λ (es : List (Edge ℕ)). among es k) re ∙ y))
    (among_removed fs i a k il ae (ap (λ (es : List (Edge ℕ)). among es k) fe ∙ x)))
    (among_removed es j b k jl be h)

module _ (values : List Value) (needed : List ℕ) (olds news : List Check) (tests : List Test) (a b g : Edge ℕ) (es rest : List (Edge ℕ)) (bound : Option ℕ)
    (splits : Splits es (a ∷ b ∷ []) rest) (parts : (k : ℕ) → among es k ≡ true → (among (a ∷ b ∷ []) k ≡ true) ⊎ (among rest k ≡ true))
    (same : (values : List Value) (v : ℕ → ℕ) → all_hold values olds v ≡ (all_pass values tests (map v a.vars) (map v b.vars) && all_hold values news v))
    (fewer : (k : ℕ) → has (check_vars news) k ≡ true → has (check_vars olds) k ≡ true)
    (joined : IsJoinOf a b (all_pass values tests) bound g) where
  module _ (wanted : List ℕ) (in_needed : (k : ℕ) → has needed k ≡ true → has wanted k ≡ true) (in_rest : (k : ℕ) → among rest k ≡ true → has wanted k ≡ true) (in_checks : (k : ℕ) → has (check_vars news) k ≡ true → has wanted k ≡ true)
      (out : (k : ℕ) → among (a ∷ b ∷ []) k ≡ true → has wanted k ≡ true → has g.vars k ≡ true) where
    pub merged_keeps : IsUpTo bound (length g.rows) → Keeps needed es (all_hold values olds) (rest ++ g ∷ []) (all_hold values news)
    merged_keeps low =
        let s : (ℕ → ℕ) → Bool = test_at (all_pass values tests) a.vars b.vars in
        put_step needed (check_vars news) es (a ∷ b ∷ []) rest g (all_hold values olds) s (all_hold values news) splits (same values) (joined.keeps low) (is_test a b (all_pass values tests)) (hold_test values news)
        (λ k h r. out k h (in_rest k r)) (λ k h n. out k h (in_needed k n)) (λ k h n. out k h (in_checks k n))

    pub merged_there : AreThere needed olds es → AreThere needed news (rest ++ g ∷ [])
    merged_there there = there_step needed olds news es (a ∷ b ∷ []) rest g there parts fewer (λ k h n. out k h (in_needed k n)) (λ k h n. out k h (in_checks k n))

    -- the two have nothing to do with the rest
    module _ (others : List ℕ) (others_rest : (k : ℕ) → among rest k ≡ true → has others k ≡ true) (others_checks : (k : ℕ) → has (check_vars news) k ≡ true → has others k ≡ true) (left : AreAlone a.vars others) (right : AreAlone b.vars others)
        (only : (k : ℕ) → has wanted k ≡ true → IsWanted needed rest news k) (within : (k : ℕ) → has g.vars k ≡ true → (has wanted k ≡ true) × (among (a ∷ b ∷ []) k ≡ true)) where
      apart : (k : ℕ) → among (a ∷ b ∷ []) k ≡ true → has others k ≡ true → ⊥
      apart k h o =
          ⊎_elim
          (λ (x : has a.vars k ≡ true). true≢false (sym o ∙ left k x))
          (λ (x : has b.vars k ≡ true). true≢false (sym o ∙ right k x))
          (one_of a b k h)

      pub over_there : AreThere needed olds es → AreThere [] news rest
      over_there there k h =
          ⊎_elim
          (λ (x : among (a ∷ b ∷ []) k ≡ true). absurd (apart k x (others_checks k h)))
          (λ (x : among rest k ≡ true). x)
          (parts k (there k (has_second needed (check_vars olds) k (fewer k h))))

      given_by : IsReal g → (i : ℕ) → i < length g.rows → (v : ℕ → ℕ) → FitsAll v rest → all_hold values news v ≡ true → IsGiven g.vars es (all_hold values olds) (get_or g.rows i [])
      given_by real i l v f p =
          let r = real i [] l in
          let s : (ℕ → ℕ) → Bool = test_at (all_pass values tests) a.vars b.vars in
          let fit : Fits r.0 g = (i, l, get_or_default g.rows i (map r.0 g.vars) [] l ∙ sym r.1) in
          let w = joined.given r.0 fit in
          let gs : List (Edge ℕ) = a ∷ b ∷ [] in
          let x = patched gs w.valuation v in
          let here = fits_agree w.valuation x gs (λ k h. sym (patched_in gs w.valuation v k h)) w.fits in
          let there = fits_agree v x rest (λ k h. patched_out gs w.valuation v k (λ m. absurd (apart k m (others_rest k h)))) f in
          let ps : s x ≡ true = is_test a b (all_pass values tests) x w.valuation (λ k h. patched_in gs w.valuation v k h) ∙ w.passes in
          let pu : all_hold values news x ≡ true =
          sym (hold_test values news v x (agree_from v x (check_vars news) (λ k h. patched_out gs w.valuation v k (λ m. absurd (apart k m (others_checks k h)))))) ∙ p in
          record {
            valuation = x;
            fits = (splits x).1 (here, there);
            passes = same values x ∙ and_from (s x) (all_hold values news x) ps pu;
            gives = agree_from x w.valuation g.vars (λ k h. patched_in gs w.valuation v k (within k h).1) ∙ sym w.same ∙ r.1;
          }

      pub over : (most : Option ℕ) → IsReal g → (IsUpTo most (length g.rows) → ⊥) → IsOver needed most es (all_hold values olds) rest (all_hold values news)
      over most real many = record {
        vars = g.vars;
        rows = g.rows;
        many = many;
        differ = joined.differ;
        within = λ k h.
            let x = within k h in
            ⊎_elim
            (λ (n : has needed k ≡ true). n)
            (λ (n : (among rest k ≡ true) ⊎ (has (check_vars news) k ≡ true)). absurd (⊎_elim (λ (r : among rest k ≡ true). apart k x.1 (others_rest k r)) (λ (c : has (check_vars news) k ≡ true). apart k x.1 (others_checks k c)) n))
            (only k x.0);
        each = λ i l v f p. given_by real i l v f p;
        none = λ v f p.
            let q = sym (same values v) ∙ p in
            (((splits v).0 f).1, second_so (all_pass values tests (map v a.vars) (map v b.vars)) (all_hold values news v) q);
      }

-- where nothing else is left, all checks are of the two
pub all_of_two : (needed : List ℕ) (olds : List Check) (a b : Edge ℕ) (es rest : List (Edge ℕ)) → ((k : ℕ) → among es k ≡ true → (among (a ∷ b ∷ []) k ≡ true) ⊎ (among rest k ≡ true)) → rest ≡ [] → AreThere needed olds es → (k : ℕ) → has (check_vars olds) k ≡ true → (has a.vars k || has b.vars k) ≡ true
all_of_two needed olds a b es rest parts none there k h =
    ⊎_elim
    (λ (x : among (a ∷ b ∷ []) k ≡ true).
    ⊎_elim (λ (y : has a.vars k ≡ true). grind (arith, y)) (λ (y : has b.vars k ≡ true). grind (arith, y)) (one_of a b k x))
    (λ (x : among rest k ≡ true). absurd (true≢false (sym x ∙ ap (λ (es : List (Edge ℕ)). among es k) none)))
    (parts k (there k (has_second needed (check_vars olds) k h)))

-- ---- the last edge

pub last_keeps :
    (values : List Value) (needed : List ℕ) (olds news : List Check) (es rest after : List (Edge ℕ)) (a g : Edge ℕ) → es ≡ a ∷ [] → rest ≡ [] → after ≡ rest → news ≡ []
    → Keeps needed (a ∷ rest) (all_hold values olds) (after ++ g ∷ []) (all_hold values news) → Keeps needed es (all_hold values olds) (g ∷ []) always
last_keeps values needed olds news es rest after a g e r k n keeps =
    let s : (ℕ → ℕ) → Bool = all_hold values olds in
    let one : Keeps needed (a ∷ rest) s (rest ++ g ∷ []) (all_hold values news) = subst (λ (fs : List (Edge ℕ)). Keeps needed (a ∷ rest) s (fs ++ g ∷ []) (all_hold values news)) k keeps in
    let two : Keeps needed (a ∷ []) s (g ∷ []) (all_hold values news) = subst (λ (rs : List (Edge ℕ)). Keeps needed (a ∷ rs) s (rs ++ g ∷ []) (all_hold values news)) r one in
    let three : Keeps needed (a ∷ []) s (g ∷ []) (all_hold values []) = subst (λ (cs : List Check). Keeps needed (a ∷ []) s (g ∷ []) (all_hold values cs)) n two in
    subst (λ (xs : List (Edge ℕ)). Keeps needed xs s (g ∷ []) always) (sym e) three

pub last_vars : (needed : List ℕ) (news : List Check) (rest after : List (Edge ℕ)) (g : Edge ℕ) → rest ≡ [] → after ≡ rest → AreThere needed news (after ++ g ∷ []) → (k : ℕ) → has needed k ≡ true → has g.vars k ≡ true
last_vars needed news rest after g r e there k h =
    let two : AreThere needed news (g ∷ []) = subst (λ (fs : List (Edge ℕ)). AreThere needed news (fs ++ g ∷ [])) (e ∙ r) there in
    alone g k (two k (has_first needed (check_vars news) k h))

pub among_set : (es : List (Edge ℕ)) (i : ℕ) (a g : Edge ℕ) (k : ℕ) → i < length es → a ≡ get_or es i a → (has a.vars k ≡ true → has g.vars k ≡ true) → among es k ≡ true → among (set es i g) k ≡ true
among_set es i a g k l e more h =
    let T : Edge ℕ → Bool = λ e. has e.vars k in
    let x = Any-from_list_any T es h in
    let n = length-set es i g in
    let xl = x.2 in
    ⊎_elim
    (λ (s : x.0 ≡ i).
    let old : has a.vars k ≡ true = ap T (e ∙ get_or_default es i a x.1 l ∙ ap (λ j. get_or es j x.1) (sym s) ∙ x.3) ∙ x.4 in
    list_any_at T (set es i g) i g (omega arith) (ap T (get_or-set_same es i g g l) ∙ more old))
    (λ (ne : x.0 ≡ i → ⊥). list_any_at T (set es i g) x.0 x.1 (omega arith) (ap T (get_or-set_other es i x.0 g x.1 ne ∙ x.3) ∙ x.4))
    (cases_eq x.0 i)

-- whether a real edge has rows
pub rows_told : (g : Edge ℕ) (n : ℕ) → IsReal g → n ≡ length g.rows → MatchBool (nat_lt 0 n) ((v : ℕ → ℕ) × Fits v g) ((v : ℕ → ℕ) → Fits v g → ⊥)
rows_told g n real e =
    let on : Bool → Type 0 = λ b. MatchBool b ((v : ℕ → ℕ) × Fits v g) ((v : ℕ → ℕ) → Fits v g → ⊥) in
    ⊎_elim
    (λ (t : nat_lt 0 n ≡ true).
    let l : 0 < n = grind (arith, nat_tests, t) in
    let m : 0 < length g.rows = omega arith in
    let r = real 0 [] m in
    subst on (sym t) (r.0, (0, m, get_or_default g.rows 0 (map r.0 g.vars) [] m ∙ sym r.1)))
    (λ (t : nat_lt 0 n ≡ false).
    let l : n ≤ 0 = grind (arith, nat_tests, t) in
    subst on (sym t) (λ v f. absurd (let m = f.1 in omega arith)))
    (cases_Bool (nat_lt 0 n))
