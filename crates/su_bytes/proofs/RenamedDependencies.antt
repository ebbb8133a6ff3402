-- Rows whose values are renamed agree where they did, if the names can be read back: so they meet the same dependencies.
use Rattle.std.proofs.Common.{◌≡◌, ℕ, zero, suc, ◌≤◌, List, [], ◌∷◌, map, get_or, pos, refl, sym, ap, ◌∙◌, subst, arith}
use Rattle.std.specs.Prelude.{All}
use Rattle.std.specs.Ordering.{nat_cmp}
use Rattle.std.specs.FinSet.{FinSet}
use Rattle.std.proofs.lemmas.List.Elements.{All-contains}
use Rattle.su_base.specs.declared.values.Value.{Value}
use Rattle.su_base.specs.declared.values.Value.TheVariants.{Int}
use Rattle.su_base.proofs.Items.{Contains-map_source}
use Rattle.su_fd.specs.declared.dependencies.Fd.{Fd}
use Rattle.su_fd.specs.MetDependencies.{Agree, Meets}
use Rattle.su_bytes.proofs.Codes.{coded, decoded, decoded-coded, row_spans, row-spans-above}

-- no value is the default at every default
no_default : (z : Value) → ((d : Value) → d ≡ z) → ⊥
no_default z h = let zero_is = h (Int (pos 0)) in let one_is = h (Int (pos 1)) in grind arith

module _ (g back : Value → Value) where
  -- the names of the values are read back
  abbrev pub AreReadBack : List Value → Type 0
  AreReadBack values = All (λ v. back (g v) ≡ v) values

  pub rest : (x : Value) (xs : List Value) → AreReadBack (x ∷ xs) → AreReadBack xs
  rest x xs h k d l = h (suc k) d (omega arith)

  -- an item of two lists that is the same at every default
  same_renamed : (xs ys : List Value) (a : ℕ) → ((d : Value) → get_or xs a d ≡ get_or ys a d) → (d : Value) → get_or (map g xs) a d ≡ get_or (map g ys) a d
  same_renamed [] [] a same d = refl
  same_renamed [] (y ∷ ys) zero same d = absurd (no_default y same)
  same_renamed [] (y ∷ ys) (suc a) same d = same_renamed [] ys a same d
  same_renamed (x ∷ xs) [] zero same d = absurd (no_default x (λ e. sym (same e)))
  same_renamed (x ∷ xs) [] (suc a) same d = same_renamed xs [] a same d
  same_renamed (x ∷ xs) (y ∷ ys) zero same d = ap g (same d)
  same_renamed (x ∷ xs) (y ∷ ys) (suc a) same d = same_renamed xs ys a same d

  same_before : (xs ys : List Value) (a : ℕ) → AreReadBack xs → AreReadBack ys → ((d : Value) → get_or (map g xs) a d ≡ get_or (map g ys) a d) → (d : Value) → get_or xs a d ≡ get_or ys a d
  same_before [] [] a one two same d = refl
  same_before [] (y ∷ ys) zero one two same d = absurd (no_default (g y) same)
  same_before [] (y ∷ ys) (suc a) one two same d = same_before [] ys a one (rest y ys two) same d
  same_before (x ∷ xs) [] zero one two same d = absurd (no_default (g x) (λ e. sym (same e)))
  same_before (x ∷ xs) [] (suc a) one two same d = same_before xs [] a (rest x xs one) two same d
  same_before (x ∷ xs) (y ∷ ys) zero one two same d = sym (one 0 x (omega arith)) ∙ ap back (same d) ∙ two 0 y (omega arith)
  same_before (x ∷ xs) (y ∷ ys) (suc a) one two same d = same_before xs ys a (rest x xs one) (rest y ys two) same d

  agree_renamed : (s : FinSet nat_cmp) (x y : List Value) → Agree s x y → Agree s (map g x) (map g y)
  agree_renamed s x y agree a d h = same_renamed x y a (λ e. agree a e h) d

  agree_before : (s : FinSet nat_cmp) (x y : List Value) → AreReadBack x → AreReadBack y → Agree s (map g x) (map g y) → Agree s x y
  agree_before s x y one two agree a d h = same_before x y a one two (λ e. agree a e h) d

  pub meets_renamed : (fds : List Fd) (universe : List (List Value)) → All AreReadBack universe → Meets fds universe → Meets fds (map (map g) universe)
  meets_renamed fds universe read meets f u t cf cu ct agree =
      let v = Contains-map_source (map g) universe u cu in
      let w = Contains-map_source (map g) universe t ct in
      let read_v : AreReadBack v.0 = All-contains AreReadBack universe v.0 read v.1 in
      let read_w : AreReadBack w.0 = All-contains AreReadBack universe w.0 read w.1 in
      let before : Agree f.left v.0 w.0 =
      agree_before f.left v.0 w.0 read_v read_w (subst (λ (x : List Value). Agree f.left x (map g w.0)) (sym v.2) (subst (Agree f.left u) (sym w.2) agree)) in
      let after : Agree f.right (map g v.0) (map g w.0) = agree_renamed f.right v.0 w.0 (meets f v.0 w.0 cf v.1 w.1 before) in
      subst (λ (x : List Value). Agree f.right x t) v.2 (subst (Agree f.right (map g v.0)) w.2 after)

-- ---- renamed to bytes

pub rows_read_back : (n : ℕ) (rows : List (List Value)) → row_spans rows ≤ n → All (AreReadBack (coded n) (decoded n)) rows
rows_read_back n rows low k d l j e m = decoded-coded n (get_or (get_or rows k d) j e) (let above = row-spans-above rows k d l j e m in omega arith)

pub renamed_meets : (n : ℕ) (fds : List Fd) (universe : List (List Value)) → row_spans universe ≤ n → Meets fds universe → Meets fds (map (map (coded n)) universe)
renamed_meets n fds universe low = meets_renamed (coded n) (decoded n) fds universe (rows_read_back n universe low)
