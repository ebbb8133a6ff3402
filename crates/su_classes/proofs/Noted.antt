-- What is noted under keys: rows have one key exactly where they agree at its attributes.
use Rattle.std.proofs.Common.{◌≡◌, ◌⊎◌, ◌<◌, ◌+◌, ◌++◌, ℕ, Bool, true, false, List, [], ◌∷◌, length, Option, None, Some, refl, sym, ap, subst, ◌∙◌, inl, inr, arith, below_more}
use Rattle.std.specs.Prelude.{All, nat_eq}
use Rattle.std.specs.FinSet.{empty}
use Rattle.std.specs.HashMap.{HashMap, Updates}
use Rattle.std.specs.Cmp.Lexicographic.{pointwise}
use Rattle.std.specs.Cmp.{unsigned_Decides}
use Rattle.std.specs.Bool.{Decides}
use Rattle.std.proofs.lemmas.Option.{none-some}
use Rattle.std.proofs.lemmas.Slice.Eq.{slice_eq-Decides}
use Rattle.std.proofs.lemmas.List.{get_or_push, get_or_append_left, length_push}
use Rattle.su_base.proofs.Items.{map-equal_at, map-equal_only}
use Rattle.su_fd.specs.declared.dependencies.Fd.{Fd}
use Rattle.su_classes.specs.declared.items.Placed.{Placed}
use Rattle.su_fd.specs.MetDependencies.{LiesIn}
use Rattle.su_classes.specs.Items.{item_of, SameItemLabels, IsPlacedBelow}
use Rattle.su_classes.specs.inside.Firsts.{row_at, first_at, AreMembersBelow, key, AreFirsts, noted_in, Notes, IsFirstNoted}
use Rattle.su_classes.proofs.Listed.{left_low}

key_eq : (a b : List ℕ) (r : Bool) → r ≡ pointwise nat_eq a b → Decides r (a ≡ b)
key_eq = slice_eq-Decides unsigned_Decides

-- what is found under the key
pub noted_there : (notes : List ℕ → Option ℕ) (k : List ℕ) (position first : ℕ) → notes k ≡ Some first → Notes notes notes k position first
noted_there notes k position first there = record { here = there; kept = λ l p before. before; made = λ l p after. inl after }

-- a position put where none stood
pub noted_new : {S : Type 0} (old new : HashMap (List ℕ) ℕ S) (k : List ℕ) (position : ℕ) → Updates (pointwise nat_eq) old new k (Some position) → noted_in old k ≡ None → Notes (noted_in old) (noted_in new) k position position
noted_new old new k position updated none = record {
  here = updated.1;
  kept = λ l p there.
      elim (pointwise nat_eq k l) as (λ b. pointwise nat_eq k l ≡ b → noted_in new l ≡ Some p) [
        | true ↦ λ e.
            let same : k ≡ l = (key_eq k l _ refl).0 e in
            absurd (none-some p (sym none ∙ ap (noted_in old) same ∙ there))
        | false ↦ λ e. updated.2 l e ∙ there
      ] refl;
  made = λ l p there.
      elim (pointwise nat_eq k l) as (λ b. pointwise nat_eq k l ≡ b → (noted_in old l ≡ Some p) ⊎ ((l ≡ k) × (p ≡ position))) [
        | true ↦ λ e.
            let same : k ≡ l = (key_eq k l _ refl).0 e in
            let one : Some p ≡ Some position = sym there ∙ ap (noted_in new) (sym same) ∙ updated.1 in
            inr (sym same, cc)
        | false ↦ λ e. inl (sym (updated.2 l e) ∙ there)
      ] refl;
}

-- ---- keys

module _ (n : ℕ) (label : ℕ → ℕ) (f : Fd) (left : List ℕ) (members : AreMembersBelow 128 f.left left) where
  pub same_key : (r q : Placed) → SameItemLabels label f.left r q → key label left r ≡ key label left q
  same_key r q same = map-equal_at (λ a. label (item_of r a)) (λ a. label (item_of q a)) left (λ a c. same a ((members a).0 c).1)

  pub same_left : (r q : Placed) → IsPlacedBelow n r → LiesIn f r.has → key label left r ≡ key label left q → SameItemLabels label f.left r q
  same_left r q placed lies e a h = map-equal_only (λ a. label (item_of r a)) (λ a. label (item_of q a)) left a e ((members a).1 (left_low n f r placed lies a h, h))

-- ---- the first rows

-- what is noted of the first n rows, and the positions that stand for them
pub record AreNoted (label : ℕ → ℕ) (f : Fd) (left : List ℕ) (rows : List Placed) (noted : List ℕ → Option ℕ) (n : ℕ) (firsts : List ℕ) : Type 0 where
  pub each : length firsts ≡ n
  pub here : (p : ℕ) → p < n → LiesIn f (row_at rows p).has → noted (key label left (row_at rows p)) ≡ Some (first_at firsts p)
  pub within : (p : ℕ) → p < n → first_at firsts p < n
  pub made : (k : List ℕ) (p : ℕ) → noted k ≡ Some p → (p < n) × LiesIn f (row_at rows p).has × (k ≡ key label left (row_at rows p))

module _ (label : ℕ → ℕ) (f : Fd) (left : List ℕ) (rows : List Placed) where
  pub noted_none : (noted : List ℕ → Option ℕ) → ((k : List ℕ) → noted k ≡ None) → AreNoted label f left rows noted 0 []
  noted_none noted none = record {
    each = refl;
    here = λ p l. absurd (omega arith);
    within = λ p l. absurd (omega arith);
    made = λ k p e. absurd (none-some p (sym (none k) ∙ e));
  }

  module _ (old new : List ℕ → Option ℕ) (n first : ℕ) (firsts : List ℕ) (so_far : AreNoted label f left rows old n firsts) where
    before : (p : ℕ) → p < n → first_at (firsts ++ first ∷ []) p ≡ first_at firsts p
    before p l = get_or_append_left firsts (first ∷ []) 0 p (let e = so_far.each in omega arith)

    now : first_at (firsts ++ first ∷ []) n ≡ first
    now = get_or_push firsts first 0 n so_far.each

    length_more : length (firsts ++ first ∷ []) ≡ n + 1
    length_more = length_push firsts first ∙ ap (λ k. k + 1) so_far.each

    within_more : first < n + 1 → (p : ℕ) → p < n + 1 → first_at (firsts ++ first ∷ []) p < n + 1
    within_more l = below_more (λ p. first_at (firsts ++ first ∷ []) p < n + 1) n (λ p below. let e = before p below in let w = so_far.within p below in omega arith) (let e = now in omega arith)

    more_lying : LiesIn f (row_at rows n).has → Notes old new (key label left (row_at rows n)) n first → AreNoted label f left rows new (n + 1) (firsts ++ first ∷ [])
    more_lying lies notes = record {
      each = length_more;
      here = below_more (λ p. LiesIn f (row_at rows p).has → new (key label left (row_at rows p)) ≡ Some (first_at (firsts ++ first ∷ []) p)) n
          (λ p below is. notes.kept _ (first_at firsts p) (so_far.here p below is) ∙ ap Some (sym (before p below)))
          (λ is. notes.here ∙ ap Some (sym now));
      within = within_more (elim (notes.made _ first notes.here) [
        | inl there ↦ let w = so_far.made _ first there in omega (arith, w.0)
        | inr (_, is) ↦ omega (arith, is)
      ]);
      made = λ k p there. elim (notes.made k p there) [
        | inl earlier ↦ let w = so_far.made k p earlier in (omega (arith, w.0), w.1, w.2)
        | inr (k_is, is) ↦ (omega (arith, is), subst (λ (q : ℕ). LiesIn f (row_at rows q).has) (sym is) lies, k_is ∙ ap (λ q. key label left (row_at rows q)) (sym is))
      ];
    }

    more_passing : (¬ LiesIn f (row_at rows n).has) → first ≡ n → new ≡ old → AreNoted label f left rows new (n + 1) (firsts ++ first ∷ [])
    more_passing out is same = record {
      each = length_more;
      here = below_more (λ p. LiesIn f (row_at rows p).has → new (key label left (row_at rows p)) ≡ Some (first_at (firsts ++ first ∷ []) p)) n
          (λ p below lies. ap (λ (g : List ℕ → Option ℕ). g (key label left (row_at rows p))) same ∙ so_far.here p below lies ∙ ap Some (sym (before p below)))
          (λ lies. absurd (out lies));
      within = within_more (omega (arith, is));
      made = λ k p there. let w = so_far.made k p (ap (λ (g : List ℕ → Option ℕ). g k) (sym same) ∙ there) in (omega (arith, w.0), w.1, w.2);
    }

    pub noted_more : IsFirstNoted label f left (row_at rows n) old new n first → AreNoted label f left rows new (n + 1) (firsts ++ first ∷ [])
    noted_more (inl (lies, notes)) = more_lying lies notes
    noted_more (inr (out, is, same)) = more_passing out is same

  pub firsts_all : (items : ℕ) (noted : List ℕ → Option ℕ) (n : ℕ) (firsts : List ℕ) → AreMembersBelow 128 f.left left → All (IsPlacedBelow items) rows → n ≡ length rows → AreNoted label f left rows noted n firsts → AreFirsts label f rows firsts
  firsts_all items noted n firsts members placed all so_far =
      let low : (p : ℕ) → p < length rows → p < n = λ p l. omega (arith, l, all) in
      record {
        each = so_far.each ∙ all;
        within = λ p l. let w = so_far.within p (low p l) in omega (arith, w, all);
        lies = λ p l is. (so_far.made _ (first_at firsts p) (so_far.here p (low p l) is)).1;
        alike = λ p l is.
            same_left items label f left members (row_at rows p) (row_at rows (first_at firsts p)) (placed p (record { has = empty; cells = [] }) l) is
            (so_far.made _ (first_at firsts p) (so_far.here p (low p l) is)).2;
        same = λ p q p_in q_in p_lies q_lies same.
            let e : Some (first_at firsts p) ≡ Some (first_at firsts q) = sym (so_far.here p (low p p_in) p_lies) ∙ ap noted (same_key items label f left members (row_at rows p) (row_at rows q) same) ∙ so_far.here q (low q q_in) q_lies in
            cc;
      }
