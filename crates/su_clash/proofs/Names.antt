-- Symbols and what they are called: one rename more makes two names one and changes no other.
use Rattle.std.proofs.Common.{◌≡◌, ℕ, true, false, cond, List, [], ◌∷◌, ◌++◌, Option, Some, None, refl, sym, ap, ◌∙◌, inl, inr}
use Rattle.std.specs.Prelude.{MatchOption}
use Rattle.std.specs.Ordering.{is_eq}
use Rattle.std.specs.declared.cmp.Ordering.{Ordering}
use Rattle.std.specs.declared.cmp.Ordering.TheVariants.{Less, Equal, Greater}
use Rattle.std.proofs.lemmas.Bool.{cases_Bool, eq-eqb, eqb-true, false≢true}
use Rattle.std.proofs.lemmas.Cmp.{tied_itself}
use Rattle.su_base.specs.Value.{compare_values}
use Rattle.su_base.proofs.Rows.{equal_values, values_total}
use Rattle.su_tableau.specs.declared.symbols.Sym.{Sym}
use Rattle.su_tableau.specs.declared.symbols.Sym.TheVariants.{Const, Var}
use Rattle.su_clash.specs.declared.renaming.Pair.{Pair}
use Rattle.su_clash.specs.declared.renaming.Rename.{Rename}
use Rattle.su_clash.specs.inside.Renames.{is_same, put, renamed, AreNames, Makes, Meet, AreOne}

eq_is : (o : Ordering) → is_eq o ≡ true → o ≡ Equal
eq_is Less e = absurd (false≢true e)
eq_is Equal e = refl
eq_is Greater e = absurd (false≢true e)

pub same_is : (x y : Sym) → is_same x y ≡ true → x ≡ y
same_is (Const a) (Const b) e = ap Const (equal_values a b (eq_is (compare_values a b) e))
same_is (Const a) (Var k) e = absurd (false≢true e)
same_is (Var j) (Const b) e = absurd (false≢true e)
same_is (Var j) (Var k) e = ap Var (eqb-true j k e)

pub same_itself : (x : Sym) → is_same x x ≡ true
same_itself (Const a) = ap is_eq (tied_itself values_total a)
same_itself (Var k) = eq-eqb k k refl

-- ---- one rename more

pub renamed_push : (rs : List Rename) (r : Rename) (x : Sym) → renamed (rs ++ r ∷ []) x ≡ put r (renamed rs x)
renamed_push [] r x = refl
renamed_push (s ∷ ss) r x = renamed_push ss r (put s x)

put_hit : (r : Rename) (z : Sym) → r.from ≡ z → put r z ≡ r.to
put_hit r z e = ap (λ b. cond b r.to z) (ap (λ (y : Sym). is_same r.from y) (sym e) ∙ same_itself r.from)

put_to : (r : Rename) → put r r.to ≡ r.to
put_to r = elim (is_same r.from r.to) as (λ b. cond b r.to r.to ≡ r.to) [ true ↦ refl | false ↦ refl ]

module _ (old new : List Rename) (k : ℕ) (t : Sym) (is : new ≡ old ++ record { from = Var k; to = t } ∷ []) where
  abbrev r : Rename
  r = record { from = Var k; to = t }

  pub after : (x : Sym) → renamed new x ≡ put r (renamed old x)
  after x = ap (λ (rs : List Rename). renamed rs x) is ∙ renamed_push old r x

  one_kept : (x y : Sym) → renamed old x ≡ renamed old y → renamed new x ≡ renamed new y
  one_kept x y e = after x ∙ ap (put r) e ∙ sym (after y)

  one_sound : (label : Sym → Sym) → ((x : Sym) → label x ≡ label (renamed old x)) → label (Var k) ≡ label t → (x : Sym) → label x ≡ label (renamed new x)
  one_sound label agrees same x =
      let here : label (renamed old x) ≡ label (put r (renamed old x)) =
      elim (cases_Bool (is_same (Var k) (renamed old x))) [
        | inl hit ↦ ap label (sym (same_is (Var k) (renamed old x) hit)) ∙ same ∙ sym (ap (λ b. label (cond b t (renamed old x))) hit)
        | inr miss ↦ sym (ap (λ b. label (cond b t (renamed old x))) miss)
      ] in
      agrees x ∙ here ∙ ap label (sym (after x))

  once : (x : Sym) → renamed old t ≡ t → AreNames old → put r (renamed old (put r (renamed old x))) ≡ put r (renamed old x)
  once x other names =
      let y = renamed old x in
      elim (cases_Bool (is_same (Var k) y)) [
        | inl hit ↦
            let gone : put r y ≡ t = ap (λ b. cond b t y) hit in
            ap (λ (z : Sym). put r (renamed old z)) gone ∙ ap (put r) other ∙ put_to r ∙ sym gone
        | inr miss ↦
            let stays : put r y ≡ y = ap (λ b. cond b t y) miss in
            ap (λ (z : Sym). put r (renamed old z)) stays ∙ ap (put r) (names.again x)
      ]

  one_names : renamed old t ≡ t → AreNames old → AreNames new
  one_names other names = record {
    constants = λ c. after (Const c) ∙ ap (put r) (names.constants c);
    again = λ x. ap (renamed new) (after x) ∙ after (put r (renamed old x)) ∙ once x other names ∙ sym (after x);
  }

  one_made : renamed old (Var k) ≡ Var k → renamed old t ≡ t → renamed new (Var k) ≡ renamed new t
  one_made own other = after (Var k) ∙ ap (put r) own ∙ put_hit r (Var k) refl ∙ sym (after t ∙ ap (put r) other ∙ put_to r)

  -- the variable takes the name of the other symbol
  pub makes_one : renamed old (Var k) ≡ Var k → renamed old t ≡ t → Makes (AreOne (Var k) t) old new
  makes_one own other = record {
    made = one_made own other;
    kept = one_kept;
    sound = one_sound;
    names = one_names other;
  }

  pub makes_other : renamed old (Var k) ≡ Var k → renamed old t ≡ t → Makes (AreOne t (Var k)) old new
  makes_other own other = record {
    made = sym (one_made own other);
    kept = one_kept;
    sound = λ label agrees same. one_sound label agrees (sym same);
    names = one_names other;
  }

-- two symbols that are called the same are one already
pub already : (old : List Rename) (x y : Sym) → renamed old x ≡ renamed old y → Makes (AreOne x y) old old
already old x y same = record { made = same; kept = λ u v e. e; sound = λ label agrees one. agrees; names = λ names. names }

-- to make what two symbols are called one is to make these symbols one
module _ (old : List Rename) (names : AreNames old) (x y from to : Sym) (from_is : from ≡ renamed old x) (to_is : to ≡ renamed old y) where
  one_below : (label : Sym → Sym) → ((z : Sym) → label z ≡ label (renamed old z)) → label x ≡ label y → label from ≡ label to
  one_below label agrees one = ap label from_is ∙ sym (agrees x) ∙ one ∙ agrees y ∙ sym (ap label to_is)

  pub makes_at : (new : List Rename) → Makes (AreOne from to) old new → Makes (AreOne x y) old new
  makes_at new m = record {
    made =
        m.kept x from (sym (names.again x) ∙ sym (ap (renamed old) from_is)) ∙ m.made
        ∙ m.kept to y (ap (renamed old) to_is ∙ names.again y);
    kept = m.kept;
    sound = λ label agrees one. m.sound label agrees (one_below label agrees one);
    names = m.names;
  }

  pub meet_at : (p : Pair) → Meet (AreOne from to) old p → Meet (AreOne x y) old p
  meet_at p m = record { differ = m.differ; forced = λ label agrees one. m.forced label agrees (one_below label agrees one) }

  pub told_at : (met : Option Pair) (new : List Rename) → MatchOption met (Makes (AreOne from to) old new) (Meet (AreOne from to) old) → MatchOption met (Makes (AreOne x y) old new) (Meet (AreOne x y) old)
  told_at None new m = makes_at new m
  told_at (Some p) new m = meet_at p m
