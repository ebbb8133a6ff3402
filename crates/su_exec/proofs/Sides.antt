-- Which of two values more values meet, by the order of values.
use Rattle.std.proofs.Common.{◌≡◌, true, false, refl, sym, ap, ◌∙◌, true≢false}
use Rattle.std.specs.Cmp.{IsTotalOrder}
use Rattle.std.specs.Ordering.{ordering_reverse}
use Rattle.std.specs.declared.cmp.Ordering.{Ordering}
use Rattle.std.specs.declared.cmp.Ordering.TheVariants.{Less as Before, Equal as Same, Greater as After}
use Rattle.su_base.specs.declared.values.Value.{Value}
use Rattle.su_base.specs.Value.{compare_values}
use Rattle.su_base.proofs.Rows.{values_total}
use Rattle.su_where.specs.Operator.{compares, holds_in}
use Rattle.su_where.specs.declared.operators.Op.{Op}
use Rattle.su_where.specs.declared.operators.Op.TheVariants.{Equal, NotEqual, Less, LessEqual, Greater, GreaterEqual}
use Rattle.su_exec.specs.inside.Ranges.{IsSide}

is_before : (o : Ordering) → holds_in Less o ≡ true → o ≡ Before
is_before Before h = refl
is_before Same h = absurd (true≢false (sym h))
is_before After h = absurd (true≢false (sym h))

module _ (R : Value → Value → Ordering) (total : IsTotalOrder R) where
  same_right : (x b c : Value) → R b c ≡ Same → R x b ≡ R x c
  same_right x b c e = total.antisymm x b ∙ ap ordering_reverse (total.congr b c x e) ∙ sym (total.antisymm x c)

  farther_less : (x b c : Value) → holds_in Less (R b c) ≡ true → holds_in Less (R x b) ≡ true → holds_in Less (R x c) ≡ true
  farther_less x b c l h = ap (holds_in Less) (total.trans x b c (is_before (R x b) h) (is_before (R b c) l))

  farther_most : (x b c : Value) (o : Ordering) → R x b ≡ o → holds_in Less (R b c) ≡ true → holds_in LessEqual o ≡ true → holds_in LessEqual (R x c) ≡ true
  farther_most x b c Before e l h = ap (holds_in LessEqual) (total.trans x b c e (is_before (R b c) l))
  farther_most x b c Same e l h = ap (holds_in LessEqual) (total.congr x b c e ∙ is_before (R b c) l)
  farther_most x b c After e l h = absurd (true≢false (sym h))

  behind : (b c : Value) → R b c ≡ After → R c b ≡ Before
  behind b c e = total.antisymm c b ∙ ap ordering_reverse e

  nearer_less : (x b c : Value) (o : Ordering) → R b c ≡ o → holds_in Less o ≡ false → holds_in Less (R x c) ≡ true → holds_in Less (R x b) ≡ true
  nearer_less x b c Before e n h = absurd (true≢false n)
  nearer_less x b c Same e n h = ap (holds_in Less) (same_right x b c e) ∙ h
  nearer_less x b c After e n h = ap (holds_in Less) (total.trans x c b (is_before (R x c) h) (behind b c e))

  nearer_most : (x b c : Value) (o : Ordering) → R b c ≡ o → holds_in Less o ≡ false → holds_in LessEqual (R x c) ≡ true → holds_in LessEqual (R x b) ≡ true
  nearer_most x b c Before e n h = absurd (true≢false n)
  nearer_most x b c Same e n h = ap (holds_in LessEqual) (same_right x b c e) ∙ h
  nearer_most x b c After e n h = farther_most x c b (R x c) refl (ap (holds_in Less) (behind b c e)) h

-- the order turned round
abbrev after : Value → Value → Ordering
after x y = compare_values y x

after_total : IsTotalOrder after
after_total = record {
  antisymm = λ x y. values_total.antisymm y x;
  trans = λ x y z p q. values_total.trans z y x q p;
  congr = λ x y z e. values_total.antisymm z x ∙ ap ordering_reverse (values_total.congr x y z (values_total.antisymm x y ∙ ap ordering_reverse e)) ∙ sym (values_total.antisymm z y);
}

turned_less : (o : Ordering) → holds_in Greater o ≡ holds_in Less (ordering_reverse o)
turned_less Before = refl
turned_less Same = refl
turned_less After = refl

turned_most : (o : Ordering) → holds_in GreaterEqual o ≡ holds_in LessEqual (ordering_reverse o)
turned_most Before = refl
turned_most Same = refl
turned_most After = refl

-- greater is less, turned round
greater : (x y : Value) → compares Greater x y ≡ holds_in Less (after x y)
greater x y = turned_less (compare_values x y) ∙ ap (holds_in Less) (sym (values_total.antisymm y x))

greater_equal : (x y : Value) → compares GreaterEqual x y ≡ holds_in LessEqual (after x y)
greater_equal x y = turned_most (compare_values x y) ∙ ap (holds_in LessEqual) (sym (values_total.antisymm y x))

pub less_side : IsSide Less Less
less_side = record {
  farther = λ x b c l h. farther_less compare_values values_total x b c l h;
  nearer = λ x b c n h. nearer_less compare_values values_total x b c (compare_values b c) refl n h;
}

pub less_equal_side : IsSide LessEqual Less
less_equal_side = record {
  farther = λ x b c l h. farther_most compare_values values_total x b c (compare_values x b) refl l h;
  nearer = λ x b c n h. nearer_most compare_values values_total x b c (compare_values b c) refl n h;
}

pub greater_side : IsSide Greater Greater
greater_side = record {
  farther = λ x b c l h. greater x c ∙ farther_less after after_total x b c (sym (greater b c) ∙ l) (sym (greater x b) ∙ h);
  nearer = λ x b c n h. greater x b ∙ nearer_less after after_total x b c (after b c) refl (sym (greater b c) ∙ n) (sym (greater x c) ∙ h);
}

pub greater_equal_side : IsSide GreaterEqual Greater
greater_equal_side = record {
  farther = λ x b c l h. greater_equal x c ∙ farther_most after after_total x b c (after x b) refl (sym (greater b c) ∙ l) (sym (greater_equal x b) ∙ h);
  nearer = λ x b c n h. greater_equal x b ∙ nearer_most after after_total x b c (after b c) refl (sym (greater b c) ∙ n) (sym (greater_equal x c) ∙ h);
}

-- ---- sides exchanged

exchanged : (op other : Op) → ((o : Ordering) → holds_in other (ordering_reverse o) ≡ holds_in op o) → (x y : Value) → compares other y x ≡ compares op x y
exchanged op other h x y = ap (holds_in other) (values_total.antisymm y x) ∙ h (compare_values x y)

equal_turned : (o : Ordering) → holds_in Equal (ordering_reverse o) ≡ holds_in Equal o
equal_turned Before = refl
equal_turned Same = refl
equal_turned After = refl

not_equal_turned : (o : Ordering) → holds_in NotEqual (ordering_reverse o) ≡ holds_in NotEqual o
not_equal_turned Before = refl
not_equal_turned Same = refl
not_equal_turned After = refl

greater_turned : (o : Ordering) → holds_in Greater (ordering_reverse o) ≡ holds_in Less o
greater_turned Before = refl
greater_turned Same = refl
greater_turned After = refl

greater_equal_turned : (o : Ordering) → holds_in GreaterEqual (ordering_reverse o) ≡ holds_in LessEqual o
greater_equal_turned Before = refl
greater_equal_turned Same = refl
greater_equal_turned After = refl

pub turn_equal : (x y : Value) → compares Equal y x ≡ compares Equal x y
turn_equal = exchanged Equal Equal equal_turned

pub turn_not_equal : (x y : Value) → compares NotEqual y x ≡ compares NotEqual x y
turn_not_equal = exchanged NotEqual NotEqual not_equal_turned

pub turn_less : (x y : Value) → compares Greater y x ≡ compares Less x y
turn_less = exchanged Less Greater greater_turned

pub turn_less_equal : (x y : Value) → compares GreaterEqual y x ≡ compares LessEqual x y
turn_less_equal = exchanged LessEqual GreaterEqual greater_equal_turned

pub turn_greater : (x y : Value) → compares Less y x ≡ compares Greater x y
turn_greater x y = sym (turn_less y x)

pub turn_greater_equal : (x y : Value) → compares LessEqual y x ≡ compares GreaterEqual x y
turn_greater_equal x y = sym (turn_less_equal y x)
