-- What is read as a condition leads on to what may stand behind one.
-- f: the frame; n: how many parentheses are open
use Rattle.std.proofs.Common.{inl, inr, ℕ, zero, suc, Option, Some, None, List, [], ◌∷◌, refl, sym, subst, codes}
use Rattle.std.specs.List.{AllByRecursion}
use Rattle.su_base.specs.declared.values.Value.TheVariants as value
use Rattle.su_where.specs.declared.operators.Op.{Op}
use Rattle.su_where.specs.declared.operators.Op.TheVariants as op
use Rattle.su_query.specs.declared.refs.NamedOperand.{NamedOperand}
use Rattle.su_query.specs.declared.refs.NamedOperand.TheVariants.{Ref, Const}
use Rattle.su_query.specs.Refs.{NamedCond}
use Rattle.su_query.specs.Operands.{op_sym}
use Rattle.su_query.specs.inside.ReadItems.{ReadsRef, ReadsOperand}
use Rattle.su_query.specs.inside.ReadConditions as g
use Rattle.su_query.specs.inside.ReadConditions.{ReadsCond, ReadsOrs, ReadsConj, ReadsAnds, ReadsFactor, ReadsPrimary, ReadsComparison, compared}
use Rattle.su_lex.specs.declared.meaning.Symbol.{Symbol}
use Rattle.su_lex.specs.declared.meaning.Symbol.TheVariants.{Word, Sign}
use Rattle.su_lex.specs.declared.signs.Sign.TheVariants as sign
use Rattle.su_faults.specs.declared.spots.Frame.{Frame}
use Rattle.su_faults.specs.declared.spots.Frame.TheVariants as frame
use Rattle.su_faults.specs.declared.spots.Spot.TheVariants as spot
use Rattle.su_faults.specs.declared.spots.InCondition.TheVariants as c
use Rattle.su_faults.specs.inside.Choices.{nexts}
use Rattle.su_faults.specs.inside.Machine.{Accepts, is_flat}
use Rattle.su_faults.proofs.Endings.{at, same_moves}
use Rattle.su_faults.proofs.ConditionsTaken.{Suits, SuitsOperand, any_suits, all_suits, not_suits, compare_suits}

and_leads : (f : Frame) (n : ℕ) (xs : List Symbol) → Accepts xs (at (spot.Condition c.Factor) f n) → Accepts (Word (codes "and") ∷ xs) (at (spot.Condition c.Next) f n)
and_leads f zero xs h = inl (refl, h)
and_leads f (suc n) xs h = inl (refl, h)

or_leads : (f : Frame) (n : ℕ) (xs : List Symbol) → Accepts xs (at (spot.Condition c.Factor) f n) → Accepts (Word (codes "or") ∷ xs) (at (spot.Condition c.Next) f n)
or_leads f zero xs h = inr (inl (refl, h))
or_leads f (suc n) xs h = inr (inl (refl, h))

op_leads : (o : Op) (xs : List Symbol) (f : Frame) (n : ℕ) → Accepts xs (at (spot.Condition c.Right) f n) → Accepts (op_sym o ∷ xs) (at (spot.Condition c.Operator) f n)
op_leads op.Equal xs f n h = inl (refl, h)
op_leads op.NotEqual xs f n h = inr (inl (refl, h))
op_leads op.Less xs f n h = inr (inr (inl (refl, h)))
op_leads op.LessEqual xs f n h = inr (inr (inr (inl (refl, h))))
op_leads op.Greater xs f n h = inr (inr (inr (inr (inl (refl, h)))))
op_leads op.GreaterEqual xs f n h = inr (inr (inr (inr (inr (inl (refl, h))))))

-- an operator may follow a name at once
bare_left : (f : Frame) (n : ℕ) (o : Op) (xs : List Symbol) → Accepts (op_sym o ∷ xs) (at (spot.Condition c.Operator) f n) → Accepts (op_sym o ∷ xs) (at (spot.Condition c.LeftDot) f n)
bare_left frame.Alone n o xs h = inr h
bare_left frame.Columns n o xs h = h
bare_left frame.First n o xs h = inr h
bare_left frame.Second n o xs h = inr h

bare_right : (f : Frame) (n : ℕ) (xs : List Symbol) → Accepts xs (at (spot.Condition c.Next) f n) → Accepts xs (at (spot.Condition c.RightDot) f n)
bare_right frame.Alone n [] h = inr h
bare_right frame.Alone n (x ∷ xs) h = inr (same_moves (nexts frame.Alone (is_flat n)) x xs (spot.Condition c.Next) (spot.Condition c.RightDot) frame.Alone n h)
bare_right frame.Columns n [] h = h
bare_right frame.Columns n (x ∷ xs) h = same_moves (nexts frame.Columns (is_flat n)) x xs (spot.Condition c.Next) (spot.Condition c.RightDot) frame.Columns n h
bare_right frame.First n [] h = inr h
bare_right frame.First n (x ∷ xs) h = inr (same_moves (nexts frame.First (is_flat n)) x xs (spot.Condition c.Next) (spot.Condition c.RightDot) frame.First n h)
bare_right frame.Second n [] h = inr h
bare_right frame.Second n (x ∷ xs) h = inr (same_moves (nexts frame.Second (is_flat n)) x xs (spot.Condition c.Next) (spot.Condition c.RightDot) frame.Second n h)

dotted_left : (f : Frame) (n : ℕ) (name ref : List ℕ) (xs : List Symbol) → SuitsOperand f (Ref (record { variable = Some name; attribute = ref })) → Accepts xs (at (spot.Condition c.LeftAttribute) f n)
    → Accepts (Sign sign.Dot ∷ xs) (at (spot.Condition c.LeftDot) f n)
dotted_left frame.Alone n name ref xs suit h = inl (refl, h)
dotted_left frame.Columns n name ref xs suit h = absurd (cc)
dotted_left frame.First n name ref xs suit h = inl (refl, h)
dotted_left frame.Second n name ref xs suit h = inl (refl, h)

dotted_right : (f : Frame) (n : ℕ) (name ref : List ℕ) (xs : List Symbol) → SuitsOperand f (Ref (record { variable = Some name; attribute = ref })) → Accepts xs (at (spot.Condition c.RightAttribute) f n)
    → Accepts (Sign sign.Dot ∷ xs) (at (spot.Condition c.RightDot) f n)
dotted_right frame.Alone n name ref xs suit h = inl (refl, h)
dotted_right frame.Columns n name ref xs suit h = absurd (cc)
dotted_right frame.First n name ref xs suit h = inl (refl, h)
dotted_right frame.Second n name ref xs suit h = inl (refl, h)

-- a ref on the right
right_ref : (v : Option (List ℕ)) (name : List ℕ) (s r : List Symbol) (f : Frame) (n : ℕ) → ReadsRef (record { variable = v; attribute = name }) s r → SuitsOperand f (Ref (record { variable = v; attribute = name }))
    → Accepts r (at (spot.Condition c.Next) f n) → Accepts s (at (spot.Condition c.Right) f n)
right_ref None name s r f n reads suit h = subst (λ (w : List Symbol). Accepts w (at (spot.Condition c.Right) f n)) (sym reads.0) (inl ((name, refl, reads.2), bare_right f n r h))
right_ref (Some v) name s r f n reads suit h =
    subst (λ (w : List Symbol). Accepts w (at (spot.Condition c.Right) f n)) (sym reads.0) (inl ((v, refl, reads.1), dotted_right f n v name (Word name ∷ r) suit (inl ((name, refl, reads.2), h))))

-- an operand on the right
right_leads : (b : NamedOperand) (s r : List Symbol) (f : Frame) (n : ℕ) → ReadsOperand b s r → SuitsOperand f b → Accepts r (at (spot.Condition c.Next) f n) → Accepts s (at (spot.Condition c.Right) f n)
right_leads (Ref ref) s r f n reads suit h = right_ref ref.variable ref.attribute s r f n reads suit h
right_leads (Const (value.Int v)) s r f n reads suit h = subst (λ (w : List Symbol). Accepts w (at (spot.Condition c.Right) f n)) (sym reads) (inr (inl ((v, refl), h)))
right_leads (Const (value.Text v)) s r f n reads suit h = subst (λ (w : List Symbol). Accepts w (at (spot.Condition c.Right) f n)) (sym reads) (inr (inr (inl ((v, refl), h))))

-- a ref on the left, before an operator
left_ref : (v : Option (List ℕ)) (name : List ℕ) (s : List Symbol) (o : Op) (u : List Symbol) (f : Frame) (n : ℕ) → ReadsRef (record { variable = v; attribute = name }) s (op_sym o ∷ u)
    → SuitsOperand f (Ref (record { variable = v; attribute = name })) → Accepts (op_sym o ∷ u) (at (spot.Condition c.Operator) f n) → Accepts s (at (spot.Condition c.Primary) f n)
left_ref None name s o u f n reads suit h = subst (λ (w : List Symbol). Accepts w (at (spot.Condition c.Primary) f n)) (sym reads.0) (inr (inl ((name, refl, reads.2), bare_left f n o u h)))
left_ref (Some v) name s o u f n reads suit h =
    subst (λ (w : List Symbol). Accepts w (at (spot.Condition c.Primary) f n)) (sym reads.0) (inr (inl ((v, refl, reads.1), dotted_left f n v name (Word name ∷ op_sym o ∷ u) suit (inl ((name, refl, reads.2), h)))))

-- an operand on the left, before an operator
left_leads : (b : NamedOperand) (s : List Symbol) (o : Op) (u : List Symbol) (f : Frame) (n : ℕ) → ReadsOperand b s (op_sym o ∷ u) → SuitsOperand f b → Accepts (op_sym o ∷ u) (at (spot.Condition c.Operator) f n)
    → Accepts s (at (spot.Condition c.Primary) f n)
left_leads (Ref ref) s o u f n reads suit h = left_ref ref.variable ref.attribute s o u f n reads suit h
left_leads (Const (value.Int v)) s o u f n reads suit h = subst (λ (w : List Symbol). Accepts w (at (spot.Condition c.Primary) f n)) (sym reads) (inr (inr (inl ((v, refl), h))))
left_leads (Const (value.Text v)) s o u f n reads suit h = subst (λ (w : List Symbol). Accepts w (at (spot.Condition c.Primary) f n)) (sym reads) (inr (inr (inr (inl ((v, refl), h)))))

comparison_leads : (d : NamedCond) (s r : List Symbol) (f : Frame) (n : ℕ) → ReadsComparison d s r → Suits f d → Accepts r (at (spot.Condition c.Next) f n) → Accepts s (at (spot.Condition c.Primary) f n)
comparison_leads d s r f n (a, o, b, t, u, left, e, right, is) suit h =
    let both = compare_suits f a b o (subst (Suits f) is suit) in
    let on = right_leads b u r f n right both.1 h in
    left_leads a s o u f n (subst (λ (w : List Symbol). ReadsOperand a s w) e left) both.0 (op_leads o u f n on)

primary_factor : (s : List Symbol) (f : Frame) (n : ℕ) → Accepts s (at (spot.Condition c.Primary) f n) → Accepts s (at (spot.Condition c.Factor) f n)
primary_factor [] f n h = inr h
primary_factor (x ∷ xs) f n h = inr h

mutual
  pub cond_leads : (d : NamedCond) (s r : List Symbol) → ReadsCond d s r → (f : Frame) (n : ℕ) → Suits f d → Accepts r (at (spot.Condition c.Next) f n) → Accepts s (at (spot.Condition c.Factor) f n)
  cond_leads d s r (g.cond _ k ks _ t _ e h hs) f n suit on =
      let all = any_suits f k ks (subst (Suits f) e suit) in
      conj_leads k s t h f n all.0 (ors_lead ks t r hs f n all.1 on)

  ors_lead : (ds : List NamedCond) (s r : List Symbol) → ReadsOrs ds s r → (f : Frame) (n : ℕ) → AllByRecursion (Suits f) ds → Accepts r (at (spot.Condition c.Next) f n) → Accepts s (at (spot.Condition c.Next) f n)
  ors_lead ds s r (g.no_or _ _ _ e same none) f n suit on = subst (λ (v : List Symbol). Accepts v (at (spot.Condition c.Next) f n)) (sym same) on
  ors_lead ds s r (g.one_or _ k ks _ t u _ e w h hs) f n suit on =
      let all = subst (AllByRecursion (Suits f)) e suit in
      subst (λ (v : List Symbol). Accepts v (at (spot.Condition c.Next) f n)) (sym w) (or_leads f n t (conj_leads k t u h f n all.0 (ors_lead ks u r hs f n all.1 on)))

  conj_leads : (d : NamedCond) (s r : List Symbol) → ReadsConj d s r → (f : Frame) (n : ℕ) → Suits f d → Accepts r (at (spot.Condition c.Next) f n) → Accepts s (at (spot.Condition c.Factor) f n)
  conj_leads d s r (g.conj _ k ks _ t _ e h hs) f n suit on =
      let all = all_suits f k ks (subst (Suits f) e suit) in
      factor_leads k s t h f n all.0 (ands_lead ks t r hs f n all.1 on)

  ands_lead : (ds : List NamedCond) (s r : List Symbol) → ReadsAnds ds s r → (f : Frame) (n : ℕ) → AllByRecursion (Suits f) ds → Accepts r (at (spot.Condition c.Next) f n) → Accepts s (at (spot.Condition c.Next) f n)
  ands_lead ds s r (g.no_and _ _ _ e same none) f n suit on = subst (λ (v : List Symbol). Accepts v (at (spot.Condition c.Next) f n)) (sym same) on
  ands_lead ds s r (g.one_and _ k ks _ t u _ e w h hs) f n suit on =
      let all = subst (AllByRecursion (Suits f)) e suit in
      subst (λ (v : List Symbol). Accepts v (at (spot.Condition c.Next) f n)) (sym w) (and_leads f n t (factor_leads k t u h f n all.0 (ands_lead ks u r hs f n all.1 on)))

  factor_leads : (d : NamedCond) (s r : List Symbol) → ReadsFactor d s r → (f : Frame) (n : ℕ) → Suits f d → Accepts r (at (spot.Condition c.Next) f n) → Accepts s (at (spot.Condition c.Factor) f n)
  factor_leads d s r (g.plain _ _ _ h) f n suit on = primary_factor s f n (primary_leads d s r h f n suit on)
  factor_leads d s r (g.negated _ k _ t _ e w h) f n suit on =
      let inner = primary_leads k t r h f n (not_suits f k (subst (Suits f) e suit)) on in
      subst (λ (v : List Symbol). Accepts v (at (spot.Condition c.Factor) f n)) (sym w) (inl (refl, inner))

  primary_leads : (d : NamedCond) (s r : List Symbol) → ReadsPrimary d s r → (f : Frame) (n : ℕ) → Suits f d → Accepts r (at (spot.Condition c.Next) f n) → Accepts s (at (spot.Condition c.Primary) f n)
  primary_leads d s r (g.nested _ _ t u _ e h w) f n suit on =
      let behind : Accepts u (at (spot.Condition c.Next) f (suc n)) = subst (λ (v : List Symbol). Accepts v (at (spot.Condition c.Next) f (suc n))) (sym w) (inr (inr (inl (refl, on)))) in
      subst (λ (v : List Symbol). Accepts v (at (spot.Condition c.Primary) f n)) (sym e) (inl (refl, cond_leads d t u h f (suc n) suit behind))
  primary_leads d s r (g.compare _ _ _ h) f n suit on = comparison_leads d s r f n h suit on
