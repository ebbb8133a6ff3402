-- A row is an output of a task exactly where it doesn't clash with the outputs and some valuation meets the whole with each output pinned to it.
use Rattle.std.proofs.Common.{◌≡◌, ◌⊎◌, inl, inr, ◌<◌, ◌≤◌, ℕ, suc, true, List, [], ◌∷◌, length, get_or, Some, None, refl, sym, ap, subst, ◌∙◌, ⊎_elim, arith}
use Rattle.std.specs.Prelude.{slice_get, IsTrue, option_map}
use Rattle.std.specs.List.{range_with_len}
use Rattle.std.proofs.lemmas.Bool.{cases_lt}
use Rattle.std.proofs.lemmas.List.{length-map}
use Rattle.std.proofs.lemmas.Option.{get_or_from_slice_get, slice_get-get_or, slice_get-map, slice_get_within, same_Some}
use Rattle.su_base.specs.declared.values.Value.{Value}
use Rattle.su_base.proofs.Same.{value_eq-Decides}
use Rattle.su_base.proofs.Rows.{eq-values}
use Rattle.su_rel.specs.Stored.{Stored}
use Rattle.su_where.specs.declared.operators.Op.TheVariants.{Equal}
use Rattle.su_where.specs.Operator.{compares}
use Rattle.su_tableau.specs.declared.symbols.Sym.{Sym}
use Rattle.su_tableau.specs.declared.symbols.Sym.TheVariants.{Const, Var}
use Rattle.su_tableau.specs.Valuations.{value_of, values_of}
use Rattle.su_exec.specs.declared.tasks.Compared.{Compared}
use Rattle.su_exec.specs.declared.tasks.Task.{Task}
use Rattle.su_exec.specs.Tasks.{IsTask}
use Rattle.su_exec.specs.Outputs.{HoldsUnder, IsOutput}
use Rattle.su_why.specs.Met.{size_of, IsMet}
use Rattle.su_why.specs.Heads.{IsLonger, IsAnother, IsTwo, HaveNoClash}
use Rattle.su_tableau.specs.Tableaux.{IsValid}
use Rattle.su_state.specs.DatabaseValue.{DatabaseValue, IsWellKept}
use Rattle.su_min.specs.Kept.{Minimised}
use Rattle.su_answer.specs.Joined.{IsTaskOf}
use Rattle.su_answer.specs.Answers.{IsTermAnswer}
use Rattle.su_why.specs.declared.refusals.WhyNot.{WhyNot}
use Rattle.su_why.specs.declared.refusals.WhyNot.TheVariants.{Head, Rows}
use Rattle.su_why.specs.WhyNot.{pin, IsPin, ArePins, IsWhyNotBy, Denies, IsWhyNot}
use Rattle.su_why.proofs.Whole.{output_met, met_output, held, answers, blamed_unmet, unblamed_met}

-- ---- equal values

compares_same : (w : Value) → compares Equal w w ≡ true
compares_same w = sym (eq-values w w) ∙ (value_eq-Decides w w).1 refl

compares_equal : (v w : Value) → compares Equal v w ≡ true → v ≡ w
compares_equal v w e = (value_eq-Decides v w).0 (eq-values v w ∙ e)

-- lists with the same values at their places are one
same_lists : (xs ys : List Value) → length xs ≡ length ys → ((i : ℕ) (x y : Value) → slice_get xs i ≡ Some x → slice_get ys i ≡ Some y → x ≡ y) → xs ≡ ys
same_lists [] [] long same = refl
same_lists [] (y ∷ ys) long same = absurd (omega (arith, long))
same_lists (x ∷ xs) [] long same = absurd (omega (arith, long))
same_lists (x ∷ xs) (y ∷ ys) long same =
    let e : x ≡ y = same 0 x y refl refl in
    let tails : xs ≡ ys = same_lists xs ys (omega (arith, long)) (λ i a b p q. same (suc i) a b p q) in
    ap (λ (z : Value). z ∷ xs) e ∙ ap (λ (zs : List Value). y ∷ zs) tails

-- ---- outputs that have the row's values don't clash with it

module _ (outputs : List Sym) (h : List Value) where
  module _ (v : ℕ → Value) (gives : values_of v outputs ≡ h) where
    as_long : length outputs ≡ length h
    as_long = sym (length-map outputs (value_of v)) ∙ ap length gives

    beside : (i : ℕ) (x : Sym) → slice_get outputs i ≡ Some x → slice_get h i ≡ Some (value_of v x)
    beside i x e = ap (λ (l : List Value). slice_get l i) (sym gives) ∙ slice_get-map (value_of v) outputs i ∙ ap (option_map (value_of v)) e

    pub gives_no_clash : HaveNoClash outputs h
    gives_no_clash j clash =
        ⊎_elim
        (λ (longer : IsLonger outputs h j). ⊎_elim
        (λ (a : (j < length outputs) × (length h ≤ j)). let low = a.0 in let high = a.1 in absurd (omega (arith, as_long, low, high)))
        (λ (b : (j < length h) × (length outputs ≤ j)). let low = b.0 in let high = b.1 in absurd (omega (arith, as_long, low, high)))
        longer)
        (λ (rest : IsAnother outputs h j ⊎ IsTwo outputs h j). ⊎_elim
        (λ (a : IsAnother outputs h j). a.differ (beside j (Const a.constant) a.stands))
        (λ (t : IsTwo outputs h j). t.otherwise.differ (beside t.otherwise.earlier (Var t.variable) t.otherwise.stood ∙ sym (beside j (Var t.variable) t.stands)))
        rest)
        clash

    pub pin_holds : (c : Compared) → IsPin outputs h c → HoldsUnder v c
    pin_holds c p =
        let same : value_of v p.output ≡ p.value = same_Some (value_of v p.output) p.value (sym (beside p.place p.output p.stands) ∙ p.beside) in
        subst (HoldsUnder v) (sym p.is) (subst (λ (w : Value). IsTrue (compares Equal (value_of v p.output) w)) same (compares_same (value_of v p.output)))

  no_longer : HaveNoClash outputs h → length outputs ≡ length h
  no_longer none =
      ⊎_elim
      (λ (lt : length outputs < length h). absurd (none (length outputs) (inl (inr (lt, omega arith)))))
      (λ (le : length h ≤ length outputs).
      ⊎_elim
      (λ (lt : length h < length outputs). absurd (none (length h) (inl (inl (lt, omega arith)))))
      (λ (same : length outputs ≤ length h). let e : length outputs ≡ length h = omega arith in e)
      (cases_lt (length h) (length outputs)))
      (cases_lt (length outputs) (length h))

  module _ (none : HaveNoClash outputs h) (v : ℕ → Value) (holds : (c : Compared) → IsPin outputs h c → HoldsUnder v c) where
    same_at : (i : ℕ) (a b : Value) → slice_get (values_of v outputs) i ≡ Some a → slice_get h i ≡ Some b → a ≡ b
    same_at i a b p q =
        let low : i < length outputs = (let l = slice_get_within (values_of v outputs) i a p in let long = length-map outputs (value_of v) in omega (arith, l, long)) in
        let x : Sym = get_or outputs i (Var 0) in
        let is : slice_get outputs i ≡ Some x = slice_get-get_or outputs i (Var 0) low in
        let own : a ≡ value_of v x = same_Some a (value_of v x) (sym p ∙ slice_get-map (value_of v) outputs i ∙ ap (option_map (value_of v)) is) in
        own ∙ compares_equal (value_of v x) b (holds (pin x b) (record { place = i; output = x; value = b; stands = is; beside = q; is = refl }))

    pub pins_give : values_of v outputs ≡ h
    pins_give = same_lists (values_of v outputs) h (length-map outputs (value_of v) ∙ no_longer none) same_at

-- ---- the whole, with pins

module _ (tables : List Stored) (task : Task) (fixed : List Compared) (h : List Value) (pins : ArePins task.outputs h fixed) where
  pub row_met : IsOutput tables task h → IsMet (record { tables = tables; task = task; fixed = fixed }) (range_with_len 0 (size_of task))
  row_met o = output_met tables task fixed h o (λ c fix. pin_holds task.outputs h o.valuation o.gives c ((pins c).0 fix))

  module _ (fits : IsTask tables task) (none : HaveNoClash task.outputs h) (met : IsMet (record { tables = tables; task = task; fixed = fixed }) (range_with_len 0 (size_of task))) where
    pin_met : (c : Compared) → IsPin task.outputs h c → HoldsUnder met.valuation c
    pin_met c p = met.comparisons c (record {
      from = inr ((pins c).1 p);
      left = held tables task fixed c.left (λ k e.
          let is : p.output ≡ Var k = sym (ap (λ (d : Compared). d.left) p.is) ∙ e in
          let low = slice_get_within task.outputs p.place p.output p.stands in
          fits.occur.outputs k (p.place, low, get_or_from_slice_get task.outputs p.place (Var k) (Var k) (p.stands ∙ ap Some is)));
      right = λ k e. absurd (let is : Const p.value ≡ Var k = sym (ap (λ (d : Compared). d.right) p.is) ∙ e in cc);
    })

    pub met_row : IsOutput tables task h
    met_row = subst (IsOutput tables task) (pins_give task.outputs h none met.valuation pin_met) (met_output tables task fixed fits met)

-- ---- terms

module _ (db : DatabaseValue) (m : Minimised) (task : Task) (kept : IsWellKept db) (valid : IsValid m.tableau) (fits : IsTask db.tables task) (is : IsTaskOf db.schema m.tableau m.mask task) (h : List Value) where
  denied : (why : WhyNot) → IsWhyNotBy db h task why → Denies why (IsTermAnswer db m h)
  denied (Head place) first = λ answer.
      let o = (answers db m task kept valid fits is h).1 answer in
      gives_no_clash task.outputs h o.valuation o.gives place first.clash
  denied (Rows None) by = λ no. unblamed_met db.tables task by.fixed by.blame (λ met. no ((answers db m task kept valid fits is h).0 (met_row db.tables task by.fixed h by.pins fits by.no_clash met)))
  denied (Rows (Some b)) by = λ answer. blamed_unmet db.tables task by.fixed b by.blame (row_met db.tables task by.fixed h by.pins ((answers db m task kept valid fits is h).1 answer))

  pub why_not_is : (why : WhyNot) → IsWhyNotBy db h task why → IsWhyNot db h m why
  why_not_is why by = record { task = task; is_task = is; by = by; told = denied why by }
