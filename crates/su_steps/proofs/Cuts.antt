-- An answer cut to its outputs, by a function from variables to values and by a list of values.
use Rattle.std.proofs.Common.{◌≡◌, ℕ, zero, suc, ◌+◌, ◌*◌, ◌<◌, true, pos, List, [], ◌∷◌, ◌++◌, length, get_or, take, drop, Contains, sym, ap, ◌∙◌, arith}
use Rattle.std.proofs.lemmas.List.{take_at, length-map, length-take-le, length-append, get_or-append-add, take-append-drop}
use Rattle.std.proofs.lemmas.List.Elements.{All-from_recursion, All-contains}
use Rattle.su_base.specs.declared.values.Value.{Value}
use Rattle.su_base.specs.declared.values.Value.TheVariants.{Int}
use Rattle.su_base.proofs.Items.{AllByRecursion-members}
use Rattle.su_where.specs.declared.operators.Op.{Op}
use Rattle.su_where.specs.declared.operators.Op.TheVariants.{Equal}
use Rattle.su_where.specs.Operator.{compares}
use Rattle.su_tableau.specs.Tableaux.{Tab}
use Rattle.su_tableau.specs.Valuations.{value_of, values_of, Ext, Cut}
use Rattle.su_steps.proofs.ClassNames.{AllHold, CutBy}

abbrev zero_value : Value
zero_value = Int (pos 0)

-- ---- comparisons by place

abbrev HoldsAt : List Op → List Value → ℕ → Type 0
HoldsAt ops xs i = compares (get_or ops i Equal) (get_or xs (2 * i) zero_value) (get_or xs (2 * i + 1) zero_value) ≡ true

hold_at : (ops : List Op) (xs : List Value) → AllHold ops xs → (i : ℕ) → i < length ops → HoldsAt ops xs i
hold_at [] xs h i l = absurd (omega arith)
hold_at (op ∷ ops) [] h i l = absurd h
hold_at (op ∷ ops) (x ∷ []) h i l = absurd h
hold_at (op ∷ ops) (x ∷ y ∷ rest) h zero l = h.0
hold_at (op ∷ ops) (x ∷ y ∷ rest) h (suc i) l =
    let r = hold_at ops rest h.1 i (omega arith) in
    let a : 2 * suc i ≡ suc (suc (2 * i)) = omega arith in
    let b : 2 * suc i + 1 ≡ suc (suc (2 * i + 1)) = omega arith in
    ap (λ k. compares (get_or ops i Equal) (get_or (x ∷ y ∷ rest) k zero_value) (get_or (x ∷ y ∷ rest) (2 * suc i + 1) zero_value)) a
    ∙ ap (λ k. compares (get_or ops i Equal) (get_or rest (2 * i) zero_value) (get_or (x ∷ y ∷ rest) k zero_value)) b ∙ r

hold_by : (ops : List Op) (xs : List Value) → length xs ≡ 2 * length ops → ((i : ℕ) → i < length ops → HoldsAt ops xs i) → AllHold ops xs
hold_by [] xs l h = tt
hold_by (op ∷ ops) [] l h = absurd (omega arith)
hold_by (op ∷ ops) (x ∷ []) l h = absurd (omega arith)
hold_by (op ∷ ops) (x ∷ y ∷ rest) l h = (
  h 0 (omega arith),
  hold_by ops rest (omega arith)
      (λ i k.
      let r = h (suc i) (omega arith) in
      let a : suc (suc (2 * i)) ≡ 2 * suc i = omega arith in
      let b : suc (suc (2 * i + 1)) ≡ 2 * suc i + 1 = omega arith in
      ap (λ k. compares (get_or ops i Equal) (get_or (x ∷ y ∷ rest) k zero_value) (get_or rest (2 * i + 1) zero_value)) a
      ∙ ap (λ k. compares (get_or ops i Equal) (get_or (x ∷ y ∷ rest) (2 * suc i) zero_value) (get_or (x ∷ y ∷ rest) k zero_value)) b ∙ r),
)

module _ (t : Tab) (universe : List (List Value)) (h : List Value) where
  -- the comparisons of a head that is cut in two
  cut_value : (xs ys : List Value) (k : ℕ) → length xs ≡ t.outputs → get_or (xs ++ ys) (t.outputs + k) zero_value ≡ get_or ys k zero_value
  cut_value xs ys k e = ap (λ n. get_or (xs ++ ys) (n + k) zero_value) (sym e) ∙ get_or-append-add xs ys k zero_value

  cut_compared : (xs ys : List Value) (i : ℕ) → length xs ≡ t.outputs → compares (get_or t.operators i Equal) (get_or (xs ++ ys) (t.outputs + 2 * i) zero_value) (get_or (xs ++ ys) (t.outputs + 2 * i + 1) zero_value)
      ≡ compares (get_or t.operators i Equal) (get_or ys (2 * i) zero_value) (get_or ys (2 * i + 1) zero_value)
  cut_compared xs ys i e =
      let a = cut_value xs ys (2 * i) e in
      let b : get_or (xs ++ ys) (t.outputs + 2 * i + 1) zero_value ≡ get_or ys (2 * i + 1) zero_value = ap (λ n. get_or (xs ++ ys) n zero_value) (omega arith) ∙ cut_value xs ys (2 * i + 1) e in
      ap (λ v. compares (get_or t.operators i Equal) v (get_or (xs ++ ys) (t.outputs + 2 * i + 1) zero_value)) a ∙ ap (compares (get_or t.operators i Equal) (get_or ys (2 * i) zero_value)) b

  pub to_cut : CutBy t.rows t.head t.outputs t.operators universe h → Cut t (Ext t universe) h
  to_cut c = record {
    head = h ++ c.compared;
    member = record { valuation = c.valuation; holds = All-from_recursion (λ row. Contains universe (values_of c.valuation row)) t.rows c.sends; gives = c.gives };
    compared = λ i l. cut_compared h c.compared i c.outputs_are ∙ hold_at t.operators c.compared c.holds i l;
    outputs = take_at h c.compared t.outputs c.outputs_are;
  }

  pub from_cut : length t.head ≡ t.outputs + 2 * length t.operators → Cut t (Ext t universe) h → CutBy t.rows t.head t.outputs t.operators universe h
  from_cut head_length c =
      let e = c.member in
      let long : length c.head ≡ t.outputs + 2 * length t.operators = sym (ap length e.gives) ∙ length-map t.head (value_of e.valuation) ∙ head_length in
      let front = take t.outputs c.head in
      let back = drop t.outputs c.head in
      let parts : front ++ back ≡ c.head = take-append-drop t.outputs c.head in
      let count : length front ≡ t.outputs = length-take-le t.outputs c.head (omega arith) in
      let both : length front + length back ≡ length c.head = sym (length-append front back) ∙ ap length parts in
      let rest : length back ≡ 2 * length t.operators = omega arith in
      record {
        valuation = e.valuation;
        sends = AllByRecursion-members (λ row. Contains universe (values_of e.valuation row)) t.rows (λ row has. All-contains (λ row. Contains universe (values_of e.valuation row)) t.rows row e.holds has);
        compared = back;
        gives = e.gives ∙ sym parts ∙ ap (λ xs. xs ++ back) c.outputs;
        outputs_are = sym (ap length c.outputs) ∙ count;
        holds = hold_by t.operators back rest
            (λ i l. sym (cut_compared front back i count) ∙ ap (λ xs. compares (get_or t.operators i Equal) (get_or xs (t.outputs + 2 * i) zero_value) (get_or xs (t.outputs + 2 * i + 1) zero_value)) parts ∙ c.compared i l);
      }
