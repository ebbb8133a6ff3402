-- Classes by labels: the named rows and comparisons answer what the raw ones do.
use Rattle.std.proofs.Common.{◌≡◌, ◌≢◌, inl, inr, ⊎_elim, ℕ, ◌+◌, ◌*◌, true, false, cond, pos, List, [], ◌∷◌, ◌++◌, map, length, Contains, refl, sym, ap, ◌∙◌, subst, arith}
use Rattle.std.specs.List.{AllByRecursion}
use Rattle.std.specs.FinSet.{contains}
use Rattle.std.specs.declared.cmp.Ordering.TheVariants.{Less as Before, Equal as Same, Greater as After}
use Rattle.std.specs.declared.cmp.Ordering.{Ordering}
use Rattle.std.proofs.lemmas.Bool.{cases_Bool, true≢false, false≢true, eqb-true}
use Rattle.std.proofs.lemmas.List.{length-map, map-append}
use Rattle.std.proofs.lemmas.Cmp.{tied_itself}
use Rattle.su_base.specs.declared.values.Value.{Value}
use Rattle.su_base.specs.declared.values.Value.TheVariants.{Int}
use Rattle.su_base.specs.Value.{compare_values}
use Rattle.su_base.proofs.Subsets.{subset_at}
use Rattle.su_base.proofs.Items.{AllByRecursion-contains, AllByRecursion-members, AllByRecursion-map, AllByRecursion-map_source, AllByRecursion-weaker, map-map_equal}
use Rattle.su_base.proofs.Rows.{values_total, equal_values, equal_or_not}
use Rattle.su_where.specs.declared.operators.Op.{Op}
use Rattle.su_where.specs.declared.operators.Op.TheVariants.{Equal}
use Rattle.su_where.specs.Operator.{compares, holds_in}
use Rattle.su_tableau.specs.declared.symbols.Sym.{Sym}
use Rattle.su_tableau.specs.declared.symbols.Sym.TheVariants.{Const, Var}
use Rattle.su_tableau.specs.Valuations.{value_of, values_of}
use Rattle.su_tableau.proofs.SymbolParts.{same_const}
use Rattle.su_schema.specs.SchemaValue.{SchemaValue}
use Rattle.su_steps.specs.declared.results.Origin.{Origin}
use Rattle.su_steps.specs.Objects.{width, attributes_at}
use Rattle.su_steps.specs.Expression.{Agree, Meets}
use Rattle.su_steps.specs.Choices.{origins_from}
use Rattle.su_steps.specs.PairSymbols.{SymbolComparison}
use Rattle.su_classes.specs.ClassNames.{InClass, IsNaming}
use Rattle.su_steps.specs.Classes.{IsClosedForCase}
use Rattle.su_steps.specs.Evaluated.{is_evaluated, outcome, left_over, sides, EvaluatesFalse}
use Rattle.su_steps.specs.Cases.{IsContradictory}
use Rattle.su_steps.proofs.Cells.{raw_rows, Sent, IsAt, rows_at}
use Rattle.su_steps.proofs.Raw.{AreWithin, AllTrue, RawAnswer}

-- ---- answers of a head and rows

-- the comparisons hold, each on the next two values
abbrev pub AllHold : List Op → List Value → Type 0
AllHold [] xs = Unit {0}
AllHold (op ∷ ops) [] = ⊥
AllHold (op ∷ ops) (x ∷ []) = ⊥
AllHold (op ∷ ops) (x ∷ y ∷ rest) = (compares op x y ≡ true) × AllHold ops rest

-- h is the outputs of an answer whose compared values meet the comparisons
pub record CutBy (rows : List (List Sym)) (head : List Sym) (outputs : ℕ) (operators : List Op) (universe : List (List Value)) (h : List Value) : Type 0 where
  pub valuation : ℕ → Value
  pub sends : Sent valuation rows universe
  pub compared : List Value
  pub gives : values_of valuation head ≡ h ++ compared
  pub outputs_are : length h ≡ outputs
  pub holds : AllHold operators compared

-- the same for named rows and comparisons
abbrev pub NamedAnswer : SchemaValue → List (List Value) → List (List ℕ) → List Sym → List SymbolComparison → (Sym → Sym) → List Value → Type 0
NamedAnswer schema universe choice outputs d name h =
    CutBy (map (map name) (raw_rows schema (length choice * width schema) (origins_from 0 choice))) (map name outputs ++ sides (left_over name d)) (length outputs) (map (λ c. c.op) (left_over name d)) universe h

-- ---- comparisons

holds_same : (op : Op) (o : Ordering) → op ≡ Equal → holds_in op o ≡ true → o ≡ Same
holds_same op Before e h = absurd (false≢true (sym (ap (λ p. holds_in p Before) e) ∙ h))
holds_same op Same e h = refl
holds_same op After e h = absurd (false≢true (sym (ap (λ p. holds_in p After) e) ∙ h))

-- an evaluated comparison has its outcome under each valuation
outcome_is : (w : ℕ → Value) (op : Op) (x y : Sym) → is_evaluated x y ≡ true → compares op (value_of w x) (value_of w y) ≡ outcome op x y
outcome_is w op (Const a) (Const b) h = refl
outcome_is w op (Const a) (Var q) h = absurd (false≢true h)
outcome_is w op (Var p) (Const b) h = absurd (false≢true h)
outcome_is w op (Var p) (Var q) h = ap (holds_in op) (sym (ap (λ k. compare_values (w p) (w k)) (eqb-true p q h)) ∙ tied_itself values_total (w p))

-- ---- the values of a valuation are a closed partition

equal_sides : (op : Op) (x y : Value) → compares op x y ≡ true → op ≡ Equal → x ≡ y
equal_sides op x y h e = equal_values x y (holds_same op (compare_values x y) e h)

abbrev by_value : (ℕ → Value) → Sym → Sym
by_value w x = Const (value_of w x)

module _ (schema : SchemaValue) (universe : List (List Value)) (choice : List (List ℕ)) (d : List SymbolComparison) (meets : Meets schema.fds universe) (fit : AreWithin schema) where
  abbrev os : List Origin
  os = origins_from 0 choice

  module _ (w : ℕ → Value) (sends : Sent w (raw_rows schema (length choice * width schema) (origins_from 0 choice)) universe) (holds : AllTrue w d) where
    row_at : (o : Origin) → Contains os o → IsAt schema w universe o
    row_at o c = AllByRecursion-contains (IsAt schema w universe) os o (rows_at schema w universe (length choice * width schema) os sends) c

    values_closed : IsClosedForCase schema os d (by_value w)
    values_closed = record {
      equalities = λ c has e. ap Const (equal_sides c.op (value_of w c.left) (value_of w c.right) (AllByRecursion-contains (λ c. compares c.op (value_of w c.left) (value_of w c.right) ≡ true) d c holds has) e);
      dependencies = λ f o q cf co cq io iq same a h.
          let r = row_at o co in
          let s = row_at q cq in
          let ol : (b : ℕ) → contains f.left b ≡ true → contains (attributes_at schema o.object) b ≡ true = λ b g. subset_at f.left (attributes_at schema o.object) b io.left g in
          let ql : (b : ℕ) → contains f.left b ≡ true → contains (attributes_at schema q.object) b ≡ true = λ b g. subset_at f.left (attributes_at schema q.object) b iq.left g in
          let or' = subset_at f.right (attributes_at schema o.object) a io.right h in
          let qr = subset_at f.right (attributes_at schema q.object) a iq.right h in
          let left : Agree f.left r.0 s.0 = λ b e g.
          r.2 b e (fit o.object b (ol b g)) (ol b g) ∙ same_const (w (o.variable * width schema + b)) (w (q.variable * width schema + b)) (same b g) ∙ sym (s.2 b e (fit q.object b (ql b g)) (ql b g)) in
          let right = meets f r.0 s.0 cf r.1 s.1 left a (Int (pos 0)) h in
          ap Const (sym (r.2 a (Int (pos 0)) (fit o.object a or') or') ∙ right ∙ s.2 a (Int (pos 0)) (fit q.object a qr) qr);
    }

    one_value : (x y : Sym) → InClass (IsClosedForCase schema os d) x y → value_of w x ≡ value_of w y
    one_value x y c = same_const (value_of w x) (value_of w y) (c (by_value w) values_closed)

-- ---- the head's compared values

hold_from : (w : ℕ → Value) (cs : List SymbolComparison) → AllTrue w cs → AllHold (map (λ c. c.op) cs) (values_of w (sides cs))
hold_from w [] h = tt
hold_from w (c ∷ cs) h = (h.0, hold_from w cs h.1)

hold_true : (w : ℕ → Value) (cs : List SymbolComparison) → AllHold (map (λ c. c.op) cs) (values_of w (sides cs)) → AllTrue w cs
hold_true w [] h = tt
hold_true w (c ∷ cs) h = (h.0, hold_true w cs h.1)

-- two lists joined to one list, cut at one length
pub same_cut : {X : Type 0} (xs ys us vs : List X) → xs ++ ys ≡ us ++ vs → length us ≡ length xs → (xs ≡ us) × (ys ≡ vs)
same_cut [] ys [] vs e l = (refl, e)
same_cut [] ys (u ∷ us) vs e l = absurd (omega arith)
same_cut (x ∷ xs) ys [] vs e l = absurd (omega arith)
same_cut (x ∷ xs) ys (u ∷ us) vs e l =
    let rest : xs ++ ys ≡ us ++ vs = cc in
    let i = same_cut xs ys us vs rest (omega arith) in
    let j = i.0 in
    let k : x ≡ u = cc in
    (cc, i.1)

-- ---- named comparisons

true_named : (w v : ℕ → Value) (op : Op) (x y s t : Sym) → value_of v x ≡ value_of w s → value_of v y ≡ value_of w t → compares op (value_of w s) (value_of w t) ≡ true → compares op (value_of v x) (value_of v y) ≡ true
true_named w v op x y s t e f h = ap (λ a. compares op a (value_of v y)) e ∙ ap (compares op (value_of w s)) f ∙ h

named_true : (w : ℕ → Value) (op : Op) (s t x y : Sym) → value_of w s ≡ value_of w x → value_of w t ≡ value_of w y → compares op (value_of w x) (value_of w y) ≡ true → compares op (value_of w s) (value_of w t) ≡ true
named_true w = true_named w w

-- the comparisons that are left are true where all are
left_true : (w : ℕ → Value) (name : Sym → Sym) → ((x : Sym) → value_of w (name x) ≡ value_of w x) → (d : List SymbolComparison) → AllTrue w d → AllTrue w (left_over name d)
left_true w name e [] h = tt
left_true w name e (c ∷ cs) h =
    elim (is_evaluated (name c.left) (name c.right)) as (λ b. AllTrue w (cond b (left_over name cs) (record { left = name c.left; op = c.op; right = name c.right } ∷ left_over name cs))) [
      | true ↦ left_true w name e cs h.1
      | false ↦ (named_true w c.op (name c.left) (name c.right) c.left c.right (e c.left) (e c.right) h.0, left_true w name e cs h.1)
    ]

-- all are true where those that are left are true and those that are evaluated come out true
all_true : (w v : ℕ → Value) (name : Sym → Sym) → ((x : Sym) → value_of v x ≡ value_of w (name x)) → (d : List SymbolComparison) → AllByRecursion (λ c. is_evaluated (name c.left) (name c.right) ≡ true → outcome c.op (name c.left) (name c.right) ≡ true) d → AllTrue w (left_over name d) → AllTrue v d
all_true w v name e [] g h = tt
all_true w v name e (c ∷ cs) g h =
    elim (is_evaluated (name c.left) (name c.right)) as (λ b. is_evaluated (name c.left) (name c.right) ≡ b → AllTrue w (cond b (left_over name cs) (record { left = name c.left; op = c.op; right = name c.right } ∷ left_over name cs)) → AllTrue v (c ∷ cs)) [
      | true ↦ λ q r. (true_named w v c.op c.left c.right (name c.left) (name c.right) (e c.left) (e c.right) (outcome_is w c.op (name c.left) (name c.right) q ∙ g.0 q), all_true w v name e cs g.1 r)
      | false ↦ λ q r. (true_named w v c.op c.left c.right (name c.left) (name c.right) (e c.left) (e c.right) r.0, all_true w v name e cs g.1 r.1)
    ] refl h

-- ---- the law

module _ (schema : SchemaValue) (universe : List (List Value)) (choice : List (List ℕ)) (outputs : List Sym) (d : List SymbolComparison) (name : Sym → Sym) (naming : IsNaming (IsClosedForCase schema (origins_from 0 choice) d) name) (h : List Value) where
  abbrev raws : List (List Sym)
  raws = raw_rows schema (length choice * width schema) (origins_from 0 choice)

  -- what the rows give with all comparisons, the named ones give
  pub to_named : Meets schema.fds universe → AreWithin schema → RawAnswer schema universe choice outputs d h → NamedAnswer schema universe choice outputs d name h
  to_named meets fit r =
      let w = r.valuation in
      let e : (x : Sym) → value_of w (name x) ≡ value_of w x = λ x. sym (one_value schema universe choice d meets fit w r.sends r.holds x (name x) (naming.member x)) in
      let lo = left_over name d in
      let same : values_of w (map name outputs) ≡ values_of w outputs = map-map_equal name (value_of w) (value_of w) e outputs in
      record {
        valuation = w;
        sends = AllByRecursion-map (λ row. Contains universe (values_of w row)) (map name) raws
            (AllByRecursion-weaker (λ row. Contains universe (values_of w row)) (λ row. Contains universe (values_of w (map name row))) raws
            (λ row c. subst (Contains universe) (sym (map-map_equal name (value_of w) (value_of w) e row)) c) r.sends);
        compared = values_of w (sides lo);
        gives = map-append (value_of w) (map name outputs) (sides lo) ∙ ap (λ xs. xs ++ values_of w (sides lo)) (same ∙ r.gives);
        outputs_are = sym (ap length r.gives) ∙ length-map outputs (value_of w);
        holds = hold_from w lo (left_true w name e d r.holds);
      }

  -- rows and comparisons that contradict one another give nothing
  pub not_contradictory : Meets schema.fds universe → AreWithin schema → RawAnswer schema universe choice outputs d h → IsContradictory schema (origins_from 0 choice) d name → ⊥
  not_contradictory meets fit r bad =
      let w = r.valuation in
      let same = one_value schema universe choice d meets fit w r.sends r.holds in
      ⊎_elim
      (λ (b : (a : Value) × (c : Value) × (a ≢ c) × InClass (IsClosedForCase schema (origins_from 0 choice) d) (Const a) (Const c)). b.2 (same (Const b.0) (Const b.1) b.3))
      (λ (b : (c : SymbolComparison) × Contains d c × EvaluatesFalse name c).
      let c = b.0 in
      let t = AllByRecursion-contains (λ c. compares c.op (value_of w c.left) (value_of w c.right) ≡ true) d c r.holds b.1 in
      let o = outcome_is w c.op (name c.left) (name c.right) b.2.0 in
      let m = named_true w c.op (name c.left) (name c.right) c.left c.right (sym (same c.left (name c.left) (naming.member c.left))) (sym (same c.right (name c.right) (naming.member c.right))) t in
      true≢false (sym m ∙ o ∙ b.2.1))
      bad

  module _ (fine : IsContradictory schema (origins_from 0 choice) d name → ⊥) where
    named_const : (a : Value) (x : Sym) → name (Const a) ≡ x → x ≡ Const a
    named_const a (Const b) e =
        ⊎_elim
        (λ (s : a ≡ b). ap Const (sym s))
        (λ (o : a ≢ b). absurd (fine (inl (a, b, o, subst (InClass (IsClosedForCase schema (origins_from 0 choice) d) (Const a)) e (naming.member (Const a))))))
        (equal_or_not a b)
    named_const a (Var p) e = absurd (naming.least (Const a) p e (Const a) (λ label closed. refl))

    outcomes : AllByRecursion (λ c. is_evaluated (name c.left) (name c.right) ≡ true → outcome c.op (name c.left) (name c.right) ≡ true) d
    outcomes =
        AllByRecursion-members (λ c. is_evaluated (name c.left) (name c.right) ≡ true → outcome c.op (name c.left) (name c.right) ≡ true) d
        (λ c has q.
        ⊎_elim
        (λ (t : outcome c.op (name c.left) (name c.right) ≡ true). t)
        (λ (f : outcome c.op (name c.left) (name c.right) ≡ false). absurd (fine (inr (c, has, (q, f)))))
        (cases_Bool (outcome c.op (name c.left) (name c.right))))

    named_value : (w : ℕ → Value) (x : Sym) → value_of (λ p. value_of w (name (Var p))) x ≡ value_of w (name x)
    named_value w (Const a) = sym (ap (value_of w) (named_const a (name (Const a)) refl))
    named_value w (Var p) = refl

    pub from_named : NamedAnswer schema universe choice outputs d name h → RawAnswer schema universe choice outputs d h
    from_named c =
        let w = c.valuation in
        let v : ℕ → Value = λ p. value_of w (name (Var p)) in
        let lo = left_over name d in
        let e : (x : Sym) → value_of w (name x) ≡ value_of v x = λ x. sym (named_value w x) in
        let head : h ++ c.compared ≡ values_of w (map name outputs) ++ values_of w (sides lo) = sym c.gives ∙ map-append (value_of w) (map name outputs) (sides lo) in
        let parts = same_cut h c.compared (values_of w (map name outputs)) (values_of w (sides lo)) head (length-map (map name outputs) (value_of w) ∙ length-map outputs name ∙ sym c.outputs_are) in
        record {
          valuation = v;
          sends = AllByRecursion-weaker (λ row. Contains universe (values_of w (map name row))) (λ row. Contains universe (values_of v row)) raws
              (λ row k. subst (Contains universe) (map-map_equal name (value_of w) (value_of v) e row) k)
              (AllByRecursion-map_source (λ row. Contains universe (values_of w row)) (map name) raws c.sends);
          holds = all_true w v name (named_value w) d outcomes (hold_true w lo (subst (AllHold (map (λ c. c.op) lo)) parts.1 c.holds));
          gives = sym (map-map_equal name (value_of w) (value_of v) e outputs) ∙ sym parts.0;
        }
