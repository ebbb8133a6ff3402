-- The outputs of a join are the stored answers whose comparisons hold.
use Rattle.std.proofs.Common.{◌≡◌, ℕ, ◌+◌, ◌*◌, ◌<◌, ◌↔◌, List, map, length, get_or, Contains, All, refl, sym, ap, ◌∙◌, subst, pos, arith}
use Rattle.std.specs.Prelude.{IsTrue, take}
use Rattle.std.specs.Int.{bit_at}
use Rattle.std.specs.List.{range_with_len}
use Rattle.std.proofs.lemmas.List.{get_or-map, take-map}
use Rattle.std.proofs.lemmas.List.Elements.{All-contains}
use Rattle.su_base.specs.declared.values.Value.{Value}
use Rattle.su_base.specs.declared.values.Value.TheVariants.{Int}
use Rattle.su_base.proofs.Items.{Contains-map, Contains-map_source, Contains-range, Contains-range_below, All-members}
use Rattle.su_where.specs.declared.operators.Op.TheVariants.{Equal}
use Rattle.su_where.specs.Operator.{compares}
use Rattle.su_tableau.specs.declared.symbols.Sym.TheVariants.{Var}
use Rattle.su_tableau.specs.Tableaux.{Tab, IsValid}
use Rattle.su_tableau.specs.Valuations.{value_of, values_of, AreCompared, Cut}
use Rattle.su_map.specs.Lists.{row_numbers}
use Rattle.su_map.proofs.RowLists.{in_rows, of_rows}
use Rattle.su_state.specs.DatabaseValue.{DatabaseValue, IsWellKept}
use Rattle.su_exec.specs.declared.tasks.Task.{Task}
use Rattle.su_exec.specs.declared.tasks.TaskRow.{TaskRow}
use Rattle.su_exec.specs.Tasks.{HasSources, IsTask}
use Rattle.su_exec.specs.Outputs.{Agrees, HoldsUnder as HoldsFor, IsOutput}
use Rattle.su_answer.specs.Answers.{IsRead, StoredAnswer}
use Rattle.su_answer.specs.Joined.{IsTaskRowOf, comparison_at, IsTaskOf}
use Rattle.su_answer.proofs.PairedLists.{zip_first, zip_second}
use Rattle.su_answer.proofs.RowAgreement.{row_read, read_row}

-- ---- comparisons

head_value : (t : Tab) (v : ℕ → Value) (k : ℕ) → k < length t.head → get_or (values_of v t.head) k (Int (pos 0)) ≡ value_of v (get_or t.head k (Var 0))
head_value t v k l = get_or-map (value_of v) t.head k (Var 0) (Int (pos 0)) l

compared_same : (t : Tab) (v : ℕ → Value) (i : ℕ) → IsValid t → i < length t.operators
    → compares (get_or t.operators i Equal) (get_or (values_of v t.head) (t.outputs + 2 * i) (Int (pos 0))) (get_or (values_of v t.head) (t.outputs + 2 * i + 1) (Int (pos 0)))
    ≡ compares (comparison_at t i).op (value_of v (comparison_at t i).left) (value_of v (comparison_at t i).right)
compared_same t v i valid l =
    let n = valid.head_length in
    let left = head_value t v (t.outputs + 2 * i) (omega arith) in
    let right = head_value t v (t.outputs + 2 * i + 1) (omega arith) in
    ap (λ x. compares (get_or t.operators i Equal) x (get_or (values_of v t.head) (t.outputs + 2 * i + 1) (Int (pos 0)))) left ∙ ap (compares (get_or t.operators i Equal) (value_of v (get_or t.head (t.outputs + 2 * i) (Var 0)))) right

module _ (db : DatabaseValue) (t : Tab) (m : ℕ) (task : Task) (valid : IsValid t) (is : IsTaskOf db.schema t m task) where
  holds_all : (v : ℕ → Value) → AreCompared t (values_of v t.head) → All (HoldsFor v) task.comparisons
  holds_all v h =
      subst (λ cs. All (HoldsFor v) cs) (sym is.comparisons)
      (All-members (HoldsFor v) (map (comparison_at t) (range_with_len 0 (length t.operators))) (λ c k.
      let w = Contains-map_source (comparison_at t) (range_with_len 0 (length t.operators)) c k in
      let low = Contains-range_below (length t.operators) w.0 w.1 in
      subst (HoldsFor v) w.2 (subst IsTrue (compared_same t v w.0 valid low) (h w.0 low))))

  all_hold : (v : ℕ → Value) → All (HoldsFor v) task.comparisons → AreCompared t (values_of v t.head)
  all_hold v h = λ i low.
      let there = Contains-map (comparison_at t) (range_with_len 0 (length t.operators)) i (Contains-range (length t.operators) i low) in
      subst IsTrue (sym (compared_same t v i valid low)) (All-contains (HoldsFor v) (map (comparison_at t) (range_with_len 0 (length t.operators))) (comparison_at t i) (subst (λ cs. All (HoldsFor v) cs) is.comparisons h) there)

  -- where each of the task's rows has a match exactly where the term's row is read
  module _ (agrees : (i : ℕ) (r : TaskRow) (v : ℕ → Value) → i < length t.rows → bit_at m i ≡ 1 → IsTaskRowOf db.schema t m i r → IsRead db t m v i → Agrees db.tables v r) (reads : (i : ℕ) (r : TaskRow) (v : ℕ → Value) → i < length t.rows → bit_at m i ≡ 1 → IsTaskRowOf db.schema t m i r → Contains task.rows r → Agrees db.tables v r → IsRead db t m v i) where
    agrees_all : (v : ℕ → Value) → ((i : ℕ) → i < length t.rows → bit_at m i ≡ 1 → IsRead db t m v i) → All (Agrees db.tables v) task.rows
    agrees_all v h = All-members (Agrees db.tables v) task.rows (λ r c.
        let w = zip_second (IsTaskRowOf db.schema t m) (row_numbers t m) task.rows r is.rows c in
        let n = of_rows t m w.0 w.1 in
        agrees w.0 r v n.0 n.1 w.2 (h w.0 n.0 n.1))

    all_read : (v : ℕ → Value) → All (Agrees db.tables v) task.rows → (i : ℕ) → i < length t.rows → bit_at m i ≡ 1 → IsRead db t m v i
    all_read v h i low set =
        let w = zip_first (IsTaskRowOf db.schema t m) (row_numbers t m) task.rows i is.rows (in_rows t m i low set) in
        reads i w.0 v low set w.2 w.1 (All-contains (Agrees db.tables v) task.rows w.0 h w.1)

    pub answers_by_rows : (h : List Value) → IsOutput db.tables task h ↔ Cut t (StoredAnswer db t m) h
    answers_by_rows h = (
      λ o. record {
        head = values_of o.valuation t.head;
        member = record { valuation = o.valuation; holds = all_read o.valuation o.agrees; gives = refl };
        compared = all_hold o.valuation o.holds;
        outputs = take-map (value_of o.valuation) t.outputs t.head ∙ ap (values_of o.valuation) (sym is.outputs) ∙ o.gives;
      },
      λ c.
          let v = c.member.valuation in
          record {
            valuation = v;
            agrees = agrees_all v c.member.holds;
            holds = holds_all v (subst (AreCompared t) (sym c.member.gives) c.compared);
            gives = ap (values_of v) is.outputs ∙ sym (take-map (value_of v) t.outputs t.head) ∙ ap (take t.outputs) c.member.gives ∙ c.outputs;
          },
    )

pub outputs_are_answers : (db : DatabaseValue) (t : Tab) (m : ℕ) (task : Task) → IsWellKept db → IsValid t → IsTask db.tables task → IsTaskOf db.schema t m task → (h : List Value) → IsOutput db.tables task h ↔ Cut t (StoredAnswer db t m) h
outputs_are_answers db t m task kept valid fits is =
    answers_by_rows db t m task valid is (λ i r v low set of' h. read_row db t m i r v valid low set of' h)
    (λ i r v low set of' there h. row_read db t m i r v valid low set of' kept (All-contains (HasSources db.tables) task.rows r fits.sources there) h)
