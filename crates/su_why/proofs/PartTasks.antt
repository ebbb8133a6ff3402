-- The part of a task that a set asks for: which rows and comparisons it has, that it fits the tables, and that it has a valuation exactly where the set is met.
use Rattle.std.proofs.Common.{◌≡◌, ◌↔◌, inl, inr, ◌+◌, ◌<◌, ℕ, List, [], ◌∷◌, ◌++◌, length, get_or, Contains, Some, true, refl, sym, ap, subst, ◌∙◌, ⊎_elim, rules, arith}
use Rattle.std.specs.Prelude.{Bool, IsTrue, ◌==◌}
use Rattle.std.proofs.lemmas.List.{get_or_default}
use Rattle.std.proofs.lemmas.List.Elements.{All-contains, Contains-append_left, Contains-append_right, Contains-append_cases, Contains-get_or}
use Rattle.std.proofs.lemmas.Option.{slice_get-get_or, slice_get_within, get_or_from_slice_get}
use Rattle.su_base.specs.declared.values.Value.{Value}
use Rattle.su_base.proofs.Items.{All-members, Contains-nil}
use Rattle.su_rel.specs.Stored.{Stored}
use Rattle.su_tableau.specs.declared.symbols.Sym.{Sym}
use Rattle.su_tableau.specs.declared.symbols.Sym.TheVariants.{Var}
use Rattle.su_exec.specs.declared.tasks.TaskRow.{TaskRow}
use Rattle.su_exec.specs.declared.tasks.Compared.{Compared}
use Rattle.su_exec.specs.declared.tasks.Task.{Task}
use Rattle.su_exec.specs.Tasks.{HasSources, IsTask, Occurs}
use Rattle.su_tableau.specs.Valuations.{values_of}
use Rattle.su_rel.specs.MoreThan.{AreMoreThan}
use Rattle.su_exec.specs.Outputs.{Agrees, HoldsUnder, IsOutput, AreOutputs}
use Rattle.su_why.specs.Met.{IsRowOf, IsComparisonOf, IsHeld, IsCounted, IsUnmet}
use Rattle.su_why.specs.inside.Parts.{AreRowsOf, IsIn, AreIn, AreComparisonsOf, AreThoseIn, IsPartOf}
use Rattle.su_why.proofs.Gathered.{AreGathered, gathered_all}

-- ---- what is gathered

pub rows_are : (task : Task) (s : List ℕ) (n : ℕ) (rows : List TaskRow) → n ≡ length task.rows → AreGathered (λ i row. Contains s i) task.rows n rows → AreRowsOf task s rows
rows_are task s n rows end are = record {
  members = λ row. (
    λ c. let at = (gathered_all (λ i (r : TaskRow). Contains s i) task.rows n rows (omega arith) are row).0 c in record { place = at.place; of_set = at.holds; is = at.is },
    λ r. (gathered_all (λ i (r : TaskRow). Contains s i) task.rows n rows (omega arith) are row).1 (record { place = r.place; is = r.is; holds = r.of_set }),
  );
  few = (let l = are.few in omega (arith, l));
}

pub comparisons_are : (task : Task) (s : List ℕ) (rows : List TaskRow) (n : ℕ) (found : List Compared) → n ≡ length task.comparisons → AreGathered (λ i c. Contains s (length task.rows + i) × AreIn rows c) task.comparisons n found → AreComparisonsOf task s rows found
comparisons_are task s rows n found end are c =
    let all = gathered_all (λ i (d : Compared). Contains s (length task.rows + i) × AreIn rows d) task.comparisons n found (omega arith) are c in (
      λ has. let at = all.0 has in (record { place = at.place; of_set = at.holds.0; is = at.is }, at.holds.1),
      λ own. let r = own.0 in all.1 (record { place = r.place; is = r.is; holds = (r.of_set, own.1) }),
    )

pub those_are : (comparisons : List Compared) (rows : List TaskRow) (n : ℕ) (found : List Compared) → n ≡ length comparisons → AreGathered (λ i c. AreIn rows c) comparisons n found → AreThoseIn comparisons rows found
those_are comparisons rows n found end are c =
    let all = gathered_all (λ i (d : Compared). AreIn rows d) comparisons n found (omega arith) are c in (
      λ has.
          let at = all.0 has in
          let low = slice_get_within comparisons at.place c at.is in
          ((at.place, low, get_or_from_slice_get comparisons at.place c c at.is), at.holds),
      λ own.
          let w = own.0 in
          all.1 (record { place = w.0; is = slice_get-get_or comparisons w.0 c w.1 ∙ ap Some w.2; holds = own.1 }),
    )

-- ---- the part

module _ (task : Task) (fixed : List Compared) (s : List ℕ) (rows : List TaskRow) (are : AreRowsOf task s rows) where
  held_in : (x : Sym) → IsIn rows x → IsHeld task s x
  held_in x in' k e = let w = in' k e in (w.0, (are.members w.0).0 w.1, w.2)

  in_held : (x : Sym) → IsHeld task s x → IsIn rows x
  in_held x held k e = let w = held k e in (w.0, (are.members w.0).1 w.1, w.2)

  pub part_is : (own more all : List Compared) (part : Task) → AreComparisonsOf task s rows own → AreThoseIn fixed rows more → all ≡ own ++ more → part.rows ≡ rows → part.comparisons ≡ all → part.outputs ≡ [] → IsPartOf task fixed s part
  part_is own more all part of_task of_fixed both same_rows same_comparisons none = record {
    rows = subst (AreRowsOf task s) (sym same_rows) are;
    comparisons = λ tables c. subst (λ (cs : List Compared). Contains cs c ↔ IsCounted (record { tables = tables; task = task; fixed = fixed }) s c) (sym (same_comparisons ∙ both)) (
      λ has. ⊎_elim
          (λ (first : Contains own c).
          let w = (of_task c).0 first in
          let in' = w.1 in
          let r : IsCounted (record { tables = tables; task = task; fixed = fixed }) s c = record { from = inl w.0; left = held_in c.left in'.0; right = held_in c.right in'.1 } in
          r)
          (λ (later : Contains more c).
          let w = (of_fixed c).0 later in
          let in' = w.1 in
          let r : IsCounted (record { tables = tables; task = task; fixed = fixed }) s c = record { from = inr w.0; left = held_in c.left in'.0; right = held_in c.right in'.1 } in
          r)
          (Contains-append_cases own more c has),
      λ counted. ⊎_elim
          (λ (of_set : IsComparisonOf task s c). Contains-append_left own more c ((of_task c).1 (of_set, (in_held c.left counted.left, in_held c.right counted.right))))
          (λ (fix : Contains fixed c). Contains-append_right own more c ((of_fixed c).1 (fix, (in_held c.left counted.left, in_held c.right counted.right))))
          counted.from,
    );
    outputs = none;
  }

-- ---- its valuations

module _ (tables : List Stored) (task : Task) (fixed : List Compared) (s : List ℕ) (part : Task) (is : IsPartOf task fixed s part) where
  of_task : (row : TaskRow) → Contains part.rows row → Contains task.rows row
  of_task row c =
      let r = (is.rows.members row).0 c in
      (r.place, slice_get_within task.rows r.place row r.is, get_or_from_slice_get task.rows r.place row row r.is)

  pub occurs_in : (k : ℕ) (row : TaskRow) → IsRowOf task s row → Contains row.cells (Var k) → Occurs part k
  occurs_in k row r cell =
      let c = (is.rows.members row).1 r in
      (c.0, record { row = row; below = c.1; is = λ d. get_or_default part.rows c.0 d row c.1 ∙ c.2; cell = cell })

  pub part_fits : IsTask tables task → IsTask tables part
  part_fits fits = record {
    few = (let l = is.rows.few in let m = fits.few in omega (arith, l, m));
    sources = All-members (HasSources tables) part.rows (λ row c. All-contains (HasSources tables) task.rows row fits.sources (of_task row c));
    occur = record {
      outputs = λ k c. absurd (Contains-nil (Var k) (subst (λ (symbols : List Sym). Contains symbols (Var k)) is.outputs c));
      left = λ c k there e. let counted = (is.comparisons tables c).0 there in let w = counted.left k e in occurs_in k w.0 w.1 w.2;
      right = λ c k there e. let counted = (is.comparisons tables c).0 there in let w = counted.right k e in occurs_in k w.0 w.1 w.2;
    };
  }

  pub part_unmet : ((h : List Value) → ¬ IsOutput tables part h) ↔ IsUnmet (record { tables = tables; task = task; fixed = fixed }) s
  part_unmet = (
    λ none met. none [] (record {
      valuation = met.valuation;
      agrees = All-members (Agrees tables met.valuation) part.rows (λ row c. met.rows row ((is.rows.members row).0 c));
      holds = All-members (HoldsUnder met.valuation) part.comparisons (λ c there. met.comparisons c ((is.comparisons tables c).0 there));
      gives = ap (values_of met.valuation) is.outputs;
    }),
    λ unmet h o. unmet (record {
      valuation = o.valuation;
      rows = λ row r. All-contains (Agrees tables o.valuation) part.rows row o.agrees ((is.rows.members row).1 r);
      comparisons = λ c counted. All-contains (HoldsUnder o.valuation) part.comparisons c o.holds ((is.comparisons tables c).1 counted);
    }),
  )

-- ---- no output, as it is found

pub some_more : (tables : List Stored) (task : Task) → AreMoreThan 1 (IsOutput tables task) → ((h : List Value) → ¬ IsOutput tables task h) → ⊥
some_more tables task more none = none (more.member 0) (more.each 0 (omega arith))

pub empty_unmet : (tables : List Stored) (task : Task) (found : List (List Value)) → AreOutputs tables task found → found ≡ [] → (h : List Value) → ¬ IsOutput tables task h
empty_unmet tables task found are none h o = Contains-nil h (subst (λ (rows : List (List Value)). Contains rows h) none ((are.exact h).1 o))

pub some_found : (tables : List Stored) (task : Task) (found : List (List Value)) → AreOutputs tables task found → 0 < length found → ((h : List Value) → ¬ IsOutput tables task h) → ⊥
some_found tables task found are some none =
    let h : List Value = get_or found 0 [] in
    none h ((are.exact h).0 (Contains-get_or found 0 [] some))

pub tells_empty : (tables : List Stored) (task : Task) (found : List (List Value)) (b : Bool) → AreOutputs tables task found → b ≡ (length found == 0) → IsTrue b ↔ ((h : List Value) → ¬ IsOutput tables task h)
tells_empty tables task [] b are e = (
  λ t. empty_unmet tables task [] are refl,
  λ none. e,
)
tells_empty tables task (row ∷ rows) b are e = (
  λ t. absurd (let h : (length (row ∷ rows) == 0) ≡ true = sym e ∙ t in let zero : length (row ∷ rows) ≡ 0 = search (rules, h) in omega (arith, zero)),
  λ none. absurd (some_found tables task (row ∷ rows) are (omega arith) none),
)
