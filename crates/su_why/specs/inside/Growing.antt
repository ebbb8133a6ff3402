-- What is met stays met with fewer rows and comparisons: the law of su_why's trial.
-- s, t: rows and comparisons of a task, by number
-- No public contract cites this module.
use Rattle.std.proofs.Common.{◌⊎◌, inl, inr, ◌+◌, ℕ, List, length, Contains, ⊎_elim}
use Rattle.su_tableau.specs.declared.symbols.Sym.{Sym}
use Rattle.su_exec.specs.declared.tasks.TaskRow.{TaskRow}
use Rattle.su_exec.specs.declared.tasks.Compared.{Compared}
use Rattle.su_why.specs.Met.{Asked, IsRowOf, IsComparisonOf, IsHeld, IsCounted, IsMet, IsUnmet}

module _ (asked : Asked) (s t : List ℕ) (more : (i : ℕ) → Contains s i → Contains t i) where
  row_more : (row : TaskRow) → IsRowOf asked.task s row → IsRowOf asked.task t row
  row_more row r = record { place = r.place; of_set = more r.place r.of_set; is = r.is }

  held_more : (x : Sym) → IsHeld asked.task s x → IsHeld asked.task t x
  held_more x held k e = let w = held k e in (w.0, row_more w.0 w.1, w.2)

  comparison_more : (c : Compared) → IsComparisonOf asked.task s c → IsComparisonOf asked.task t c
  comparison_more c r = record { place = r.place; of_set = more (length asked.task.rows + r.place) r.of_set; is = r.is }

  counted_more : (c : Compared) → IsCounted asked s c → IsCounted asked t c
  counted_more c counted = record {
    from = ⊎_elim
        (λ (own : IsComparisonOf asked.task s c). let r : IsComparisonOf asked.task t c ⊎ Contains asked.fixed c = inl (comparison_more c own) in r)
        (λ (fix : Contains asked.fixed c). let r : IsComparisonOf asked.task t c ⊎ Contains asked.fixed c = inr fix in r)
        counted.from;
    left = held_more c.left counted.left;
    right = held_more c.right counted.right;
  }

  pub met_fewer : IsMet asked t → IsMet asked s
  met_fewer met = record {
    valuation = met.valuation;
    rows = λ row r. met.rows row (row_more row r);
    comparisons = λ c counted. met.comparisons c (counted_more c counted);
  }

  pub unmet_grows : IsUnmet asked s → IsUnmet asked t
  unmet_grows unmet met = unmet (met_fewer met)
