-- Each variable of a row has a first row.
use Rattle.std.proofs.Common.{◌≡◌, ℕ, zero, suc, ◌<◌, ◌≤◌, ◌⊎◌, length, get_or, Contains, sym, subst, ◌∙◌, inl, inr, ⊎_elim, arith}
use Rattle.std.proofs.lemmas.Bool.{cases_lt}
use Rattle.std.proofs.lemmas.List.{get_or_default}
use Rattle.su_tableau.specs.declared.symbols.Sym.TheVariants.{Var}
use Rattle.su_tableau.proofs.ChangedValuations.{InRow, in_row}
use Rattle.su_exec.specs.declared.tasks.Task.{Task}
use Rattle.su_exec.specs.declared.tasks.TaskRow.{TaskRow}
use Rattle.su_exec.specs.inside.Labels.{IsFirstRow}
use Rattle.su_exec.specs.Tasks.{StandsIn, no_row}

abbrev row_at : Task → ℕ → TaskRow
row_at task i = get_or task.rows i no_row

stands_in : (task : Task) (k i : ℕ) → StandsIn task k i → InRow (row_at task i).cells k
stands_in task k i s =
    let c : Contains (row_at task i).cells (Var k) = subst (λ (r : TaskRow). Contains r.cells (Var k)) (sym (s.is no_row)) s.cell in
    record { column = c.0; below = c.1; is = λ d. get_or_default (row_at task i).cells c.0 d (Var k) c.1 ∙ c.2 }

stands : (task : Task) (k i : ℕ) → StandsIn task k i ⊎ (StandsIn task k i → ⊥)
stands task k i =
    ⊎_elim
    (λ (low : i < length task.rows).
    ⊎_elim
    (λ (r : InRow (row_at task i).cells k).
    inl (record { row = row_at task i; below = low; is = λ d. get_or_default task.rows i d no_row low; cell = (r.column, r.below, r.is (Var k)) }))
    (λ (no : InRow (row_at task i).cells k → ⊥). inr (λ s. no (stands_in task k i s)))
    (in_row (row_at task i).cells k))
    (λ (high : length task.rows ≤ i). inr (λ s. absurd (let low = s.below in omega arith)))
    (cases_lt i (length task.rows))

-- one of the rows before n is the first, or none of them has the variable
first_below : (task : Task) (k n : ℕ) → ((j : ℕ) → j < n → StandsIn task k j → ⊥) ⊎ ((f : ℕ) × IsFirstRow task k f)
first_below task k zero = inl (λ j l s. absurd (omega arith))
first_below task k (suc n) =
    ⊎_elim
    (λ (none : (j : ℕ) → j < n → StandsIn task k j → ⊥).
    ⊎_elim
    (λ (s : StandsIn task k n). inr (n, record { stands = s; least = λ j other. ⊎_elim (λ (l : j < n). absurd (none j l other)) (λ (l : n ≤ j). l) (cases_lt j n) }))
    (λ (no : StandsIn task k n → ⊥). inl (λ j l s. ⊎_elim (λ (m : j < n). none j m s) (λ (m : n ≤ j). let same : j ≡ n = omega arith in no (subst (StandsIn task k) same s)) (cases_lt j n)))
    (stands task k n))
    (λ (x : (f : ℕ) × IsFirstRow task k f). inr x)
    (first_below task k n)

pub first_exists : (task : Task) (k i : ℕ) → StandsIn task k i → (f : ℕ) × IsFirstRow task k f
first_exists task k i s = ⊎_elim (λ (none : (j : ℕ) → j < suc i → StandsIn task k j → ⊥). absurd (none i (omega arith) s)) (λ (x : (f : ℕ) × IsFirstRow task k f). x) (first_below task k (suc i))
