-- The whole task is met exactly where it gives an output.
use Rattle.std.proofs.Common.{◌≡◌, ◌↔◌, inl, ◌+◌, ◌<◌, ℕ, List, [], length, Contains, Some, None, Option, refl, ap, ◌∙◌, ⊎_elim, arith}
use Rattle.std.specs.Prelude.{MatchOption, slice_get}
use Rattle.std.specs.List.{range_with_len}
use Rattle.std.proofs.lemmas.List.Elements.{All-contains}
use Rattle.std.proofs.lemmas.Option.{slice_get-get_or, slice_get_within, get_or_from_slice_get}
use Rattle.su_base.specs.declared.values.Value.{Value}
use Rattle.su_base.proofs.Items.{All-members, Contains-nil, Contains-range}
use Rattle.su_blame.specs.declared.blaming.Blame.{Blame}
use Rattle.su_blame.specs.declared.blaming.Blame.TheVariants.{Least, Narrow}
use Rattle.su_blame.specs.Blame.{IsBlame, NoneFails}
use Rattle.su_blame.proofs.Parts.{rising_whole, in_whole}
use Rattle.su_rel.specs.Stored.{Stored}
use Rattle.su_tableau.specs.declared.symbols.Sym.{Sym}
use Rattle.su_tableau.specs.declared.symbols.Sym.TheVariants.{Var}
use Rattle.su_tableau.specs.Valuations.{values_of}
use Rattle.su_tableau.specs.Tableaux.{IsValid}
use Rattle.su_exec.specs.declared.tasks.TaskRow.{TaskRow}
use Rattle.su_exec.specs.declared.tasks.Compared.{Compared}
use Rattle.su_exec.specs.declared.tasks.Task.{Task}
use Rattle.su_exec.specs.Tasks.{IsTask, Occurs}
use Rattle.su_exec.specs.Outputs.{Agrees, HoldsUnder, IsOutput}
use Rattle.su_state.specs.DatabaseValue.{DatabaseValue, IsWellKept}
use Rattle.su_min.specs.Kept.{Minimised}
use Rattle.su_answer.specs.Joined.{IsTaskOf}
use Rattle.su_answer.specs.Answers.{IsTermAnswer}
use Rattle.su_answer.proofs.Joined.{outputs_are_answers}
use Rattle.su_why.specs.Met.{Asked, size_of, IsRowOf, IsComparisonOf, IsHeld, IsMet, IsUnmet}
use Rattle.su_why.specs.Blame.{IsBlameFor, HasNoAnswer, IsWhyEmpty}
use Rattle.su_why.specs.inside.Growing.{unmet_grows}

module _ (tables : List Stored) (task : Task) (fixed : List Compared) where
  abbrev asked : Asked
  asked = record { tables = tables; task = task; fixed = fixed }

  abbrev whole : List ℕ
  whole = range_with_len 0 (size_of task)

  pub output_met : (h : List Value) (o : IsOutput tables task h) → ((c : Compared) → Contains fixed c → HoldsUnder o.valuation c) → IsMet asked whole
  output_met h o all = record {
    valuation = o.valuation;
    rows = λ row r. All-contains (Agrees tables o.valuation) task.rows row o.agrees (r.place, slice_get_within task.rows r.place row r.is, get_or_from_slice_get task.rows r.place row row r.is);
    comparisons = λ c counted. ⊎_elim
        (λ (own : IsComparisonOf task whole c). All-contains (HoldsUnder o.valuation) task.comparisons c o.holds (own.place, slice_get_within task.comparisons own.place c own.is, get_or_from_slice_get task.comparisons own.place c c own.is))
        (λ (fix : Contains fixed c). all c fix)
        counted.from;
  }

  row_at : (i : ℕ) (row : TaskRow) → i < length task.rows → slice_get task.rows i ≡ Some row → IsRowOf task whole row
  row_at i row low is = record { place = i; of_set = Contains-range (size_of task) i (omega arith); is = is }

  pub held : (x : Sym) → ((k : ℕ) → x ≡ Var k → Occurs task k) → IsHeld task whole x
  held x occurs k e =
      let o = occurs k e in
      let stands = o.1 in
      (stands.row, row_at o.0 stands.row stands.below (slice_get-get_or task.rows o.0 stands.row stands.below ∙ ap Some (stands.is stands.row)), stands.cell)

  pub met_output : IsTask tables task → (met : IsMet asked whole) → IsOutput tables task (values_of met.valuation task.outputs)
  met_output fits met =
      let v = met.valuation in
      record {
        valuation = v;
        agrees = All-members (Agrees tables v) task.rows (λ row c. met.rows row (row_at c.0 row c.1 (slice_get-get_or task.rows c.0 row c.1 ∙ ap Some c.2)));
        holds = All-members (HoldsUnder v) task.comparisons (λ c there. met.comparisons c (record {
          from = inl (record { place = there.0; of_set = Contains-range (size_of task) (length task.rows + there.0) (let l = there.1 in omega (arith, l)); is = slice_get-get_or task.comparisons there.0 c there.1 ∙ ap Some there.2 });
          left = held c.left (λ k e. fits.occur.left c k there e);
          right = held c.right (λ k e. fits.occur.right c k there e);
        }));
        gives = refl;
      }

  -- a set that no valuation meets is part of the whole
  pub blamed_unmet : (b : Blame) → IsBlame (IsUnmet asked) (size_of task) b → IsUnmet asked whole
  blamed_unmet (Least s) is = unmet_grows asked s whole (in_whole (size_of task) s is.set) is.fails
  blamed_unmet (Narrow s) is = let n = is.0 in unmet_grows asked s whole (in_whole (size_of task) s n.set) n.fails

  pub unblamed_met : NoneFails (IsUnmet asked) (size_of task) → ¬ IsUnmet asked whole
  unblamed_met none = none whole (rising_whole (size_of task))

-- ---- terms

module _ (db : DatabaseValue) (m : Minimised) (task : Task) (kept : IsWellKept db) (valid : IsValid m.tableau) (fits : IsTask db.tables task) (is : IsTaskOf db.schema m.tableau m.mask task) where
  pub answers : (h : List Value) → IsOutput db.tables task h ↔ IsTermAnswer db m h
  answers h = outputs_are_answers db m.tableau m.mask task kept valid fits is h

  told : (found : Option Blame) → IsBlameFor (record { tables = db.tables; task = task; fixed = [] }) found → MatchOption found (¬ HasNoAnswer db m) (λ b. HasNoAnswer db m)
  told None none = λ no_answer. unblamed_met db.tables task [] none (λ met. no_answer (values_of met.valuation task.outputs) ((answers (values_of met.valuation task.outputs)).0 (met_output db.tables task [] fits met)))
  told (Some b) is_blame = λ h answer. blamed_unmet db.tables task [] b is_blame (output_met db.tables task [] h ((answers h).1 answer) (λ c fix. absurd (Contains-nil c fix)))

  pub why_is : (found : Option Blame) → IsBlameFor (record { tables = db.tables; task = task; fixed = [] }) found → IsWhyEmpty db m found
  why_is found blame = record { task = task; is_task = is; blame = blame; told = told found blame }
