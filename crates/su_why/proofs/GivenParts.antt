-- A part of a task with other outputs gives what valuations that meet the set give these.
use Rattle.std.proofs.Common.{◌↔◌, ℕ, List, All, Some, None, Option, refl}
use Rattle.std.specs.Prelude.{MatchOption}
use Rattle.std.proofs.lemmas.List.Elements.{All-contains}
use Rattle.su_base.specs.declared.values.Value.{Value}
use Rattle.su_base.proofs.Items.{All-members}
use Rattle.su_rel.specs.Stored.{Stored}
use Rattle.su_rel.specs.ExactRows.{AreExactlyRows}
use Rattle.su_rel.specs.MoreThan.{AreMoreThan}
use Rattle.su_tableau.specs.declared.symbols.Sym.{Sym}
use Rattle.su_tableau.specs.declared.symbols.Sym.TheVariants.{Var}
use Rattle.su_exec.specs.declared.tasks.Compared.{Compared}
use Rattle.su_exec.specs.declared.tasks.Task.{Task}
use Rattle.su_exec.specs.Tasks.{IsTask, Occurs}
use Rattle.su_exec.specs.Outputs.{Agrees, HoldsUnder, IsOutput, AreOutputs}
use Rattle.su_why.specs.Met.{Asked, IsHeld}
use Rattle.su_why.specs.Given.{IsGiven, AreGiven}
use Rattle.su_why.specs.inside.Parts.{IsPartOf}
use Rattle.su_why.proofs.PartTasks.{part_fits, occurs_in}

module _ (tables : List Stored) (task : Task) (fixed : List Compared) (s : List ℕ) (part : Task) (is : IsPartOf task fixed s part) (xs : List Sym) where
  abbrev asked : Asked
  asked = record { tables = tables; task = task; fixed = fixed }

  abbrev giving : Task
  giving = record { rows = part.rows; outputs = xs; comparisons = part.comparisons }

  -- it has the part's rows
  occurs_as : (k : ℕ) → Occurs part k → Occurs giving k
  occurs_as k o = let s = o.1 in (o.0, record { row = s.row; below = s.below; is = s.is; cell = s.cell })

  pub giving_fits : IsTask tables task → All (IsHeld task s) xs → IsTask tables giving
  giving_fits fits held =
      let own = part_fits tables task fixed s part is fits in
      record {
        few = own.few;
        sources = own.sources;
        occur = record {
          outputs = λ k c. let w = All-contains (IsHeld task s) xs (Var k) held c k refl in occurs_as k (occurs_in tables task fixed s part is k w.0 w.1 w.2);
          left = λ c k there e. occurs_as k (own.occur.left c k there e);
          right = λ c k there e. occurs_as k (own.occur.right c k there e);
        };
      }

  pub output_given : (h : List Value) → IsOutput tables giving h ↔ IsGiven asked s xs h
  output_given h = (
    λ o. record {
      met = record {
        valuation = o.valuation;
        rows = λ row r. All-contains (Agrees tables o.valuation) part.rows row o.agrees ((is.rows.members row).1 r);
        comparisons = λ c counted. All-contains (HoldsUnder o.valuation) part.comparisons c o.holds ((is.comparisons tables c).1 counted);
      };
      gives = o.gives;
    },
    λ g. record {
      valuation = g.met.valuation;
      agrees = All-members (Agrees tables g.met.valuation) part.rows (λ row c. g.met.rows row ((is.rows.members row).0 c));
      holds = All-members (HoldsUnder g.met.valuation) part.comparisons (λ c there. g.met.comparisons c ((is.comparisons tables c).0 there));
      gives = g.gives;
    },
  )

  pub more_given : (n : ℕ) → AreMoreThan n (IsOutput tables giving) → AreMoreThan n (IsGiven asked s xs)
  more_given n more = record { member = more.member; each = λ i l. (output_given (more.member i)).0 (more.each i l); differ = more.differ }

  pub exactly_given : (rows : List (List Value)) → AreOutputs tables giving rows → AreExactlyRows (IsGiven asked s xs) rows
  exactly_given rows are = record {
    exact = λ h. (λ c. (output_given h).0 ((are.exact h).0 c), λ g. (are.exact h).1 ((output_given h).1 g));
    ascending = are.ascending;
  }

  pub found_given : (cap : ℕ) (found : Option (List (List Value))) → MatchOption found (AreMoreThan cap (IsOutput tables giving)) (AreOutputs tables giving) → AreGiven asked s xs cap found
  found_given cap None more = more_given cap more
  found_given cap (Some rows) are = exactly_given rows are
