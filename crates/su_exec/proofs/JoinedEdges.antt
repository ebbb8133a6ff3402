-- The edge that is made of a join.
use Rattle.std.proofs.Common.{◌≡◌, ℕ, Bool, Option, List, sym, subst}
use Rattle.su_exec.specs.inside.Edges.{Edge}
use Rattle.su_exec.specs.inside.Joins.{Columns, IsReal, IsJoin, IsJoinOf, FitColumns, out_vars}
use Rattle.su_base.specs.Lists.{AllDiffer}
use Rattle.su_exec.proofs.ProjectedJoins.{real_join, keeps_join, given, joined_edge}

module _ (a b : Edge ℕ) (c : Columns) (t : List ℕ → List ℕ → Bool) (most : Option ℕ) (ls rs rows : List (List ℕ)) (vars : List ℕ) (la : ls ≡ a.rows) (lb : rs ≡ b.rows) (real_a : IsReal a) (real_b : IsReal b) (fit : FitColumns c a.vars b.vars) (join : IsJoin ls rs c t most rows) (vars_are : vars ≡ out_vars c a.vars b.vars) where
  joined : IsJoin a.rows b.rows c t most rows
  joined = subst (λ xs. IsJoin a.rows xs c t most rows) lb (subst (λ xs. IsJoin xs rs c t most rows) la join)

  pub made_real : IsReal (record { vars = vars; rows = rows })
  made_real = subst (λ vs. IsReal (record { vars = vs; rows = rows })) (sym vars_are) (real_join a b c t rows real_a real_b fit joined.only)

  there : AllDiffer rows → IsJoinOf a b t most (joined_edge c a.vars b.vars rows)
  there differ = record {
    given = given a b c t rows real_a real_b fit joined.only;
    keeps = λ low. keeps_join a b c t rows real_a real_b fit joined.only (joined.all low);
    differ = differ;
  }

  pub made_joins : AllDiffer rows → (g : Edge ℕ) → g ≡ record { vars = vars; rows = rows } → IsJoinOf a b t most g
  made_joins differ g e =
      let K : Edge ℕ → Type 0 = IsJoinOf a b t most in
      subst K (sym e) (subst (λ vs. K (record { vars = vs; rows = rows })) (sym vars_are) (there differ))
