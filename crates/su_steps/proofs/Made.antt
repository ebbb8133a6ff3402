-- The cells of a row so far, one cell more.
use Rattle.std.proofs.Common.{◌≡◌, ℕ, ◌+◌, if◌then◌else◌, cond, List, [], ◌∷◌, ◌++◌, map, ap, ◌∙◌}
use Rattle.std.specs.List.{range_with_len}
use Rattle.std.specs.Ordering.{nat_cmp}
use Rattle.std.specs.FinSet.{FinSet, contains}
use Rattle.su_base.proofs.Items.{map-range_push}
use Rattle.su_tableau.specs.declared.symbols.Sym.{Sym}
use Rattle.su_tableau.specs.declared.symbols.Sym.TheVariants.{Var}
use Rattle.su_schema.specs.SchemaValue.{SchemaValue}
use Rattle.su_steps.specs.declared.results.Origin.{Origin}
use Rattle.su_steps.specs.Objects.{width, attributes_at}
use Rattle.su_steps.specs.PairSymbols.{pair}
use Rattle.su_steps.specs.CaseTableaux.{cell_of}

pub cells_more : (schema : SchemaValue) (name : Sym → Sym) (own : ℕ) (o : Origin) (n a : ℕ) (attributes : FinSet nat_cmp) (before next : List Sym) (x : Sym) → n ≡ width schema → attributes ≡ attributes_at schema o.object → before ≡ map (cell_of schema name own o) (range_with_len 0 a)
    → x ≡ (if contains attributes a then name (Var (pair n o.variable a)) else Var (own + a)) → next ≡ before ++ x ∷ [] → next ≡ map (cell_of schema name own o) (range_with_len 0 (a + 1))
cells_more schema name own o n a attributes before next x n_is attributes_is so is push =
    map-range_push (cell_of schema name own o) a before next x push so
    (is ∙ ap (λ k. cond (contains attributes a) (name (Var (pair k o.variable a))) (Var (own + a))) n_is ∙ ap (λ s. cond (contains s a) (name (Var (pair (width schema) o.variable a))) (Var (own + a))) attributes_is)
