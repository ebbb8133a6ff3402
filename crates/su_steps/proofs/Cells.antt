-- The rows of origins, before any classes: each pair is its own symbol.
use Rattle.std.proofs.Common.{◌≡◌, ℕ, zero, suc, ◌+◌, ◌*◌, ◌<◌, true, List, [], ◌∷◌, map, length, get_or, Contains, refl, ap, ◌∙◌, subst, arith}
use Rattle.std.specs.List.{AllByRecursion, range_with_len}
use Rattle.std.specs.FinSet.{contains}
use Rattle.std.proofs.lemmas.Bool.{cond-true}
use Rattle.su_base.specs.declared.values.Value.{Value}
use Rattle.su_base.proofs.Items.{AllByRecursion-append, AllByRecursion-append_left, AllByRecursion-append_right, AllByRecursion-map, AllByRecursion-map_source, map-map_equal, get_or-map_range}
use Rattle.su_tableau.specs.declared.symbols.Sym.{Sym}
use Rattle.su_tableau.specs.declared.symbols.Sym.TheVariants.{Var}
use Rattle.su_tableau.specs.Valuations.{value_of, values_of}
use Rattle.su_schema.specs.SchemaValue.{SchemaValue}
use Rattle.su_steps.specs.declared.results.Origin.{Origin}
use Rattle.su_steps.specs.Objects.{width, attributes_at}
use Rattle.su_steps.specs.Choices.{origin, origins_from}
use Rattle.su_steps.specs.CaseTableaux.{cell_of, origin_row, rows_of}

-- each symbol is its own name
abbrev pub itself : Sym → Sym
itself x = x

-- the rows of these origins as they are before any classes
abbrev pub raw_rows : SchemaValue → ℕ → List Origin → List (List Sym)
raw_rows schema own os = rows_of schema itself own os

-- each row has its values among those of the universe
abbrev pub Sent : (ℕ → Value) → List (List Sym) → List (List Value) → Type 0
Sent w rows universe = AllByRecursion (λ row. Contains universe (values_of w row)) rows

-- ---- cells

pub row_value : (schema : SchemaValue) (w : ℕ → Value) (own : ℕ) (o : Origin) (a : ℕ) (d : Value) → a < width schema → get_or (values_of w (origin_row schema itself own o)) a d ≡ value_of w (cell_of schema itself own o a)
row_value schema w own o a d h =
    ap (λ xs. get_or xs a d) (map-map_equal (cell_of schema itself own o) (value_of w) (λ b. value_of w (cell_of schema itself own o b)) (λ b. refl) (range_with_len 0 (width schema)))
    ∙ get_or-map_range (λ b. value_of w (cell_of schema itself own o b)) (width schema) a d h

pub cell_in : (schema : SchemaValue) (own : ℕ) (o : Origin) (a : ℕ) → contains (attributes_at schema o.object) a ≡ true → cell_of schema itself own o a ≡ Var (o.variable * width schema + a)
cell_in schema own o a h = cond-true (contains (attributes_at schema o.object) a) (Var (o.variable * width schema + a)) (Var (own + a)) h

-- some row of the universe has the origin's values
abbrev pub IsAt : SchemaValue → (ℕ → Value) → List (List Value) → Origin → Type 0
IsAt schema w universe o = (u : List Value) × Contains universe u × ((a : ℕ) (d : Value) → a < width schema → contains (attributes_at schema o.object) a ≡ true → get_or u a d ≡ w (o.variable * width schema + a))

pub rows_at : (schema : SchemaValue) (w : ℕ → Value) (universe : List (List Value)) (own : ℕ) (os : List Origin) → Sent w (raw_rows schema own os) universe → AllByRecursion (IsAt schema w universe) os
rows_at schema w universe own [] s = tt
rows_at schema w universe own (o ∷ os) s =
    ((values_of w (origin_row schema itself own o), s.0, λ a d l h. row_value schema w own o a d l ∙ ap (value_of w) (cell_in schema own o a h)), rows_at schema w universe (own + width schema) os s.1)

-- ---- origins by variable

pub origins_at : (P : Origin → Type 0) (v : ℕ) (ms : List (List ℕ)) → AllByRecursion P (origins_from v ms) → (i j : ℕ) → v + i ≡ j → i < length ms → AllByRecursion (λ o. P (origin j o)) (get_or ms i [])
origins_at P v [] h i j e l = absurd (omega arith)
origins_at P v (m ∷ ms) h zero j e l =
    subst (λ k. AllByRecursion (λ o. P (origin k o)) m) (omega arith) (AllByRecursion-map_source P (origin v) m (AllByRecursion-append_left P (map (origin v) m) (origins_from (suc v) ms) h))
origins_at P v (m ∷ ms) h (suc i) j e l = origins_at P (suc v) ms (AllByRecursion-append_right P (map (origin v) m) (origins_from (suc v) ms) h) i j (omega arith) (omega arith)

pub origins_by : (P : Origin → Type 0) (v : ℕ) (ms : List (List ℕ)) → ((i j : ℕ) → v + i ≡ j → i < length ms → AllByRecursion (λ o. P (origin j o)) (get_or ms i [])) → AllByRecursion P (origins_from v ms)
origins_by P v [] h = tt
origins_by P v (m ∷ ms) h =
    AllByRecursion-append P (map (origin v) m) (origins_from (suc v) ms)
    (AllByRecursion-map P (origin v) m (h 0 v (omega arith) (omega arith)))
    (origins_by P (suc v) ms (λ i j e l. h (suc i) j (omega arith) (omega arith)))
