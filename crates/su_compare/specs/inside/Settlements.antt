-- How a term is settled by the terms of another query.
-- settled: its chase clashes, or a term of the second query maps into its chased tableau; by: which of the two; open: not settled
-- t, s: tableaux; c: a chased tableau; room: memory for a search for mappings
-- No public contract cites this module.
use Rattle.std.specs.Prelude.{◌≡◌, ℕ, ◌<◌, List, ◌++◌, length, flat_map}
use Rattle.su_base.specs.declared.values.Value.{Value}
use Rattle.su_fd.specs.declared.dependencies.Fd.{Fd}
use Rattle.su_tableau.specs.declared.symbols.Sym.{Sym}
use Rattle.su_tableau.specs.Tableaux.{Tab}
use Rattle.su_map.specs.Rooms.{Space, IsRoomFor}
use Rattle.su_chase.specs.inside.Rows.{constant_of}
use Rattle.su_steps.specs.declared.results.Term.{Term}
use Rattle.su_compare.specs.declared.settling.Settled.{Settled}
use Rattle.su_compare.specs.declared.settling.Settled.TheVariants.{By, Open}
use Rattle.su_compare.specs.Settled.{tab_at, IsBy, IsUnsettled}

-- the room serves each of the terms
abbrev pub HasRoomFor : List Term → Space → Type 0
HasRoomFor terms room = (i : ℕ) → i < length terms → IsRoomFor (tab_at terms i) room

-- the two have one width, one number of outputs and one list of operators
pub record IsAlike (t s : Tab) : Type 0 where
  pub width : s.width ≡ t.width
  pub outputs : s.outputs ≡ t.outputs
  pub operators : s.operators ≡ t.operators

-- each of the terms has the tableau's width, number of outputs and operators
abbrev pub AreAlike : Tab → List Term → Type 0
AreAlike t terms = (i : ℕ) → i < length terms → IsAlike t (tab_at terms i)

-- how t is settled, or its chased tableau
abbrev pub IsSettlement : List Fd → List Term → Tab → Settled → Type 0
IsSettlement fds second t (By by) = IsBy fds second t by
IsSettlement fds second t (Open c) = IsUnsettled fds second t c

-- ---- constants

-- the constants among symbols
abbrev pub constants_in : List Sym → List Value
constants_in symbols = flat_map constant_of symbols

-- those of the head and of the rows, each as often as it stands there
abbrev pub tab_constants : Tab → List Value
tab_constants t = constants_in t.head ++ flat_map constants_in t.rows

-- the constants of all terms
abbrev pub terms_constants : List Term → List Value
terms_constants terms = flat_map (λ t. tab_constants t.tableau) terms
