-- Of the rows of a chase there is one name for each symbol and one clash, and of two lists of terms one verdict.
-- chase, clash, frozen: as in su_chase; verdict: as in su_compare
use Rattle.std.specs.Prelude.{◌≡◌, ◌↔◌, List, All, Contains}
use Rattle.su_base.specs.declared.values.Kind.{Kind}
use Rattle.su_base.specs.declared.values.Value.{Value}
use Rattle.su_fd.specs.declared.dependencies.Fd.{Fd}
use Rattle.su_tableau.specs.declared.symbols.Sym.{Sym}
use Rattle.su_tableau.specs.Tableaux.{Tab, IsValid}
use Rattle.su_chase.specs.Chase.{IsClassName, IsClash}
use Rattle.su_chase.specs.Chased.{IsChased}
use Rattle.su_chase.specs.Frozen.{IsFrozen}
use Rattle.su_chase.specs.declared.freezing.Frozen.{Frozen}
use Rattle.su_schema.specs.SchemaValue.{SchemaValue}
use Rattle.su_steps.specs.declared.results.Term.{Term}
use Rattle.su_compare.specs.declared.verdicts.Verdict.{Verdict}
use Rattle.su_compare.specs.Verdict.{IsVerdict}

-- a class of symbols has at most one name
abbrev pub OneClassName : Type 0
OneClassName = (fds : List Fd) (rows : List (List Sym)) (x name other : Sym) → IsClassName fds rows x name → IsClassName fds rows x other → name ≡ other

-- there is at most one first clash
abbrev pub OneClash : Type 0
OneClash = (fds : List Fd) (rows : List (List Sym)) (less greater least other : Value) → IsClash fds rows less greater → IsClash fds rows least other → (less ≡ least) × (greater ≡ other)

-- a tableau is chased to at most one
abbrev pub OneChase : Type 0
OneChase = (fds : List Fd) (t c d : Tab) → IsChased fds t c → IsChased fds t d → c ≡ d

-- a tableau is frozen in one way, where the same values are avoided
abbrev pub OneFreezing : Type 0
OneFreezing = (kinds : List Kind) (t : Tab) (avoid others : List Value) (f g : Frozen) → IsValid t → ((v : Value) → Contains avoid v ↔ Contains others v)
    → IsFrozen kinds t avoid f → IsFrozen kinds t others g → f ≡ g

-- two lists of terms have at most one verdict
abbrev pub OneVerdict : Type 0
OneVerdict = (schema : SchemaValue) (first second : List Term) (v w : Verdict) → All (λ term. IsValid term.tableau) first → IsVerdict schema first second v → IsVerdict schema first second w → v ≡ w
