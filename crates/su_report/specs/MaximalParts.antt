-- Parts of the report about maximal objects. maximal: those of the schema, as sets of objects; covers: the attributes of each
-- cycle: of one that is not acyclic its core, and which objects of it meet in an attribute
use Rattle.std.specs.Prelude.{ℕ, ◌≡◌, ◌<◌, ◌+◌, ◌↔◌, IsTrue, nat_lt, Option, MatchOption, Bool, true, false, ◌||◌, List, [], ◌∷◌, ◌++◌, length, filter}
use Rattle.std.specs.Ordering.{nat_cmp}
use Rattle.std.specs.FinSet.{FinSet, contains}
use Rattle.su_base.specs.Lists.{AreExactly}
use Rattle.su_base.specs.Sets.{set_at}
use Rattle.su_schema.specs.SchemaValue.{SchemaValue}
use Rattle.su_maxobj.specs.AdjoinableObjects.{IsAttributesOf}
use Rattle.su_maxobj.specs.MaximalObjects.{object_sets}
use Rattle.su_reduce.specs.Ears.{AreAcyclic}
use Rattle.su_show.specs.Lines.{AreLines}
use Rattle.su_advise.specs.Acyclic.{edges_of, IsTakenApart}
use Rattle.su_advise.specs.Breakers.{AreLeastBreakers, AreMany}
use Rattle.su_advise.specs.Covering.{IsCoverOf, IsUncovered}
use Rattle.su_advise.specs.Cycles.{IsCore, IsShared, MeetsIn}
use Rattle.su_report.specs.CycleLines.{acyclic_line, cyclic_line, meeting_line, breaker_lines}
use Rattle.su_report.specs.PairLines.{uncovered_line, covered_line}
use Rattle.su_report.specs.Parts.{below, AreNotes}

-- the objects of a core that have an attribute
abbrev pub MeetingOf : SchemaValue → FinSet nat_cmp → ℕ → List ℕ → Type 0
MeetingOf schema core a text = (found : List ℕ) × AreExactly (MeetsIn (object_sets schema) core a) found × (text ≡ meeting_line schema a found)

-- the attributes that two objects of the core have
abbrev pub AreMeeting : List (FinSet nat_cmp) → FinSet nat_cmp → FinSet nat_cmp → Type 0
AreMeeting objects core meeting = (a : ℕ) → IsTrue (contains meeting a) ↔ ((o : ℕ) × IsTrue (contains core o) × IsShared objects core o a)

-- the k-th maximal object, m, has a cycle
pub record CycleOf (schema : SchemaValue) (k : ℕ) (m : FinSet nat_cmp) (text : List ℕ) : Type 0 where
  pub cyclic : ¬ AreAcyclic (edges_of (object_sets schema) m)
  pub core : FinSet nat_cmp
  pub core_is : IsCore (object_sets schema) m core
  pub meetings : List ℕ
  pub meetings_are : AreLines (MeetingOf schema core) (below (length schema.attributes)) meetings
  pub meeting : FinSet nat_cmp
  pub meeting_is : AreMeeting (object_sets schema) core meeting
  pub breakers : Option (List (FinSet nat_cmp))
  pub breakers_are : MatchOption breakers (AreMany meeting) (AreLeastBreakers (object_sets schema) core meeting)
  pub text_is : text ≡ cyclic_line schema k core ++ meetings ++ breaker_lines schema breakers

-- it has none
abbrev pub OrderOf : SchemaValue → ℕ → FinSet nat_cmp → List ℕ → Type 0
OrderOf schema k m text = (order : List ℕ) × IsTakenApart (object_sets schema) m order × (text ≡ acyclic_line schema k order)

-- either, by whether it has
abbrev pub HangsBy : SchemaValue → ℕ → FinSet nat_cmp → Bool → List ℕ → Type 0
HangsBy schema k m true text = CycleOf schema k m text
HangsBy schema k m false text = OrderOf schema k m text

-- so each of these from the k-th on, and whether one has a cycle
abbrev pub Hang : SchemaValue → ℕ → List (FinSet nat_cmp) → Bool → List ℕ → Type 0
Hang schema k [] fault text = (fault ≡ false) × (text ≡ [])
Hang schema k (m ∷ ms) fault text =
    (here : Bool) × (later : Bool) × (line : List ℕ) × (rest : List ℕ) × (fault ≡ (here || later)) × (text ≡ line ++ rest)
    × HangsBy schema k m here line × Hang schema (k + 1) ms later rest

-- the attributes of each maximal object
pub record AreCovers (schema : SchemaValue) (maximal covers : List (FinSet nat_cmp)) : Type 0 where
  pub same_length : length covers ≡ length maximal
  pub each : (k : ℕ) → k < length maximal → IsAttributesOf (object_sets schema) (set_at maximal k) (set_at covers k)

-- an attribute of objects and the later ones that it is in no maximal object with
abbrev pub UncoveredWith : SchemaValue → FinSet nat_cmp → List (FinSet nat_cmp) → ℕ → List ℕ → Type 0
UncoveredWith schema used covers a text = AreNotes (IsUncovered used covers a) (uncovered_line schema a) text

-- two attributes, and the maximal objects that have both
abbrev pub CoveredBy : SchemaValue → List (FinSet nat_cmp) → ℕ → ℕ → List ℕ → Type 0
CoveredBy schema covers a b text = (found : List ℕ) × AreExactly (IsCoverOf covers a b) found × (text ≡ covered_line schema a b found)

-- the numbers behind a and below n
abbrev pub later_than : ℕ → ℕ → List ℕ
later_than a n = filter (λ b. nat_lt a b) (below n)

-- an attribute and each later one
abbrev pub PairsOf : SchemaValue → FinSet nat_cmp → List (FinSet nat_cmp) → ℕ → List ℕ → Type 0
PairsOf schema used covers a text =
    (apart : List ℕ) × (together : List ℕ) × (text ≡ apart ++ together) × UncoveredWith schema used covers a apart
    × AreLines (CoveredBy schema covers a) (later_than a (length schema.attributes)) together
