-- The core of the objects of a schema: those that stay when ears are taken away, one after another.
-- edge: an object by the number of its line, with the names of its attributes; shared: another edge has the attribute too
-- ear: an edge whose shared attributes all lie in one other edge, or that has none
use Rattle.std.specs.Prelude.{◌≡◌, ℕ, ◌+◌, ◌-◌, ◌==◌, ◌&&◌, ◌||◌, not, if◌then◌else◌, Bool, true, false, List, [], ◌∷◌, Some, length, map, take, drop, slice_get}
use Rattle.std.specs.List.{list_any, list_all, remove}
use Rattle.std.specs.Str.{bytes_eq}
use Rattle.su_explained.specs.declared.kinds.Kind.{Kind}
use Rattle.su_explained.specs.declared.kinds.Kind.TheVariants.{Object}
use Rattle.su_explained.specs.declared.reading.Line.{Line}
use Rattle.su_explained.specs.Definitions.{attribute_count_of}
use Rattle.su_draw.specs.declared.ears.Edge.{Edge}

-- a word without an opening parenthesis (40) before it
abbrev pub behind_open : List ℕ → List ℕ
behind_open [] = []
behind_open (b ∷ bs) = if b == 40 then bs else b ∷ bs

-- the name in a word of a list: without the comma or the parenthesis behind it, and the one before it
abbrev pub name_in_list : List ℕ → List ℕ
name_in_list word = behind_open (take (length word - 1) word)

-- the line defines an object
abbrev pub is_object : Kind → Bool
is_object Object = true
is_object _ = false

-- the object that these words define
abbrev pub edge_of : ℕ → List (List ℕ) → Edge
edge_of i words = record { line = i; attributes = map name_in_list (take (attribute_count_of (length words)) (drop 2 words)) }

-- the objects of these lines; i: the number of the first of them
abbrev pub edges_from : ℕ → List Line → List Edge
edges_from i [] = []
edges_from i (line ∷ lines) = if is_object line.kind then edge_of i line.words ∷ edges_from (i + 1) lines else edges_from (i + 1) lines

-- the edge has the attribute
abbrev pub has : Edge → List ℕ → Bool
has edge name = list_any (λ n. bytes_eq n name) edge.attributes

-- an edge other than that of line i has the attribute
abbrev pub is_shared : List Edge → ℕ → List ℕ → Bool
is_shared edges i name = list_any (λ other. not (other.line == i) && has other name) edges

-- this one, another than e, has all that e shares
abbrev pub has_shared : List Edge → Edge → Edge → Bool
has_shared edges e other = not (other.line == e.line) && list_all (λ name. not (is_shared edges e.line name) || has other name) e.attributes

-- an ear of these edges
abbrev pub is_ear : List Edge → Edge → Bool
is_ear edges e = list_all (λ name. not (is_shared edges e.line name)) e.attributes || list_any (has_shared edges e) edges

-- from these edges ears are taken away, one after another, until none is left that is one
pub data IsCoreOf : List Edge → List Edge → Type 0 where
  stays : (edges : List Edge) → list_any (is_ear edges) edges ≡ false → IsCoreOf edges edges
  taken : (edges core : List Edge) (i : ℕ) (e : Edge) → slice_get edges i ≡ Some e → is_ear edges e ≡ true → IsCoreOf (remove edges i) core → IsCoreOf edges core

-- the mark of what an edge's dots have: 1 in the core, else 0
abbrev pub ring_of : List Edge → ℕ → ℕ
ring_of core i = if list_any (λ e. e.line == i) core then 1 else 0
