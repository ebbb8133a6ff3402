-- The replies to statements that are accepted. Each line ends with a line feed.
-- header: the names above the rows; used: the dependencies of a derivation, by number
use Rattle.std.specs.Prelude.{◌≡◌, ℕ, ◌+◌, List, [], ◌∷◌, ◌++◌, length, map, flat_map, codes, decimal, nat_lt, if◌then◌else◌}
use Rattle.std.specs.Ordering.{nat_cmp}
use Rattle.std.specs.FinSet.{FinSet}
use Rattle.su_base.specs.declared.values.Value.{Value}
use Rattle.su_fd.specs.Closure.{IsClosureOf}
use Rattle.su_fd.specs.Derivation.{IsDerivation}
use Rattle.su_csv.specs.Written.{text_of}
use Rattle.su_lex.specs.Spelling.{spaced}
use Rattle.su_schema.specs.SchemaValue.{SchemaValue}
use Rattle.su_ddl.specs.Shown.{schema_text}
use Rattle.su_query.specs.declared.statements.Query.{Query}
use Rattle.su_query.specs.ShownParts.{ref_symbols}
use Rattle.su_state.specs.Breaches.{fd_at}
use Rattle.su_show.specs.Values.{attributes_text, objects_text, fd_text}

-- the outputs of a query as they are shown
abbrev pub header_of : Query → List (List ℕ)
header_of q = map (λ ref. spaced (ref_symbols ref)) q.outputs

-- the number of the rows, then the CSV text of the header and the rows
abbrev pub rows_text : List (List ℕ) → List (List Value) → List ℕ
rows_text header rows = codes "rows " ++ decimal (length rows) ++ codes "\n" ++ text_of header rows

-- the line of the maximal object of this number
abbrev pub maximal_line : SchemaValue → ℕ → FinSet nat_cmp → List ℕ
maximal_line schema number set =
    codes "-- maximal object " ++ decimal number ++ (if nat_lt number (length schema.declared) then codes " declared" else codes " computed") ++ objects_text schema set ++ codes "\n"

-- the lines of the maximal objects from this number on
abbrev pub maximal_lines : SchemaValue → ℕ → List (FinSet nat_cmp) → List ℕ
maximal_lines schema number [] = []
maximal_lines schema number (set ∷ sets) = maximal_line schema number set ++ maximal_lines schema (number + 1) sets

-- the schema as it is written, and its maximal objects; the declared ones come first
abbrev pub schema_reply : SchemaValue → List (FinSet nat_cmp) → List ℕ
schema_reply schema sets = schema_text schema ++ maximal_lines schema 0 sets

-- the line of a step of a derivation
abbrev pub by_line : SchemaValue → ℕ → List ℕ
by_line schema number = codes "  by " ++ fd_text schema (fd_at schema number) ++ codes "\n"

-- the closure, and the dependencies that lead there
abbrev pub closure_reply : SchemaValue → FinSet nat_cmp → List ℕ → List ℕ
closure_reply schema closed used = codes "closure" ++ attributes_text schema closed ++ codes "\n" ++ flat_map (by_line schema) used

-- the closure of the attributes, and the dependencies that lead there
pub record IsClosureReply (schema : SchemaValue) (start : FinSet nat_cmp) (text : List ℕ) : Type 0 where
  pub closed : FinSet nat_cmp
  pub closed_is : IsClosureOf schema.fds start closed
  pub used : List ℕ
  pub used_is : IsDerivation schema.fds start used
  pub text_is : text ≡ closure_reply schema closed used
