-- The text of two verdicts. Each line ends with a line feed.
-- reason: for a term of the first query, the term of the second that maps into it, or its clash
use Rattle.std.specs.Prelude.{ℕ, List, ◌++◌, length, flat_map, codes, decimal, Option, Some, None}
use Rattle.su_base.specs.declared.values.Value.{Value}
use Rattle.su_lex.specs.Spelling.{spaced}
use Rattle.su_csv.specs.Written.{text_of}
use Rattle.su_schema.specs.SchemaValue.{SchemaValue}
use Rattle.su_schema.specs.Entries.{attribute_names}
use Rattle.su_lex.specs.Wordings.{in_parens, numbers_text}
use Rattle.su_query.specs.ShownParts.{values_symbols}
use Rattle.su_compare.specs.declared.verdicts.Found.{Found}
use Rattle.su_compare.specs.declared.verdicts.Reason.{Reason}
use Rattle.su_compare.specs.declared.verdicts.Verdict.{Verdict}
use Rattle.su_compare.specs.declared.verdicts.Verdict.TheVariants.{Within, Apart}

-- the term that maps and the rows to which its rows go
abbrev pub by_text : Option Found → List ℕ
by_text None = codes " empty"
by_text (Some f) = codes " by " ++ decimal f.term ++ codes " rows" ++ numbers_text f.mapping.list

-- the line of a reason: the term of the first query, and what it lies within
abbrev pub reason_line : Reason → List ℕ
reason_line r = codes "  term " ++ decimal r.term ++ by_text r.by ++ codes "\n"

-- the number of the term and that of the rows
abbrev pub counts_text : ℕ → ℕ → List ℕ
counts_text term rows = codes "  term " ++ decimal term ++ codes "\nrows " ++ decimal rows ++ codes "\n"

-- the row that is none of the other query
abbrev pub head_text : List Value → List ℕ
head_text head = codes "row " ++ spaced (in_parens (values_symbols head)) ++ codes "\n"

-- the rows between the two, as CSV over all attributes
abbrev pub apart_text : SchemaValue → ℕ → List (List Value) → List Value → List ℕ
apart_text schema term universe head = counts_text term (length universe) ++ text_of (attribute_names schema) universe ++ head_text head

-- the verdict: the reasons of a yes, the relation and the row of a no
abbrev pub verdict_text : SchemaValue → Verdict → List ℕ
verdict_text schema (Within reasons) = codes "yes\n" ++ flat_map reason_line reasons
verdict_text schema (Apart term universe head) = codes "no\n" ++ apart_text schema term universe head

-- the verdict of the first within the second, then that of the second within the first
abbrev pub verdicts_text : SchemaValue → Verdict → Verdict → List ℕ
verdicts_text schema forth back = codes "first within second: " ++ verdict_text schema forth ++ codes "second within first: " ++ verdict_text schema back
