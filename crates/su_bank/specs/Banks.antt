-- What is told of the bank: how many terms, kept terms and rows each of four queries has in it.
-- found of a query: the last line of its explanation, which counts its terms and the kept ones, and the first line of its
-- answer, which counts its rows
use Rattle.std.specs.Prelude.{◌≡◌, ◌+◌, ℕ, List, [], ◌∷◌, ◌++◌, None, codes, decimal, map}
use Rattle.su_lex.specs.declared.spans.Span.{Span}
use Rattle.su_lex.specs.Pieces.{Pieces}
use Rattle.su_ddl.specs.Files.{no_definitions, statement_of}
use Rattle.su_state.specs.DatabaseValue.{DatabaseValue, IsWellKept}
use Rattle.su_session.specs.EmptyDatabase.{empty_database}
use Rattle.su_session.specs.declared.replies.Reply.{Reply}
use Rattle.su_session.specs.Reply.{Replied}
use Rattle.su_bank.specs.Lines.{found_line}
use Rattle.su_bank.specs.Scripts.{bank_script}

-- each statement is answered on the database that the ones before it left, which is well kept; none is handed a file
abbrev pub Takes : DatabaseValue → List (List ℕ) → DatabaseValue → Type 0
Takes old [] new = new ≡ old
Takes old (text ∷ texts) new = IsWellKept old × ((reply : Reply) × (next : DatabaseValue) × Replied old text None reply next × Takes next texts new)

-- what the statements of a script leave
pub record TakesScript (old : DatabaseValue) (script : List ℕ) (new : DatabaseValue) : Type 0 where
  pub spans : List Span
  pub pieces : Pieces script spans
  pub takes : Takes old (map (statement_of script) spans) new

-- the query is explained and answered, one after the other, on databases that are well kept, and has this line
pub record Finds (old : DatabaseValue) (number : ℕ) (query line : List ℕ) (new : DatabaseValue) : Type 0 where
  pub kept : IsWellKept old
  pub explained : Reply
  pub between : DatabaseValue
  pub explains : Replied old (codes "explain " ++ query) None explained between
  pub still_kept : IsWellKept between
  pub answered : Reply
  pub answers : Replied between query None answered new
  pub line_is : line ≡ found_line number explained.bytes answered.bytes

-- the queries, one after another and numbered from the first one's number, have these lines
abbrev pub FindsAll : DatabaseValue → ℕ → List (List ℕ) → List ℕ → DatabaseValue → Type 0
FindsAll old number [] lines new = (lines ≡ []) × (new ≡ old)
FindsAll old number (query ∷ queries) lines new =
    (line : List ℕ) × (next : DatabaseValue) × (rest : List ℕ) × Finds old number query line next × FindsAll next (number + 1) queries rest new × (lines ≡ line ++ rest)

-- the queries that a bank is asked
abbrev pub four_queries : List (List ℕ)
four_queries = codes "retrieve (BANK) where CUST = 'C7'" ∷ codes "retrieve (CUST, ADDR)" ∷ codes "retrieve (t.CUST) where CUST = 'C7' and BANK = t.BANK" ∷ codes "retrieve (ACCT, BAL) where BAL > 5000" ∷ []

-- what is told of a bank with n rows in each relation
pub record IsBankText (n : ℕ) (text : List ℕ) : Type 0 where
  pub bank : DatabaseValue
  pub made : TakesScript (empty_database no_definitions) (bank_script n) bank
  pub lines : List ℕ
  pub last : DatabaseValue
  pub found : FindsAll bank 1 four_queries lines last
  pub text_is : text ≡ codes "bank " ++ decimal n ++ codes "\n" ++ lines
