-- What is told of the four queries, behind a text.
-- line of a query: its number, from 1, and how many terms, kept terms and rows it has
-- text: the bytes so far; old, new: the database before the queries and after them
-- No public contract cites this module.
use Rattle.std.specs.Prelude.{◌≡◌, ◌++◌, ℕ, List}
use Rattle.su_state.specs.DatabaseValue.{DatabaseValue}
use Rattle.su_bank.specs.Banks.{FindsAll, four_queries}

-- the text told is the one before and the lines of the queries
pub record TellsFour (old : DatabaseValue) (text : List ℕ) (new : DatabaseValue) (told : List ℕ) : Type 0 where
  pub lines : List ℕ
  pub found : FindsAll old 1 four_queries lines new
  pub text_is : told ≡ text ++ lines
