-- The tables of a search, as a room holds them.
-- targets: the rows that a row may be sent to; agree: two rows' targets that go together
use Rattle.std.specs.Prelude.{ℕ, List}

-- for each row a set of targets, a set of rows with which it shares a variable, and for each of these and each target the targets of that row which agree
pub record Netted : Type 0 where
  pub base : List ℕ
  pub near : List ℕ
  pub agree : List ℕ
  pub targets : ℕ
