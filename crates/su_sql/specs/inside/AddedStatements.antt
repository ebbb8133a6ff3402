-- What a statement adds behind what was written before.
-- d: the dialect of SQL; db, new: the database before the text and after it; before, after: the bytes before and after
-- reply: the bytes that are written, and whether they tell a refusal
-- No public contract cites this module.
use Rattle.std.specs.Prelude.{◌≡◌, ◌++◌, ℕ, Bool, List}
use Rattle.su_state.specs.DatabaseValue.{DatabaseValue}
use Rattle.su_session.specs.declared.replies.Reply.{Reply}
use Rattle.su_sql.specs.declared.dialects.Dialect.{Dialect}
use Rattle.su_sql.specs.Statements.{Writes}

-- what is written for a text is added, and this tells whether it is a refusal
pub record IsAdded (d : Dialect) (db : DatabaseValue) (text : List ℕ) (new : DatabaseValue) (before after : List ℕ) (refused : Bool) : Type 0 where
  pub reply : Reply
  pub written : Writes d db text reply new
  pub refused_is : refused ≡ reply.refused
  pub added : after ≡ before ++ reply.bytes
