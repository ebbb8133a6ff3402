-- What is written for an accepted definition.
-- d: the dialect of SQL; before: how many relations there were before the definition; schema: the one after it
-- said: the bytes of the session's reply to the definition
-- No public contract cites this module.
use Rattle.std.specs.Prelude.{◌≡◌, ℕ, List, length, nat_lt, if◌then◌else◌}
use Rattle.su_schema.specs.SchemaValue.{SchemaValue}
use Rattle.su_sql.specs.declared.dialects.Dialect.{Dialect}
use Rattle.su_sql.specs.Changes.{create_text}
use Rattle.su_sql.specs.Comments.{comment_text}

-- the table of the relation that was added behind so many, or what was replied, as a comment
pub record IsDefinedText (d : Dialect) (before : ℕ) (schema : SchemaValue) (said text : List ℕ) : Type 0 where
  pub is : text ≡ (if nat_lt before (length schema.relations) then create_text d schema before else comment_text said)
