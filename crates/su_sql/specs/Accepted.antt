-- What is written for a statement that is accepted.
-- Inserts, deletes and prints of known relations are SQL; for all else the reply is a comment.
-- said: the reply to the statement
use Rattle.std.specs.Prelude.{ℕ, List, Option, Some, None, length, nat_lt, if◌then◌else◌}
use Rattle.su_schema.specs.SchemaValue.{SchemaValue}
use Rattle.su_schema.specs.Entries.{relation_names, place_of}
use Rattle.su_query.specs.declared.statements.Statement.{Statement}
use Rattle.su_query.specs.declared.statements.Statement.TheVariants.{Insert, Delete, DeleteWhere, Print}
use Rattle.su_sql.specs.declared.dialects.Dialect.{Dialect}
use Rattle.su_sql.specs.Changes.{create_text, insert_text, delete_text, print_text}
use Rattle.su_sql.specs.Conditions.{delete_where_text}
use Rattle.su_sql.specs.Comments.{comment_text}

-- f of the relation's number, where it is known; else the other text
abbrev pub known_or : Option ℕ → List ℕ → (ℕ → List ℕ) → List ℕ
known_or None other f = other
known_or (Some r) other f = f r

-- what is written for an accepted statement, to which this is replied
abbrev pub accepted_text : Dialect → SchemaValue → Statement → List ℕ → List ℕ
accepted_text d schema (Insert name row) said = known_or (place_of (relation_names schema) name) (comment_text said) (λ r. insert_text d schema r row)
accepted_text d schema (Delete name row) said = known_or (place_of (relation_names schema) name) (comment_text said) (λ r. delete_text d schema r row)
accepted_text d schema (DeleteWhere name cond) said = known_or (place_of (relation_names schema) name) (comment_text said) (λ r. delete_where_text d schema r cond)
accepted_text d schema (Print name) said = known_or (place_of (relation_names schema) name) (comment_text said) (λ r. print_text d schema r)
accepted_text d schema st said = comment_text said

-- a definition adds a relation, or nothing that an engine knows of
abbrev pub defined_text : Dialect → SchemaValue → SchemaValue → List ℕ → List ℕ
defined_text d old new said = if nat_lt (length old.relations) (length new.relations) then create_text d new (length old.relations) else comment_text said
