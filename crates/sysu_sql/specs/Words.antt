-- What the words of the command line ask for.
-- dialect: the SQL of one engine
use Rattle.std.specs.Prelude.{ℕ, List, [], ◌∷◌, Option, Some, None, cond, option_map, codes, bytes_eq}
use Rattle.su_sql.specs.declared.dialects.Dialect.{Dialect}
use Rattle.su_sql.specs.declared.dialects.Dialect.TheVariants.{Postgres, Sqlite, Spark}

-- the two files that a run reads, and for which engine it writes
pub record Named : Type 0 where
  pub schema : List ℕ
  pub script : List ℕ
  pub dialect : Dialect

-- the dialect by its word
abbrev pub dialect_named : List ℕ → Option Dialect
dialect_named word =
    cond (bytes_eq word (codes "postgres")) (Some Postgres) (cond (bytes_eq word (codes "sqlite")) (Some Sqlite) (cond (bytes_eq word (codes "spark")) (Some Spark) None))

-- what the words ask for, where they are `SCHEMA SCRIPT` or `SCHEMA SCRIPT --dialect NAME`
abbrev pub named : List (List ℕ) → Option Named
named (schema ∷ script ∷ []) = Some (record { schema = schema; script = script; dialect = Postgres })
named (schema ∷ script ∷ option ∷ name ∷ []) =
    cond (bytes_eq option (codes "--dialect")) (option_map (λ d. record { schema = schema; script = script; dialect = d }) (dialect_named name)) None
named words = None

-- what is written for words of any other form
abbrev pub usage_line : List ℕ
usage_line = codes "usage: sysu_sql SCHEMA SCRIPT [--dialect postgres|sqlite|spark]\n"
