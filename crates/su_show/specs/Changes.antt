-- What is told of a change that was made.
-- count: how many rows were put in or taken out; records: how many rows a file has
use Rattle.std.specs.Prelude.{ℕ, List, ◌++◌, codes, decimal}

-- how many rows were put in
abbrev pub inserted_text : ℕ → List ℕ
inserted_text count = codes "inserted " ++ decimal count ++ codes "\n"

-- how many rows were taken out
abbrev pub deleted_text : ℕ → List ℕ
deleted_text count = codes "deleted " ++ decimal count ++ codes "\n"

-- how many rows of a file's were put in
abbrev pub loaded_text : ℕ → ℕ → List ℕ
loaded_text count records = codes "loaded " ++ decimal count ++ codes " of " ++ decimal records ++ codes "\n"

-- a definition was added
abbrev pub defined_text : List ℕ
defined_text = codes "defined\n"
