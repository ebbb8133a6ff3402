-- What the words of the command line ask for.
-- word: one of the command line, without the program's name; asked: what is asked for by the words before it
use Rattle.std.specs.Prelude.{ℕ, ◌-◌, ◌&&◌, Bool, true, false, List, [], ◌∷◌, Option, Some, None, cond, not, codes, bytes_eq, nat_eq, nat_lt, option_and_then}
use Rattle.sysu_shell.specs.declared.words.Asked.{Asked}

-- nothing is asked for
abbrev pub nothing : Asked
nothing = record { file = None; schema = None; folder = None; frames = false; workers = None }

-- no word or value stands here yet
abbrev pub once : {A : Type 0} → Option A → Asked → Option Asked
once None asked = Some asked
once (Some x) asked = None

-- the word begins with two hyphens
abbrev pub is_option : List ℕ → Bool
is_option (a ∷ b ∷ rest) = nat_eq a 45 && nat_eq b 45
is_option word = false

-- the number from 1 to 16 whose decimal this is: a digit that is no 0, or 1 and a digit up to 6
abbrev pub count_of : List ℕ → Option ℕ
count_of (d ∷ []) = cond (nat_lt 48 d && nat_lt d 58) (Some (d - 48)) None
count_of (one ∷ d ∷ []) = cond (nat_eq one 49 && (nat_lt 47 d && nat_lt d 55)) (Some (d - 38)) None
count_of digits = None

-- FILE is no empty text
abbrev pub with_file : Asked → List ℕ → Option Asked
with_file asked [] = None
with_file asked (b ∷ bytes) = once asked.file (record asked { file = Some (b ∷ bytes) })

-- frames are asked for
abbrev pub with_frames : Asked → Option Asked
with_frames asked = cond asked.frames None (Some (record asked { frames = true }))

-- the workers are told
abbrev pub with_workers : Asked → List ℕ → Option Asked
with_workers asked digits = option_and_then (λ count. once asked.workers (record asked { workers = Some count })) (count_of digits)

-- an option and its value
abbrev pub with_value : Asked → List ℕ → List ℕ → Option Asked
with_value asked option value =
    cond (bytes_eq option (codes "--schema")) (once asked.schema (record asked { schema = Some value }))
    (cond (bytes_eq option (codes "--files")) (once asked.folder (record asked { folder = Some value }))
    (cond (bytes_eq option (codes "--workers")) (with_workers asked value) None))

-- a word that stands alone: `--frames`, or FILE
abbrev pub with_word : Asked → List ℕ → Option Asked
with_word asked word = cond (bytes_eq word (codes "--frames")) (with_frames asked) (with_file asked word)

-- the other options have a value
abbrev pub takes_value : List ℕ → Bool
takes_value word = is_option word && not (bytes_eq word (codes "--frames"))

-- what all words ask for: FILE and options, in any order and each at most once
abbrev pub asked_by : Asked → List (List ℕ) → Option Asked
asked_by asked [] = Some asked
asked_by asked (word ∷ []) = cond (takes_value word) None (with_word asked word)
asked_by asked (word ∷ value ∷ words) =
    cond (takes_value word) (option_and_then (λ next. asked_by next words) (with_value asked word value)) (option_and_then (λ next. asked_by next (value ∷ words)) (with_word asked word))
