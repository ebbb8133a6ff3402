-- What may stand between tokens.
-- space: a space, tab, line feed or carriage return; comment: `--` and what follows up to the next line feed or the end;
-- gap: spaces and comments, as many as there are. "From s to r": s is that, and then r.
use Rattle.std.specs.Prelude.{◌≡◌, ℕ, Bool, true, false, not, ◌&&◌, ◌||◌, ◌==◌, List, [], ◌∷◌, ◌++◌}
use Rattle.std.specs.List.{list_all}

-- whether the first byte passes
abbrev pub begins : (ℕ → Bool) → List ℕ → Bool
begins p [] = false
begins p (b ∷ bs) = p b

-- a blank, a tab, a line feed or a carriage return
abbrev pub is_space : ℕ → Bool
is_space b = b == 32 || b == 9 || b == 10 || b == 13

-- the longest run of bytes that pass: each does, and what follows begins with none
pub record IsRun (p : ℕ → Bool) (run rest : List ℕ) : Type 0 where
  pub passes : list_all p run ≡ true
  pub ends : begins p rest ≡ false

-- a comment from s to r
abbrev pub Comment : List ℕ → List ℕ → Type 0
Comment s r = (line : List ℕ) × (s ≡ 45 ∷ 45 ∷ (line ++ r)) × IsRun (λ b. not (b == 10)) line r

-- the text begins with two minus signs
abbrev pub begins_comment : List ℕ → Bool
begins_comment [] = false
begins_comment (b ∷ bs) = b == 45 && begins (λ c. c == 45) bs

-- spaces and comments from s to r
pub data Gap : List ℕ → List ℕ → Type 0 where
  none : (s r : List ℕ) → s ≡ r → Gap s r
  space : (b : ℕ) (s t r : List ℕ) → s ≡ b ∷ t → is_space b ≡ true → Gap t r → Gap s r
  comment : (s t r : List ℕ) → Comment s t → Gap t r → Gap s r
