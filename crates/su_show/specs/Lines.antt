-- Texts of lines that stand one after another, one for each item of a list.
-- line: of an item, with its line feed
use Rattle.std.specs.Prelude.{◌≡◌, ℕ, List, [], ◌∷◌, ◌++◌}

-- the text is the lines of the items, in their order, each of them one that its item may have
abbrev pub AreLines : {A : Type 0} → (A → List ℕ → Type 0) → List A → List ℕ → Type 0
AreLines P [] text = text ≡ []
AreLines P (x ∷ xs) text = (line : List ℕ) × (rest : List ℕ) × (text ≡ line ++ rest) × P x line × AreLines P xs rest
