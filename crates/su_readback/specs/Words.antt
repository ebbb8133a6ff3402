-- Texts made of lines of words.
-- closed: without a blank (32) or a line feed (10) outside quotes (39), and with quotes in pairs
use Rattle.std.specs.Prelude.{◌≡◌, ℕ, ◌==◌, ◌&&◌, ◌||◌, not, if◌then◌else◌, Bool, true, false, List, [], ◌∷◌, flat_map, map}
use Rattle.std.specs.List.{list_all}
use Rattle.su_explained.specs.Pieces.{cut_of, line_text}
use Rattle.su_explained.specs.TextLines.{is_whole_cut}

-- the bytes are closed, where a quote may be open before them
abbrev pub is_closed : Bool → List ℕ → Bool
is_closed quoted [] = not quoted
is_closed quoted (b ∷ bs) = (quoted || not (b == 10 || b == 32)) && is_closed (if b == 39 then not quoted else quoted) bs

-- closed words, one at least
abbrev pub are_closed : List (List ℕ) → Bool
are_closed [] = false
are_closed (w ∷ ws) = is_closed false w && list_all (is_closed false) ws

-- lines of words, one behind the other
abbrev pub lines_text : List (List (List ℕ)) → List ℕ
lines_text lines = flat_map line_text lines

-- a text of lines of closed words is cut into these, and into nothing else
abbrev pub TextsAreCut : Type 0
TextsAreCut =
    (lines : List (List (List ℕ))) → list_all are_closed lines ≡ true → (map (λ p. p.words) (cut_of (lines_text lines)).pieces ≡ lines) × (is_whole_cut (cut_of (lines_text lines)) ≡ true)
