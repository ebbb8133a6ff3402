-- What is known of a text that is still open, whatever comes behind it.
-- tail: the part at its end that isn't whole; more: what comes behind it; end: of a piece, before a `;` or at the end of the file
-- No public contract cites this module.
use Rattle.std.specs.Prelude.{◌≡◌, ℕ, Bool, true, false, not, ◌==◌, List, [], ◌∷◌, ◌++◌}
use Rattle.std.specs.List.{list_all}
use Rattle.su_lex.specs.Blanks.{begins, Gap}
use Rattle.su_lex.specs.Pieces.{has_no_quote, Parts}
use Rattle.su_stream.specs.declared.states.Mode.{Mode}
use Rattle.su_stream.specs.declared.states.Mode.TheVariants.{Plain, Dash, Quoted, Comment}
use Rattle.su_stream.specs.declared.states.State.{State}

-- no byte ends a line
abbrev pub has_no_feed : List ℕ → Bool
has_no_feed = list_all (λ b. not (b == 10))

-- the part that isn't whole
abbrev pub IsTail : Mode → List ℕ → Type 0
IsTail Plain tail = tail ≡ []
IsTail Dash tail = tail ≡ 45 ∷ []
IsTail Quoted tail = (content : List ℕ) × (tail ≡ 39 ∷ content) × (has_no_quote content ≡ true)
IsTail Comment tail = (line : List ℕ) × (tail ≡ 45 ∷ 45 ∷ line) × (has_no_feed line ≡ true)

-- neither a byte of the piece nor anything else
abbrev pub Ends : List ℕ → Type 0
Ends r = begins (λ b. not (b == 59)) r ≡ false

-- before the tail stand white space and comments alone; or the piece is none of them
abbrev pub Blankness : Bool → List ℕ → List ℕ → Type 0
Blankness true text tail = (more : List ℕ) → Gap (text ++ more) (tail ++ more)
Blankness false text tail = (more r : List ℕ) → Ends r → ¬ (Gap (text ++ more) r)

-- whatever comes behind the text, it is parts up to its tail
pub record IsAt (state : State) (text : List ℕ) : Type 0 where
  pub tail : List ℕ
  pub tail_is : IsTail state.mode tail
  pub parts : (more : List ℕ) → Parts (text ++ more) (tail ++ more)
  pub blankness : Blankness state.blank text tail
