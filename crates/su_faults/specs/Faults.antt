-- Where a text goes wrong first, and what could have stood there.
-- whole: the symbols of a form, said by a predicate W; begins: some symbols more make it whole
-- place: the byte where the first token stands that can't stand there, or where a reading begins that is no token
use Rattle.std.specs.Prelude.{◌≡◌, ◌⊎◌, ◌↔◌, ℕ, ◌+◌, false, Option, Some, None, List, [], ◌∷◌, ◌++◌, length}
use Rattle.su_lex.specs.Blanks.{begins, is_space, begins_comment, Gap}
use Rattle.su_lex.specs.TokenForms.{IsToken}
use Rattle.su_lex.specs.Symbols.{symbol_at, Symbols}
use Rattle.su_lex.specs.declared.kinds.TokenKind.{TokenKind}
use Rattle.su_lex.specs.declared.meaning.Symbol.{Symbol}
use Rattle.su_faults.specs.declared.sorts.Sort.{Sort}
use Rattle.su_faults.specs.declared.sorts.Sort.TheVariants.{End}
use Rattle.su_faults.specs.declared.faults.Fault.{Fault}
use Rattle.su_faults.specs.Sorts.{IsOfSort}

-- the front is a token of this symbol, which the rest does not make longer
abbrev pub IsTokenFor : Symbol → List ℕ → List ℕ → Type 0
IsTokenFor x front rest = (kind : TokenKind) × IsToken kind front rest × (symbol_at kind front ≡ x)

-- the tokens of these symbols stand from the text to the rest, with gaps before, between and behind them
abbrev pub Reads : List Symbol → List ℕ → List ℕ → Type 0
Reads [] text rest = Gap text rest
Reads (x ∷ xs) text rest = (s : List ℕ) × (front : List ℕ) × (r : List ℕ) × Gap text s × (s ≡ front ++ r) × IsTokenFor x front r × Reads xs r rest

-- some symbols behind these make them whole
abbrev pub Begins : (List Symbol → Type 0) → List Symbol → Type 0
Begins W symbols = (more : List Symbol) × W (symbols ++ more)

-- behind these symbols the end may come, where they are whole, or a token of this sort, where some such goes on to what is whole
abbrev pub MayCome : (List Symbol → Type 0) → List Symbol → Sort → Type 0
MayCome W before End = W before
MayCome W before sort = (x : Symbol) × IsOfSort sort x × Begins W (before ++ x ∷ [])

-- the sort is one of the list
abbrev pub IsListed : List Sort → Sort → Type 0
IsListed [] sort = ⊥
IsListed (s ∷ ss) sort = (s ≡ sort) ⊎ IsListed ss sort

-- the text goes wrong first at this place, where these could have come
pub record IsFault (W : List Symbol → Type 0) (text : List ℕ) (fault : Fault) : Type 0 where
  pub before : List Symbol
  pub rest : List ℕ
  pub reads : Reads before text rest
  pub stands : fault.place + length rest ≡ length text
  pub no_space : begins is_space rest ≡ false
  pub no_comment : begins_comment rest ≡ false
  pub good : Begins W before
  pub ended : rest ≡ [] → ¬ (W before)
  pub wrong : (x : Symbol) (front r : List ℕ) → rest ≡ front ++ r → IsTokenFor x front r → ¬ (Begins W (before ++ x ∷ []))
  pub wanted : (sort : Sort) → IsListed fault.wanted sort ↔ MayCome W before sort

-- the text's symbols are whole
abbrev pub IsWhole : (List Symbol → Type 0) → List ℕ → Type 0
IsWhole W text = (symbols : List Symbol) × Symbols text symbols × W symbols

-- what is told of a text: nothing of a whole one, of any other one where it goes wrong
abbrev pub Tells : (List Symbol → Type 0) → List ℕ → Option Fault → Type 0
Tells W text None = IsWhole W text
Tells W text (Some fault) = IsFault W text fault × ¬ (IsWhole W text)
