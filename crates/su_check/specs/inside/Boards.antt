-- The variables of a term's rows with their numbers, and where each has its image.
-- fixed: a constant or a symbol of the head, which goes to itself
-- place: a pair of the partial list and a column; it gives the image of the symbol that its row has there
-- No public contract cites this module.
use Rattle.std.specs.Prelude.{◌≡◌, ◌<◌, ◌⊎◌, ◌↔◌, ℕ, Bool, true, false, Option, None, Some, List, [], length, get_or, All, Contains, MatchOption}
use Rattle.su_base.specs.Lists.{IsAscending}
use Rattle.su_tableau.specs.declared.symbols.Sym.{Sym}
use Rattle.su_tableau.specs.declared.symbols.Sym.TheVariants.{Var}
use Rattle.su_tableau.specs.Tableaux.{Occurs}
use Rattle.su_check.specs.declared.boards.Board.{Board}
use Rattle.su_check.specs.declared.sending.Sent.{Sent}
use Rattle.su_check.specs.declared.sending.StepColumn.{StepColumn}
use Rattle.su_check.specs.inside.Cells.{cell_at, is_const, IsFirstPlace}
use Rattle.su_check.specs.SentRows.{Lines, AreSent, numbered_row}
use Rattle.su_check.specs.inside.Widths.{AreWide, IsWithin}

-- stands where no row was sent
abbrev pub no_pair : Sent
no_pair = record { row = 0; target = 0 }

-- stands where no symbol has a place
abbrev pub no_place : StepColumn
no_place = record { step = 0; column = 0 }

-- a symbol that every mapping keeps: a constant, or one of the head
abbrev pub IsFixed : List Sym → Sym → Type 0
IsFixed head x = (is_const x ≡ true) ⊎ Contains head x

-- the mark of each variable tells whether the head has it
pub record AreMarks (variables : List ℕ) (head : List Sym) (marks : List Bool) : Type 0 where
  pub one_each : length marks ≡ length variables
  pub tells : (k n : ℕ) → IsFirstPlace variables k n → ((get_or marks n false ≡ true) ↔ Contains head (Var k))

-- each variable of the head is one of these
abbrev pub HasVariables : List ℕ → List Sym → Type 0
HasVariables variables head = (k : ℕ) → Contains head (Var k) → Contains variables k

-- the marks of the variables, or none where one of the head is missing
abbrev pub AreMarksIfAll : List ℕ → List Sym → Option (List Bool) → Type 0
AreMarksIfAll variables head found = MatchOption found (¬ HasVariables variables head) (λ marks. AreMarks variables head marks × HasVariables variables head)

-- a variable outside the head, by its number
pub record IsFree (head : List Sym) (variables : List ℕ) (x : Sym) (n : ℕ) : Type 0 where
  pub number : ℕ
  pub is : x ≡ Var number
  pub first : IsFirstPlace variables number n
  pub free : ¬ (Contains head x)

-- a fixed symbol has no number
abbrev pub IsNumber : List Sym → List ℕ → Sym → Option ℕ → Type 0
IsNumber head variables x None = IsFixed head x
IsNumber head variables x (Some n) = IsFree head variables x n

-- the numbers of a row's cells
pub record AreNumbers (head : List Sym) (variables : List ℕ) (row : List Sym) (numbers : List (Option ℕ)) : Type 0 where
  pub one_each : length numbers ≡ length row
  pub cells : (c : ℕ) → c < length row → IsNumber head variables (cell_at row c) (get_or numbers c None)

-- for each head with these marks, the numbers of the cells of each row
abbrev pub AreRowNumbers : List ℕ → List Bool → List (List Sym) → List (List (Option ℕ)) → Type 0
AreRowNumbers variables marks rows all = (head : List Sym) → AreMarks variables head marks → (i : ℕ) → i < length rows → AreNumbers head variables (get_or rows i []) (get_or all i [])

-- the numbers of the symbols of each row
pub record IsBoard (t : Lines) (b : Board) : Type 0 where
  pub one_each : length b.numbers ≡ length t.rows
  pub rows : (i : ℕ) → i < length t.rows → AreNumbers t.head b.variables (numbered_row t i) (get_or b.numbers i [])

-- each variable of the head stands in a row
abbrev pub HeadOccurs : Lines → Type 0
HeadOccurs t = (k : ℕ) → Contains t.head (Var k) → Occurs t.rows k

-- the board, or none where a variable of the head stands in no row
abbrev pub IsBoardIfOccurs : Lines → Option Board → Type 0
IsBoardIfOccurs t found = MatchOption found (¬ HeadOccurs t) (λ b. IsBoard t b × HeadOccurs t)

-- the place gives the symbol x the image y
pub record IsImage (t : Lines) (p : List Sent) (place : StepColumn) (x y : Sym) : Type 0 where
  pub step : place.step < length p
  pub column : place.column < length (numbered_row t (get_or p place.step no_pair).row)
  pub symbol : cell_at (numbered_row t (get_or p place.step no_pair).row) place.column ≡ x
  pub image : cell_at (numbered_row t (get_or p place.step no_pair).target) place.column ≡ y

-- the place gives the symbol no image
abbrev pub HasNoImage : Lines → List Sent → StepColumn → Sym → Type 0
HasNoImage t p place x = (y : Sym) → ¬ IsImage t p place x y

-- the place of a number stays as it is where it gives a symbol an image: at one number that of x alone
abbrev pub KeepsImages : Lines → List Sent → Option ℕ → Sym → List StepColumn → List StepColumn → Type 0
KeepsImages t p number x old new = (n : ℕ) (z w : Sym) → (number ≡ Some n → z ≡ x) → IsImage t p (get_or old n no_place) z w → get_or new n no_place ≡ get_or old n no_place

-- the symbol x goes to y: a fixed one is y, another one has its image at its place
abbrev pub Sends : Lines → List Sent → List StepColumn → Sym → Sym → Option ℕ → Type 0
Sends t p places x y None = x ≡ y
Sends t p places x y (Some n) = IsImage t p (get_or places n no_place) x y

-- the symbols of the row go to those of the target
abbrev pub SendsRow : Lines → Board → List Sent → List StepColumn → ℕ → ℕ → Type 0
SendsRow t b p places s j = (c : ℕ) → c < length (numbered_row t s) → Sends t p places (cell_at (numbered_row t s) c) (cell_at (numbered_row t j) c) (get_or (get_or b.numbers s []) c None)

-- so they do for each pair of the list
abbrev pub Covers : Lines → Board → List Sent → List StepColumn → Type 0
Covers t b p places = All (λ x. SendsRow t b p places x.row x.target) p

-- places that give images stay as they are
pub record Keeps (t : Lines) (b : Board) (p : List Sent) (old new : List StepColumn) : Type 0 where
  pub one_each : length new ≡ length old
  pub stays : (n : ℕ) (x y : Sym) → IsFree t.head b.variables x n → IsImage t p (get_or old n no_place) x y → get_or new n no_place ≡ get_or old n no_place

-- what the test of a row needs: rows of one width, kept rows that ascend, a partial list of rows that go to rows under one list of symbols, and the places of their images
pub record IsReady (t : Lines) (b : Board) (p : List Sent) (places : List StepColumn) : Type 0 where
  pub wide : AreWide t.rows
  pub ascending : IsAscending t.kept
  pub kept : All (λ k. k < length t.rows) t.kept
  pub within : All (IsWithin t) p
  pub sent : AreSent t p
  pub board : IsBoard t b
  pub one_each : length places ≡ length b.variables
  pub covers : Covers t b p places
