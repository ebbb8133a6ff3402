-- Choices of a target for each row, that a net allows.
-- choice: for each row of a set a target in its domain, each two of which agree; domain: a set of targets for each row
-- No public contract cites this module.
use Rattle.std.specs.Prelude.{◌≡◌, ◌≢◌, ℕ, ◌<◌, ◌⊎◌, Bool, true, List, get_or, length, map}
use Rattle.su_map.specs.Lists.{numbers_of}
use Rattle.su_base.specs.Numbers.{count_below}
use Rattle.su_map.specs.Candidates.{sum_of_products}
use Rattle.std.specs.Int.{bit_at}
use Rattle.su_map.specs.inside.Netted.{Netted, base_of, near_of, agree_of}

-- a is less at the first place where they differ
pub record IsBefore (a b : List ℕ) : Type 0 where
  pub place : ℕ
  pub in_both : (place < length a) × (place < length b)
  pub same : (i : ℕ) → i < place → get_or a i 0 ≡ get_or b i 0
  pub less : get_or a place 0 < get_or b place 0

-- target p of row r and target j of row q agree
abbrev pub AreFit : Netted → ℕ → ℕ → ℕ → ℕ → Type 0
AreFit net r q p j = r ≢ q → bit_at (near_of net r) q ≡ 1 → bit_at (agree_of net r q p) j ≡ 1

-- of the n rows, each in m has a target in its domain, and each two agree
pub record IsChoice (net : Netted) (n m : ℕ) (domains : List ℕ) (choice : ℕ → ℕ) : Type 0 where
  pub within : (r : ℕ) → r < n → bit_at m r ≡ 1 → bit_at (get_or domains r 0) (choice r) ≡ 1
  pub fit : (r q : ℕ) → r < n → q < n → bit_at m r ≡ 1 → bit_at m q ≡ 1 → AreFit net r q (choice r) (choice q)

-- two choices are one on the rows in m
abbrev pub AreSame : ℕ → ℕ → (ℕ → ℕ) → (ℕ → ℕ) → Type 0
AreSame n m a b = (r : ℕ) → r < n → bit_at m r ≡ 1 → a r ≡ b r

-- a is less at the first row in m where they differ
pub record IsLess (n m : ℕ) (a b : ℕ → ℕ) : Type 0 where
  pub row : ℕ
  pub row_in : row < n
  pub in_set : bit_at m row ≡ 1
  pub same : AreSame row m a b
  pub less : a row < b row

-- the target that the list gives row r
abbrev pub choice_of : List ℕ → ℕ → ℕ
choice_of list r = get_or list r 0

-- of the n domains none has a target that it didn't have
abbrev pub Shrinks : ℕ → List ℕ → List ℕ → Type 0
Shrinks n old new = (q x : ℕ) → q < n → bit_at (get_or new q 0) x ≡ 1 → bit_at (get_or old q 0) x ≡ 1

-- how a search stands: of the rows in m those in todo have no target yet, and the others have what the choice says
pub record Stands (net : Netted) (n m todo : ℕ) (domains : List ℕ) (choice : ℕ → ℕ) : Type 0 where
  pub todo_in : (r : ℕ) → bit_at todo r ≡ 1 → (r < n) × (bit_at m r ≡ 1)
  pub chosen : (r : ℕ) → r < n → bit_at m r ≡ 1 → bit_at todo r ≡ 0 → bit_at (get_or domains r 0) (choice r) ≡ 1
  pub only : (r x : ℕ) → r < n → bit_at m r ≡ 1 → bit_at todo r ≡ 0 → bit_at (get_or domains r 0) x ≡ 1 → x ≡ choice r
  pub fits : (r q x : ℕ) → r < n → q < n → bit_at m r ≡ 1 → bit_at m q ≡ 1 → bit_at todo r ≡ 0 → bit_at (get_or domains q 0) x ≡ 1 → AreFit net r q (choice r) x

-- the rows that have a target stand before those that have none yet
abbrev pub IsInOrder : ℕ → ℕ → ℕ → Type 0
IsInOrder n m todo = (r q : ℕ) → r < n → bit_at m r ≡ 1 → bit_at todo r ≡ 0 → bit_at todo q ≡ 1 → r < q

-- the rows that had a target have the same
abbrev pub AreKept : ℕ → ℕ → ℕ → (ℕ → ℕ) → (ℕ → ℕ) → Type 0
AreKept n m todo old new = (r : ℕ) → r < n → bit_at m r ≡ 1 → bit_at todo r ≡ 0 → new r ≡ old r

-- the sum of the products of the numbers of targets that pass, over the rows in the set
abbrev pub tries : (ℕ → ℕ → Bool) → ℕ → ℕ → ℕ → ℕ
tries passes targets n todo = sum_of_products (map (λ r. count_below (passes r) targets) (numbers_of todo n))

-- each target in the domain of a row in m passes
abbrev pub ArePassed : List ℕ → ℕ → ℕ → (ℕ → ℕ → Bool) → Type 0
ArePassed domains n m passes = (r x : ℕ) → r < n → bit_at m r ≡ 1 → bit_at (get_or domains r 0) x ≡ 1 → passes r x ≡ true

-- each target in k to which a row in m goes by itself passes
abbrev pub ArePassedInto : Netted → ℕ → ℕ → ℕ → (ℕ → ℕ → Bool) → Type 0
ArePassedInto net n m k passes = (r x : ℕ) → r < n → bit_at m r ≡ 1 → bit_at (base_of net r) x ≡ 1 → bit_at k x ≡ 1 → passes r x ≡ true

-- of the n rows, each in m has a target in k to which it goes by itself, and each two agree
pub record IsChoiceInto (net : Netted) (n m k : ℕ) (choice : ℕ → ℕ) : Type 0 where
  pub within : (r : ℕ) → r < n → bit_at m r ≡ 1 → (bit_at (base_of net r) (choice r) ≡ 1) × (bit_at k (choice r) ≡ 1)
  pub fit : (r q : ℕ) → r < n → q < n → bit_at m r ≡ 1 → bit_at m q ≡ 1 → AreFit net r q (choice r) (choice q)

-- the list has the targets of such a choice, in order
pub record IsFound (net : Netted) (n m k : ℕ) (list : List ℕ) : Type 0 where
  pub choice : ℕ → ℕ
  pub is_choice : IsChoiceInto net n m k choice
  pub listed : list ≡ map choice (numbers_of m n)

-- the list is that of each other choice, or before it
abbrev pub IsFirstOf : Netted → ℕ → ℕ → ℕ → List ℕ → Type 0
IsFirstOf net n m k list = (other : ℕ → ℕ) → IsChoiceInto net n m k other → (map other (numbers_of m n) ≡ list) ⊎ IsBefore list (map other (numbers_of m n))

-- the domains where the row goes to the target: what the other rows in m that share a variable with it have left agrees with the target, none that had a target has none, and no choice that sends the row there is lost
pub record IsAssigned (net : Netted) (n m row target : ℕ) (old new : List ℕ) : Type 0 where
  pub shrinks : Shrinks n old new
  pub only : (x : ℕ) → bit_at (get_or new row 0) x ≡ 1 → x ≡ target
  pub fits : (q x : ℕ) → row ≢ q → bit_at m q ≡ 1 → bit_at (near_of net row) q ≡ 1 → bit_at (get_or new q 0) x ≡ 1 → bit_at (agree_of net row q target) x ≡ 1
  pub alive : (q : ℕ) → 0 < get_or old q 0 → 0 < get_or new q 0
  pub all : (choice : ℕ → ℕ) → IsChoice net n m old choice → choice row ≡ target → IsChoice net n m new choice
