-- What a row's number, a symbol and an arrow are drawn of.
-- The idea: of each kind of line look at what its words are drawn as.
use Rattle.std.proofs.Common.{◌≡◌, ◌≤◌, ℕ, Bool, true, false, cond, List, Option, Some, None, refl, ap, arith}
use Rattle.std.specs.Prelude.{◌-◌, ◌==◌, ◌&&◌, ◌||◌, not, nat_le, nat_lt}
use Rattle.std.proofs.lemmas.Bool.{eqb-true, leb-true}
use Rattle.su_explained.specs.declared.kinds.Kind.{Kind}
use Rattle.su_explained.specs.declared.kinds.Kind.TheVariants as kind
use Rattle.su_explained.specs.Checks.{is_decimal}
use Rattle.su_explained.specs.Definitions.{attribute_count_of}
use Rattle.su_draw.specs.declared.things.What.{What}
use Rattle.su_draw.specs.declared.things.What.TheVariants as what
use Rattle.su_draw.specs.Drawn.{drawn_as}
use Rattle.su_draw.specs.Terms.{is_row}
use Rattle.su_draw.specs.inside.Lay.{is_arrow}

-- which kind of thing it is, by a number; 0 for none
abbrev number_of : Option What → ℕ
number_of None = 0
number_of (Some what.Label) = 1
number_of (Some what.Row) = 2
number_of (Some what.Symbol) = 3
number_of (Some what.Fold) = 4
number_of (Some what.Source) = 5
number_of (Some what.Cover) = 6
number_of (Some what.Attribute) = 7
number_of (Some what.Object) = 8
number_of (Some what.Member) = 9
number_of (Some what.Part) = 10

-- one of the two, by the test
split : {A : Type 0} (b : Bool) (x y : Option What) (n : ℕ) → (b ≡ true → number_of x ≡ n → A) → (b ≡ false → number_of y ≡ n → A) → number_of (cond b x y) ≡ n → A
split true x y n f g e = f refl e
split false x y n f g e = g refl e

-- what is drawn as a row
row_by : (k : Kind) (n m : ℕ) (word : List ℕ) → number_of (drawn_as k n m word) ≡ 2 → (is_row k ≡ true) × (m ≡ 3)
row_by kind.Query n m word e = absurd (let f : 1 ≡ 2 = e in omega (arith, f))
row_by kind.Variables n m word e = absurd (let f : 1 ≡ 2 = e in omega (arith, f))
row_by kind.Term n m word e = absurd (let f : 1 ≡ 2 = e in omega (arith, f))
row_by kind.Row n m word e = split (m == 3) (Some what.Row) (cond (m == 4 || m == 5) (Some what.Label) (cond (nat_le 6 m) (Some what.Symbol) None)) 2 (λ b _. (refl, eqb-true m 3 b)) (λ _ g. split (m == 4 || m == 5) (Some what.Label) (cond (nat_le 6 m) (Some what.Symbol) None) 2 (λ _ e. absurd (let f : 1 ≡ 2 = e in omega (arith, f))) (λ _ h. split (nat_le 6 m) (Some what.Symbol) None 2 (λ _ e. absurd (let f : 3 ≡ 2 = e in omega (arith, f))) (λ _ e. absurd (let f : 0 ≡ 2 = e in omega (arith, f))) h) g) e
row_by kind.Head n m word e = split (nat_le 2 m) (Some what.Label) None 2 (λ _ e. absurd (let f : 1 ≡ 2 = e in omega (arith, f))) (λ _ e. absurd (let f : 0 ≡ 2 = e in omega (arith, f))) e
row_by kind.Compare n m word e = split (nat_le 2 m) (Some what.Label) None 2 (λ _ e. absurd (let f : 1 ≡ 2 = e in omega (arith, f))) (λ _ e. absurd (let f : 0 ≡ 2 = e in omega (arith, f))) e
row_by kind.Kept n m word e = absurd (let f : 0 ≡ 2 = e in omega (arith, f))
row_by kind.Fold n m word e = split (nat_lt m 3 || is_decimal (m - 3) word) None (Some what.Fold) 2 (λ _ e. absurd (let f : 0 ≡ 2 = e in omega (arith, f))) (λ _ e. absurd (let f : 4 ≡ 2 = e in omega (arith, f))) e
row_by kind.Sources n m word e = split (nat_le 4 m) (Some what.Source) None 2 (λ _ e. absurd (let f : 5 ≡ 2 = e in omega (arith, f))) (λ _ e. absurd (let f : 0 ≡ 2 = e in omega (arith, f))) e
row_by kind.Covered n m word e = split (m == 5) (Some what.Cover) (cond (nat_le 2 m) (Some what.Label) None) 2 (λ _ e. absurd (let f : 6 ≡ 2 = e in omega (arith, f))) (λ _ g. split (nat_le 2 m) (Some what.Label) None 2 (λ _ e. absurd (let f : 1 ≡ 2 = e in omega (arith, f))) (λ _ e. absurd (let f : 0 ≡ 2 = e in omega (arith, f))) g) e
row_by kind.Count n m word e = absurd (let f : 1 ≡ 2 = e in omega (arith, f))
row_by kind.Attribute n m word e = split (m == 1) (Some what.Attribute) None 2 (λ _ e. absurd (let f : 7 ≡ 2 = e in omega (arith, f))) (λ _ e. absurd (let f : 0 ≡ 2 = e in omega (arith, f))) e
row_by kind.Relation n m word e = absurd (let f : 0 ≡ 2 = e in omega (arith, f))
row_by kind.Object n m word e = split (m == 1) (Some what.Object) (cond (nat_le 2 m && nat_lt (m - 2) (attribute_count_of n)) (Some what.Member) None) 2 (λ _ e. absurd (let f : 8 ≡ 2 = e in omega (arith, f))) (λ _ g. split (nat_le 2 m && nat_lt (m - 2) (attribute_count_of n)) (Some what.Member) None 2 (λ _ e. absurd (let f : 9 ≡ 2 = e in omega (arith, f))) (λ _ e. absurd (let f : 0 ≡ 2 = e in omega (arith, f))) g) e
row_by kind.Dependency n m word e = absurd (let f : 0 ≡ 2 = e in omega (arith, f))
row_by kind.Declared n m word e = absurd (let f : 0 ≡ 2 = e in omega (arith, f))
row_by kind.Maximal n m word e = split (m == 3 || m == 4) (Some what.Label) (cond (nat_le 5 m) (Some what.Part) None) 2 (λ _ e. absurd (let f : 1 ≡ 2 = e in omega (arith, f))) (λ _ g. split (nat_le 5 m) (Some what.Part) None 2 (λ _ e. absurd (let f : 10 ≡ 2 = e in omega (arith, f))) (λ _ e. absurd (let f : 0 ≡ 2 = e in omega (arith, f))) g) e

pub row_drawn : (k : Kind) (n m : ℕ) (word : List ℕ) → drawn_as k n m word ≡ Some what.Row → (is_row k ≡ true) × (m ≡ 3)
row_drawn k n m word e = row_by k n m word (ap number_of e)

-- what is drawn as a symbol
symbol_by : (k : Kind) (n m : ℕ) (word : List ℕ) → number_of (drawn_as k n m word) ≡ 3 → (is_row k ≡ true) × (6 ≤ m)
symbol_by kind.Query n m word e = absurd (let f : 1 ≡ 3 = e in omega (arith, f))
symbol_by kind.Variables n m word e = absurd (let f : 1 ≡ 3 = e in omega (arith, f))
symbol_by kind.Term n m word e = absurd (let f : 1 ≡ 3 = e in omega (arith, f))
symbol_by kind.Row n m word e = split (m == 3) (Some what.Row) (cond (m == 4 || m == 5) (Some what.Label) (cond (nat_le 6 m) (Some what.Symbol) None)) 3 (λ _ e. absurd (let f : 2 ≡ 3 = e in omega (arith, f))) (λ _ g. split (m == 4 || m == 5) (Some what.Label) (cond (nat_le 6 m) (Some what.Symbol) None) 3 (λ _ e. absurd (let f : 1 ≡ 3 = e in omega (arith, f))) (λ _ h. split (nat_le 6 m) (Some what.Symbol) None 3 (λ b _. (refl, leb-true 6 m b)) (λ _ e. absurd (let f : 0 ≡ 3 = e in omega (arith, f))) h) g) e
symbol_by kind.Head n m word e = split (nat_le 2 m) (Some what.Label) None 3 (λ _ e. absurd (let f : 1 ≡ 3 = e in omega (arith, f))) (λ _ e. absurd (let f : 0 ≡ 3 = e in omega (arith, f))) e
symbol_by kind.Compare n m word e = split (nat_le 2 m) (Some what.Label) None 3 (λ _ e. absurd (let f : 1 ≡ 3 = e in omega (arith, f))) (λ _ e. absurd (let f : 0 ≡ 3 = e in omega (arith, f))) e
symbol_by kind.Kept n m word e = absurd (let f : 0 ≡ 3 = e in omega (arith, f))
symbol_by kind.Fold n m word e = split (nat_lt m 3 || is_decimal (m - 3) word) None (Some what.Fold) 3 (λ _ e. absurd (let f : 0 ≡ 3 = e in omega (arith, f))) (λ _ e. absurd (let f : 4 ≡ 3 = e in omega (arith, f))) e
symbol_by kind.Sources n m word e = split (nat_le 4 m) (Some what.Source) None 3 (λ _ e. absurd (let f : 5 ≡ 3 = e in omega (arith, f))) (λ _ e. absurd (let f : 0 ≡ 3 = e in omega (arith, f))) e
symbol_by kind.Covered n m word e = split (m == 5) (Some what.Cover) (cond (nat_le 2 m) (Some what.Label) None) 3 (λ _ e. absurd (let f : 6 ≡ 3 = e in omega (arith, f))) (λ _ g. split (nat_le 2 m) (Some what.Label) None 3 (λ _ e. absurd (let f : 1 ≡ 3 = e in omega (arith, f))) (λ _ e. absurd (let f : 0 ≡ 3 = e in omega (arith, f))) g) e
symbol_by kind.Count n m word e = absurd (let f : 1 ≡ 3 = e in omega (arith, f))
symbol_by kind.Attribute n m word e = split (m == 1) (Some what.Attribute) None 3 (λ _ e. absurd (let f : 7 ≡ 3 = e in omega (arith, f))) (λ _ e. absurd (let f : 0 ≡ 3 = e in omega (arith, f))) e
symbol_by kind.Relation n m word e = absurd (let f : 0 ≡ 3 = e in omega (arith, f))
symbol_by kind.Object n m word e = split (m == 1) (Some what.Object) (cond (nat_le 2 m && nat_lt (m - 2) (attribute_count_of n)) (Some what.Member) None) 3 (λ _ e. absurd (let f : 8 ≡ 3 = e in omega (arith, f))) (λ _ g. split (nat_le 2 m && nat_lt (m - 2) (attribute_count_of n)) (Some what.Member) None 3 (λ _ e. absurd (let f : 9 ≡ 3 = e in omega (arith, f))) (λ _ e. absurd (let f : 0 ≡ 3 = e in omega (arith, f))) g) e
symbol_by kind.Dependency n m word e = absurd (let f : 0 ≡ 3 = e in omega (arith, f))
symbol_by kind.Declared n m word e = absurd (let f : 0 ≡ 3 = e in omega (arith, f))
symbol_by kind.Maximal n m word e = split (m == 3 || m == 4) (Some what.Label) (cond (nat_le 5 m) (Some what.Part) None) 3 (λ _ e. absurd (let f : 1 ≡ 3 = e in omega (arith, f))) (λ _ g. split (nat_le 5 m) (Some what.Part) None 3 (λ _ e. absurd (let f : 10 ≡ 3 = e in omega (arith, f))) (λ _ e. absurd (let f : 0 ≡ 3 = e in omega (arith, f))) g) e

pub symbol_drawn : (k : Kind) (n m : ℕ) (word : List ℕ) → drawn_as k n m word ≡ Some what.Symbol → (is_row k ≡ true) × (6 ≤ m)
symbol_drawn k n m word e = symbol_by k n m word (ap number_of e)

-- what is drawn as an arrow of a fold
fold_by : (k : Kind) (n m : ℕ) (word : List ℕ) → number_of (drawn_as k n m word) ≡ 4 → is_arrow m word ≡ true
fold_by kind.Query n m word e = absurd (let f : 1 ≡ 4 = e in omega (arith, f))
fold_by kind.Variables n m word e = absurd (let f : 1 ≡ 4 = e in omega (arith, f))
fold_by kind.Term n m word e = absurd (let f : 1 ≡ 4 = e in omega (arith, f))
fold_by kind.Row n m word e = split (m == 3) (Some what.Row) (cond (m == 4 || m == 5) (Some what.Label) (cond (nat_le 6 m) (Some what.Symbol) None)) 4 (λ _ e. absurd (let f : 2 ≡ 4 = e in omega (arith, f))) (λ _ g. split (m == 4 || m == 5) (Some what.Label) (cond (nat_le 6 m) (Some what.Symbol) None) 4 (λ _ e. absurd (let f : 1 ≡ 4 = e in omega (arith, f))) (λ _ h. split (nat_le 6 m) (Some what.Symbol) None 4 (λ _ e. absurd (let f : 3 ≡ 4 = e in omega (arith, f))) (λ _ e. absurd (let f : 0 ≡ 4 = e in omega (arith, f))) h) g) e
fold_by kind.Head n m word e = split (nat_le 2 m) (Some what.Label) None 4 (λ _ e. absurd (let f : 1 ≡ 4 = e in omega (arith, f))) (λ _ e. absurd (let f : 0 ≡ 4 = e in omega (arith, f))) e
fold_by kind.Compare n m word e = split (nat_le 2 m) (Some what.Label) None 4 (λ _ e. absurd (let f : 1 ≡ 4 = e in omega (arith, f))) (λ _ e. absurd (let f : 0 ≡ 4 = e in omega (arith, f))) e
fold_by kind.Kept n m word e = absurd (let f : 0 ≡ 4 = e in omega (arith, f))
fold_by kind.Fold n m word e = split (nat_lt m 3 || is_decimal (m - 3) word) None (Some what.Fold) 4 (λ _ e. absurd (let f : 0 ≡ 4 = e in omega (arith, f))) (λ b _. ap not b) e
fold_by kind.Sources n m word e = split (nat_le 4 m) (Some what.Source) None 4 (λ _ e. absurd (let f : 5 ≡ 4 = e in omega (arith, f))) (λ _ e. absurd (let f : 0 ≡ 4 = e in omega (arith, f))) e
fold_by kind.Covered n m word e = split (m == 5) (Some what.Cover) (cond (nat_le 2 m) (Some what.Label) None) 4 (λ _ e. absurd (let f : 6 ≡ 4 = e in omega (arith, f))) (λ _ g. split (nat_le 2 m) (Some what.Label) None 4 (λ _ e. absurd (let f : 1 ≡ 4 = e in omega (arith, f))) (λ _ e. absurd (let f : 0 ≡ 4 = e in omega (arith, f))) g) e
fold_by kind.Count n m word e = absurd (let f : 1 ≡ 4 = e in omega (arith, f))
fold_by kind.Attribute n m word e = split (m == 1) (Some what.Attribute) None 4 (λ _ e. absurd (let f : 7 ≡ 4 = e in omega (arith, f))) (λ _ e. absurd (let f : 0 ≡ 4 = e in omega (arith, f))) e
fold_by kind.Relation n m word e = absurd (let f : 0 ≡ 4 = e in omega (arith, f))
fold_by kind.Object n m word e = split (m == 1) (Some what.Object) (cond (nat_le 2 m && nat_lt (m - 2) (attribute_count_of n)) (Some what.Member) None) 4 (λ _ e. absurd (let f : 8 ≡ 4 = e in omega (arith, f))) (λ _ g. split (nat_le 2 m && nat_lt (m - 2) (attribute_count_of n)) (Some what.Member) None 4 (λ _ e. absurd (let f : 9 ≡ 4 = e in omega (arith, f))) (λ _ e. absurd (let f : 0 ≡ 4 = e in omega (arith, f))) g) e
fold_by kind.Dependency n m word e = absurd (let f : 0 ≡ 4 = e in omega (arith, f))
fold_by kind.Declared n m word e = absurd (let f : 0 ≡ 4 = e in omega (arith, f))
fold_by kind.Maximal n m word e = split (m == 3 || m == 4) (Some what.Label) (cond (nat_le 5 m) (Some what.Part) None) 4 (λ _ e. absurd (let f : 1 ≡ 4 = e in omega (arith, f))) (λ _ g. split (nat_le 5 m) (Some what.Part) None 4 (λ _ e. absurd (let f : 10 ≡ 4 = e in omega (arith, f))) (λ _ e. absurd (let f : 0 ≡ 4 = e in omega (arith, f))) g) e

pub fold_drawn : (k : Kind) (n m : ℕ) (word : List ℕ) → drawn_as k n m word ≡ Some what.Fold → is_arrow m word ≡ true
fold_drawn k n m word e = fold_by k n m word (ap number_of e)
