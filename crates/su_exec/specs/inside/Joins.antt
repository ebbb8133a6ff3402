-- Joins of lists of rows, with only some columns kept.
-- key: the cells that are to be equal in both rows; out: the cells that are kept; both by place in their row, from 0
-- ls, rs: the rows on the left and on the right; r: a row of the join; t: a test of a pair of rows; most: a bound of how many there may be
-- edge: variables, and the rows of codes that they may have together; a, b, g: edges; xs, ys: the variables on the left and on the right
-- No public contract cites this module.
use Rattle.std.specs.Prelude.{◌≡◌, ℕ, ◌<◌, ◌≤◌, Bool, true, false, Option, None, Some, List, [], ◌∷◌, ◌++◌, map, length, slice_index_or, All, Contains}
use Rattle.su_base.specs.Lists.{AllDiffer}
use Rattle.su_reduce.specs.Sheets.{pick, AreBelow}
use Rattle.su_exec.specs.inside.Edges.{Edge, Fits, Reaches, Keeps, has, always}

-- where the rows of a join come from
pub record Columns : Type 0 where
  pub left_key : List ℕ
  pub right_key : List ℕ
  pub left_out : List ℕ
  pub right_out : List ℕ

-- the test of a pair of rows over these variables, as one of a valuation
abbrev pub test_at : (List ℕ → List ℕ → Bool) → List ℕ → List ℕ → (ℕ → ℕ) → Bool
test_at t xs ys v = t (map v xs) (map v ys)

-- a row of each side, with the same key, that pass the test and give the row
pub record Joined (ls rs : List (List ℕ)) (c : Columns) (t : List ℕ → List ℕ → Bool) (r : List ℕ) : Type 0 where
  pub left : ℕ
  pub right : ℕ
  pub left_in : left < length ls
  pub right_in : right < length rs
  pub keys : pick c.left_key (slice_index_or ls left []) ≡ pick c.right_key (slice_index_or rs right [])
  pub passes : t (slice_index_or ls left []) (slice_index_or rs right []) ≡ true
  pub is : pick c.left_out (slice_index_or ls left []) ++ pick c.right_out (slice_index_or rs right []) ≡ r

-- a row on the right that gives the row together with this one
pub record Gives (row : List ℕ) (rs : List (List ℕ)) (c : Columns) (t : List ℕ → List ℕ → Bool) (r : List ℕ) : Type 0 where
  pub right : ℕ
  pub right_in : right < length rs
  pub keys : pick c.left_key row ≡ pick c.right_key (slice_index_or rs right [])
  pub passes : t row (slice_index_or rs right []) ≡ true
  pub is : pick c.left_out row ++ pick c.right_out (slice_index_or rs right []) ≡ r

-- there is no bound, or the number keeps it
abbrev pub IsUpTo : Option ℕ → ℕ → Type 0
IsUpTo None n = Unit {0}
IsUpTo (Some most) n = n ≤ most

-- rows of the join: all of them, unless there are more than the bound
pub record IsJoin (ls rs : List (List ℕ)) (c : Columns) (t : List ℕ → List ℕ → Bool) (most : Option ℕ) (rows : List (List ℕ)) : Type 0 where
  pub only : (r : List ℕ) → Contains rows r → Joined ls rs c t r
  pub all : IsUpTo most (length rows) → (r : List ℕ) → Joined ls rs c t r → Contains rows r

-- each row of the edge is what some valuation gives it
abbrev pub IsReal : Edge ℕ → Type 0
IsReal e = All (λ r. (v : ℕ → ℕ) × (map v e.vars ≡ r)) e.rows

-- the columns fit two edges: they are in range, and each variable of both is in the key
pub record FitColumns (c : Columns) (xs ys : List ℕ) : Type 0 where
  pub left_key : AreBelow c.left_key (length xs)
  pub right_key : AreBelow c.right_key (length ys)
  pub left_out : AreBelow c.left_out (length xs)
  pub right_out : AreBelow c.right_out (length ys)
  pub same_key : pick c.left_key xs ≡ pick c.right_key ys
  pub shared : (k : ℕ) → has xs k ≡ true → has ys k ≡ true → has (pick c.left_key xs) k ≡ true

-- the variables of the join
abbrev pub out_vars : Columns → List ℕ → List ℕ → List ℕ
out_vars c xs ys = pick c.left_out xs ++ pick c.right_out ys

-- an edge of different rows, each given by a valuation of both that passes the test; all of these, unless there are more than the bound
pub record IsJoinOf (a b : Edge ℕ) (t : List ℕ → List ℕ → Bool) (most : Option ℕ) (g : Edge ℕ) : Type 0 where
  pub given : (v : ℕ → ℕ) → Fits v g → Reaches g.vars v (a ∷ b ∷ []) (test_at t a.vars b.vars)
  pub keeps : IsUpTo most (length g.rows) → Keeps g.vars (a ∷ b ∷ []) (test_at t a.vars b.vars) (g ∷ []) always
  pub differ : AllDiffer g.rows

-- no variable stands twice
abbrev pub IsApart : List ℕ → Type 0
IsApart [] = Unit {0}
IsApart (x ∷ xs) = (has xs x ≡ false) × IsApart xs
