-- Rows in buckets by their hashes.
-- place: the number of a cell in a row; bucket: the rows whose hashes at some places leave the same rest
-- chain: for each row of a bucket the number after the row before it in the bucket, 0 where there is none
use Rattle.std.specs.Prelude.{ℕ, zero, suc, ◌+◌, ◌*◌, ◌%◌, Bool, cond, nat_eq, true, ◌≡◌, ◌<◌, List, [], get_or, length}
use Rattle.std.specs.List.{fold}
use Rattle.su_reduce.specs.Sheets.{pick}

-- one step of the hash, modulo 2^64
abbrev pub hash_step : ℕ → ℕ → ℕ
hash_step h x = (h * 11400714819323198485 % 18446744073709551616 + x) % 18446744073709551616

-- the hash of a row
abbrev pub hash_of : List ℕ → ℕ
hash_of xs = fold hash_step 0 xs

-- whether row j is in bucket h of n
abbrev pub in_bucket : List (List ℕ) → List ℕ → ℕ → ℕ → ℕ → Bool
in_bucket rows places n h j = nat_eq (hash_of (pick places (get_or rows j [])) % n) h

-- the number after the last one below n that passes, or 0
abbrev pub last : (ℕ → Bool) → ℕ → ℕ
last p zero = 0
last p (suc n) = cond (p n) (suc n) (last p n)

-- each number of a row after its next one in bucket h of n
abbrev pub IsChain : List (List ℕ) → List ℕ → ℕ → ℕ → List ℕ → Type 0
IsChain rows places n h next = (j : ℕ) → j < length rows → in_bucket rows places n h j ≡ true → get_or next j 0 ≡ last (in_bucket rows places n h) j

-- so in each bucket of n
abbrev pub AreChains : List (List ℕ) → List ℕ → ℕ → List ℕ → Type 0
AreChains rows places n next = (h : ℕ) → IsChain rows places n h next

-- for each bucket the number after its last row
abbrev pub AreHeads : List (List ℕ) → List ℕ → List ℕ → Type 0
AreHeads rows places heads = (h : ℕ) → h < length heads → get_or heads h 0 ≡ last (in_bucket rows places (length heads) h) (length rows)
