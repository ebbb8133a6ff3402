-- What is found of four queries, one after another.
use Rattle.std.proofs.Common.{◌≡◌, ℕ, List, [], ◌++◌, refl, append_assoc, append-nil, arith}
use Rattle.std.specs.Prelude.{codes}
use Rattle.su_state.specs.DatabaseValue.{DatabaseValue}
use Rattle.su_bank.specs.Banks.{Finds, FindsAll, four_queries}

-- the lines, each at the end of a text
pub lines_of : (s t u v w k l m n : List ℕ) → t ≡ s ++ k → u ≡ t ++ l → v ≡ u ++ m → w ≡ v ++ n → w ≡ s ++ (k ++ (l ++ (m ++ (n ++ []))))
lines_of s t u v w k l m n p q r e = grind (arith, append_assoc, append-nil, p, q, r, e)

pub found_of : (old a b c new : DatabaseValue) (k l m n : List ℕ)
    → Finds old 1 (codes "retrieve (BANK) where CUST = 'C7'") k a → Finds a 2 (codes "retrieve (CUST, ADDR)") l b
    → Finds b 3 (codes "retrieve (t.CUST) where CUST = 'C7' and BANK = t.BANK") m c → Finds c 4 (codes "retrieve (ACCT, BAL) where BAL > 5000") n new
    → FindsAll old 1 four_queries (k ++ (l ++ (m ++ (n ++ [])))) new
found_of old a b c new k l m n first second third fourth =
    (k, a, l ++ (m ++ (n ++ [])), first, (l, b, m ++ (n ++ []), second, (m, c, n ++ [], third, (n, new, [], fourth, (refl, refl), refl), refl), refl), refl)
