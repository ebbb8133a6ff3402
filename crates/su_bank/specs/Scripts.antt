-- The script of the bank: its definitions, and the inserts of n rows into each relation.
-- bank: BA (bank, account), AB (account, balance) and their like, with n rows in each
use Rattle.std.specs.Prelude.{◌≡◌, ◌≤◌, ◌*◌, ◌%◌, ℕ, List, ◌++◌, codes, decimal}
use Rattle.std.specs.List.{flat_map, range_with_len}
use Rattle.su_bank.specs.declared.scripts.Cell.{Cell}
use Rattle.su_bank.specs.declared.scripts.Cell.TheVariants.{Number, Bank, Customer, Street}

-- N asks for n rows: their number in decimal, from 1 to 1,000
abbrev pub IsRowCount : List ℕ → ℕ → Type 0
IsRowCount digits n = (1 ≤ n) × (n ≤ 1000) × (digits ≡ decimal n)

-- the definitions of the bank
abbrev pub bank_definitions : List ℕ
bank_definitions = codes "attribute BANK text; attribute ACCT int; attribute CUST text; attribute BAL int; attribute LOAN int; attribute AMT int; attribute ADDR text; relation BA (BANK text, ACCT int); relation AC (ACCT int, CUST text); relation AB (ACCT int, BAL int); relation BL (BANK text, LOAN int); relation LC (LOAN int, CUST text); relation LA (LOAN int, AMT int); relation CA (CUST text, ADDR text); object BANK_ACCT (BANK, ACCT) from BA (BANK, ACCT); object ACCT_CUST (ACCT, CUST) from AC (ACCT, CUST); object ACCT_BAL (ACCT, BAL) from AB (ACCT, BAL); object BANK_LOAN (BANK, LOAN) from BL (BANK, LOAN); object LOAN_CUST (LOAN, CUST) from LC (LOAN, CUST); object LOAN_AMT (LOAN, AMT) from LA (LOAN, AMT); object CUST_ADDR (CUST, ADDR) from CA (CUST, ADDR); fd ACCT -> BANK; fd ACCT -> BAL; fd LOAN -> BANK; fd LOAN -> AMT; fd CUST -> ADDR;\n"

-- a value as it stands in the script: a number, or a letter and a number in quotes
abbrev pub shown : Cell → List ℕ
shown (Number k) = decimal k
shown (Bank k) = codes "'B" ++ decimal k ++ codes "'"
shown (Customer k) = codes "'C" ++ decimal k ++ codes "'"
shown (Street k) = codes "'S" ++ decimal k ++ codes "'"

-- the insert of a row of two values
abbrev pub insert : List ℕ → Cell → Cell → List ℕ
insert relation first second = codes "insert " ++ relation ++ codes " (" ++ shown first ++ codes ", " ++ shown second ++ codes ");\n"

-- the inserts of the i-th row of each relation
abbrev pub inserts_of : ℕ → List ℕ
inserts_of i =
    insert (codes "BA") (Bank (i % 5)) (Number i)
    ++ insert (codes "AC") (Number i) (Customer (i % 20))
    ++ insert (codes "AB") (Number i) (Number (100 * i))
    ++ insert (codes "BL") (Bank (i % 3)) (Number i)
    ++ insert (codes "LC") (Number i) (Customer (i % 30))
    ++ insert (codes "LA") (Number i) (Number (50 * i))
    ++ insert (codes "CA") (Customer (i % 40)) (Street (i % 40))

-- for each i from 1 to n
abbrev pub bank_script : ℕ → List ℕ
bank_script n = bank_definitions ++ flat_map inserts_of (range_with_len 1 n)
