-- The verdict on the bytes of a certificate: yes, or the first term at fault, and within it form, then fold, then trees.
-- fault: the form of a certificate, or a term and its form, fold or a row's tree; good: all three are
use Rattle.std.specs.Prelude.{◌≡◌, ◌<◌, ℕ, List, length, get_or, slice_get, Some, All}
use Rattle.su_tableau.specs.Kinds.{Kinds}
use Rattle.su_check.specs.declared.certificates.Certificate.{Certificate}
use Rattle.su_check.specs.declared.certificates.StatedTerm.{StatedTerm}
use Rattle.su_check.specs.declared.certificates.RowTree.{RowTree}
use Rattle.su_check.specs.declared.verdicts.Checked.{Checked}
use Rattle.su_check.specs.declared.verdicts.Checked.TheVariants.{Yes, No}
use Rattle.su_check.specs.declared.verdicts.Fault.{Fault}
use Rattle.su_check.specs.declared.verdicts.Fault.TheVariants.{Syntax, Form, Fold, Tree}
use Rattle.su_check.specs.Grammar.{Reads}
use Rattle.su_check.specs.Certificate.{tableau_of, IsGoodForm, IsGoodFold, IsGoodTree, IsGood}
use Rattle.su_check.specs.LeastParts.{IsLeastListed}

-- the tree of the first kept row that has no good one is at fault, or else the first one that is too many
pub data IsTreeFault (x : StatedTerm) (row : ℕ) : Type 0 where
  not_good : (k : ℕ) → k < length x.kept → row ≡ get_or x.kept k 0 → ((j : ℕ) → j < k → IsGoodTree x j) → (IsGoodTree x k → ⊥) → IsTreeFault x row
  surplus : ((j : ℕ) → j < length x.kept → IsGoodTree x j) → (tree : RowTree) → slice_get x.trees (length x.kept) ≡ Some tree → row ≡ tree.row → IsTreeFault x row

-- this is at fault in the term at place i
abbrev pub IsTermFault : Kinds → ℕ → StatedTerm → Fault → Type 0
IsTermFault kinds i x Syntax = ⊥
IsTermFault kinds i x (Form j) = (j ≡ i) × (IsGoodForm kinds i x → ⊥)
IsTermFault kinds i x (Fold j) = (j ≡ i) × IsGoodForm kinds i x × (IsGoodFold x → ⊥)
IsTermFault kinds i x (Tree j row) = (j ≡ i) × IsGoodForm kinds i x × IsGoodFold x × IsTreeFault x row

-- the first n terms are good
abbrev pub AreGood : Kinds → List StatedTerm → ℕ → Type 0
AreGood kinds terms n = (i : ℕ) (x : StatedTerm) → i < n → slice_get terms i ≡ Some x → IsGood kinds i x

-- the first term that is not good, and what is at fault in it
pub record IsFirstFault (kinds : Kinds) (terms : List StatedTerm) (fault : Fault) : Type 0 where
  pub place : ℕ
  pub term : StatedTerm
  pub there : slice_get terms place ≡ Some term
  pub before : AreGood kinds terms place
  pub at_fault : IsTermFault kinds place term fault

-- the verdict on terms over these kinds
abbrev pub IsVerdictOn : Kinds → List StatedTerm → Checked → Type 0
IsVerdictOn kinds terms (Yes n) = (n ≡ length terms) × AreGood kinds terms n
IsVerdictOn kinds terms (No fault) = IsFirstFault kinds terms fault

-- the verdict on bytes is that on the certificate that they spell, or else they spell none
pub data IsVerdict (bytes : List ℕ) (v : Checked) : Type 0 where
  no_certificate : ((c : Certificate) → ¬ (Reads bytes c)) → v ≡ No Syntax → IsVerdict bytes v
  on_certificate : (c : Certificate) → Reads bytes c → IsVerdictOn c.kinds c.terms v → IsVerdict bytes v

-- in each certificate that the bytes spell, of each term the part of the kept rows is least
abbrev pub AreLeast : List ℕ → Type 0
AreLeast bytes = (c : Certificate) → Reads bytes c → All (λ x. IsLeastListed c.kinds (tableau_of c.kinds x) x.kept) c.terms
