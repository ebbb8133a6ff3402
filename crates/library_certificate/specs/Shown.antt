-- What the bytes of a good certificate show.
-- least: as in su_check, of all valid, well typed tableaux with a term's answers over every universal relation none has fewer rows than its kept ones
use Rattle.std.specs.Prelude.{◌≡◌, ℕ, List, length, All}
use Rattle.su_check.specs.declared.certificates.Certificate.{Certificate}
use Rattle.su_check.specs.Grammar.{Reads}
use Rattle.su_check.specs.Certificate.{tableau_of}
use Rattle.su_check.specs.LeastParts.{IsLeastListed}

-- they spell a certificate of n terms, and the kept rows of each are least
pub record Shows (bytes : List ℕ) (n : ℕ) : Type 0 where
  pub certificate : Certificate
  pub reads : Reads bytes certificate
  pub count : n ≡ length certificate.terms
  pub least : All (λ x. IsLeastListed certificate.kinds (tableau_of certificate.kinds x) x.kept) certificate.terms
