-- The dependency and the rows of a step, as they are read.
use Rattle.std.proofs.Common.{◌≡◌, ℕ, ◌<◌, List, [], length, get_or, sym, ◌∙◌, subst}
use Rattle.std.proofs.lemmas.List.{get_or_default}
use Rattle.su_fd.specs.declared.dependencies.Fd.{Fd}
use Rattle.su_tableau.specs.declared.symbols.Sym.{Sym}
use Rattle.su_clash.specs.declared.steps.Step.{Step}
use Rattle.su_clash.specs.Derivations.{fd_of}

pub row_read : (rows : List (List Sym)) (k : ℕ) (row slice : List Sym) → k < length rows → row ≡ get_or rows k row → slice ≡ row → slice ≡ get_or rows k []
row_read rows k row slice low is same = same ∙ is ∙ get_or_default rows k row [] low

module _ (fds : List Fd) (rows : List (List Sym)) (s : Step) (f : Fd) (first second : List Sym) (f_is : f ≡ fd_of fds s) (first_is : first ≡ get_or rows s.first []) (second_is : second ≡ get_or rows s.second []) (P : Fd → List Sym → List Sym → Type 0) where
  pub at_step : P f first second → P (fd_of fds s) (get_or rows s.first []) (get_or rows s.second [])
  at_step p = subst (P (fd_of fds s) (get_or rows s.first [])) second_is (subst (λ (r : List Sym). P (fd_of fds s) r second) first_is (subst (λ (g : Fd). P g first second) f_is p))

  pub from_step : P (fd_of fds s) (get_or rows s.first []) (get_or rows s.second []) → P f first second
  from_step p = subst (λ (g : Fd). P g first second) (sym f_is) (subst (λ (r : List Sym). P (fd_of fds s) r second) (sym first_is) (subst (P (fd_of fds s) (get_or rows s.first [])) (sym second_is) p))
