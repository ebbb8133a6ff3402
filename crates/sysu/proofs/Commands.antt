-- How a run, a check or the making of a bank ends, by its words.
use Rattle.std.proofs.Common.{◌≡◌, ◌∙◌, ℕ, List, [], ◌∷◌, Option, Some, None, get_or, sym, ap, subst, arith}
use Rattle.std.specs.Prelude.{unwrap_or}
use Rattle.std.proofs.lemmas.Option.{none-some}
use Rattle.std.proofs.lemmas.Fmt.{decimal_injective}
use Rattle.su_io.specs.declared.status.Status.{Status}
use Rattle.su_io.specs.Moments.{Moment}
use Rattle.su_io.specs.Programs.{UsageEnds}
use Rattle.sysu.specs.Checks.{CheckEnds}
use Rattle.sysu.specs.Banks.{BankEnds}
use Rattle.sysu.specs.Statuses.{Comes, RunEnds}
use Rattle.sysu.specs.Words.{Named, named, checks, Generates, usage_line}

-- no words ask for both
not_both : (words : List (List ℕ)) (names : Named) (file : List ℕ) → named words ≡ Some names → checks words ≡ Some file → ⊥
not_both [] names file run check = none-some names run
not_both (w ∷ []) names file run check = none-some names run
not_both (w ∷ f ∷ []) names file run check = none-some names run
not_both (w ∷ f ∷ g ∷ ws) names file run check = none-some file check

-- no words that ask for a bank ask for either
no_bank : (words : List (List ℕ)) (n : ℕ) → Generates words n → (named words ≡ None) × (checks words ≡ None)
no_bank words n (least, most, are) = (ap named are, ap checks are)

-- and they tell one number
same_number : (words : List (List ℕ)) (n other : ℕ) → Generates words n → Generates words other → n ≡ other
same_number words n other (least, most, are) (one, few, also) =
    decimal_injective n other (omega (arith, most)) (omega (arith, few)) (ap (λ (ws : List (List ℕ)). get_or ws 1 []) (sym are ∙ also))

-- the words name these files, and the run on them ends so
pub run_is : (words : List (List ℕ)) (names : Named) (old new : Moment) (status : Status) → named words ≡ Some names → RunEnds names old new status → Comes words old new status
run_is words names old new status known ends = record {
  usage = λ none no_check no_number. absurd (none-some names (sym none ∙ known));
  ran = λ others same. rw (← ap (λ (o : Option Named). unwrap_or o names) (sym known ∙ same)) ends;
  checked = λ file same. absurd (not_both words names file known same);
  generated = λ n asked. absurd (none-some names (sym (no_bank words n asked).0 ∙ known));
}

-- the words name this certificate, and its check ends so
pub check_is : (words : List (List ℕ)) (file : List ℕ) (old new : Moment) (status : Status) → checks words ≡ Some file → CheckEnds file old new status → Comes words old new status
check_is words file old new status known ends = record {
  usage = λ none no_check no_number. absurd (none-some file (sym no_check ∙ known));
  ran = λ names same. absurd (not_both words names file same known);
  checked = λ other same. rw (← ap (λ (o : Option (List ℕ)). unwrap_or o file) (sym known ∙ same)) ends;
  generated = λ n asked. absurd (none-some file (sym (no_bank words n asked).1 ∙ known));
}

-- the words ask for a bank of n rows, and its making ends so
pub generate_is : (words : List (List ℕ)) (n : ℕ) (old new : Moment) (status : Status) → Generates words n → BankEnds n old new status → Comes words old new status
generate_is words n old new status asked ends = record {
  usage = λ none no_check no_number. absurd (no_number n asked);
  ran = λ names same. absurd (none-some names (sym (no_bank words n asked).0 ∙ same));
  checked = λ file same. absurd (none-some file (sym (no_bank words n asked).1 ∙ same));
  generated = λ other also. subst (λ (k : ℕ). BankEnds k old new status) (same_number words n other asked also) ends;
}

-- the words ask for nothing, and the usage line ends so
pub usage_is : (words : List (List ℕ)) (old new : Moment) (status : Status) → named words ≡ None → checks words ≡ None → ((n : ℕ) → ¬ Generates words n)
    → UsageEnds usage_line old new status → Comes words old new status
usage_is words old new status no_run no_check no_number ends = record {
  usage = λ _ _ _. ends;
  ran = λ names same. absurd (none-some names (sym no_run ∙ same));
  checked = λ file same. absurd (none-some file (sym no_check ∙ same));
  generated = λ n asked. absurd (no_number n asked);
}
