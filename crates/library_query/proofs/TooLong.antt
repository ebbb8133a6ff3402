-- Of two causes why there is no answer, the one that isn't want of memory is its length.
use Rattle.std.proofs.Common.{◌≡◌, ◌⊎◌, List, inl, inr, refl}
use Rattle.std.specs.Ordering.{nat_cmp}
use Rattle.std.specs.FinSet.{FinSet}
use Rattle.su_rel.specs.MoreThan.{AreMoreThan}
use Rattle.su_query.specs.declared.resolving.Resolved.{Resolved}
use Rattle.su_state.specs.DatabaseValue.{DatabaseValue}
use Rattle.su_answer.specs.declared.faults.AnswerFault.{AnswerFault}
use Rattle.su_answer.specs.declared.faults.AnswerFault.TheVariants.{Limit, NoMemory}
use Rattle.su_answer.specs.declared.preparing.Prepared.{Prepared}
use Rattle.su_answer.specs.Prepared.{IsPrepared}
use Rattle.su_answer.specs.Answers.{IsAnswer}
use Rattle.su_answer.specs.QueryAnswers.{IsTooLong}

pub too_long_or_memory : (db : DatabaseValue) (maximal : List (FinSet nat_cmp)) (q : Resolved) (p : Prepared) (fault : AnswerFault) → IsPrepared db.schema maximal q p → (fault ≡ Limit → AreMoreThan 1000000 (IsAnswer db p)) → (fault ≡ NoMemory) ⊎ IsTooLong db maximal q
too_long_or_memory db maximal q p Limit is many = inr (record { prepared = p; is_prepared = is; many = many refl })
too_long_or_memory db maximal q p NoMemory is many = inl refl
