-- The verdicts of the reply to a compare are true of the queries, unless it is refused.
use Rattle.std.proofs.Common.{◌≡◌, false, refl, inl, inr}
use Rattle.su_schema.specs.Valid.{IsValid}
use Rattle.su_query.specs.declared.resolving.Resolved.{Resolved}
use Rattle.su_query.specs.declared.statements.Query.{Query as AQuery}
use Rattle.su_query.specs.declared.statements.Statement.TheVariants.{Compare}
use Rattle.su_query.specs.NumberedConditions.{resolved_of}
use Rattle.su_compare.specs.Laws.{TermsAreComparable, VerdictsDecide}
use Rattle.su_state.specs.DatabaseValue.{DatabaseValue}
use Rattle.su_session.specs.declared.replies.Reply.{Reply}
use Rattle.su_session.specs.Comparisons.{Compares}
use Rattle.su_session.specs.Laws.{ComparisonIsAnswered, ComparisonsAreAnswered}
use Rattle.su_session.proofs.Compared.{comparable}
use Rattle.su_session.proofs.ShownQueries.{told, statement_answered}

module _ (alike : TermsAreComparable) (decide : VerdictsDecide) (db new : DatabaseValue) (first second : AQuery) (reply : Reply) (valid : IsValid db.schema) where
  abbrev p : Resolved
  p = resolved_of db.schema first

  abbrev q : Resolved
  q = resolved_of db.schema second

  compared : Compares db first second reply new → reply.refused ≡ false → ComparisonIsAnswered db first second reply new
  compared (inl (why, cause, refuses)) accepted = absurd (told db new why reply refuses accepted)
  compared (inr (form, (maximal, are, inl (fault, cause, refuses)))) accepted = absurd (told db new _ reply refuses accepted)
  compared (inr (form, (maximal, are, inr (accepts_p, accepts_q, shows, same)))) accepted =
      let both = comparable alike db.schema maximal first second p q shows.first shows.second valid refl refl form (shows.first_are, accepts_p) (shows.second_are, accepts_q) in
      record {
        maximal = maximal;
        are_maximal = are;
        form = form;
        forth = shows.forth;
        back = shows.back;
        forth_true = decide db.schema maximal p q shows.first shows.second shows.forth valid shows.first_are shows.second_are both.0 shows.forth_is;
        back_true = decide db.schema maximal q p shows.second shows.first shows.back valid shows.second_are shows.first_are both.1 shows.back_is;
        text = shows.text;
        same = same;
      }

pub comparisons_answered : TermsAreComparable → VerdictsDecide → ComparisonsAreAnswered
comparisons_answered alike decide db new text file first second reply valid is replied accepted =
    compared alike decide db new first second reply valid (statement_answered db new text file (Compare first second) reply is replied accepted) accepted
