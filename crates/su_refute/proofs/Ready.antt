-- A partial list that is ready, and a row that goes to a target beside it.
use Rattle.std.proofs.Common.{◌<◌, ℕ, List, length, Contains}
use Rattle.std.proofs.lemmas.List.Elements.{All-push, All-contains}
use Rattle.su_check.specs.declared.sending.Sent.{Sent}
use Rattle.su_check.specs.SentRows.{Lines, sent_too}
use Rattle.su_check.specs.inside.Widths.{IsWithin}
use Rattle.su_check.specs.Refutations.{IsFitting}
use Rattle.su_refute.specs.inside.Positions.{IsReady}

pub ready_more : (t : Lines) (r : ℕ) (p : List Sent) (s j : ℕ) → IsReady t p → Contains t.kept s → IsFitting t r p s j → IsReady t (sent_too p s j)
ready_more t r p s j ready member fit = record {
  wide = ready.wide;
  ascending = ready.ascending;
  kept = ready.kept;
  within = All-push (IsWithin t) p (record { row = s; target = j }) ready.within (record { row = All-contains (λ k. k < length t.rows) t.kept s ready.kept member; target = All-contains (λ k. k < length t.rows) t.kept j ready.kept fit.member });
  sent = fit.sent;
}
