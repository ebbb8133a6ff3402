-- Which targets fit, where one row more has its target.
use Rattle.std.proofs.Common.{◌≢◌, ℕ, ◌<◌, ◌↔◌, List, [], ◌∷◌, length, Contains, arith}
use Rattle.std.proofs.lemmas.List.Elements.{All-push}
use Rattle.su_base.proofs.Items.{All-append_left, All-middle}
use Rattle.su_check.specs.declared.sending.Sent.{Sent}
use Rattle.su_check.specs.inside.Agreement.{GoAlike, Goes}
use Rattle.su_check.specs.SentRows.{Lines, numbered_row, sent_too}
use Rattle.su_check.specs.inside.Widths.{AreWide}
use Rattle.su_check.specs.Refutations.{IsFitting}
use Rattle.su_refute.specs.inside.Positions.{IsReady}
use Rattle.su_check.proofs.FoldTargets.{none_sent}
use Rattle.su_check.proofs.TargetsTogether.{sent_more, sent_less, AgreesWith}

-- where no row has a target yet
pub fits_first : (t : Lines) (r q i : ℕ) → AreWide t.rows → q < length t.rows → i < length t.rows → IsFitting t r [] q i ↔ (Contains t.kept i × (i ≢ r) × Goes t.head (numbered_row t q) (numbered_row t i))
fits_first t r q i wide hq hi = (
  λ fit. (fit.member, fit.other, (sent_less t [] q i fit.sent).0),
  λ h. record { member = h.0; other = h.1; sent = sent_more t [] q i (wide q i hq hi) (none_sent t) h.2 (λ k d l. absurd (omega arith)) },
)

-- where row s has its target j too
pub fits_next : (t : Lines) (r : ℕ) (p : List Sent) (s j q i : ℕ) → IsReady t p → IsFitting t r p s j → q < length t.rows → i < length t.rows
    → (IsFitting t r p q i × GoAlike (numbered_row t s) (numbered_row t j) (numbered_row t q) (numbered_row t i)) ↔ IsFitting t r (sent_too p s j) q i
fits_next t r p s j q i ready fit hq hi =
    let wide = ready.wide q i hq hi in
    let R : Sent → Type 0 = AgreesWith t (numbered_row t q) (numbered_row t i) in
    let new : Sent = record { row = s; target = j } in (
      λ h.
          let less = sent_less t p q i h.0.sent in
          record { member = h.0.member; other = h.0.other; sent = sent_more t (sent_too p s j) q i wide fit.sent less.0 (All-push R p new less.1 h.1) },
      λ h.
          let less = sent_less t (sent_too p s j) q i h.sent in (
            record { member = h.member; other = h.other; sent = sent_more t p q i wide ready.sent less.0 (All-append_left R p (new ∷ []) less.1) },
            All-middle R p new [] less.1,
          ),
    )
