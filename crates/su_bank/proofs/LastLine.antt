-- Where the last line of a text begins.
use Rattle.std.proofs.Common.{◌≡◌, ◌<◌, ◌≤◌, ◌+◌, ◌-◌, ℕ, true, false, not, List, length, get_or, ap, arith}
use Rattle.std.specs.List.{suffix_len}
use Rattle.std.proofs.lemmas.List.Sums.{suffix_len_is}
use Rattle.su_bank.specs.Lines.{is_feed}

-- no line feed stands from `start` on, and one before it unless that is the beginning
pub starts_at : (text : List ℕ) (start : ℕ) → start ≤ length text → ((k : ℕ) → start ≤ k → k < length text → is_feed (get_or text k 0) ≡ false)
    → (0 < start → is_feed (get_or text (start - 1) 0) ≡ true) → start + suffix_len (λ b. not (is_feed b)) text ≡ length text
starts_at text start within behind at =
    let last : suffix_len (λ b. not (is_feed b)) text ≡ length text - start =
    suffix_len_is (λ b. not (is_feed b)) text start 0 within (λ k from less. ap not (behind k from less)) (λ some. ap not (at some)) in
    omega (arith, last, within)
