use Rattle.std.proofs.Common.{◌≡◌, ◌≢◌, ℕ, ◌*◌, ◌<◌, get_or}
use Rattle.std.specs.Int.{bit_at}
use Rattle.su_map.specs.inside.Targets.{IsTold}
use Rattle.su_map.proofs.tables.fill_row.Given as goal

abbrev pub invariant-loop-q : goal.invariant-loop-q
invariant-loop-q l = record {
  before : (x : ℕ) → x < l.i * 4096 → get_or l.agree x 0 ≡ get_or l.initial.agree x 0;
  filled : (q : ℕ) → q < l.q → l.i ≢ q → bit_at l.sides.mask q ≡ 1 → bit_at l.near q ≡ 1 → IsTold l.sides.from.now l.sides.to.now l.base l.i q l.agree;
}
