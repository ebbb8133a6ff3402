-- There is a block for each row so far, and each is below 64.
use Rattle.std.proofs.Common.{◌≡◌, ◌<◌, ◌∷◌, ◌++◌, [], List, ℕ, length, ap, arith}
use Rattle.std.proofs.lemmas.List.{length_push}
use Rattle.std.proofs.lemmas.List.Elements.{All-push}
use Rattle.su_exec.proofs.threes.blocks_of.Goals as goal

pub loop-i-preserved : goal.loop-i-preserved
loop-i-preserved c =
    let olds : List ℕ = c.loop-i.blocks.items in
    let x = c.block_of-block.result in
    let more : length c.push.new.self.items ≡ length (olds ++ x ∷ []) = ap length c.in_ok-push.ensures.items in
    let n = length_push olds x in
    let old = c.loop-i.invariant.len in
    record {
      len = omega arith;
      below = rw c.in_ok-push.ensures.items (All-push (λ n. n < 64) olds x c.loop-i.invariant.below c.block_of-block.ensures);
    }
