-- The keys agree at the places so far; lists of one length that agree at every place are equal, and a place where the codes differ tells them apart.
use Rattle.std.proofs.Common.{refl, sym}
use Rattle.std.proofs.lemmas.Bool.{true≢false}
use Rattle.su_reduce.proofs.Buckets.{keys_same, keys_differ}
use Rattle.su_reduce.proofs.hashes.same_key.Goals as goal

pub returns-then-left-left_key : goal.returns-then-left-left_key
returns-then-left-left_key c = (λ e. absurd (true≢false (sym e)), λ e. absurd (keys_differ c.args.left_key.now c.args.right_key.now c.args.left.now c.args.right.now c.loop-i.i c.requires.lengths c.loop-i-test.true c.if-left-left_key.true e))

pub returns : goal.returns
returns c = (λ e. keys_same c.args.left_key.now c.args.right_key.now c.args.left.now c.args.right.now c.loop-i.i c.requires.lengths c.loop-i-test.false c.loop-i.invariant, λ e. refl)
