-- The keys so far are those of the marked rows before this one: none at the start, and each row adds its own.
use Rattle.std.proofs.Common.{◌≡◌, ◌∙◌, ℕ, length, subst, arith, rules}
use Rattle.su_reduce.specs.inside.Partnered.{AreKeys}
use Rattle.su_reduce.proofs.Partnered.{no_keys}
use Rattle.su_reduce.proofs.partners.rows_of.Goals as goal

pub loop-i-init : goal.loop-i-init
loop-i-init c = rw c.in_ok-keys.ensures (record { width = search rules; keys = no_keys c.args.side.now.rows.now.rows c.args.side.now.marks.now c.args.side.now.key.now })

pub loop-i-preserved : goal.loop-i-preserved
loop-i-preserved c = record {
  width = c.in_ok-add_key.ensures.width ∙ c.loop-i.invariant.width;
  keys = c.in_ok-add_key.ensures.keys c.loop-i.invariant.keys;
}

pub returns-clause-keys : goal.returns-clause-keys
returns-clause-keys c =
    let side = c.args.side.now in
    let done = c.loop-i-test.false in
    let end = c.loop-i.auto in
    let len = c.len-i-end.ensures in
    let same : c.loop-i.i ≡ length side.rows.now.rows = omega arith in
    subst (λ (n : ℕ). AreKeys side.rows.now.rows side.marks.now side.key.now n c.loop-i.keys.rows) same c.loop-i.invariant.keys
