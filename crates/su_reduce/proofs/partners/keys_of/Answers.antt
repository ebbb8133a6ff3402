-- A key of one place is a single code, so the codes marked are the keys, and keys of more places are kept as rows.
use Rattle.std.proofs.Common.{length}
use Rattle.su_reduce.proofs.Partnered.{codes_are_keys}
use Rattle.su_reduce.proofs.partners.keys_of.Goals as goal

pub returns-then-side-eq1-clause-keys : goal.returns-then-side-eq1-clause-keys
returns-then-side-eq1-clause-keys c =
    let side = c.args.side.now in
    codes_are_keys side.rows.now.rows side.marks.now side.key.now (length side.rows.now.rows) c.in_ok-codes.codes.items c.if-side-eq1.true c.in_ok-codes.ensures
