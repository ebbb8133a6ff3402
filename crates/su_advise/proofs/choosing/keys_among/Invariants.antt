use Rattle.su_advise.proofs.KeyRounds.{AreKeysTo}
use Rattle.su_advise.proofs.choosing.keys_among.Given as goal

abbrev pub invariant-loop-extra : goal.invariant-loop-extra
invariant-loop-extra l = AreKeysTo l.fds l.fn.object l.fn.needed l.extras l.extra-index l.keys
