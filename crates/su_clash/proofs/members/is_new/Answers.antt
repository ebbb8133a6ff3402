-- Inserting tells whether the key was there, so that it says whether these values were seen, and afterwards they are.
use Rattle.su_window.proofs.Seen.{sees}
use Rattle.su_clash.proofs.members.is_new.Goals as goal
use Rattle.su_clash.proofs.members.is_new.Goals.{in-Ok, in-Err}

pub returns : goal.returns
returns c =
    elim c.match-insert.branch [
      | in-Ok w ↦ rw w.result-is (sees c.args.seen.now c.insert.new.self c.args.values _ w.in-Ok.ensures.added w.in-Ok.ensures.keys)
      | in-Err w ↦ rw w.result-is tt
    ]
