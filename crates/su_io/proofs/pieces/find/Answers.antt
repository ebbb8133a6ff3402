-- The files so far have other names, so the name's contents are those in the files left.
use Rattle.std.proofs.Common.{sym, ◌∙◌, arith, rules}
use Rattle.su_io.proofs.FileContents.{front}
use Rattle.su_io.proofs.pieces.find.Goals as goal

pub returns-then-eq-clause-found : goal.returns-then-eq-clause-found
returns-then-eq-clause-found c = front c.args.files.now c.loop-place.place c.args.name.now c.index-files-place.result (omega arith) c.index-files-place.is (search rules) ∙ sym c.loop-place.invariant.bytes
