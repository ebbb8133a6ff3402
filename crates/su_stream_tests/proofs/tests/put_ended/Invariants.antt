use Rattle.std.proofs.Common.{length}
use Rattle.su_stream.specs.Coming.{open_text}
use Rattle.su_stream_tests.proofs.tests.put_ended.Given as goal

abbrev pub decreases-loop-piece : goal.decreases-loop-piece
decreases-loop-piece l = length (open_text l.stream)
