-- The bytes that were kept stand behind those before.
use Rattle.std.proofs.Common.{◌≡◌, refl}
use Rattle.su_io.proofs.HeldPieces.{kept_over}
use Rattle.su_io.proofs.memory_sink.MemorySinkSink.write.Goals as goal

pub returns-clause-over : goal.returns-clause-over
returns-clause-over c =
    let told : c.next_call.new.self.told ≡ c.args.self.now.told = rw c.next_call.ensures.rest refl in
    let bytes : c.next_call.new.self.bytes ≡ c.args.self.now.bytes = rw c.next_call.ensures.rest refl in
    rw (← told, ← bytes) (kept_over _ c.keep-all.result _ _ _ _ c.keep-all.ensures.stored c.keep-all.ensures.all)
