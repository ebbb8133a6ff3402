-- The text that was looked at goes on up to where the bytes were gone over.
use Rattle.std.proofs.Common.{◌++◌, take, drop, refl, List, ℕ}
use Rattle.std.proofs.lemmas.List.{take_rest}
use Rattle.su_stream.specs.inside.OpenTexts.{IsAt}
use Rattle.su_stream.proofs.Fields.{advanced_same}
use Rattle.su_stream.proofs.streams.Stream.advance.Goals as goal

pub returns-clause-same : goal.returns-clause-same
returns-clause-same c =
    let old = c.args.self.now in
    let moves : (text : List ℕ) → IsAt old.state text → IsAt c.scan-scanned.result.state (text ++ take c.scan-scanned.result.count (drop old.seen old.held.items)) =
    rw (c.deref.ensures.value, take_rest) at c.scan-scanned.ensures.at in
    advanced_same old _ c.scan-scanned.result.count old.ordered moves refl refl refl refl refl
