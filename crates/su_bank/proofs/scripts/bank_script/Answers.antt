-- The script so far is the definitions and then the inserts of the rows so far.
use Rattle.std.proofs.Common.{◌+◌, ◌++◌, ap, ◌∙◌}
use Rattle.su_bank.specs.Scripts.{bank_definitions, inserts_of}
use Rattle.su_bank.proofs.ScriptPieces.{pieces_more}
use Rattle.su_bank.proofs.scripts.bank_script.Goals as goal

pub loop-i-preserved : goal.loop-i-preserved
loop-i-preserved c =
    c.in_ok-push_inserts.ensures ∙ ap (λ s. s ++ inserts_of (c.loop-i.i + 1)) c.loop-i.invariant ∙ pieces_more inserts_of bank_definitions c.loop-i.i
