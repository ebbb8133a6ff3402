use Rattle.std.proofs.Common.{◌≡◌, ◌<◌, List, length}
use Rattle.su_state.specs.DatabaseValue.{DatabaseValue}
use Rattle.su_stream.specs.declared.pieces.Piece.{Piece}
use Rattle.su_talk.specs.Events.{Event}
use Rattle.su_talk.specs.Keeping.{LeadFromKept}
use Rattle.su_talk.specs.inside.Turns.{IsReady, GoesOn}
use Rattle.su_talk.proofs.talking.Talk.go_on.Given as goal

abbrev pub invariant-loop-turn : goal.invariant-loop-turn
invariant-loop-turn g l = record {
  room : 0 < length l.buffer.items;
  files : g.C.Company.files l.company ≡ g.C.Company.files l.fn.company;
  leads : LeadFromKept (g.C.Company.keeps l.company) l.self.group.changes l.self.session;
  manner : l.self.manner ≡ l.fn.self.manner;
  goes : (first : DatabaseValue) (events : List Event) (pieces : List Piece) → IsReady (g.C.Company.files l.fn.company) first events pieces l.fn.self
      → GoesOn (g.C.Company.files l.fn.company) first events l.self (g.C.Company.events l.fn.company) (g.C.Company.events l.company);
}
