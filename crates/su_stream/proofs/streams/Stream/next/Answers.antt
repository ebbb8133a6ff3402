-- Where none has ended all was looked at.
use Rattle.std.proofs.Common.{◌≡◌, ◌≤◌, length, arith, sym, ◌∙◌}
use Rattle.su_stream.specs.declared.fronts.Front.TheVariants.{Unknown}
use Rattle.su_stream.specs.inside.Fronts.{front_at}
use Rattle.su_stream.proofs.Fields.{unknown_all, begun_all, given_all}
use Rattle.su_stream.proofs.streams.Stream.next.Goals.{then-not-begun-via-then-not-begun, then-not-begun-via-else-not-begun+then-self-len}
use Rattle.su_stream.proofs.streams.Stream.next.Goals as goal

pub returns-then-not-begun-clause-all : goal.returns-then-not-begun-clause-all
returns-then-not-begun-clause-all c =
    let t = c.advance.new.self in
    elim c.then-not-begun.branch [
      | then-not-begun-via-then-not-begun w ↦
          let within : t.seen ≤ length t.held.items = omega (arith, t.within, t.held.ok.0) in
          let front = c.begin-begun.ensures.unknown (sym c.begin-begun.ensures.begun ∙ w.if-not-begun.true) in
          let unknown : front_at t.held.items ≡ Unknown = rw c.advance.ensures.held front in
          unknown_all t (λ less. c.advance.ensures.ended (omega (arith, less, t.held.ok.0))) within unknown
      | then-not-begun-via-else-not-begun+then-self-len w ↦
          begun_all t (c.advance.ensures.begun ∙ sym c.begin-begun.ensures.begun ∙ w.if-not-begun.false) (omega (arith, w.if-self-len.true, w.len.ensures, t.held.ok.0))
    ]

pub returns-then-not-begun-clause-ended : goal.returns-then-not-begun-clause-ended
returns-then-not-begun-clause-ended c = given_all c.advance.new.self c.advance.new.self.ordered (returns-then-not-begun-clause-all c)
