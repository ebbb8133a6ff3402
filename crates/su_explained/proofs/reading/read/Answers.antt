-- A line that can't stand there is the first one, since those before it were read; a text that ends too soon is at fault in the line behind its last.
use Rattle.std.proofs.Common.{◌≡◌, ◌&&◌, Bool, subst, false, IfErr, inl, inr}
use Rattle.su_explained.specs.Order.{may_end}
use Rattle.su_explained.specs.declared.reading.Fault.TheVariants.{Line as AtLine}
use Rattle.su_explained.proofs.Readings.{line_fault, end_fault}
use Rattle.su_explained.proofs.reading.read.Goals as goal

pub returns-in-Ok-clause-fault : goal.returns-in-Ok-clause-fault
returns-in-Ok-clause-fault c =
    let cut = c.in_ok-cut.cut in
    let P : Bool → Type 0 = λ b. IfErr c.ended.result (λ f. (f ≡ AtLine cut.number) × ((b && may_end c.in-Ok.state.last) ≡ false)) in
    end_fault c.args.text.now cut c.in_ok-cut.ensures.cut c.ended.result c.in-Ok.lines c.in-Ok.state c.in-Ok.ensures.read (subst P c.is_whole-whole.ensures c.ended.ensures.fault)

pub returns-clause-fault : goal.returns-clause-fault
returns-clause-fault c = elim c.in-Err.ensures.fault [
  | inl memory ↦ inl memory
  | inr fault ↦ inr (line_fault c.args.text.now c.in_ok-cut.cut c.in_ok-cut.ensures.cut c.in-Err.fault fault)
]
