-- What is left of a path goes up where the whole does.
use Rattle.std.specs.Path.{components_remaining}
use Rattle.sysu_shell.proofs.Upward.{goes_up_behind}
use Rattle.sysu_shell.proofs.folders.goes_up.Goals as goal

pub loop-part-preserved : goal.loop-part-preserved
loop-part-preserved c =
    let step = goes_up_behind (components_remaining c.loop-part.parts) (components_remaining c.next.new.self) c.in-Some.part c.in-Some.ensures.steps.0 c.in-Some.ensures.steps.1 c.in_default-part.not-ParentDir in
    let before = c.loop-part.invariant.left in
    record { left = (λ up. step.0 (before.0 up), λ up. before.1 (step.1 up)) }
