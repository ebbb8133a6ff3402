use Rattle.std.proofs.Common.{◌≡◌, ◌++◌, take, flat_map}
use Rattle.su_clash_text.specs.Lines.{step_line}
use Rattle.su_clash_text.proofs.telling.push_steps.Given as goal

abbrev pub invariant-loop-step : goal.invariant-loop-step
invariant-loop-step l = l.out.items ≡ l.fn.out.items ++ flat_map (step_line l.db l.members) (take l.step-index l.steps)
