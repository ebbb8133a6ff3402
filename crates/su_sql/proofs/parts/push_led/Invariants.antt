use Rattle.std.proofs.Common.{◌≡◌, ◌++◌, drop}
use denote.Text.{Utf8}
use denote.Shadow.{shadow}
use Rattle.su_sql.specs.Names.{led}
use Rattle.su_sql.proofs.parts.push_led.Given as goal

abbrev pub invariant-loop-part : goal.invariant-loop-part
invariant-loop-part l = shadow (Utf8 l.lead) × (l.out.items ++ led l.lead l.next (drop l.part-index l.parts) ≡ l.fn.out.items ++ led l.first l.next l.parts)
