-- The list of edge k is the one that stands at its place, so the count is its length.
use Rattle.std.proofs.Common.{List, [], Some, length, sym, ap, ◌∙◌}
use Rattle.std.proofs.lemmas.Option.{get_or_from_slice_get}
use Rattle.su_base.specs.declared.values.Value.{Value}
use Rattle.su_answer.proofs.supporting.left_at.Goals as goal

pub returns-in-Some : goal.returns-in-Some
returns-in-Some c = rw c.in-Some.is (ap Some (c.len.ensures ∙ ap (λ (rows : List (List Value)). length rows) (sym (get_or_from_slice_get c.in-Some.rows c.args.k c.get.result.now [] c.get.ensures))))
