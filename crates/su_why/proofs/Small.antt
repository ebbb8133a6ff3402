-- The rows and comparisons of a term's task can be counted.
use Rattle.std.proofs.Common.{◌≡◌, ◌^◌, ◌<◌, ◌≤◌, ℕ, length, ap, ◌∙◌, arith}
use Rattle.std.specs.List.{range_with_len}
use Rattle.std.proofs.lemmas.List.{length-map}
use Rattle.std.proofs.lemmas.List.FromFn.{length-range_with_len}
use Rattle.su_tableau.specs.Tableaux.{Tab, IsValid}
use Rattle.su_schema.specs.SchemaValue.{SchemaValue}
use Rattle.su_exec.specs.declared.tasks.Task.{Task}
use Rattle.su_answer.specs.Joined.{comparison_at, IsTaskOf}
use Rattle.su_why.specs.Met.{size_of}

pub task_small : (schema : SchemaValue) (t : Tab) (m : ℕ) (task : Task) → IsTaskOf schema t m task → IsValid t → length t.head < 2 ^ 64 → length task.rows ≤ 64 → size_of task < 2 ^ 64
task_small schema t m task is valid bound few =
    let many : length task.comparisons ≡ length t.operators = ap length is.comparisons ∙ length-map (range_with_len 0 (length t.operators)) (comparison_at t) ∙ length-range_with_len 0 (length t.operators) in
    let head = valid.head_length in
    omega (arith, many, head, bound, few)
