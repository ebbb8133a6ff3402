use Rattle.std.proofs.Common.{◌↔◌, Contains, length}
use Rattle.std.specs.Path.{components_remaining, parent_dir, path_bytes, path_components}
use Rattle.sysu_shell.proofs.folders.goes_up.Given as goal

-- what is left goes up where the whole does
abbrev pub invariant-loop-part : goal.invariant-loop-part
invariant-loop-part l = record {
  left : Contains (path_components (path_bytes l.path)) parent_dir ↔ Contains (components_remaining l.parts) parent_dir;
}

abbrev pub decreases-loop-part : goal.decreases-loop-part
decreases-loop-part l = length (components_remaining l.parts)
