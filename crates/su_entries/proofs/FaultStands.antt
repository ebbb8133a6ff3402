-- What stands in a store after a fault.
use Rattle.std.proofs.Common.{sym, ap, ◌∙◌}
use Rattle.sqlite_trees.specs.View.{View, IsFailure, KeepsCommitted}
use Rattle.sqlite_trees.specs.declared.error.StoreError.{StoreError}
use Rattle.su_entries.specs.Reading.{MovesCursors, StandsAfterFault}

kept_moved : (old new : View) → MovesCursors old new → KeepsCommitted old new
kept_moved old new same = record {
  shape = ap (λ (v : View). v.shape) same;
  reals = ap (λ (v : View). v.reals) same;
  committed_shape = ap (λ (v : View). v.committed_shape) same;
  committed_reals = ap (λ (v : View). v.committed_reals) same;
  numbered = ap (λ (v : View). v.is_numbered) same;
  was_open = λ is. sym (ap (λ (v : View). v.is_open) same) ∙ is;
  committed = λ is. ap (λ (v : View). v.committed) same;
  marks = λ is. ap (λ (v : View). v.marks) same;
}

pub kept_then : (old now new : View) → KeepsCommitted old now → KeepsCommitted now new → KeepsCommitted old new
kept_then old now new first second = record {
  shape = second.shape ∙ first.shape;
  reals = second.reals ∙ first.reals;
  committed_shape = second.committed_shape ∙ first.committed_shape;
  committed_reals = second.committed_reals ∙ first.committed_reals;
  numbered = second.numbered ∙ first.numbered;
  was_open = λ is. first.was_open (second.was_open is);
  committed = λ is. second.committed is ∙ first.committed (second.was_open is);
  marks = λ is. second.marks is ∙ first.marks (second.was_open is);
}

-- where only cursors have moved
pub stands_moved : (old new : View) → MovesCursors old new → StandsAfterFault old new
stands_moved old new same = record { kept = kept_moved old new same; same = λ sound. same }

-- where a call has failed
pub stands_failed : (old new : View) (error : StoreError) → IsFailure old new error → StandsAfterFault old new
stands_failed old new error failed = record { kept = failed.kept; same = failed.unchanged }

-- where cursors have moved before it
pub stands_then : (old now new : View) → MovesCursors old now → StandsAfterFault now new → StandsAfterFault old new
stands_then old now new moved stands = record {
  kept = kept_then old now new (kept_moved old now moved) stands.kept;
  same = λ sound. stands.same sound ∙ ap {A = View} (λ v. record v { cursors = new.cursors }) moved;
}
