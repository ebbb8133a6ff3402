-- A tree that is read entry by entry.
use Rattle.std.proofs.Common.{◌≡◌, ◌+◌, ◌<◌, ◌≤◌, ℕ, true, List, [], ◌∷◌, ◌++◌, length, map, All, Some, slice_get, rules, refl, sym, ap, subst, ◌∙◌, arith}
use Rattle.std.proofs.Math.Seq.{get_or-append_seam}
use Rattle.std.proofs.lemmas.Option.{slice_get-get_or}
use Rattle.std.proofs.lemmas.List.{append-nil, length-map, length-append, append_assoc, map_push}
use Rattle.std.proofs.lemmas.List.Elements.{All-push}
use Rattle.sqlite_disk.specs.Disk.{MoreFaults}
use Rattle.sqlite_value.specs.declared.keys.Order.{Order}
use Rattle.sqlite_value.specs.Order.{Row as Entry}
use Rattle.sqlite_trees.specs.Tree.{from_key}
use Rattle.sqlite_trees.specs.View.{View, HasCause, with_cursor}
use Rattle.sqlite_trees.specs.declared.error.StoreError.{StoreError}
use Rattle.sqlite_trees.specs.declared.error.StoreError.TheVariants.{OutOfMemory, Io, Corrupt, Full, Broken, Unstorable}
use Rattle.su_base.specs.declared.values.Value.{Value as AValue}
use Rattle.su_entries.specs.Entries.{entry_of, HoldsRow}
use Rattle.su_entries.specs.Reading.{MovesCursors, IsReadFault}
use Rattle.su_entries.specs.inside.Steps.{ReadsRow, IsAtEnd, IsStepFault, HasRead}
use Rattle.su_entries.specs.declared.faults.ReadFault.{ReadFault}
use Rattle.su_entries.specs.declared.faults.ReadFault.TheVariants.{Store, NoRow, TooMany, NoMemory}

-- a key without columns is before every entry
from_nothing : (order : Order) (entries : List Entry) → from_key order [] entries ≡ entries
from_nothing order [] = refl
from_nothing order (entry ∷ entries) = refl

some_same : {X : Type 0} (x y : List X) → Some x ≡ Some y → x ≡ y
some_same x y e = search (e)

begun_empty : (order : Order) (entries : List Entry) (start now : View) → now ≡ with_cursor start 0 (from_key order [] entries) → HasRead entries start now []
begun_empty order entries start now e = record {
  left = entries;
  parts = refl;
  cursor = ap (λ v. v.cursors 0) e ∙ ap Some (from_nothing order entries);
  held = search rules;
  same = e ∙ ap (λ cursors. record start { cursors = cursors }) (sym (ap (λ v. v.cursors) e));
}

pub begun : (order : Order) (entries : List Entry) (start now : View) (key : Entry) (rows : List (List AValue)) → key ≡ [] → rows ≡ [] → now ≡ with_cursor start 0 (from_key order key entries)
    → HasRead entries start now rows
begun order entries start now key rows blank none e =
    subst (HasRead entries start now) (sym none) (begun_empty order entries start now (e ∙ ap (λ k. with_cursor start 0 (from_key order k entries)) blank))

pub one_longer : (now after : View) (rows more : List (List AValue)) (n : ℕ) → ReadsRow now after rows more → length rows ≡ n → length more ≡ n + 1
one_longer now after rows more n step is = ap length step.put ∙ length-append rows (step.row ∷ []) ∙ ap (λ k. k + 1) is

moved_on : (start now after : View) → MovesCursors start now → MovesCursors now after → MovesCursors start after
moved_on start now after before step = step ∙ ap {A = View} (λ v. record v { cursors = after.cursors }) before

pub read_on : (entries : List Entry) (start now after : View) (rows more : List (List AValue)) → HasRead entries start now rows → ReadsRow now after rows more → HasRead entries start after more
read_on entries start now after rows more had step =
    let rest = some_same _ _ (sym had.cursor ∙ step.given) in
    record {
      left = step.left;
      parts = had.parts ∙ ap (λ left. map entry_of rows ++ left) rest ∙ sym (append_assoc (map entry_of rows) (entry_of step.row ∷ []) step.left)
          ∙ ap (λ front. front ++ step.left) (sym (map_push entry_of rows step.row)) ∙ ap (λ them. map entry_of them ++ step.left) (sym step.put);
      cursor = step.taken;
      held = subst (λ them. All HoldsRow (map entry_of them)) (sym step.put)
          (subst (All HoldsRow) (sym (map_push entry_of rows step.row)) (All-push HoldsRow (map entry_of rows) (entry_of step.row) had.held step.held));
      same = moved_on start now after had.same step.same;
    }

all_read : (entries : List Entry) (start now : View) (rows : List (List AValue)) → HasRead entries start now rows → now.cursors 0 ≡ Some [] → map entry_of rows ≡ entries
all_read entries start now rows had none =
    sym (had.parts ∙ ap (λ left. map entry_of rows ++ left) (some_same _ _ (sym had.cursor ∙ none)) ∙ append-nil (map entry_of rows))

pub at_end-rows : (entries : List Entry) (start now after : View) (rows more : List (List AValue)) → HasRead entries start now rows → IsAtEnd now after rows more → map entry_of more ≡ entries
at_end-rows entries start now after rows more had end = ap (map entry_of) end.put ∙ all_read entries start now rows had end.none

pub at_end-held : (entries : List Entry) (start now after : View) (rows more : List (List AValue)) → HasRead entries start now rows → IsAtEnd now after rows more → All HoldsRow entries
at_end-held entries start now after rows more had end = subst (All HoldsRow) (all_read entries start now rows had end.none) had.held

pub at_end-same : (entries : List Entry) (start now after : View) (rows more : List (List AValue)) → HasRead entries start now rows → IsAtEnd now after rows more → MovesCursors start after
at_end-same entries start now after rows more had end = moved_on start now after had.same end.same

pub is_longer : (entries : List Entry) (start now : View) (rows : List (List AValue)) (entry : Entry) (left : List Entry) → HasRead entries start now rows → now.cursors 0 ≡ Some (entry ∷ left)
    → length rows < length entries
is_longer entries start now rows entry left had given =
    let parts = had.parts ∙ ap (λ rest. map entry_of rows ++ rest) (some_same _ _ (sym had.cursor ∙ given)) in
    let long = ap length parts ∙ length-append (map entry_of rows) (entry ∷ left) in
    let same = length-map rows entry_of in
    omega (arith, long, same)

pub cause_before : (start now : View) (a b c : ℕ) (error : StoreError) → MovesCursors start now → a ≤ b → HasCause now (MoreFaults b c) ⊥ error → HasCause start (MoreFaults a c) ⊥ error
cause_before start now a b c OutOfMemory same le cause = cause
cause_before start now a b c Io same le cause = omega (arith, le, cause)
cause_before start now a b c Corrupt same le cause = omega (arith, le, cause)
cause_before start now a b c Full same le cause = omega (arith, le, cause)
cause_before start now a b c Broken same le cause = subst (λ v. v.is_broken ≡ true) same cause
cause_before start now a b c Unstorable same le cause = cause

next_one : (front : List Entry) (entry : Entry) (left : List Entry) → slice_get (front ++ entry ∷ left) (length front) ≡ Some entry
next_one front entry left =
    let long = length-append front (entry ∷ left) in
    slice_get-get_or (front ++ entry ∷ left) (length front) entry (omega (arith, long)) ∙ ap Some (get_or-append_seam front entry left entry)

pub fault_of_all : (start now : View) (tree most a b c : ℕ) (rows : List (List AValue)) (fault : ReadFault) → HasRead (start.trees tree) start now rows → a ≤ b
    → IsStepFault now (MoreFaults b c) (length rows + 1) fault → IsReadFault start (MoreFaults a c) tree most fault
fault_of_all start now tree most a b c rows (Store error) had le cause = cause_before start now a b c error had.same le cause
fault_of_all start now tree most a b c rows (NoRow number) had le (entry, left, is, given, none) =
    let parts = had.parts ∙ ap (λ rest. map entry_of rows ++ rest) (some_same _ _ (sym had.cursor ∙ given)) in (
      entry,
      length rows,
      is,
      subst (λ es. slice_get es (length rows) ≡ Some entry) (sym parts)
          (subst (λ n. slice_get (map entry_of rows ++ entry ∷ left) n ≡ Some entry) (length-map rows entry_of) (next_one (map entry_of rows) entry left)),
      none,
    )
fault_of_all start now tree most a b c rows TooMany had le never = absurd never
fault_of_all start now tree most a b c rows NoMemory had le cause = cause
