-- The edges so far say that each row that isn't left agrees with a stored row, and what was fetched is at most the shares of these rows; a row without candidates shows that no valuation agrees with the stored rows.
use Rattle.std.proofs.Common.{◌≡◌, ◌<◌, ◌≤◌, ◌+◌, List, ℕ, length, get_or, refl, sym, ap, subst, ◌∙◌, arith}
use Rattle.std.specs.Prelude.{All}
use Rattle.std.specs.List.{range_with_len, remove}
use Rattle.std.proofs.lemmas.List.Edits.{length-remove}
use Rattle.std.proofs.lemmas.Option.{get_or_from_slice_get, slice_get_within}
use Rattle.su_base.specs.declared.values.Value.{Value}
use Rattle.su_rel.specs.Stored.{Stored}
use Rattle.su_exec.specs.declared.tasks.TaskRow.{TaskRow}
use Rattle.su_exec.specs.inside.Coded.{IsCoded, IsRowEdge}
use Rattle.su_exec.specs.inside.Edges.{Edge}
use Rattle.su_exec.specs.Shares.{row_share}
use Rattle.su_exec.specs.Tasks.{HasSources}
use Rattle.su_exec.proofs.RemainingRows.{ended, none, share_start, share_step, start, step, AreSoFar}
use Rattle.su_exec.proofs.fetching.fetch_rows.Goals as goal

pub loop-alloc-init : goal.loop-alloc-init
loop-alloc-init g c =
    let tables : List Stored = g.R.Rows.tables c.args.rows.now in
    let task = c.args.task.now in
    let left = c.in_ok-left.left.items in
    let all : left ≡ range_with_len 0 (length task.rows) = c.in_ok-left.ensures ∙ ap (range_with_len 0) c.len.ensures in
    let share = share_start tables task left all in
    record {
      tables = refl;
      fetches = omega arith;
      so_far = subst (λ (es : List (Edge ℕ)). AreSoFar tables c.args.codes.now task es left) (sym c.new-edges.ensures.items) (start tables task c.args.codes.now left all);
    }

pub get-requires : goal.get-requires
get-requires g c =
    let left = c.loop-alloc.left.items in
    let p = c.next_row-p.result in
    let low : p < length left = subst (λ (xs : List ℕ). p < length xs) c.deref-in-loop-alloc.ensures.value c.next_row-p.ensures in
    let within = c.loop-alloc.invariant.so_far.within p c.remove-i.result low in
    let at : c.remove-i.result ≡ get_or left p c.remove-i.result = c.remove-i.ensures.value in
    omega arith

pub candidates_of-requires-clause-sources : goal.candidates_of-requires-clause-sources
candidates_of-requires-clause-sources g c =
    let task = c.args.task.now in
    let row : TaskRow = c.get.result.now in
    let i = c.remove-i.result in
    let old : HasSources (g.R.Rows.tables c.args.rows.now) row =
    subst (HasSources (g.R.Rows.tables c.args.rows.now)) (get_or_from_slice_get task.rows i row row c.get.ensures) (c.requires i row (slice_get_within task.rows i row c.get.ensures)) in
    subst (λ (T : List Stored). HasSources T row) (sym c.loop-alloc.invariant.tables) old

pub candidates_of-requires-clause-coded : goal.candidates_of-requires-clause-coded
candidates_of-requires-clause-coded g c = subst (λ (es : List (Edge ℕ)). All (IsCoded c.loop-alloc.codes) es) (sym c.deref-in-loop-alloc-3.ensures.value) c.loop-alloc.invariant.so_far.coded

pub returns-then-len-eq0-clause-edges : goal.returns-then-len-eq0-clause-edges
returns-then-len-eq0-clause-edges g c =
    let T : List Stored = g.R.Rows.tables c.args.rows.now in
    let task = c.args.task.now in
    let olds : List Value = c.loop-alloc.codes in
    let news : List Value = c.candidates_of.new.codes in
    let es : List (Edge ℕ) = c.loop-alloc.edges.items in
    let left = c.loop-alloc.left.items in
    let rest = c.remove-i.new.self.items in
    let p = c.next_row-p.result in
    let i = c.remove-i.result in
    let row : TaskRow = c.get.result.now in
    let edge : Edge ℕ = c.in_ok-edge.edge in
    let low : p < length left = subst (λ (xs : List ℕ). p < length xs) c.deref-in-loop-alloc.ensures.value c.next_row-p.ensures in
    let is : IsRowEdge T news es row edge =
    subst (λ (T : List Stored). IsRowEdge T news es row edge) c.loop-alloc.invariant.tables (subst (λ (es : List (Edge ℕ)). IsRowEdge (g.R.Rows.tables c.loop-alloc.rows) news es row edge) c.deref-in-loop-alloc-3.ensures.value c.in_ok-edge.ensures.edge) in
    let empty : length edge.rows ≡ 0 = sym c.len-in-loop-alloc-2.ensures ∙ c.if-len-eq0.true in
    none T task olds news es left rest p i row edge c.loop-alloc.invariant.so_far c.in_ok-edge.ensures.codes low c.remove-i.ensures.value c.remove-i.ensures.items c.get.ensures is empty

pub loop-alloc-preserved : goal.loop-alloc-preserved
loop-alloc-preserved g c =
    let T : List Stored = g.R.Rows.tables c.args.rows.now in
    let task = c.args.task.now in
    let olds : List Value = c.loop-alloc.codes in
    let news : List Value = c.candidates_of.new.codes in
    let es : List (Edge ℕ) = c.loop-alloc.edges.items in
    let left = c.loop-alloc.left.items in
    let rest = c.remove-i.new.self.items in
    let p = c.next_row-p.result in
    let i = c.remove-i.result in
    let row : TaskRow = c.get.result.now in
    let edge : Edge ℕ = c.in_ok-edge.edge in
    let low : p < length left = subst (λ (xs : List ℕ). p < length xs) c.deref-in-loop-alloc.ensures.value c.next_row-p.ensures in
    let is : IsRowEdge T news es row edge =
    subst (λ (T : List Stored). IsRowEdge T news es row edge) c.loop-alloc.invariant.tables (subst (λ (es : List (Edge ℕ)). IsRowEdge (g.R.Rows.tables c.loop-alloc.rows) news es row edge) c.deref-in-loop-alloc-3.ensures.value c.in_ok-edge.ensures.edge) in
    let cost : g.R.Rows.fetches c.candidates_of.new.rows ≤ g.R.Rows.fetches c.loop-alloc.rows + row_share T row =
    subst (λ (T : List Stored). g.R.Rows.fetches c.candidates_of.new.rows ≤ g.R.Rows.fetches c.loop-alloc.rows + row_share T row) c.loop-alloc.invariant.tables c.in_ok-edge.ensures.fetches in
    let share = share_step T task left rest p i row low c.remove-i.ensures.value c.remove-i.ensures.items c.get.ensures in
    let before = c.loop-alloc.invariant.fetches in
    record {
      tables = c.in_ok-edge.ensures.tables ∙ c.loop-alloc.invariant.tables;
      fetches = omega arith;
      so_far = rw c.in_ok-push.ensures.items (step T task olds news es left rest p i row edge c.loop-alloc.invariant.so_far c.in_ok-edge.ensures.codes low c.remove-i.ensures.value c.remove-i.ensures.items c.get.ensures is);
    }

pub loop-alloc-smaller : goal.loop-alloc-smaller
loop-alloc-smaller g c =
    let left = c.loop-alloc.left.items in
    let p = c.next_row-p.result in
    let low : p < length left = subst (λ (xs : List ℕ). p < length xs) c.deref-in-loop-alloc.ensures.value c.next_row-p.ensures in
    let fewer = length-remove left p low in
    let is : length c.remove-i.new.self.items ≡ length (remove left p) = ap length c.remove-i.ensures.items in
    omega arith

pub returns-clause-edges : goal.returns-clause-edges
returns-clause-edges g c =
    let T : List Stored = g.R.Rows.tables c.args.rows.now in
    let left = c.loop-alloc.left.items in
    let few = c.loop-alloc-test.false in
    let len : c.len-in-loop-alloc.result ≡ length left = search (c.len-in-loop-alloc.ensures) in
    ended T c.args.task.now c.loop-alloc.codes c.loop-alloc.edges.items left (omega arith) c.loop-alloc.invariant.so_far

pub returns-in_err-edge-clause-fetches : goal.returns-in_err-edge-clause-fetches
returns-in_err-edge-clause-fetches g c =
    let T : List Stored = g.R.Rows.tables c.args.rows.now in
    let task = c.args.task.now in
    let left = c.loop-alloc.left.items in
    let rest = c.remove-i.new.self.items in
    let p = c.next_row-p.result in
    let i = c.remove-i.result in
    let row : TaskRow = c.get.result.now in
    let low : p < length left = subst (λ (xs : List ℕ). p < length xs) c.deref-in-loop-alloc.ensures.value c.next_row-p.ensures in
    let cost : g.R.Rows.fetches c.candidates_of.new.rows ≤ g.R.Rows.fetches c.loop-alloc.rows + row_share T row =
    subst (λ (T : List Stored). g.R.Rows.fetches c.candidates_of.new.rows ≤ g.R.Rows.fetches c.loop-alloc.rows + row_share T row) c.loop-alloc.invariant.tables c.in_err-edge.ensures.fetches in
    let share = share_step T task left rest p i row low c.remove-i.ensures.value c.remove-i.ensures.items c.get.ensures in
    let before = c.loop-alloc.invariant.fetches in
    omega arith

pub returns-then-len-eq0-clause-fetches : goal.returns-then-len-eq0-clause-fetches
returns-then-len-eq0-clause-fetches g c =
    let T : List Stored = g.R.Rows.tables c.args.rows.now in
    let task = c.args.task.now in
    let left = c.loop-alloc.left.items in
    let rest = c.remove-i.new.self.items in
    let p = c.next_row-p.result in
    let i = c.remove-i.result in
    let row : TaskRow = c.get.result.now in
    let low : p < length left = subst (λ (xs : List ℕ). p < length xs) c.deref-in-loop-alloc.ensures.value c.next_row-p.ensures in
    let cost : g.R.Rows.fetches c.candidates_of.new.rows ≤ g.R.Rows.fetches c.loop-alloc.rows + row_share T row =
    subst (λ (T : List Stored). g.R.Rows.fetches c.candidates_of.new.rows ≤ g.R.Rows.fetches c.loop-alloc.rows + row_share T row) c.loop-alloc.invariant.tables c.in_ok-edge.ensures.fetches in
    let share = share_step T task left rest p i row low c.remove-i.ensures.value c.remove-i.ensures.items c.get.ensures in
    let before = c.loop-alloc.invariant.fetches in
    omega arith

pub returns-in_err-push-clause-fetches : goal.returns-in_err-push-clause-fetches
returns-in_err-push-clause-fetches g c =
    let T : List Stored = g.R.Rows.tables c.args.rows.now in
    let task = c.args.task.now in
    let left = c.loop-alloc.left.items in
    let rest = c.remove-i.new.self.items in
    let p = c.next_row-p.result in
    let i = c.remove-i.result in
    let row : TaskRow = c.get.result.now in
    let low : p < length left = subst (λ (xs : List ℕ). p < length xs) c.deref-in-loop-alloc.ensures.value c.next_row-p.ensures in
    let cost : g.R.Rows.fetches c.candidates_of.new.rows ≤ g.R.Rows.fetches c.loop-alloc.rows + row_share T row =
    subst (λ (T : List Stored). g.R.Rows.fetches c.candidates_of.new.rows ≤ g.R.Rows.fetches c.loop-alloc.rows + row_share T row) c.loop-alloc.invariant.tables c.in_ok-edge.ensures.fetches in
    let share = share_step T task left rest p i row low c.remove-i.ensures.value c.remove-i.ensures.items c.get.ensures in
    let before = c.loop-alloc.invariant.fetches in
    omega arith
