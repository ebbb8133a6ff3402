-- The positions so far are those of the rows with one of the values so far; the next value adds its own, while the room that is left allows.
use Rattle.std.proofs.Common.{◌≡◌, ◌∙◌, ◌+◌, ◌++◌, [], List, ℕ, length, get_or, ap, sym, subst, arith}
use Rattle.std.proofs.lemmas.Bool.{OnTrue_at}
use Rattle.std.proofs.lemmas.List.{length-append}
use Rattle.su_base.specs.declared.values.Value.{Value}
use Rattle.su_index.specs.Matches.{AreAdded}
use Rattle.su_index.specs.Tables.{table_at}
use Rattle.su_reduce.specs.Codes.{decode}
use Rattle.su_exec.specs.inside.Ways.{AreOfCodes, only_code}
use Rattle.su_exec.proofs.Ways.{codes_more}
use Rattle.su_exec.proofs.access.positions_of.Goals as goal

pub loop-i-preserved : goal.loop-i-preserved
loop-i-preserved g c =
    let rows : List (List Value) = (table_at (g.R.Rows.tables c.args.rows.now) c.args.table).rows in
    let i = c.loop-i.i in
    let value : Value = c.value-value.result.now in
    let before : List ℕ = c.loop-i.positions.items in
    let is : value ≡ decode c.args.codes.now (only_code (get_or c.args.values.now.rows i [])) = c.value-value.ensures ∙ ap (λ r. decode c.args.codes.now (only_code r)) c.row.ensures.is in
    let after : List ℕ = c.add_positions.new.positions.items in
    let added : AreAdded c.args.column value rows before after = OnTrue_at c.if-not-branch.false c.in_ok-add_positions.ensures.added in
    let found : List ℕ = added.found in
    let long : length after ≡ length (before ++ found) = ap length added.behind in
    let count = added.matches.count in
    let few = c.in_ok-add_positions.ensures.few.0 c.if-not-branch.false in
    record {
      few = omega (arith, long, length-append before found, count, few, c.loop-i.invariant.few, c.len.ensures, c.loop-i.positions.ok.0);
      listed = subst (AreOfCodes rows c.args.column c.args.codes.now c.args.values.now.rows (i + 1)) (sym added.behind) (codes_more rows c.args.column c.args.codes.now c.args.values.now.rows i value before found is c.loop-i.invariant.listed added.matches);
    }
