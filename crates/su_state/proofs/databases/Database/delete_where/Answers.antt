-- A row stays where the condition doesn't hold of it. Fewer rows still meet the dependencies, so the database stays well kept.
use Rattle.std.proofs.Common.{◌≡◌, ◌<◌, ◌-◌, length, map, not, subst, sym, ap, ◌∙◌, arith}
use Rattle.std.proofs.lemmas.List.{get_or-set_same}
use Rattle.su_where.specs.Places.{Fits}
use Rattle.su_where.specs.Truth.{truth_of}
use Rattle.su_state.specs.DatabaseValue.{DatabaseValue, table_of, rows_of, columns_of}
use Rattle.su_state.specs.Changes.{DeletesWhere}
use Rattle.su_state.proofs.Kept.{with_table, has_table, table_read}
use Rattle.su_state.proofs.RowsLeft.{fits_rows, fewer_stay, kept_staying, deletes_where}
use Rattle.su_state.proofs.databases.Database.delete_where.Goals as goal

pub marks-requires : goal.marks-requires
marks-requires c =
    let db : DatabaseValue = record { schema = c.self.inside.schema; tables = c.self.inside.tables.items } in
    let within : c.args.relation < length db.tables = has_table db c.args.self.now c.args.relation c.self.view_is c.self.invariant c.requires.relation in
    let is : c.index.result.now ≡ table_of db c.args.relation = table_read db c.args.relation c.index.result.now within c.index.ensures in
    let fits : Fits (length (columns_of db c.args.relation)) c.args.condition.now = subst (λ (d : DatabaseValue). Fits (length (columns_of d c.args.relation)) c.args.condition.now) (sym c.self.view_is) c.requires.places in
    rw c.as_slice.ensures.rows (fits_rows c.args.condition.now c.index.result.now.width (length (columns_of db c.args.relation)) c.index.result.now.rows c.as_slice.ensures.relation.width (ap (λ t. t.width) is ∙ c.self.invariant.widths c.args.relation within) fits)

pub overflow_sub-result : goal.overflow_sub-result
overflow_sub-result c =
    let db : DatabaseValue = record { schema = c.self.inside.schema; tables = c.self.inside.tables.items } in
    let within : c.args.relation < length db.tables = has_table db c.args.self.now c.args.relation c.self.view_is c.self.invariant c.requires.relation in
    let is : c.index.result.now ≡ table_of db c.args.relation = table_read db c.args.relation c.index.result.now within c.index.ensures in
    let second : c.index-2.result.now ≡ table_of db c.args.relation = table_read db c.args.relation c.index-2.result.now within c.index-2.ensures in
    let changed : c.index_mut.result.now ≡ table_of db c.args.relation = table_read db c.args.relation c.index_mut.result.now within c.index_mut.ensures.value in
    let marked : c.in_ok-kept.kept.items ≡ map (λ row. not (truth_of c.args.condition.now row)) (rows_of db c.args.relation) = c.in_ok-kept.ensures ∙ ap (map (λ row. not (truth_of c.args.condition.now row))) (c.as_slice.ensures.rows ∙ ap (λ t. t.rows) is) in
    let last : c.index-3.result.now ≡ c.keep.new.self = c.index-3.ensures ∙ get_or-set_same db.tables c.args.relation c.keep.new.self c.index-3.result.now within in
    let fewer = fewer_stay db c.args.relation c.args.condition.now c.index_mut.result.now c.keep.new.self c.as_slice-2.result.now c.self.invariant within changed c.keep.ensures.width (c.as_slice-2.ensures.value ∙ marked) c.in_ok-keep.ensures.rows in
    omega (arith, fewer, c.len.ensures, c.len-before.ensures, ap (λ t. length t.rows) last, ap (λ t. length t.rows) second)

pub invariant_of-self-2 : goal.invariant_of-self-2
invariant_of-self-2 c =
    let db : DatabaseValue = record { schema = c.self.inside.schema; tables = c.self.inside.tables.items } in
    let within : c.args.relation < length db.tables = has_table db c.args.self.now c.args.relation c.self.view_is c.self.invariant c.requires.relation in
    let is : c.index.result.now ≡ table_of db c.args.relation = table_read db c.args.relation c.index.result.now within c.index.ensures in
    let changed : c.index_mut.result.now ≡ table_of db c.args.relation = table_read db c.args.relation c.index_mut.result.now within c.index_mut.ensures.value in
    let marked : c.in_ok-kept.kept.items ≡ map (λ row. not (truth_of c.args.condition.now row)) (rows_of db c.args.relation) = c.in_ok-kept.ensures ∙ ap (map (λ row. not (truth_of c.args.condition.now row))) (c.as_slice.ensures.rows ∙ ap (λ t. t.rows) is) in
    kept_staying db c.args.relation c.args.condition.now c.index_mut.result.now c.keep.new.self c.as_slice-2.result.now c.self.invariant within changed c.keep.ensures.width (c.as_slice-2.ensures.value ∙ marked) c.in_ok-keep.ensures.rows

pub returns-clause-done : goal.returns-clause-done
returns-clause-done c =
    let db : DatabaseValue = record { schema = c.self.inside.schema; tables = c.self.inside.tables.items } in
    let within : c.args.relation < length db.tables = has_table db c.args.self.now c.args.relation c.self.view_is c.self.invariant c.requires.relation in
    let is : c.index.result.now ≡ table_of db c.args.relation = table_read db c.args.relation c.index.result.now within c.index.ensures in
    let second : c.index-2.result.now ≡ table_of db c.args.relation = table_read db c.args.relation c.index-2.result.now within c.index-2.ensures in
    let changed : c.index_mut.result.now ≡ table_of db c.args.relation = table_read db c.args.relation c.index_mut.result.now within c.index_mut.ensures.value in
    let marked : c.in_ok-kept.kept.items ≡ map (λ row. not (truth_of c.args.condition.now row)) (rows_of db c.args.relation) = c.in_ok-kept.ensures ∙ ap (map (λ row. not (truth_of c.args.condition.now row))) (c.as_slice.ensures.rows ∙ ap (λ t. t.rows) is) in
    let last : c.index-3.result.now ≡ c.keep.new.self = c.index-3.ensures ∙ get_or-set_same db.tables c.args.relation c.keep.new.self c.index-3.result.now within in
    subst (λ (d : DatabaseValue). DeletesWhere d c.args.relation c.args.condition.now (c.len-before.result - c.len.result) (with_table db c.args.relation c.keep.new.self)) c.self.view_is
    (deletes_where db c.args.relation c.args.condition.now c.index_mut.result.now c.keep.new.self c.as_slice-2.result.now c.self.invariant within changed c.keep.ensures.width (c.as_slice-2.ensures.value ∙ marked) c.in_ok-keep.ensures.rows
    c.len-before.result c.len.result (c.len-before.ensures ∙ ap (λ t. length t.rows) second) (c.len.ensures ∙ ap (λ t. length t.rows) last))
