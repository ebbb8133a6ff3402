-- The tables so far are the empty ones of the relations so far, and tables without rows keep every dependency.
use Rattle.std.proofs.Common.{◌≡◌, ◌+◌, ◌++◌, ◌∷◌, [], ℕ, take, length, sym, ap, ◌∙◌, arith}
use Rattle.std.proofs.Math.Seq.{take-length}
use lib.ListN.{length-map}
use Rattle.su_schema.specs.Entries.{relation_columns}
use Rattle.su_state.specs.DatabaseValue.{empty_tables}
use Rattle.su_state.proofs.Empty.{empty_table, empty_kept, empty_more, table_is}
use Rattle.su_state.proofs.databases.Database.new.Goals as goal

pub invariant_of-db : goal.invariant_of-db
invariant_of-db c =
    let many : length (empty_tables c.args.schema) ≡ length c.args.schema.relations = length-map (relation_columns c.args.schema) empty_table ∙ length-map c.args.schema.relations (λ r. r.columns) in
    let end : c.loop-r.r ≡ length (empty_tables c.args.schema) = omega arith in
    let all : c.loop-r.tables ≡ empty_tables c.args.schema = c.loop-r.invariant ∙ ap (λ (r : ℕ). take r (empty_tables c.args.schema)) end ∙ take-length (empty_tables c.args.schema) in
    rw (c.into_vec.ensures, all) (empty_kept c.args.schema c.keeps_its_rules.ensures)

pub loop-r-preserved : goal.loop-r-preserved
loop-r-preserved c =
    let table : c.in_ok-table.table ≡ empty_table c.columns.result.now = table_is c.in_ok-table.table c.columns.result.now c.in_ok-table.ensures.width c.in_ok-table.ensures.empty in
    let more : c.push.new.self ≡ take (c.loop-r.r + 1) (empty_tables c.args.schema) =
    c.in_ok-push.ensures.ok ∙ ap (λ ts. ts ++ c.in_ok-table.table ∷ []) c.loop-r.invariant ∙ ap (λ t. take c.loop-r.r (empty_tables c.args.schema) ++ t ∷ []) table
    ∙ sym (empty_more (relation_columns c.args.schema) c.loop-r.r c.columns.result.now c.columns.ensures.at) in
    more

pub returns-clause-empty : goal.returns-clause-empty
returns-clause-empty c =
    let many : length (empty_tables c.args.schema) ≡ length c.args.schema.relations = length-map (relation_columns c.args.schema) empty_table ∙ length-map c.args.schema.relations (λ r. r.columns) in
    let end : c.loop-r.r ≡ length (empty_tables c.args.schema) = omega arith in
    ap (λ d. d.tables) c.note_sides.ensures ∙ c.into_vec.ensures ∙ c.loop-r.invariant ∙ ap (λ (r : ℕ). take r (empty_tables c.args.schema)) end ∙ take-length (empty_tables c.args.schema)
