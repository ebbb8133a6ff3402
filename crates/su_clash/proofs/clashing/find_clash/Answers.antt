-- The members' rows are chased: where no two constants meet some universal relation fits, and where two meet none does and the rows have a clash.
use Rattle.std.proofs.Common.{◌≡◌, ◌∙◌, List, sym, ap, subst}
use Rattle.std.specs.Prelude.{All}
use Rattle.std.proofs.lemmas.Option.{MatchOption-at_some, MatchOption-at_none}
use Rattle.su_fd.specs.declared.dependencies.Fd.{Fd}
use Rattle.su_tableau.specs.declared.symbols.Sym.{Sym}
use Rattle.su_schema.specs.SchemaValue.{SchemaValue}
use Rattle.su_chase.specs.Chase.{IsConsistent, IsClash}
use Rattle.su_window.specs.Padded.{IsReading}
use Rattle.su_clash.specs.declared.members.Member.{Member}
use Rattle.su_clash.specs.Clash.{reading_of, rows_of_members}
use Rattle.su_clash.proofs.Pushed.{all_read}
use Rattle.su_clash.proofs.Verdict.{can_close, nothing_fits, some_fits, inconsistent}
use Rattle.su_clash.proofs.clashing.find_clash.Goals as goal

pub padded_rows-requires-clause-each : goal.padded_rows-requires-clause-each
padded_rows-requires-clause-each c =
    subst (λ (ms : List Member). All (λ m. IsReading c.args.db.now (reading_of m)) ms) (sym c.as_slice-3.ensures) (all_read c.args.db.now c.in_ok-members.members c.in_ok-members.ensures.members)

pub close-requires : goal.close-requires
close-requires c =
    let db = c.args.db.now in
    let members = c.in_ok-members.members in
    let fds : c.fds.result.now ≡ db.schema.fds = c.fds.ensures ∙ ap (λ (s : SchemaValue). s.fds) c.schema-2.ensures in
    let rows : c.as_slice-4.result.now ≡ rows_of_members db members = c.as_slice-4.ensures ∙ c.in_ok-rows.ensures ∙ ap (rows_of_members db) c.as_slice-3.ensures in
    record { rows = can_close db members c.fds.result.now fds c.as_slice-4.result.now rows c.keeps_its_rules.ensures c.in_ok-members.ensures.members c.in_ok-members.ensures.few }

pub returns-in-None-clause-verdict : goal.returns-in-None-clause-verdict
returns-in-None-clause-verdict c =
    let db = c.args.db.now in
    let members = c.in_ok-members.members in
    let fds : c.fds.result.now ≡ db.schema.fds = c.fds.ensures ∙ ap (λ (s : SchemaValue). s.fds) c.schema-2.ensures in
    let rows : c.as_slice-4.result.now ≡ rows_of_members db members = c.as_slice-4.ensures ∙ c.in_ok-rows.ensures ∙ ap (rows_of_members db) c.as_slice-3.ensures in
    let consistent : IsConsistent c.fds.result.now c.as_slice-4.result.now =
    MatchOption-at_none (IsConsistent c.fds.result.now c.as_slice-4.result.now) (λ p. IsClash c.fds.result.now c.as_slice-4.result.now p.0 p.1) c.in-None.is c.in_ok-clash.ensures.clash in
    some_fits db members c.fds.result.now fds c.as_slice-4.result.now rows c.keeps_its_rules.ensures c.in_ok-members.ensures.members c.in_ok-members.ensures.few c.in_ok-clash.field-0.names c.in_ok-clash.ensures.all c.in_ok-clash.ensures.names consistent

pub clash_of-requires-clause-inconsistent : goal.clash_of-requires-clause-inconsistent
clash_of-requires-clause-inconsistent c =
    let db = c.args.db.now in
    let fds : c.fds.result.now ≡ db.schema.fds = c.fds.ensures ∙ ap (λ (s : SchemaValue). s.fds) c.schema-2.ensures in
    let clash : IsClash c.fds.result.now c.as_slice-4.result.now c.in-Some.field-0.0 c.in-Some.field-0.1 =
    MatchOption-at_some (IsConsistent c.fds.result.now c.as_slice-4.result.now) (λ p. IsClash c.fds.result.now c.as_slice-4.result.now p.0 p.1) c.in-Some.field-0 c.in-Some.is c.in_ok-clash.ensures.clash in
    subst (λ (q : List (List Sym)). ¬ IsConsistent db.schema.fds q) (c.as_slice-4.ensures ∙ sym c.as_slice-in-Some.ensures)
    (subst (λ (f : List Fd). ¬ IsConsistent f c.as_slice-4.result.now) fds (inconsistent c.fds.result.now c.as_slice-4.result.now c.in-Some.field-0.0 c.in-Some.field-0.1 clash))

pub returns-clause-verdict : goal.returns-clause-verdict
returns-clause-verdict c =
    let db = c.args.db.now in
    let members = c.in_ok-members.members in
    let fds : c.fds.result.now ≡ db.schema.fds = c.fds.ensures ∙ ap (λ (s : SchemaValue). s.fds) c.schema-2.ensures in
    let rows : c.as_slice-4.result.now ≡ rows_of_members db members = c.as_slice-4.ensures ∙ c.in_ok-rows.ensures ∙ ap (rows_of_members db) c.as_slice-3.ensures in
    let clash : IsClash c.fds.result.now c.as_slice-4.result.now c.in-Some.field-0.0 c.in-Some.field-0.1 =
    MatchOption-at_some (IsConsistent c.fds.result.now c.as_slice-4.result.now) (λ p. IsClash c.fds.result.now c.as_slice-4.result.now p.0 p.1) c.in-Some.field-0 c.in-Some.is c.in_ok-clash.ensures.clash in
    (c.in_ok-clash_of-in-Some.ensures, nothing_fits db members c.fds.result.now fds c.as_slice-4.result.now rows c.keeps_its_rules.ensures c.in_ok-members.ensures.members c.in_ok-members.ensures.few c.in-Some.field-0.0 c.in-Some.field-0.1 clash)
