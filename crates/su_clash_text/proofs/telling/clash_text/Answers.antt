-- The members are read, and each step follows, so its dependency and its rows are there.
use Rattle.std.proofs.Common.{◌≡◌, List, map, length, get_or, sym, subst, arith}
use Rattle.std.specs.Prelude.{All}
use Rattle.std.proofs.lemmas.List.{length-map}
use Rattle.std.proofs.lemmas.List.FromFn.{length-map-range_with_len}
use Rattle.su_window.specs.declared.readings.Reading.{Reading}
use Rattle.su_window.specs.Padded.{IsReading, padded_row}
use Rattle.su_clash.specs.declared.members.Member.{Member}
use Rattle.su_clash.specs.declared.steps.Step.{Step}
use Rattle.su_clash.specs.Clash.{reading_of, rows_of_members}
use Rattle.su_clash.proofs.Pushed.{all_read}
use Rattle.su_clash_text.specs.inside.Steps.{IsStep}
use Rattle.su_clash_text.proofs.telling.clash_text.Goals as goal

pub push_steps-requires-clause-members : goal.push_steps-requires-clause-members
push_steps-requires-clause-members c =
    subst (λ (ms : List Member). All (λ m. IsReading c.args.db.now (reading_of m)) ms) (sym c.as_slice-members.ensures) (all_read c.args.db.now c.args.clash.now.members c.requires.members)

pub push_steps-requires-clause-steps : goal.push_steps-requires-clause-steps
push_steps-requires-clause-steps c =
    let db = c.args.db.now in
    let members = c.args.clash.now.members in
    let steps = c.args.clash.now.steps in
    let readings : List Reading = map reading_of members in
    let a = length-map members reading_of in
    let b : length (rows_of_members db members) ≡ length readings = length-map-range_with_len (λ i. padded_row db i (get_or readings i (record { object = 0; position = 0 }))) 0 (length readings) in
    subst (λ (ms : List Member). All (IsStep db ms) c.as_slice.result.now) (sym c.as_slice-members.ensures)
    (subst (λ (xs : List Step). All (IsStep db members) xs) (sym c.as_slice.ensures)
    (λ k d l.
    let f = c.requires.derivation k d l in
    let first = f.first in
    let second = f.second in
    record { fd = f.fd; first = omega (arith, first, a, b); second = omega (arith, second, a, b) }))
