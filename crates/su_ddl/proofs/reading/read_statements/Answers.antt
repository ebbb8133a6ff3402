-- The schema so far is that of the statements so far, each of them added by its definition; the first that can't be added is the file's fault.
use Rattle.std.proofs.Common.{◌≡◌, ◌≤◌, ◌<◌, refl, get_or, sym, arith, length, subst}
use Rattle.std.proofs.lemmas.Result.{err_from_is_err_and}
use Rattle.su_lex.specs.Pieces.{Pieces}
use Rattle.su_lex.specs.declared.spans.Span.{Span}
use Rattle.su_ddl.proofs.Files.{one_added, at_fault, all_added, pieces_count}
use Rattle.su_ddl.proofs.reading.read_statements.Goals as goal

pub overflow_add-number : goal.overflow_add-number
overflow_add-number c =
    let items = c.as_slice-span-items.result.now in
    let pieces : Pieces c.args.bytes.now items = subst (Pieces c.args.bytes.now) (sym c.as_slice-span-items.ensures) c.in_ok-spans.ensures.pieces in
    let few : length items ≤ length c.args.bytes.now = pieces_count c.args.bytes.now items pieces in
    let more : c.loop-span.span-index < length items = c.loop-span-test.true in
    let count : c.loop-span.number ≡ c.loop-span.span-index = c.loop-span.invariant.count in
    omega (arith, few, more, count, c.requires)

pub returns-in_err-add-clause-fault : goal.returns-in_err-add-clause-fault
returns-in_err-add-clause-fault c =
    let items = c.as_slice-span-items.result.now in
    let pieces : Pieces c.args.bytes.now items = subst (Pieces c.args.bytes.now) (sym c.as_slice-span-items.ensures) c.in_ok-spans.ensures.pieces in
    let p = err_from_is_err_and c.from_residual-in_err-add.result c.from_residual-in_err-add.ensures.1 in
    let nothing : Span = record { start = 0; end = 0 } in
    rw (p.1, p.2)
    (at_fault c.args.bytes.now items c.loop-span.span-index c.loop-span.number c.loop-span.schema (get_or items c.loop-span.span-index nothing) nothing c.in_err-add.field-0.0 pieces
    c.loop-span-test.true refl c.loop-span.invariant c.in_err-add.ensures.fault)

pub loop-span-preserved : goal.loop-span-preserved
loop-span-preserved c =
    let items = c.as_slice-span-items.result.now in
    let nothing : Span = record { start = 0; end = 0 } in
    let added = c.in_ok-add.ensures.added in
    one_added c.args.bytes.now items c.loop-span.span-index c.loop-span.number c.loop-span.schema c.add.new.schema (get_or items c.loop-span.span-index nothing) nothing added.0 c.loop-span-test.true
    refl c.loop-span.invariant added.1 added.2

pub returns-clause-schema : goal.returns-clause-schema
returns-clause-schema c =
    let items = c.as_slice-span-items.result.now in
    let pieces : Pieces c.args.bytes.now items = subst (Pieces c.args.bytes.now) (sym c.as_slice-span-items.ensures) c.in_ok-spans.ensures.pieces in
    let all : length items ≤ c.loop-span.span-index = omega arith in
    all_added c.args.bytes.now items c.loop-span.span-index c.loop-span.number c.loop-span.schema pieces all c.loop-span.invariant
