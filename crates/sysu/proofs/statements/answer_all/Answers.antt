-- The replies so far are written one after another, and each statement was handed the file that it wants; so a stop at some statement, or the end behind the last, is an end of the script.
use Rattle.std.proofs.Common.{◌∙◌, refl, inl, arith}
use Rattle.su_lex.specs.Pieces.{Pieces}
use Rattle.sysu.proofs.RepliesSoFar.{none_yet, one_more}
use Rattle.sysu.proofs.ScriptEnds.{done_well, done_refused, none_answered, script_stops, took_more}
use Rattle.sysu.proofs.statements.answer_all.Goals as goal

pub loop-span-preserved : goal.loop-span-preserved
loop-span-preserved g c =
    let inv = c.loop-span.invariant in
    let ends = c.in-Ok-answer_one.ensures.ends in
    let reply = ends.2.0 in
    let answered = rw inv.files at ends.2.1 in
    record {
      files = c.in-Ok-answer_one.ensures.files ∙ inv.files;
      reads = ends.0.reads ∙ inv.reads;
      writes = ends.1 ∙ inv.writes;
      so_far = one_more _ c.args.script.now c.as_slice-span-items.result.now c.loop-span.span-index _ c.args.session c.loop-span.session c.answer_one.new.session c.loop-span.refused answered.file reply _ _
          c.loop-span-test.true inv.so_far answered.kept answered.handed answered.replied _ _ ends.2.2 ends.2.3;
      took = took_more c.args.script.now c.as_slice-span-items.result.now c.loop-span.span-index _ inv.so_far.replies reply c.args.session c.loop-span.session c.args.outside.now c.loop-span.outside c.answer_one.new.outside
          c.loop-span-test.true inv.so_far.answered inv.took ends.0;
    }

pub returns-in-Err-clause-ends : goal.returns-in-Err-clause-ends
returns-in-Err-clause-ends g c names schema opened at =
    let inv = c.loop-span.invariant in
    let pieces : Pieces c.args.script.now c.as_slice-span-items.result.now = rw c.as_slice-span-items.ensures (c.in-Ok.ensures.pieces) in
    script_stops names schema c.args.script.now c.as_slice-span-items.result.now c.args.session c.args.outside.now opened at pieces c.loop-span.span-index _ c.loop-span.session c.answer_one.new.session c.loop-span.refused c.loop-span.outside _
    c.loop-span-test.true inv.files inv.reads inv.writes inv.so_far inv.took c.in-Err.status c.in-Err.ensures.ends

pub loop-span-init : goal.loop-span-init
loop-span-init g c = record {
  files = refl;
  reads = refl;
  writes = refl;
  so_far = none_yet _ c.args.script.now c.args.session _;
  took = inl (refl, refl);
}

pub returns-then-refused-clause-ends : goal.returns-then-refused-clause-ends
returns-then-refused-clause-ends g c names schema opened at =
    let inv = c.loop-span.invariant in
    let pieces : Pieces c.args.script.now c.as_slice-span-items.result.now = rw c.as_slice-span-items.ensures (c.in-Ok.ensures.pieces) in
    done_refused names schema c.args.script.now c.as_slice-span-items.result.now c.args.session c.args.outside.now opened at pieces c.loop-span.span-index c.loop-span.session c.loop-span.refused _
    (omega (arith, c.loop-span-test.false)) inv.reads inv.writes inv.so_far inv.took c.if-refused.true

pub returns-clause-ends : goal.returns-clause-ends
returns-clause-ends g c names schema opened at =
    let inv = c.loop-span.invariant in
    let pieces : Pieces c.args.script.now c.as_slice-span-items.result.now = rw c.as_slice-span-items.ensures (c.in-Ok.ensures.pieces) in
    done_well names schema c.args.script.now c.as_slice-span-items.result.now c.args.session c.args.outside.now opened at pieces c.loop-span.span-index c.loop-span.session c.loop-span.refused _
    (omega (arith, c.loop-span-test.false)) inv.reads inv.writes inv.so_far inv.took c.if-refused.false

pub returns-in_default-clause-ends : goal.returns-in_default-clause-ends
returns-in_default-clause-ends g c names schema opened at = none_answered names schema c.args.script.now c.args.outside.now at
