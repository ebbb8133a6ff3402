-- The text so far is the tables and what was written for the statements so far, each in the session that the one before left; at the end these are all of the script's.
use Rattle.std.proofs.Common.{◌≡◌, ◌++◌, List, ℕ, map, take, sym, ap, ◌∙◌, subst, arith}
use Rattle.std.proofs.lemmas.List.{take_all}
use Rattle.su_lex.specs.declared.spans.Span.{Span}
use Rattle.su_lex.specs.Pieces.{Pieces}
use Rattle.su_state.specs.DatabaseValue.{DatabaseValue}
use Rattle.su_ddl.specs.Files.{statement_of}
use Rattle.su_sql.specs.Scripts.{AreWritten, output_of}
use Rattle.su_sql.proofs.Written.{SoFar, one_more}
use Rattle.su_sql.proofs.scripts.script.Goals as goal

pub loop-span-preserved : goal.loop-span-preserved
loop-span-preserved g c =
    let added = c.in_ok-refused.ensures in
    one_more c.args.dialect c.args.script.now c.as_slice-span-items.result.now c.loop-span.span-index _ c.in_ok-out.out.items c.in_ok-session.session c.loop-span.session c.push_statement.new.session c.loop-span.refused c.in_ok-refused.field-0
    c.loop-span.out.items c.push_statement.new.out.items added.reply c.loop-span-test.true c.loop-span.invariant added.written added.refused_is added.added

pub returns : goal.returns
returns g c =
    let items : List Span = c.as_slice-span-items.result.now in
    let all : take c.loop-span.span-index items ≡ items = take_all c.loop-span.span-index items (let t = c.loop-span-test.false in omega arith) in
    let so : SoFar c.args.dialect c.args.script.now items c.in_ok-out.out.items c.in_ok-session.session c.loop-span.session c.loop-span.refused c.loop-span.out.items =
    subst (λ (ss : List Span). SoFar c.args.dialect c.args.script.now ss c.in_ok-out.out.items c.in_ok-session.session c.loop-span.session c.loop-span.refused c.loop-span.out.items) all c.loop-span.invariant in
    record {
      spans = items;
      pieces = subst (Pieces c.args.script.now) (sym c.as_slice-span-items.ensures) c.in_ok-spans.ensures.pieces;
      replies = so.replies;
      last = c.loop-span.session;
      written = subst (λ (db : DatabaseValue). AreWritten c.args.dialect db (map (statement_of c.args.script.now) items) so.replies c.loop-span.session) c.in_ok-session.ensures so.written;
      refused_is = so.refused_is;
      text = c.from_vec.ensures ∙ so.text_is ∙ ap (λ (t : List ℕ). t ++ output_of so.replies) c.in_ok-out.ensures;
    }
