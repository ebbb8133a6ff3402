-- The text so far is the query's lines and then the text of each term so far; the next term's tableau, minimal rows and end are its text, which comes behind.
use Rattle.std.proofs.Common.{◌++◌, refl, arith}
use Rattle.std.proofs.lemmas.Option.{slice_get_read}
use Rattle.su_show.specs.Explanations.{query_line, variables_line, IsTermText}
use Rattle.su_show.proofs.Lines.{adds_next}
use Rattle.su_show.proofs.Explained.{term_text}
use Rattle.su_show.proofs.explaining.explanation.Goals as goal

pub loop-i-preserved : goal.loop-i-preserved
loop-i-preserved c =
    let schema = c.args.schema.now in
    let q = c.args.resolved.now in
    let terms = c.args.terms.now in
    let minimals = c.args.minimals.now in
    let reduced = c.args.reduced.now in
    let i = c.loop-i.i in
    let t = c.index-terms-i in
    let m = c.index-minimals-i in
    adds_next (IsTermText schema q terms minimals reduced) i (query_line c.args.query.now ++ variables_line q) c.loop-i.out.items c.push_end.new.out.items c.loop-i.invariant
    (term_text schema q terms minimals reduced i t.result m.result c.loop-i.out.items c.push_tableau.new.out.items c.push_minimal.new.out.items c.push_end.new.out.items
    (slice_get_read terms _ i t.result refl c.loop-i-test.true t.is) (slice_get_read minimals _ i m.result refl (let same = c.requires in omega (arith, c.loop-i-test.true, same)) m.is) c.in_ok-push_tableau.ensures c.in_ok-push_minimal.ensures c.in_ok-push_end.ensures)
