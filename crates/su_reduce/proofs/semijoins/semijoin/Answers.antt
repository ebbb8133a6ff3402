-- Both sheets code their edges by one list of values that differ, so rows have the same key in codes exactly where they agree in what the edges share.
use Rattle.std.proofs.Common.{arith}
use Rattle.su_reduce.proofs.CodeRows.{sheet_is}
use Rattle.su_reduce.proofs.semijoins.semijoin.Goals as goal

pub partnered-requires-clause-coded : goal.partnered-requires-clause-coded
partnered-requires-clause-coded c =
    let edges = c.args.edges.now in
    let sheets = c.args.sheets.now in
    let all = c.requires.sheets in
    let long = all.same_length in
    let low = c.requires.below.0 in
    let other_low = c.requires.below.1 in
    record {
      values = all.values;
      apart = all.apart;
      first = sheet_is all.values edges sheets c.args.a c.index-edges-a.result c.index-sheets-a.result low (omega (arith, low, long)) c.index-edges-a.is c.index-sheets-a.is (all.each c.args.a low);
      second = sheet_is all.values edges sheets c.args.b c.index-edges-b.result c.index-sheets-b.result other_low (omega (arith, other_low, long)) c.index-edges-b.is c.index-sheets-b.is (all.each c.args.b other_low);
    }
