-- A piece is blank exactly where the gap at its front reaches its end, so what is left behind that gap is no longer than what is left behind the piece.
use Rattle.std.proofs.Common.{◌<◌, ◌≤◌, length, arith}
use Rattle.su_lex.proofs.Gaps.{IsSolid}
use Rattle.su_lex.proofs.Cuts.{blank_piece, no_blank_piece, parts_within}
use Rattle.su_lex.proofs.cutter.statement.Goals as goal

pub returns-then-after_blanks-behind : goal.returns-then-after_blanks-behind
returns-then-after_blanks-behind c =
    let a = c.after_blanks in
    let short : length a.result.now ≤ length c.args.behind.now = omega arith in
    blank_piece c.args.bytes.now a.result.now c.args.behind.now a.ensures.behind c.requires.parts c.requires.ends short

pub returns : goal.returns
returns c =
    let a = c.after_blanks in
    let long : length c.args.behind.now < length a.result.now = omega arith in
    let inside = parts_within c.args.bytes.now c.args.behind.now c.requires.parts in
    let stays : IsSolid a.result.now = record { no_space = a.ensures.no_space; no_comment = a.ensures.no_comment } in
    (no_blank_piece c.args.bytes.now a.result.now c.args.behind.now a.ensures.behind stays c.requires.ends long, omega (arith, c.requires.within), omega (arith, inside, c.requires.within))
