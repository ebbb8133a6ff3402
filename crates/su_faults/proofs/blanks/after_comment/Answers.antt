-- A comment is its two signs and all that stands before the line feed behind them.
use Rattle.std.proofs.lemmas.List.{take_rest}
use Rattle.su_lex.proofs.Gaps.{comment_at}
use Rattle.su_faults.proofs.blanks.after_comment.Goals as goal

pub returns-clause-behind : goal.returns-clause-behind
returns-clause-behind c =
    let count = rw take_rest at c.line_bytes.ensures.count in
    rw (take_rest, take_rest) (comment_at c.args.text.now c.line_bytes.result c.requires count)
