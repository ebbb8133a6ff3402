use Rattle.std.proofs.Common.{◌≡◌, ◌++◌, drop}
use Rattle.su_sql.specs.Comments.{comment_from, comment_text}
use Rattle.su_sql.proofs.comments.comment.Given as goal

abbrev pub invariant-loop-byte : goal.invariant-loop-byte
invariant-loop-byte l = l.out.items ++ comment_from l.begins (drop l.byte-index l.text) ≡ comment_text l.text
