-- The lines of a script's refused statements, which stand before the report.
-- k: a statement's number; the first of a script has 1
use Rattle.std.specs.Prelude.{ℕ, List, [], ◌∷◌, ◌++◌, ◌+◌, codes, decimal, if◌then◌else◌}
use Rattle.su_session.specs.declared.replies.Reply.{Reply}

-- the line of a refused statement, and nothing of another
abbrev pub refusal_line : ℕ → Reply → List ℕ
refusal_line k reply = if reply.refused then codes "fault statement " ++ decimal k ++ codes " is " ++ reply.bytes else []

-- those of statements, of which the first has the number k
abbrev pub refusal_lines : ℕ → List Reply → List ℕ
refusal_lines k [] = []
refusal_lines k (reply ∷ replies) = refusal_line k reply ++ refusal_lines (k + 1) replies
