-- Replies that follow one another answer their queries.
-- texts, replies: one for each statement, in order; first, last: the database before them and after them; query: one that isn't refused
-- files: those of the shelf, where it tells them
-- No public contract cites this module.
use Rattle.std.specs.Prelude.{ℕ, List, Option}
use Rattle.su_io.specs.declared.files.File.{File}
use Rattle.su_state.specs.DatabaseValue.{DatabaseValue}
use Rattle.su_session.specs.declared.replies.Reply.{Reply}
use Rattle.sysu.specs.Headline.{AreQueriesAnswered}
use Rattle.su_replies.specs.Output.{Answered}

-- statements that are answered one after another have their queries answered
abbrev pub QueriesAreAnswered : Type 0
QueriesAreAnswered =
    (files : Option (List File)) (first last : DatabaseValue) (texts : List (List ℕ)) (replies : List Reply) → Answered files first texts replies last → AreQueriesAnswered files first texts replies
