-- The replies to the statements of a text, in order.
-- answered: on the database that the statements before it left, which is well kept
use Rattle.std.specs.Prelude.{◌≡◌, ℕ, List, [], ◌∷◌, Option, map}
use Rattle.su_io.specs.declared.files.File.{File as AFile}
use Rattle.su_lex.specs.declared.spans.Span.{Span}
use Rattle.su_ddl.specs.Files.{statement_of}
use Rattle.su_state.specs.DatabaseValue.{DatabaseValue, IsWellKept}
use Rattle.su_session.specs.declared.replies.Reply.{Reply}
use Rattle.su_session.specs.Reply.{Replied}
use Rattle.su_replies.specs.Handed.{IsHanded}

-- each statement is answered on the database that the ones before it left, which is well kept
abbrev pub Answered : Option (List AFile) → DatabaseValue → List (List ℕ) → List Reply → DatabaseValue → Type 0
Answered files old [] [] new = new ≡ old
Answered files old [] (reply ∷ replies) new = ⊥
Answered files old (text ∷ texts) [] new = ⊥
Answered files old (text ∷ texts) (reply ∷ replies) new =
    IsWellKept old × ((file : Option (List ℕ)) × IsHanded files old text file × ((next : DatabaseValue) × Replied old text file reply next × Answered files next texts replies new))

-- what is written for the replies, a text each
abbrev pub reply_texts : List Reply → List (List ℕ)
reply_texts replies = map (λ reply. reply.bytes) replies

-- the texts of a script's statements
abbrev pub texts_of : List ℕ → List Span → List (List ℕ)
texts_of script spans = map (statement_of script) spans
