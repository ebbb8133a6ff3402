-- A statement wants one file, and has one reply on databases that are alike, which it leaves alike.
-- alike: databases of one schema with the same sets of rows
use Rattle.std.specs.Prelude.{◌≡◌, ℕ, List, Option}
use Rattle.su_state.specs.DatabaseValue.{DatabaseValue, IsWellKept}
use Rattle.su_session.specs.declared.replies.Reply.{Reply}
use Rattle.su_session.specs.declared.wants.Want.{Want}
use Rattle.su_session.specs.Reply.{Replied}
use Rattle.su_session.specs.WantedFiles.{Wants}
use Rattle.su_once.specs.States.{AreAlike}

-- a text wants at most one file, whatever the rows
abbrev pub OneWant : Type 0
OneWant = (a b : DatabaseValue) (text : List ℕ) (want other : Want) → a.schema ≡ b.schema → Wants a text want → Wants b text other → want ≡ other

-- on databases that are alike a text has at most one reply, and leaves databases that are alike
abbrev pub OneReply : Type 0
OneReply = (a b c d : DatabaseValue) (text : List ℕ) (file : Option (List ℕ)) (reply other : Reply) → AreAlike a b → IsWellKept a → IsWellKept b
    → Replied a text file reply c → Replied b text file other d → (reply ≡ other) × AreAlike c d
