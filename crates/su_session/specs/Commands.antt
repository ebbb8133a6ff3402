-- What a text is read as.
-- command: a definition, a statement, or why the text is neither of them
use Rattle.std.specs.Prelude.{◌≡◌, ◌⊎◌, ℕ, List, Option}
use Rattle.su_schema.specs.declared.definitions.Definition.{Definition as ADefinition}
use Rattle.su_ddl.specs.Grammar.{IsDefinition}
use Rattle.su_query.specs.declared.faults.QueryFault.TheVariants.{Syntax}
use Rattle.su_query.specs.StatementTexts.{IsStatement, IsTextRefusal}
use Rattle.su_query.specs.Limits.{HasFew}
use Rattle.su_session.specs.declared.commands.Command.{Command}
use Rattle.su_session.specs.declared.commands.Command.TheVariants.{Definition, Statement, Refused}
use Rattle.su_state.specs.DatabaseValue.{DatabaseValue}
use Rattle.su_session.specs.declared.replies.Reply.{Reply}
use Rattle.su_session.specs.Reply.{IsDefining, Replied}

-- a text that begins as a definition is one, or in no form; any other is a statement, or is refused by its text alone
abbrev pub IsRead : List ℕ → Command → Type 0
IsRead text (Definition d) = IsDefining text × IsDefinition text d
IsRead text (Statement st) = (¬ IsDefining text) × IsStatement text st × HasFew st
IsRead text (Refused fault) =
    (IsDefining text × (fault ≡ Syntax) × ((d : ADefinition) → ¬ IsDefinition text d))
    ⊎ ((¬ IsDefining text) × IsTextRefusal text fault)

-- some text is read as the command
abbrev pub WasRead : Command → Type 0
WasRead command = (text : List ℕ) × IsRead text command

-- the reply and what it changes are those of each text that is read as the command
abbrev pub RepliedTo : DatabaseValue → Command → Option (List ℕ) → Reply → DatabaseValue → Type 0
RepliedTo db command file reply new = (text : List ℕ) → IsRead text command → Replied db text file reply new
