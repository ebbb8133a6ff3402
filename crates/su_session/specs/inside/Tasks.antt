-- What a command gives to do.
-- command: what a text is read as: a definition, a statement or why it is neither; task: one of the first two
-- d: a definition; st: a statement; load: a statement that reads a file; name, path: the bytes of the relation's and of the file's name
-- No public contract cites this module.
use Rattle.std.specs.Prelude.{◌≢◌, ℕ, List}
use Rattle.su_query.specs.declared.statements.Statement.TheVariants.{Load}
use Rattle.su_session.specs.declared.commands.Command.{Command}
use Rattle.su_session.specs.declared.commands.Command.TheVariants.{Definition, Statement}
use Rattle.su_session.specs.declared.commands.Task.{Task}
use Rattle.su_session.specs.declared.commands.Task.TheVariants as task

-- the command that gives this to do
abbrev pub of_task : Task → Command
of_task (task.Definition d) = Definition d
of_task (task.Statement st) = Statement st

-- the command is no load
abbrev pub IsNoLoad : Command → Type 0
IsNoLoad command = (name path : List ℕ) → command ≢ Statement (Load name path)
