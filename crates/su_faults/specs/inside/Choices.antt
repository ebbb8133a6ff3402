-- What may come next, spot by spot.
-- choice: a kind of token, and where it leads; flat: nothing is open; d, s, q, c: the spots of definitions, statements, queries and conditions
-- No public contract cites this module.
use Rattle.std.specs.Prelude.{Bool, true, false, List, [], ◌∷◌}
use Rattle.su_lex.specs.declared.signs.Sign.TheVariants as sign
use Rattle.su_faults.specs.declared.sorts.Sort.{Sort}
use Rattle.su_faults.specs.declared.sorts.Sort.TheVariants as sort
use Rattle.su_faults.specs.declared.sorts.Word.TheVariants as word
use Rattle.su_faults.specs.declared.spots.Move.{Move}
use Rattle.su_faults.specs.declared.spots.Move.TheVariants.{To, Up, Down, On}
use Rattle.su_faults.specs.declared.spots.Frame.{Frame}
use Rattle.su_faults.specs.declared.spots.Frame.TheVariants as frame
use Rattle.su_faults.specs.declared.spots.Language.{Language}
use Rattle.su_faults.specs.declared.spots.Language.TheVariants as language
use Rattle.su_faults.specs.declared.spots.Spot.{Spot}
use Rattle.su_faults.specs.declared.spots.Spot.TheVariants as spot
use Rattle.su_faults.specs.declared.spots.InDefinition.{InDefinition}
use Rattle.su_faults.specs.declared.spots.InDefinition.TheVariants as d
use Rattle.su_faults.specs.declared.spots.InStatement.{InStatement}
use Rattle.su_faults.specs.declared.spots.InStatement.TheVariants as s
use Rattle.su_faults.specs.declared.spots.InQuery.{InQuery}
use Rattle.su_faults.specs.declared.spots.InQuery.TheVariants as q
use Rattle.su_faults.specs.declared.spots.InCondition.{InCondition}
use Rattle.su_faults.specs.declared.spots.InCondition.TheVariants as c

-- kinds of tokens that may come next, each with where it leads
abbrev pub Choices : Type 0
Choices = List (Sort × Move)

-- what may follow a query or a condition, by what it stands in
abbrev pub exits : Frame → Choices
exits frame.Alone = (sort.End, To (spot.Statement s.End)) ∷ []
exits frame.Columns = (sort.End, To (spot.Statement s.End)) ∷ []
exits frame.First = (sort.Sign sign.Close, To (spot.Query q.CompareWith)) ∷ []
exits frame.Second = (sort.Sign sign.Close, To (spot.Statement s.End)) ∷ []

-- what may come next within a definition, where each attribute of an object has its column, or not
abbrev pub definition_choices : InDefinition → Bool → Choices
definition_choices d.AttributeName flat = (sort.Name, To (spot.Definition d.AttributeKind)) ∷ []
definition_choices d.AttributeKind flat = (sort.Word word.Int, To (spot.Statement s.End)) ∷ (sort.Word word.Text, To (spot.Statement s.End)) ∷ []
definition_choices d.RelationName flat = (sort.Name, To (spot.Definition d.RelationOpen)) ∷ []
definition_choices d.RelationOpen flat = (sort.Sign sign.Open, To (spot.Definition d.Column)) ∷ []
definition_choices d.Column flat = (sort.Name, To (spot.Definition d.ColumnKind)) ∷ []
definition_choices d.ColumnKind flat = (sort.Word word.Int, To (spot.Definition d.ColumnNext)) ∷ (sort.Word word.Text, To (spot.Definition d.ColumnNext)) ∷ []
definition_choices d.ColumnNext flat = (sort.Sign sign.Comma, To (spot.Definition d.Column)) ∷ (sort.Sign sign.Close, To (spot.Statement s.End)) ∷ []
definition_choices d.ObjectName flat = (sort.Name, To (spot.Definition d.ObjectOpen)) ∷ []
definition_choices d.ObjectOpen flat = (sort.Sign sign.Open, To (spot.Definition d.Attribute)) ∷ []
definition_choices d.Attribute flat = (sort.Name, Up (spot.Definition d.AttributeNext)) ∷ []
definition_choices d.AttributeNext flat = (sort.Sign sign.Comma, To (spot.Definition d.Attribute)) ∷ (sort.Sign sign.Close, To (spot.Definition d.ObjectFrom)) ∷ []
definition_choices d.ObjectFrom flat = (sort.Word word.From, To (spot.Definition d.ObjectRelation)) ∷ []
definition_choices d.ObjectRelation flat = (sort.Name, To (spot.Definition d.TakenOpen)) ∷ []
definition_choices d.TakenOpen flat = (sort.Sign sign.Open, To (spot.Definition d.Taken)) ∷ []
definition_choices d.Taken flat = (sort.Name, Down (spot.Definition d.TakenNext)) ∷ []
definition_choices d.TakenNext true = (sort.Sign sign.Close, To (spot.Statement s.End)) ∷ []
definition_choices d.TakenNext false = (sort.Sign sign.Comma, To (spot.Definition d.Taken)) ∷ []
definition_choices d.Left flat = (sort.Name, To (spot.Definition d.LeftNext)) ∷ []
definition_choices d.LeftNext flat = (sort.Sign sign.Comma, To (spot.Definition d.Left)) ∷ (sort.Sign sign.Arrow, To (spot.Definition d.Right)) ∷ []
definition_choices d.Right flat = (sort.Name, To (spot.Definition d.RightNext)) ∷ []
definition_choices d.RightNext flat = (sort.Sign sign.Comma, To (spot.Definition d.Right)) ∷ (sort.End, To (spot.Statement s.End)) ∷ []

-- what may come next within a statement without a query
abbrev pub statement_choices : InStatement → Choices
statement_choices s.InsertName = (sort.Name, To (spot.Statement s.ValuesOpen)) ∷ []
statement_choices s.ValuesOpen = (sort.Sign sign.Open, To (spot.Statement s.Value)) ∷ []
statement_choices s.Value = (sort.Number, To (spot.Statement s.ValueNext)) ∷ (sort.Text, To (spot.Statement s.ValueNext)) ∷ []
statement_choices s.ValueNext = (sort.Sign sign.Comma, To (spot.Statement s.Value)) ∷ (sort.Sign sign.Close, To (spot.Statement s.End)) ∷ []
statement_choices s.DeleteName = (sort.Name, To (spot.Statement s.DeleteHow)) ∷ []
statement_choices s.DeleteHow = (sort.Sign sign.Open, To (spot.Statement s.Value)) ∷ (sort.Word word.Where, On frame.Columns (spot.Condition c.Factor)) ∷ []
statement_choices s.LoadName = (sort.Name, To (spot.Statement s.LoadFrom)) ∷ []
statement_choices s.LoadFrom = (sort.Word word.From, To (spot.Statement s.LoadFile)) ∷ []
statement_choices s.LoadFile = (sort.Text, To (spot.Statement s.End)) ∷ []
statement_choices s.PrintName = (sort.Name, To (spot.Statement s.End)) ∷ []
statement_choices s.NamesOpen = (sort.Sign sign.Open, To (spot.Statement s.Name)) ∷ []
statement_choices s.Name = (sort.Name, To (spot.Statement s.NameNext)) ∷ []
statement_choices s.NameNext = (sort.Sign sign.Comma, To (spot.Statement s.Name)) ∷ (sort.Sign sign.Close, To (spot.Statement s.End)) ∷ []
statement_choices s.End = (sort.End, To (spot.Statement s.End)) ∷ []

-- what may come next within a query, or beside one
abbrev pub query_choices : InQuery → Frame → Choices
query_choices q.Explained g = (sort.Word word.With, To (spot.Query q.Start)) ∷ (sort.Word word.From, To (spot.Query q.Start)) ∷ (sort.Word word.Retrieve, To (spot.Query q.OutputsOpen)) ∷ []
query_choices q.CompareOpen g = (sort.Sign sign.Open, On frame.First (spot.Query q.Start)) ∷ []
query_choices q.Start g = (sort.Word word.Retrieve, To (spot.Query q.OutputsOpen)) ∷ []
query_choices q.OutputsOpen g = (sort.Sign sign.Open, To (spot.Query q.Output)) ∷ []
query_choices q.Output g = (sort.Name, To (spot.Query q.OutputDot)) ∷ []
query_choices q.OutputDot g = (sort.Sign sign.Dot, To (spot.Query q.OutputAttribute)) ∷ (sort.Sign sign.Comma, To (spot.Query q.Output)) ∷ (sort.Sign sign.Close, To (spot.Query q.Where)) ∷ []
query_choices q.OutputAttribute g = (sort.Name, To (spot.Query q.OutputNext)) ∷ []
query_choices q.OutputNext g = (sort.Sign sign.Comma, To (spot.Query q.Output)) ∷ (sort.Sign sign.Close, To (spot.Query q.Where)) ∷ []
query_choices q.Where g = (sort.Word word.Where, To (spot.Condition c.Factor)) ∷ exits g
query_choices q.CompareWith g = (sort.Word word.With, To (spot.Query q.SecondOpen)) ∷ []
query_choices q.SecondOpen g = (sort.Sign sign.Open, On frame.Second (spot.Query q.Start)) ∷ []

-- a dot may come next too, unless refs are columns
abbrev pub dotted : Frame → Move → Choices → Choices
dotted frame.Columns to others = others
dotted _ to others = (sort.Sign sign.Dot, to) ∷ others

-- an operator
abbrev pub operators : Choices
operators = (sort.Sign sign.Equal, To (spot.Condition c.Right)) ∷ (sort.Sign sign.NotEqual, To (spot.Condition c.Right)) ∷ (sort.Sign sign.Less, To (spot.Condition c.Right)) ∷ (sort.Sign sign.LessEqual, To (spot.Condition c.Right)) ∷ (sort.Sign sign.Greater, To (spot.Condition c.Right)) ∷ (sort.Sign sign.GreaterEqual, To (spot.Condition c.Right)) ∷ []

-- what may begin a comparison or parentheses
abbrev pub primaries : Choices
primaries = (sort.Sign sign.Open, Up (spot.Condition c.Factor)) ∷ (sort.Name, To (spot.Condition c.LeftDot)) ∷ (sort.Number, To (spot.Condition c.Operator)) ∷ (sort.Text, To (spot.Condition c.Operator)) ∷ []

-- what may follow a comparison or parentheses, where none is open, or some
abbrev pub nexts : Frame → Bool → Choices
nexts g true = (sort.Word word.And, To (spot.Condition c.Factor)) ∷ (sort.Word word.Or, To (spot.Condition c.Factor)) ∷ exits g
nexts g false = (sort.Word word.And, To (spot.Condition c.Factor)) ∷ (sort.Word word.Or, To (spot.Condition c.Factor)) ∷ (sort.Sign sign.Close, Down (spot.Condition c.Next)) ∷ []

-- what may come next within a condition
abbrev pub condition_choices : InCondition → Frame → Bool → Choices
condition_choices c.Factor g flat = (sort.Word word.Not, To (spot.Condition c.Primary)) ∷ primaries
condition_choices c.Primary g flat = primaries
condition_choices c.LeftDot g flat = dotted g (To (spot.Condition c.LeftAttribute)) operators
condition_choices c.LeftAttribute g flat = (sort.Name, To (spot.Condition c.Operator)) ∷ []
condition_choices c.Operator g flat = operators
condition_choices c.Right g flat = (sort.Name, To (spot.Condition c.RightDot)) ∷ (sort.Number, To (spot.Condition c.Next)) ∷ (sort.Text, To (spot.Condition c.Next)) ∷ []
condition_choices c.RightDot g flat = dotted g (To (spot.Condition c.RightAttribute)) (nexts g flat)
condition_choices c.RightAttribute g flat = (sort.Name, To (spot.Condition c.Next)) ∷ []
condition_choices c.Next g flat = nexts g flat

-- what may come first
abbrev pub start_choices : Language → Choices
start_choices language.Statements = (sort.Word word.Insert, To (spot.Statement s.InsertName)) ∷ (sort.Word word.Delete, To (spot.Statement s.DeleteName)) ∷ (sort.Word word.Load, To (spot.Statement s.LoadName)) ∷ (sort.Word word.Print, To (spot.Statement s.PrintName)) ∷ (sort.Word word.Schema, To (spot.Statement s.End)) ∷ (sort.Word word.Closure, To (spot.Statement s.NamesOpen)) ∷ (sort.Word word.Retrieve, To (spot.Query q.OutputsOpen)) ∷ (sort.Word word.Explain, To (spot.Query q.Explained)) ∷ (sort.Word word.Compare, To (spot.Query q.CompareOpen)) ∷ (sort.Word word.Window, To (spot.Statement s.NamesOpen)) ∷ []
start_choices language.Definitions = (sort.Word word.Attribute, To (spot.Definition d.AttributeName)) ∷ (sort.Word word.Relation, To (spot.Definition d.RelationName)) ∷ (sort.Word word.Object, To (spot.Definition d.ObjectName)) ∷ (sort.Word word.Fd, To (spot.Definition d.Left)) ∷ (sort.Word word.Maximal, To (spot.Statement s.NamesOpen)) ∷ []
start_choices language.Either = (sort.Word word.Attribute, To (spot.Definition d.AttributeName)) ∷ (sort.Word word.Relation, To (spot.Definition d.RelationName)) ∷ (sort.Word word.Object, To (spot.Definition d.ObjectName)) ∷ (sort.Word word.Fd, To (spot.Definition d.Left)) ∷ (sort.Word word.Maximal, To (spot.Statement s.NamesOpen)) ∷ (sort.Word word.Insert, To (spot.Statement s.InsertName)) ∷ (sort.Word word.Delete, To (spot.Statement s.DeleteName)) ∷ (sort.Word word.Load, To (spot.Statement s.LoadName)) ∷ (sort.Word word.Print, To (spot.Statement s.PrintName)) ∷ (sort.Word word.Schema, To (spot.Statement s.End)) ∷ (sort.Word word.Closure, To (spot.Statement s.NamesOpen)) ∷ (sort.Word word.Retrieve, To (spot.Query q.OutputsOpen)) ∷ (sort.Word word.Explain, To (spot.Query q.Explained)) ∷ (sort.Word word.Compare, To (spot.Query q.CompareOpen)) ∷ (sort.Word word.Window, To (spot.Statement s.NamesOpen)) ∷ []

-- what may come next
abbrev pub choices_at : Spot → Frame → Bool → Choices
choices_at (spot.Start l) g flat = start_choices l
choices_at (spot.Definition d) g flat = definition_choices d flat
choices_at (spot.Statement s) g flat = statement_choices s
choices_at (spot.Query q) g flat = query_choices q g
choices_at (spot.Condition c) g flat = condition_choices c g flat
