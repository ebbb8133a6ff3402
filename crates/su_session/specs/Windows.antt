-- How a window is shown.
-- window: the rows over the attributes that every fitting universal relation has
use Rattle.std.specs.Prelude.{◌≡◌, ◌⊎◌, ℕ, List, map, None}
use Rattle.su_base.specs.declared.values.Value.{Value}
use Rattle.su_rel.specs.ExactRows.{AreExactlyRows}
use Rattle.su_schema.specs.SchemaValue.{SchemaValue}
use Rattle.su_schema.specs.Entries.{attribute_names}
use Rattle.su_schema.specs.Known.{number_of}
use Rattle.su_query.specs.declared.faults.QueryFault.{QueryFault}
use Rattle.su_query.specs.Scopes.{first_unknown_name}
use Rattle.su_query.specs.Sets.{IsNameRefusal}
use Rattle.su_state.specs.DatabaseValue.{DatabaseValue}
use Rattle.su_window.specs.declared.faults.WindowFault.{WindowFault}
use Rattle.su_window.specs.declared.faults.WindowFault.TheVariants as fault
use Rattle.su_window.specs.Window.{Fits, InWindow}
use Rattle.su_window.specs.Members.{HasFew}
use Rattle.su_window.specs.Refusals.{IsWindowRefusal}
use Rattle.su_show.specs.declared.statement_refusal.Refusal.TheVariants.{Query, WindowLimit, Inconsistent}
use Rattle.su_show.specs.Replies.{rows_text}
use Rattle.su_session.specs.declared.replies.Reply.{Reply}
use Rattle.su_session.specs.Outcomes.{Accepts, Refuses}

-- the numbers of the attributes with these names, in their order
abbrev pub attribute_numbers : SchemaValue → List (List ℕ) → List ℕ
attribute_numbers schema names = map (number_of (attribute_names schema)) names

-- why there is no window
abbrev pub TellsWindowFault : DatabaseValue → WindowFault → Reply → DatabaseValue → Type 0
TellsWindowFault db fault.Limit reply new = Refuses db WindowLimit reply new
TellsWindowFault db (fault.Inconsistent less greater) reply new = Refuses db (Inconsistent less greater) reply new
TellsWindowFault db fault.NoMemory reply new = ⊥

-- the rows of the window, ascending, each once; some universal relation fits the database
pub record ShowsRows (db : DatabaseValue) (names : List (List ℕ)) (reply : Reply) : Type 0 where
  pub few : HasFew db
  pub universe : List (List Value)
  pub fits : Fits db universe
  pub rows : List (List Value)
  pub rows_are : AreExactlyRows (InWindow db (attribute_numbers db.schema names)) rows
  pub text : Accepts (rows_text names rows) reply

-- refused at the first unknown name, then where there is no window, else its rows under the names
abbrev pub ShowsWindow : DatabaseValue → List (List ℕ) → Reply → DatabaseValue → Type 0
ShowsWindow db names reply new =
    ((fault : QueryFault) × IsNameRefusal db.schema names fault × Refuses db (Query fault) reply new)
    ⊎ ((first_unknown_name (attribute_names db.schema) names ≡ None)
    × (((fault : WindowFault) × IsWindowRefusal db fault × TellsWindowFault db fault reply new) ⊎ (ShowsRows db names reply × (new ≡ db))))
