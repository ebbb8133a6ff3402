-- Only a load of a known relation wants a file: a text read as any other command is no load, and an unknown name gives no relation to load.
use Rattle.std.proofs.Common.{◌≡◌, ℕ, List, None, sym, subst}
use Rattle.su_state.specs.DatabaseValue.{DatabaseValue}
use Rattle.su_session.specs.WantedFiles.{IsLoad}
use Rattle.su_session.specs.RowStatements.{relation_number}
use Rattle.su_session.proofs.Asked.{wants_nothing, unknown_wants}
use Rattle.su_session.proofs.sessions.Session.wants.Goals as goal

pub returns-in-None : goal.returns-in-None
returns-in-None c text is = wants_nothing c.args.self.now text c.args.command.now c.in-None.ensures is

pub returns-in-None-find_relation : goal.returns-in-None-find_relation
returns-in-None-find_relation c text is =
    let old : DatabaseValue = c.self.inside.db in
    let unknown : relation_number old c.in-Some.relation.now ≡ None = rw (c.schema.ensures, c.as_str.ensures) at (sym c.in-None-find_relation.ensures) in
    subst (λ (db : DatabaseValue). (path : List ℕ) → ¬ IsLoad db text path) c.self.view_is
    (unknown_wants old text c.args.command.now c.in-Some.relation.now c.in-Some.file.now c.in-Some.ensures unknown is)
