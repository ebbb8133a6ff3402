-- The session's database is the one whose candidates were counted.
use Rattle.std.proofs.Common.{IfOk, subst}
use Rattle.su_state.specs.DatabaseValue.{DatabaseValue}
use Rattle.su_session.specs.Supports.{Supports}
use Rattle.su_session.proofs.sessions.Session.support.Goals as goal

pub returns : goal.returns
returns g c = subst (λ (db : DatabaseValue). IfOk c.support.result (λ reply. Supports db c.args.query.now reply db)) c.self.view_is c.support.ensures
