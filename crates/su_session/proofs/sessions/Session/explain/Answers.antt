-- The session's database is the one that was explained over.
use Rattle.std.proofs.Common.{IfOk, subst}
use Rattle.su_state.specs.DatabaseValue.{DatabaseValue}
use Rattle.su_session.specs.Explanations.{Explains}
use Rattle.su_session.proofs.sessions.Session.explain.Goals as goal

pub returns : goal.returns
returns g c = subst (λ (db : DatabaseValue). IfOk c.explain.result (λ reply. Explains db c.args.query.now reply db)) c.self.view_is c.explain.ensures
