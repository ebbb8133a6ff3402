-- The session's database is the one that the query was answered over.
use Rattle.std.proofs.Common.{IfOk, subst}
use Rattle.su_state.specs.DatabaseValue.{DatabaseValue}
use Rattle.su_session.specs.Retrievals.{Retrieves}
use Rattle.su_session.proofs.sessions.Session.retrieve.Goals as goal

pub returns : goal.returns
returns g c = subst (λ (db : DatabaseValue). IfOk c.retrieve.result (λ reply. Retrieves db c.args.query.now reply db)) c.self.view_is c.retrieve.ensures
