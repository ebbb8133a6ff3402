-- The session's database is the one that was certified over.
use Rattle.std.proofs.Common.{IfOk, subst}
use Rattle.su_state.specs.DatabaseValue.{DatabaseValue}
use Rattle.su_session.specs.Certificates.{Certifies}
use Rattle.su_session.proofs.sessions.Session.certify.Goals as goal

pub returns : goal.returns
returns g c = subst (λ (db : DatabaseValue). IfOk c.certify.result (λ reply. Certifies db c.args.query.now reply db)) c.self.view_is c.certify.ensures
