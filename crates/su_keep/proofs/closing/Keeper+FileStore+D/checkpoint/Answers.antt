-- The store that is still open shows what it showed.
use Rattle.sqlite_store.specs.FileStore.{view}
use Rattle.su_keep.proofs.Stood.{stands_same}
use Rattle.su_keep.proofs.closing.Keeper+FileStore+D.checkpoint.Goals as goal

pub returns-in-Ok-clause-same : goal.returns-in-Ok-clause-same
returns-in-Ok-clause-same g c = λ kept stood now.
    stands_same (view c.args.self.now.store) (view c.checkpoint.new.self) c.args.self.now.text c.args.self.now.relations c.args.self.now.has_failed kept (c.checkpoint.ensures.same (c.in-Ok.ensures.open now)) stood
