-- The files were only read before.
use Rattle.std.proofs.Common.{subst}
use Rattle.std.specs.Prelude.{IfOk}
use Rattle.sqlite_trees.specs.View.{IsClean}
use Rattle.sqlite_store.specs.FileStore.{view}
use Rattle.su_keep.specs.Opened.{StoodIn}
use Rattle.su_keep.proofs.OpenedFiles.{same_image, refused_earlier}
use Rattle.su_keep.proofs.opening.open_store.Goals as goal

pub returns-in-Ok-true-clause-found : goal.returns-in-Ok-true-clause-found
returns-in-Ok-true-clause-found g c =
    subst (λ i. IfOk c.make.result (λ it. IsClean (view it) → StoodIn i (view it).trees)) (same_image c.is_blank.ensures.log c.is_blank.ensures.db) c.make.ensures.found

pub returns-in-Ok-true-clause-unharmed : goal.returns-in-Ok-true-clause-unharmed
returns-in-Ok-true-clause-unharmed g c = refused_earlier c.args.files c.is_blank.new.files c.make.result c.is_blank.ensures.log c.is_blank.ensures.db c.make.ensures.unharmed

pub returns-in-Ok-false-clause-found : goal.returns-in-Ok-false-clause-found
returns-in-Ok-false-clause-found g c =
    subst (λ i. IfOk c.store_found.result (λ it. IsClean (view it) → StoodIn i (view it).trees)) (same_image c.is_blank.ensures.log c.is_blank.ensures.db) c.store_found.ensures.found

pub returns-in-Ok-false-clause-unharmed : goal.returns-in-Ok-false-clause-unharmed
returns-in-Ok-false-clause-unharmed g c = refused_earlier c.args.files c.is_blank.new.files c.store_found.result c.is_blank.ensures.log c.is_blank.ensures.db c.store_found.ensures.unharmed
