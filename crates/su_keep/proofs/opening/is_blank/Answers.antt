-- The page has 4096 bytes.
use Rattle.std.proofs.Common.{◌≡◌, ◌↔◌, IsTrue, subst, rules}
use Rattle.sqlite_wal.specs.PageSize.{bytes_of}
use Rattle.sqlite_pool.specs.Opening.{IsBlankFile}
use Rattle.su_keep.specs.Opened.{image_of}
use Rattle.su_keep.proofs.opening.is_blank.Goals as goal

pub returns-in-Ok-clause-ok : goal.returns-in-Ok-clause-ok
returns-in-Ok-clause-ok g c = λ clean.
    let sized : bytes_of c.unwrap-size.result ≡ 4096 = search rules in
    subst (λ n. IsTrue c.in-Ok.is_blank ↔ IsBlankFile n (image_of g.D.Disk c.args.files.now)) sized (c.in-Ok.ensures.ok clean)
