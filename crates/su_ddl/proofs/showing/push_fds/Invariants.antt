use Rattle.std.proofs.Common.{◌≡◌, ◌++◌, map, take}
use Rattle.su_ddl.specs.Shown.{lines_of}
use Rattle.su_ddl.specs.ShownDefinitions.{fd_definition}
use Rattle.su_ddl.proofs.showing.push_fds.Given as goal

abbrev pub invariant-loop-fd : goal.invariant-loop-fd
invariant-loop-fd l = l.out.items ≡ l.fn.out.items ++ lines_of (take l.fd-index (map (fd_definition l.schema) l.schema.fds))
