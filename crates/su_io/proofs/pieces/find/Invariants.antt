use Rattle.std.proofs.Common.{◌≡◌, drop}
use Rattle.su_io.specs.Files.{contents, has_file}
use Rattle.su_io.proofs.pieces.find.Given as goal

abbrev pub invariant-loop-place : goal.invariant-loop-place
invariant-loop-place l = record {
  bytes : contents l.files l.name ≡ contents (drop l.place l.files) l.name;
  there : has_file l.files l.name ≡ has_file (drop l.place l.files) l.name;
}
