use Rattle.std.proofs.Common.{◌≡◌, ◌++◌, flat_map, take, codes}
use Rattle.su_sql.specs.Texts.{byte_text}
use Rattle.su_sql.proofs.words.push_literal.Given as goal

abbrev pub invariant-loop-byte : goal.invariant-loop-byte
invariant-loop-byte l = l.out.items ≡ l.fn.out.items ++ codes "'" ++ flat_map (byte_text l.dialect) (take l.byte-index l.byte-items)
