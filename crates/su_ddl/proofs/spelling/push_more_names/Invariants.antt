use Rattle.std.proofs.Common.{◌≡◌, [], ◌∷◌, ◌++◌, map, take}
use Rattle.su_lex.specs.declared.meaning.Symbol.TheVariants.{Word}
use Rattle.su_ddl.specs.inside.Columns.{behind_commas}
use Rattle.su_ddl.proofs.spelling.push_more_names.Given as goal

abbrev pub invariant-loop-name : goal.invariant-loop-name
invariant-loop-name l = l.out ≡ l.fn.out ++ behind_commas (map (λ name. Word name ∷ []) (take l.name-index l.names))
