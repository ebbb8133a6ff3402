-- Five pieces appended one after another, the path as a literal of SQLite and the relation by its name, are the load's command.
use Rattle.std.proofs.Common.{◌∷◌, [], codes}
use Rattle.std.proofs.lemmas.Result.{on_ok_weaker}
use Rattle.su_sql.specs.Texts.{literal_text}
use Rattle.su_sql.specs.Names.{relation_text}
use Rattle.su_sql.specs.declared.dialects.Dialect.TheVariants.{Sqlite}
use Rattle.su_sql.proofs.ImageLists.{five_behind}
use Rattle.su_sql.proofs.comments.push_import.Goals as goal

pub returns : goal.returns
returns c =
    on_ok_weaker c.push-3.result
    (λ e. five_behind c.args.out.now.items (codes ".import --csv --skip 1 ") (literal_text Sqlite c.args.path.now) (32 ∷ []) (relation_text Sqlite c.args.schema.now c.args.relation) (codes "\n") _ _ _ _ _ c.in_ok-push.ensures c.in_ok-push_literal.ensures
    c.in_ok-push-2.ensures c.in_ok-push_relation.ensures e)
    c.push-3.ensures
