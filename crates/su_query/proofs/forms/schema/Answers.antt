-- The statement `schema` is this word alone.
use Rattle.std.proofs.Common.{◌∷◌, refl, ap, codes}
use Rattle.su_lex.specs.declared.meaning.Symbol.TheVariants.{Word}
use Rattle.su_query.specs.inside.ReadForms as g
use Rattle.su_query.proofs.forms.schema.Goals as goal

pub returns-clause-found : goal.returns-clause-found
returns-clause-found c =
    g.schema _ _ refl (ap (λ x. Word (codes "schema") ∷ x) c.in_ok-expect_end.ensures.found)
