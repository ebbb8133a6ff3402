-- The names shown are the keys of the relations in order, so a key's place is its name's.
use Rattle.std.proofs.Common.{◌∙◌, sym, refl}
use Rattle.su_schema.proofs.Entries.{place_of-shown}
use Rattle.su_schema.proofs.schemas.Schema.find_relation.Goals as goal

pub returns-in-Some : goal.returns-in-Some
returns-in-Some c = rw (← c.self.view_is) (c.in-Some.ensures.index ∙ sym (place_of-shown _ _ (λ e. refl) c.args.name.now c.self.inside.relations.entries))

pub returns-in-None : goal.returns-in-None
returns-in-None c = rw (← c.self.view_is) (c.in-None.ensures.index ∙ sym (place_of-shown _ _ (λ e. refl) c.args.name.now c.self.inside.relations.entries))
