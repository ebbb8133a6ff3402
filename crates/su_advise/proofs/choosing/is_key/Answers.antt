-- A key is a set of the object's attributes that determines them all, and of which none can be left out.
use Rattle.std.proofs.Common.{refl}
use Rattle.su_base.proofs.Subsets.{subset_at}
use Rattle.su_advise.proofs.Keyed.{key_by, key_tight}
use Rattle.su_advise.proofs.choosing.is_key.Goals as goal

pub is_least-requires : goal.is_least-requires
is_least-requires c = λ a one. c.requires a (subset_at _ _ a (c.if-is_enough.ensures.0 refl).0 one)

pub returns-then-is_enough : goal.returns-then-is_enough
returns-then-is_enough c =
    let enough = c.if-is_enough.ensures.0 refl in (
      λ h. key_by _ _ _ enough.0 enough.1 (λ a one. c.is_least.ensures.0 h a one),
      λ key. c.is_least.ensures.1 (λ a one. key_tight _ _ _ key a one),
    )
