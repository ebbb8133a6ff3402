-- What a statement changed, and what a group takes up of it. A statement that is refused has changed nothing.
use Rattle.std.proofs.Common.{◌≡◌, ◌∙◌, ◌++◌, ◌∷◌, List, true, false, [], subst, sym, ap, append-nil}
use Rattle.su_state.specs.DatabaseValue.{DatabaseValue}
use Rattle.su_session.specs.declared.replies.Reply.{Reply}
use Rattle.su_changes.specs.Changes.{LeadTo}
use Rattle.su_changes.specs.declared.changes.Change.{Change}
use Rattle.su_changes.proofs.Leading.{LeadTo-self, LeadTo-then}
use Rattle.su_changes.specs.Extensions.{IsExtension}
use Rattle.su_changes.proofs.Extending.{IsExtension-self}
use Rattle.su_effects.specs.declared.effects.Effect.{Effect}
use Rattle.su_effects.specs.declared.effects.Effect.TheVariants.{Nothing, Defines, Changes}
use Rattle.su_effects.specs.Effects.{Makes, IsEffect}
use Rattle.su_talk.specs.declared.groups.Group.{Group}
use Rattle.su_talk.specs.Keeping.{IsSame}
use Rattle.su_talk.specs.inside.Effects.{TakesEffect}

true≢false : true ≡ false → ⊥
true≢false e = absurd cc

pub none_made : (old new : DatabaseValue) → new ≡ old → Makes Nothing old new
none_made old new same = (subst (LeadTo old []) (sym same) (LeadTo-self old), ap (λ (d : DatabaseValue). d.schema) same)

pub refused_makes : (effect : Effect) (reply : Reply) (old new : DatabaseValue) → IsEffect effect reply old new → reply.refused ≡ true → Makes Nothing old new
refused_makes effect reply old new is refused = none_made old new (is.refused refused)

-- the changes of a group lead on
pub leads_more : (effect : Effect) (old new : Group) (before db after : DatabaseValue) → TakesEffect effect old new → Makes effect db after → LeadTo before old.changes db → LeadTo before new.changes after
leads_more Nothing old new before db after takes makes leads =
    let same : new.changes ≡ old.changes ++ [] = ap (λ (g : Group). g.changes) takes ∙ sym (append-nil old.changes) in
    subst (λ (cs : List Change). LeadTo before cs after) (sym same) (LeadTo-then before db after old.changes [] leads makes.0)
leads_more Defines old new before db after takes makes leads =
    let same : new.changes ≡ old.changes ++ [] = takes.2 ∙ sym (append-nil old.changes) in
    subst (λ (cs : List Change). LeadTo before cs after) (sym same) (LeadTo-then before db after old.changes [] leads makes.0)
leads_more (Changes change) old new before db after takes makes leads =
    subst (λ (cs : List Change). LeadTo before cs after) (sym takes.2) (LeadTo-then before db after old.changes (change ∷ []) leads makes.0)

-- the schema goes on behind the one of before
extends_same : (old new : DatabaseValue) → new.schema ≡ old.schema → IsExtension old.schema new.schema
extends_same old new same = subst (IsExtension old.schema) (sym same) (IsExtension-self old.schema)

pub extends_more : (effect : Effect) (old new : DatabaseValue) → Makes effect old new → IsExtension old.schema new.schema
extends_more Nothing old new makes = extends_same old new makes.1
extends_more Defines old new makes = makes.1
extends_more (Changes change) old new makes = extends_same old new makes.1

-- a group that has changed nothing
pub same_more : (effect : Effect) (old new : Group) (db after : DatabaseValue) → TakesEffect effect old new → Makes effect db after → new.changed ≡ false → (old.changed ≡ false) × IsSame db after
same_more Nothing old new db after takes makes none = (sym (ap (λ (g : Group). g.changed) takes) ∙ none, record { schema = sym makes.1; rows = makes.0 })
same_more Defines old new db after takes makes none = absurd (true≢false (sym takes.1 ∙ none))
same_more (Changes change) old new db after takes makes none = absurd (true≢false (sym takes.1 ∙ none))

-- its replies are as before
pub same_replies : (effect : Effect) (old new : Group) → TakesEffect effect old new → new.replies.items ≡ old.replies.items
same_replies Nothing old new takes = ap (λ (g : Group). g.replies.items) takes
same_replies Defines old new takes = ap (λ v. v.items) takes.0
same_replies (Changes change) old new takes = ap (λ v. v.items) takes.0
