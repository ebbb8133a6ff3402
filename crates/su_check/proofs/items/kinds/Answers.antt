-- What was read are the words of the kinds so far, and where no such word comes next the run ends; so no other list of kinds could be read.
use Rattle.std.proofs.Common.{refl}
use Rattle.su_base.specs.declared.values.Kind.{Kind}
use Rattle.su_lex.specs.Wordings.{kind_symbol}
use Rattle.su_check.proofs.Runs.{map_ended}
use Rattle.su_check.proofs.Spelled.{one_kind}
use Rattle.su_check.proofs.items.kinds.Goals as goal

pub returns-clause-only : goal.returns-clause-only
returns-clause-only c = λ ks r ends e.
    map_ended kind_symbol (λ (k : Kind). Unit {0}) one_kind c.loop-kind.kinds ks _ c.loop-kind.reader _ r c.loop-kind.invariant.whole c.in_default.ensures.found (λ k d h. tt)
    (c.in_default.ensures.none refl) (λ k d h. tt) ends e
