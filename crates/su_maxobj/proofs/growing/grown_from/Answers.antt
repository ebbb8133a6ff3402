-- The set comes from the seed by first adjoinable objects, and an object ruled out stays so while what joins shares nothing new with it; each step leaves fewer objects outside.
use Rattle.std.proofs.Common.{◌++◌, [], ◌∷◌, length, ap, sym, ◌∙◌}
use Rattle.std.proofs.lemmas.Bool.{false_from_ne_true}
use Rattle.std.specs.FinSet.{insert}
use Rattle.su_base.proofs.Subsets.{set_at_read}
use Rattle.su_maxobj.proofs.Members.{attributes_of_one, attributes_of_more}
use Rattle.su_maxobj.proofs.GrowthSteps.{missing_lt, growth_push, one_grown, not_adjoinable_none, not_adjoinable_still}
use Rattle.su_maxobj.proofs.growing.grown_from.Goals as goal

pub loop-o-init : goal.loop-o-init
loop-o-init c =
    let alone = c.insert-have.ensures ∙ ap (λ z. insert z c.args.seed) c.empty.ensures in
    record {
      joined = [];
      growth = sym alone;
      members = attributes_of_one _ _ _ _ c.requires.in_range alone (set_at_read _ _ _ c.requires.in_range c.index-objects-seed.is);
      ruled_out = not_adjoinable_none _ _ _ _ c.empty-ruled_out.ensures;
    }

pub loop-o-smaller : goal.loop-o-smaller
loop-o-smaller c =
    rw c.insert-have-in-Some.ensures
    (missing_lt (length c.args.objects.now) c.loop-o.have c.in-Some.o c.in-Some.ensures.first.in_range (false_from_ne_true _ c.in-Some.ensures.first.adjoinable.outside))

pub loop-o-preserved : goal.loop-o-preserved
loop-o-preserved c =
    let inside = c.in-Some.ensures.first.in_range in
    let own = set_at_read _ _ _ inside c.index-objects-o.is in
    record {
      joined = c.loop-o.invariant.joined ++ c.in-Some.o ∷ [];
      growth = growth_push _ _ _ _ _ _ c.loop-o.invariant.growth c.in-Some.ensures.first _ c.insert-have-in-Some.ensures;
      members = attributes_of_more _ _ _ _ _ _ _ c.loop-o.invariant.members inside own c.insert-have-in-Some.ensures c.union-members.ensures;
      ruled_out = not_adjoinable_still _ _ _ _ _ _ _ _ _ _ c.loop-o.invariant.members inside own c.insert-have-in-Some.ensures c.union-members.ensures
          c.first_adjoinable.ensures.ruled_out c.unmoved-ruled_out.ensures.within c.unmoved-ruled_out.ensures.unmoved;
    }

pub returns-clause-only : goal.returns-clause-only
returns-clause-only c other grown =
    one_grown _ _ _ _ _ grown (record { joined = c.loop-o.invariant.joined; growth = c.loop-o.invariant.growth; full = c.in_default.ensures.first })
