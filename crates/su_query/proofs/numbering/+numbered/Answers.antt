-- The parts take their numbers from the front, one part after the other, as the refs of the whole condition stand.
use Rattle.std.proofs.Common.{rules, ◌∙◌, List, map, sym, ap, subst, arith}
use Rattle.std.specs.List.{flat_map}
use Rattle.std.proofs.lemmas.List.{take_all}
use Rattle.su_where.specs.declared.conditions.Condition.{the_lemmas}
use Rattle.su_where.specs.declared.conditions.Condition.TheVariants.{All, Any}
use Rattle.su_query.specs.Refs.{NamedCond, refs_of}
use Rattle.su_query.specs.NumberedConditions.{numbered}
use Rattle.su_query.specs.inside.RefNumbers.{Takes}
use Rattle.su_query.proofs.Found.{numbered-All, numbered-Any}
use Rattle.su_query.proofs.Taken.{refs_of-All, refs_of-Any, made_of, numbers_of_all, numbers_of_any}
use Rattle.su_query.proofs.numbering.+numbered.Goals as goal

pub numbered-numbered_all-requires : goal.numbered-numbered_all-requires
numbered-numbered_all-requires t c = (search (rules, the_lemmas), numbers_of_all c.args.cond.now c.in-All.parts c.as_slice.result.now c.args.numbers.now c.in-All.is c.as_slice.ensures c.requires)

pub numbered-numbered_all-requires-in-Any : goal.numbered-numbered_all-requires-in-Any
numbered-numbered_all-requires-in-Any t c = (search (rules, the_lemmas), numbers_of_any c.args.cond.now c.in-Any.parts c.as_slice-in-Any.result.now c.args.numbers.now c.in-Any.is c.as_slice-in-Any.ensures c.requires)

pub numbered-returns-in_ok-numbered_all-in-All : goal.numbered-returns-in_ok-numbered_all-in-All
numbered-returns-in_ok-numbered_all-in-All t c =
    let parts = c.as_slice.result.now in
    made_of (flat_map refs_of parts) (refs_of c.args.cond.now) c.args.numbers.now c.numbered_all.new.numbers (λ number. map (numbered number) parts) c.in_ok-numbered_all-in-All.field-0 (λ number. numbered number c.args.cond.now) All
    (ap refs_of c.in-All.is ∙ refs_of-All c.in-All.parts ∙ ap (flat_map refs_of) (sym c.as_slice.ensures))
    (λ number. ap (λ (cs : List NamedCond). All (map (numbered number) cs)) c.as_slice.ensures ∙ sym (ap (numbered number) c.in-All.is ∙ numbered-All number c.in-All.parts)) c.in_ok-numbered_all-in-All.ensures

pub numbered-returns-in_ok-numbered_all-in-Any : goal.numbered-returns-in_ok-numbered_all-in-Any
numbered-returns-in_ok-numbered_all-in-Any t c =
    let parts = c.as_slice-in-Any.result.now in
    made_of (flat_map refs_of parts) (refs_of c.args.cond.now) c.args.numbers.now c.numbered_all-in-Any.new.numbers (λ number. map (numbered number) parts) c.in_ok-numbered_all-in-Any.field-0 (λ number. numbered number c.args.cond.now) Any
    (ap refs_of c.in-Any.is ∙ refs_of-Any c.in-Any.parts ∙ ap (flat_map refs_of) (sym c.as_slice-in-Any.ensures))
    (λ number. ap (λ (cs : List NamedCond). Any (map (numbered number) cs)) c.as_slice-in-Any.ensures ∙ sym (ap (numbered number) c.in-Any.is ∙ numbered-Any number c.in-Any.parts)) c.in_ok-numbered_all-in-Any.ensures

pub numbered_all-returns : goal.numbered_all-returns
numbered_all-returns t c =
    let all = take_all c.loop-part.part-index c.args.parts.now (omega (arith, c.loop-part-test.false)) in
    subst (λ (cs : List NamedCond). Takes (flat_map refs_of cs) c.args.numbers.now c.loop-part.numbers (λ number. map (numbered number) cs) c.loop-part.conds) all c.loop-part.invariant.taken
