-- A row without a partner in the other edge is in no valuation of both, so the edges without it have the same valuations.
use Rattle.std.proofs.Common.{◌≡◌, ◌<◌, ℕ, List, true, length, get_or, subst, sym, rules}
use Rattle.su_exec.specs.inside.Edges.{Edge, has}
use Rattle.su_exec.specs.inside.Semijoins.{IsSemijoin}
use Rattle.su_exec.proofs.SemijoinRows.{kept_in_place, semijoin_both}
use Rattle.su_exec.proofs.Partners.{swap_same}
use Rattle.su_exec.proofs.MergeSteps.{among_set}
use Rattle.su_exec.proofs.reducing.reduce_one.Goals as goal

pub returns-clause-same : goal.returns-clause-same
returns-clause-same c =
    let es : List (Edge ℕ) = c.args.edges.now.items in
    let a : Edge ℕ = c.index.result.now in
    let b : Edge ℕ = c.index-2.result.now in
    let g : Edge ℕ = c.keep.new.self in
    let il : c.args.i < length es = search (rules, c.if-i-len.false) in
    let jl : c.args.j < length es = search (rules, c.if-j-len.false) in
    let a_is : a ≡ get_or es c.args.i a = search rules in
    let less : IsSemijoin a b g = kept_in_place es c.args.i a b c.index_mut.result.now g c.in_ok-marks.marks.items c.deref.result.now il a_is c.index_mut.ensures.value c.deref.ensures.value c.keep.ensures c.in_ok-marks.ensures.semijoin in
    swap_same es c.args.i c.args.j a b g il jl c.if-i-j.false a_is (search rules) (semijoin_both a b g less)

pub returns-clause-vars : goal.returns-clause-vars
returns-clause-vars c = λ k h.
    let es : List (Edge ℕ) = c.args.edges.now.items in
    let a : Edge ℕ = c.index.result.now in
    let b : Edge ℕ = c.index-2.result.now in
    let g : Edge ℕ = c.keep.new.self in
    let il : c.args.i < length es = search (rules, c.if-i-len.false) in
    let a_is : a ≡ get_or es c.args.i a = search rules in
    let less : IsSemijoin a b g = kept_in_place es c.args.i a b c.index_mut.result.now g c.in_ok-marks.marks.items c.deref.result.now il a_is c.index_mut.ensures.value c.deref.ensures.value c.keep.ensures c.in_ok-marks.ensures.semijoin in
    among_set es c.args.i a g k il a_is (λ m. subst (λ (xs : List ℕ). has xs k ≡ true) (sym less.vars) m) h
