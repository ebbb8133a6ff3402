-- A row of the parent without partner in the ear is in no valuation, so the parent loses it; an ear whose needed variables are all the parent's then says nothing more, and goes.
use Rattle.std.proofs.Common.{◌≡◌, ◌<◌, ◌+◌, ◌∙◌, List, ℕ, true, length, get_or, sym, ap, subst, arith}
use Rattle.std.specs.List.{remove}
use Rattle.std.proofs.lemmas.List.{get_or-set_same}
use Rattle.std.proofs.lemmas.List.Edits.{length-remove}
use Rattle.su_exec.specs.declared.checks.Check.{Check}
use Rattle.su_exec.specs.inside.Edges.{Edge, has}
use Rattle.su_exec.specs.inside.Semijoins.{IsSemijoin}
use Rattle.su_exec.proofs.Ears.{put_last, taken_out}
use Rattle.su_exec.proofs.SemijoinRows.{kept_in_place}
use Rattle.su_exec.proofs.reducing.take_ear.Goals as goal
use Rattle.su_exec.proofs.reducing.take_ear.Goals.{In_ok-wanted}

-- what both ways out share: the ear, the rest, and the parent before and after
module _ (c : In_ok-wanted) where
  abbrev es : List (Edge ℕ)
  es = c.args.body.now.edges.items

  abbrev cs : List Check
  cs = c.args.body.now.checks.items

  abbrev rest : List (Edge ℕ)
  rest = c.remove-ear.new.self.items

  abbrev a : Edge ℕ
  a = c.remove-ear.result

  abbrev b : Edge ℕ
  b = c.index.result.now

  abbrev g : Edge ℕ
  g = c.keep.new.self

  abbrev p : ℕ
  p = c.after-parent.result

  low : p < length rest
  low =
      let less = length-remove es c.args.i c.requires.below.0 in
      let same : length rest ≡ length (remove es c.args.i) = ap length c.remove-ear.ensures.items in
      let moved : p + 1 < length es = c.after-parent.ensures.within (length es) c.requires.below.0 c.requires.below.1 in
      omega arith

  parent_is : b ≡ get_or rest p b
  parent_is = c.index.ensures

  less : IsSemijoin b a g
  less = kept_in_place rest p b a c.index_mut.result.now g c.in_ok-marks.marks.items c.deref.result.now low parent_is c.index_mut.ensures.value c.deref.ensures.value c.keep.ensures c.in_ok-marks.ensures.semijoin

pub returns-then-has_wanted : goal.returns-then-has_wanted
returns-then-has_wanted c =
    let d = (goal.at.returns-then-has_wanted c).In_ok-wanted in
    let at : c.index-2.result.now ≡ g d = c.index-2.ensures ∙ get_or-set_same (rest d) (p d) (g d) c.index-2.result.now (low d) in
    let vars : c.vars.result.now ≡ (b d).vars = c.vars.ensures ∙ ap (λ (e : Edge ℕ). e.vars) at ∙ (less d).vars in
    taken_out c.args.needed.now (cs d) (es d) (rest d) c.args.i (p d) (a d) (b d) (g d) c.requires.below.0 c.remove-ear.ensures.value c.remove-ear.ensures.items (low d) (parent_is d) (less d)
    c.in_ok-wanted.wanted.items c.in_ok-wanted.ensures.needed c.in_ok-wanted.ensures.edges c.in_ok-wanted.ensures.checks
    (λ k x w.
    subst (λ (xs : List ℕ). has xs k ≡ true) vars
    (c.has_wanted.ensures c.if-has_wanted.true k (subst (λ (xs : List ℕ). has xs k ≡ true) (sym c.vars-2.ensures) x) (subst (λ (xs : List ℕ). has xs k ≡ true) (sym c.deref-2.ensures.value) w)))

pub returns : goal.returns
returns c =
    let d = (goal.at.returns c).In_ok-wanted in
    rw c.in_ok-push.ensures.items
    (put_last c.args.needed.now (cs d) (es d) (rest d) c.args.i (p d) (a d) (b d) (g d) c.requires.below.0 c.remove-ear.ensures.value c.remove-ear.ensures.items (low d) (parent_is d) (less d))
