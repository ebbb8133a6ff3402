-- The body is the two that are joined and the rest, and the checks are the tests of the two and those of the rest: so the join takes the place of both, or it is past the bound, which only two that share nothing with the rest are given.
use Rattle.std.proofs.Common.{◌≡◌, ◌∷◌, ◌++◌, ◌&&◌, ◌||◌, ◌⊎◌, ◌<◌, ◌+◌, [], List, ℕ, Option, None, true, length, map, sym, ap, subst, ◌∙◌, ⊎_elim, arith, length-append}
use Rattle.std.proofs.lemmas.List.Edits.{length-remove}
use Rattle.su_base.specs.declared.values.Value.{Value}
use Rattle.su_exec.specs.declared.checks.Check.{Check}
use Rattle.su_exec.specs.declared.checks.Test.{Test}
use Rattle.su_exec.specs.inside.Bodies.{AreAlone}
use Rattle.su_exec.specs.inside.Checks.{all_hold, all_pass}
use Rattle.su_exec.specs.inside.Edges.{Edge, among, has}
use Rattle.su_exec.specs.inside.Joins.{IsUpTo}
use Rattle.su_exec.proofs.Parts.{taken_out}
use Rattle.su_exec.proofs.MergeSteps.{all_of_two, merged_keeps, merged_there, over, over_there, two_parts}
use Rattle.su_exec.proofs.merging.merge_next.Goals as goal
use Rattle.su_exec.proofs.merging.merge_next.Goals.{In_ok-joined}
use Rattle.su_exec.proofs.Splits.{Splits}

-- what both ways out share: the two that are joined, and the rest
module _ (c : In_ok-joined) where
  abbrev es : List (Edge ℕ)
  es = c.args.body.now.edges.items

  abbrev fs : List (Edge ℕ)
  fs = c.remove-b.new.self.items

  abbrev rest : List (Edge ℕ)
  rest = c.remove-a.new.self.items

  abbrev a : Edge ℕ
  a = c.remove-a.result

  abbrev b : Edge ℕ
  b = c.remove-b.result

  abbrev g : Edge ℕ
  g = c.in_ok-joined.joined

  abbrev olds : List Check
  olds = c.args.body.now.checks.items

  abbrev news : List Check
  news = c.take_tests.new.checks.items

  abbrev tests : List Test
  tests = c.in_ok-tests.tests.items

  abbrev wanted : List ℕ
  wanted = c.in_ok-wanted.wanted.items

  abbrev others : List ℕ
  others = c.in_ok-others.others.items

  abbrev bound : Option ℕ
  bound = c.bound_of-bound.result

  second_low : c.in_ok-i.j < length es
  second_low = c.in_ok-i.ensures.1

  one_less : length fs + 1 ≡ length es
  one_less = ap (λ (xs : List (Edge ℕ)). length xs + 1) c.remove-b.ensures.items ∙ length-remove es c.in_ok-i.j second_low

  first_low : c.in_ok-i.i < length fs
  first_low = let less = c.in_ok-i.ensures.0 in let low = second_low in let fewer = one_less in omega arith

  two_less : length rest + 2 ≡ length es
  two_less =
      let fewer = one_less in
      let fewest : length rest + 1 ≡ length fs = ap (λ (xs : List (Edge ℕ)). length xs + 1) c.remove-a.ensures.items ∙ length-remove fs c.in_ok-i.i first_low in
      omega arith

  splits : Splits es (a ∷ b ∷ []) rest
  splits = taken_out es c.in_ok-i.i c.in_ok-i.j a b fs rest second_low c.remove-b.ensures.value c.remove-b.ensures.items first_low c.remove-a.ensures.value c.remove-a.ensures.items

  parts : (k : ℕ) → among es k ≡ true → (among (a ∷ b ∷ []) k ≡ true) ⊎ (among rest k ≡ true)
  parts = two_parts es c.in_ok-i.i c.in_ok-i.j a b fs rest second_low c.remove-b.ensures.value c.remove-b.ensures.items first_low c.remove-a.ensures.value c.remove-a.ensures.items

  same : (values : List Value) (v : ℕ → ℕ) → all_hold values olds v ≡ (all_pass values tests (map v a.vars) (map v b.vars) && all_hold values news v)
  same values v =
      c.in_ok-tests.ensures.same values v ∙ ap (λ xs. all_pass values tests (map v xs) (map v c.vars-2.result.now) && all_hold values news v) c.vars.ensures
      ∙ ap (λ ys. all_pass values tests (map v a.vars) (map v ys) && all_hold values news v) c.vars-2.ensures

  out : (k : ℕ) → among (a ∷ b ∷ []) k ≡ true → has wanted k ≡ true → has g.vars k ≡ true
  out k h w = c.in_ok-joined.ensures.wanted k h (ap (λ ks. has ks k) c.deref-2.ensures.value ∙ w)

  within : (k : ℕ) → has g.vars k ≡ true → (has wanted k ≡ true) × (among (a ∷ b ∷ []) k ≡ true)
  within k h = let x = c.in_ok-joined.ensures.only k h in (ap (λ ks. has ks k) (sym c.deref-2.ensures.value) ∙ x.0, x.1)

  bounded : (bound ≡ None) ⊎ ((bound ≡ c.args.most) × AreAlone a.vars others × AreAlone b.vars others)
  bounded = rw (c.vars-3.ensures, c.vars-4.ensures, c.deref.ensures.value) at c.bound_of-bound.ensures

pub returns-then-is_past-clause-merged : goal.returns-then-is_past-clause-merged
returns-then-is_past-clause-merged c =
    let d = (goal.at.returns-then-is_past-clause-merged c).In_ok-joined in
    let count : c.len.result ≡ length (g d).rows = c.len.ensures ∙ ap length c.rows.ensures.rows in
    let past : IsUpTo (bound d) c.len.result → ⊥ = rw c.if-is_past.true at c.is_past.ensures in
    ⊎_elim
    (λ (none : bound d ≡ None). absurd (past (subst (λ (b : Option ℕ). IsUpTo b c.len.result) (sym none) tt)))
    (λ (x : (bound d ≡ c.args.most) × AreAlone (a d).vars (others d) × AreAlone (b d).vars (others d)).
    over c.args.codes.now c.args.needed.now (olds d) (news d) (tests d) (a d) (b d) (g d) (es d) (rest d) (bound d) (splits d) (parts d) (same d) c.in_ok-tests.ensures.vars c.in_ok-joined.ensures.joined
    (wanted d) c.in_ok-wanted.ensures.needed c.in_ok-wanted.ensures.edges c.in_ok-wanted.ensures.checks (out d)
    (others d) c.in_ok-others.ensures.edges c.in_ok-others.ensures.checks x.1 x.2 c.in_ok-wanted.ensures.only (within d) c.args.most c.rows.ensures.real
    (λ u. past (subst (λ (b : Option ℕ). IsUpTo b c.len.result) (sym x.0) (subst (λ n. IsUpTo c.args.most n) (sym count) u))))
    (bounded d)

pub returns-then-is_past-clause-there : goal.returns-then-is_past-clause-there
returns-then-is_past-clause-there c =
    let d = (goal.at.returns-then-is_past-clause-there c).In_ok-joined in
    let past : IsUpTo (bound d) c.len.result → ⊥ = rw c.if-is_past.true at c.is_past.ensures in
    ⊎_elim
    (λ (none : bound d ≡ None). absurd (past (subst (λ (b : Option ℕ). IsUpTo b c.len.result) (sym none) tt)))
    (λ (x : (bound d ≡ c.args.most) × AreAlone (a d).vars (others d) × AreAlone (b d).vars (others d)).
    over_there c.args.codes.now c.args.needed.now (olds d) (news d) (tests d) (a d) (b d) (g d) (es d) (rest d) (bound d) (splits d) (parts d) (same d) c.in_ok-tests.ensures.vars c.in_ok-joined.ensures.joined
    (wanted d) c.in_ok-wanted.ensures.needed c.in_ok-wanted.ensures.edges c.in_ok-wanted.ensures.checks (out d)
    (others d) c.in_ok-others.ensures.edges c.in_ok-others.ensures.checks x.1 x.2 c.in_ok-wanted.ensures.only (within d) c.requires.there)
    (bounded d)

pub returns-then-is_past-clause-length : goal.returns-then-is_past-clause-length
returns-then-is_past-clause-length c = two_less (goal.at.returns-then-is_past-clause-length c).In_ok-joined

pub returns-then-is_past-clause-last : goal.returns-then-is_past-clause-last
returns-then-is_past-clause-last c =
    let d = (goal.at.returns-then-is_past-clause-last c).In_ok-joined in
    λ none. c.in_ok-tests.ensures.all (λ k h.
    ap (λ xs. has xs k || has c.vars-2.result.now k) c.vars.ensures ∙ ap (λ ys. has (a d).vars k || has ys k) c.vars-2.ensures ∙ all_of_two c.args.needed.now (olds d) (a d) (b d) (es d) (rest d) (parts d) none c.requires.there k h)

pub returns-clause-merged : goal.returns-clause-merged
returns-clause-merged c =
    let d = (goal.at.returns-clause-merged c).In_ok-joined in
    let count : c.len.result ≡ length (g d).rows = c.len.ensures ∙ ap length c.rows.ensures.rows in
    let few : IsUpTo (bound d) c.len.result = rw c.if-is_past.false at c.is_past.ensures in
    rw c.in_ok-push.ensures.items
    (merged_keeps c.args.codes.now c.args.needed.now (olds d) (news d) (tests d) (a d) (b d) (g d) (es d) (rest d) (bound d) (splits d) (parts d) (same d) c.in_ok-tests.ensures.vars c.in_ok-joined.ensures.joined
    (wanted d) c.in_ok-wanted.ensures.needed c.in_ok-wanted.ensures.edges c.in_ok-wanted.ensures.checks (out d) (subst (λ n. IsUpTo (bound d) n) count few))

pub returns-clause-there : goal.returns-clause-there
returns-clause-there c =
    let d = (goal.at.returns-clause-there c).In_ok-joined in
    rw c.in_ok-push.ensures.items
    (merged_there c.args.codes.now c.args.needed.now (olds d) (news d) (tests d) (a d) (b d) (g d) (es d) (rest d) (bound d) (splits d) (parts d) (same d) c.in_ok-tests.ensures.vars c.in_ok-joined.ensures.joined
    (wanted d) c.in_ok-wanted.ensures.needed c.in_ok-wanted.ensures.edges c.in_ok-wanted.ensures.checks (out d) c.requires.there)

pub returns-clause-length : goal.returns-clause-length
returns-clause-length c =
    let d = (goal.at.returns-clause-length c).In_ok-joined in
    let fewer : length (rest d) + 2 ≡ length (es d) = two_less d in
    let all : length c.push.new.self.items ≡ length (rest d ++ g d ∷ []) = ap length c.in_ok-push.ensures.items in
    let more = length-append (rest d) (g d ∷ []) in
    omega arith

pub returns-clause-last : goal.returns-clause-last
returns-clause-last c =
    let rest : List (Edge ℕ) = c.remove-a.new.self.items in
    let joined : Edge ℕ = c.in_ok-joined.joined in
    let news : List Check = c.take_tests.new.checks.items in
    let all : length c.push.new.self.items ≡ length (rest ++ joined ∷ []) = ap length c.in_ok-push.ensures.items in
    let more = length-append rest (joined ∷ []) in
    λ none. absurd {A = news ≡ []} (let empty : length c.push.new.self.items ≡ 0 = ap length none in omega arith)
