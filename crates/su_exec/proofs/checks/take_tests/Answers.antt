-- The tests and what is left are together the checks so far; where the rows have all variables of the checks nothing is left.
use Rattle.std.proofs.Common.{◌≡◌, ◌<◌, ◌&&◌, ◌||◌, ◌+◌, ℕ, List, [], ◌∷◌, length, get_or, take, sym, ap, ◌∙◌, arith}
use Rattle.std.proofs.lemmas.Bool.{or_left, or_right}
use Rattle.su_where.specs.declared.operators.Op.TheVariants.{Equal}
use Rattle.su_exec.specs.declared.checks.Check.{Check}
use Rattle.su_exec.specs.declared.checks.CodedSymbol.TheVariants.{Code}
use Rattle.su_exec.specs.inside.Edges.{has}
use Rattle.su_exec.specs.inside.Checks.{all_hold, check_holds, check_vars}
use Rattle.su_exec.proofs.CheckTests.{has_more, hold_more, or_map}
use Rattle.su_exec.proofs.checks.take_tests.Goals as goal

pub loop-check-preserved : goal.loop-check-preserved
loop-check-preserved c =
    let cs : List Check = c.args.checks.now.items in
    let i = c.loop-check.check-index in
    let d : Check = record { left = Code 0; op = Equal; right = Code 0 } in
    let item : Check = get_or c.deref-check-items.result.now i d in
    let len : length c.deref-check-items.result.now ≡ length cs = ap length c.deref-check-items.ensures.value in
    let test = c.loop-check-test.true in
    let low : i < length cs = omega arith in
    let item_is : get_or cs i d ≡ item = ap (λ (xs : List Check). get_or xs i d) (sym c.deref-check-items.ensures.value) in
    let more : (k : ℕ) → has (check_vars (take (i + 1) cs)) k ≡ (has (check_vars (take i cs)) k || has (check_vars (item ∷ [])) k) =
    λ k. has_more cs i d low k ∙ ap (λ (x : Check). has (check_vars (take i cs)) k || has (check_vars (x ∷ [])) k) item_is in
    record {
      same = λ values v.
          hold_more cs i d low values v ∙ ap (λ (x : Check). all_hold values (take i cs) v && check_holds values v x) item_is
          ∙ ap (λ b. b && check_holds values v item) (c.loop-check.invariant.same values v) ∙ sym (c.in_ok-take_one.ensures.same values v);
      within = c.in_ok-take_one.ensures.within c.loop-check.invariant.within;
      vars = λ k h. more k ∙ or_map (has (check_vars c.loop-check.later.items) k) (has (check_vars (take i cs)) k) (has (check_vars (item ∷ [])) k) (c.loop-check.invariant.vars k) (c.in_ok-take_one.ensures.vars k h);
      all = λ h.
          c.in_ok-take_one.ensures.all (λ k m. h k (more k ∙ or_right (has (check_vars (take i cs)) k) (has (check_vars (item ∷ [])) k) m))
          ∙ c.loop-check.invariant.all (λ k m. h k (more k ∙ or_left (has (check_vars (take i cs)) k) (has (check_vars (item ∷ [])) k) m));
    }
