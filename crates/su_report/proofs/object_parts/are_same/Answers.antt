-- Two lists of keys are compared; else both were looked for or neither.
use Rattle.std.proofs.Common.{◌↔◌, List, Option, Some, IsTrue, sym, subst}
use Rattle.std.specs.Ordering.{nat_cmp}
use Rattle.std.specs.FinSet.{FinSet}
use Rattle.std.proofs.Common.{Contains}
use Rattle.su_report.specs.ObjectParts.{AreSame}
use Rattle.su_report.proofs.object_parts.are_same.Goals as goal

pub returns-in-Some-Some : goal.returns-in-Some-Some
returns-in-Some-Some c =
    let xs = c.in-Some-Some.xs in
    let ys = c.in-Some-Some.ys in
    let told : IsTrue c.are_equal.result ↔ ((x : FinSet nat_cmp) → Contains xs x ↔ Contains ys x) =
    subst (λ (ks : List (FinSet nat_cmp)). IsTrue c.are_equal.result ↔ ((x : FinSet nat_cmp) → Contains xs x ↔ Contains ks x)) c.as_slice-in-Some-Some.ensures
    (subst (λ (ks : List (FinSet nat_cmp)). IsTrue c.are_equal.result ↔ ((x : FinSet nat_cmp) → Contains ks x ↔ Contains c.as_slice-in-Some-Some.result.now x)) c.as_slice.ensures c.are_equal.ensures) in
    subst (λ (o : Option (List (FinSet nat_cmp))). IsTrue c.are_equal.result ↔ AreSame o c.args.own.now) (sym c.in-Some-Some.is-0) (subst (λ (o : Option (List (FinSet nat_cmp))). IsTrue c.are_equal.result ↔ AreSame (Some xs) o) (sym c.in-Some-Some.is-1) told)
