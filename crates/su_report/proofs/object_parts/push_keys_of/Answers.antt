-- The keys by all dependencies are told, and behind them those by the dependencies in the object where these are others.
use Rattle.std.proofs.Common.{◌∙◌, List, subst, sym, ap}
use Rattle.std.specs.Ordering.{nat_cmp}
use Rattle.std.specs.FinSet.{FinSet}
use Rattle.std.proofs.lemmas.Bool.{true≢false}
use Rattle.std.proofs.lemmas.Result.{on_ok_weaker}
use Rattle.su_fd.specs.declared.dependencies.Fd.{Fd}
use Rattle.su_advise.specs.Lying.{lying_in}
use Rattle.su_report.specs.ObjectParts.{object_at, AreFound}
use Rattle.su_report.proofs.ObjectTexts.{keys_once, keys_twice}
use Rattle.su_report.proofs.object_parts.push_keys_of.Goals as goal

pub returns-then-are_same : goal.returns-then-are_same
returns-then-are_same c =
    let schema = c.args.schema.now in
    let o = c.args.o in
    let all = c.in_ok-all.all in
    let own = c.in_ok-own.own in
    let all_are : AreFound schema.fds (object_at schema o) all = subst (λ (fds : List Fd). AreFound fds (object_at schema o) all) c.fds-2.ensures (subst (λ (x : FinSet nat_cmp). AreFound c.fds-2.result.now x all) c.requires.object c.in_ok-all.ensures) in
    let own_are : AreFound (lying_in (object_at schema o) schema.fds) (object_at schema o) own = subst (λ (fds : List Fd). AreFound fds (object_at schema o) own) (c.as_slice.ensures ∙ c.in_ok-own_fds.ensures ∙ ap (lying_in c.args.object) c.fds.ensures ∙ ap (λ (x : FinSet nat_cmp). lying_in x schema.fds) c.requires.object) (subst (λ (x : FinSet nat_cmp). AreFound c.as_slice.result.now x own) c.requires.object c.in_ok-own.ensures) in
    keys_once schema o all own all_are own_are c.args.out.now.items c.push_keys.new.out.items c.in_ok-push_keys.ensures (c.are_same.ensures.0 c.if-are_same.true)

pub returns : goal.returns
returns c =
    let schema = c.args.schema.now in
    let o = c.args.o in
    let all = c.in_ok-all.all in
    let own = c.in_ok-own.own in
    let all_are : AreFound schema.fds (object_at schema o) all = subst (λ (fds : List Fd). AreFound fds (object_at schema o) all) c.fds-2.ensures (subst (λ (x : FinSet nat_cmp). AreFound c.fds-2.result.now x all) c.requires.object c.in_ok-all.ensures) in
    let own_are : AreFound (lying_in (object_at schema o) schema.fds) (object_at schema o) own = subst (λ (fds : List Fd). AreFound fds (object_at schema o) own) (c.as_slice.ensures ∙ c.in_ok-own_fds.ensures ∙ ap (lying_in c.args.object) c.fds.ensures ∙ ap (λ (x : FinSet nat_cmp). lying_in x schema.fds) c.requires.object) (subst (λ (x : FinSet nat_cmp). AreFound c.as_slice.result.now x own) c.requires.object c.in_ok-own.ensures) in
    on_ok_weaker c.push_keys-2.result
    (λ e. keys_twice schema o all own all_are own_are c.args.out.now.items c.push_keys.new.out.items c.in_ok-push_keys.ensures (λ same. true≢false (sym (c.are_same.ensures.1 same) ∙ c.if-are_same.false)) c.push_keys-2.new.out.items e)
    c.push_keys-2.ensures
