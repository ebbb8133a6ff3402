-- The names are the least classes that are closed under the dependencies. Over a universal relation that meets these a class has one value, so the named tableau answers what the tableau does; where a class has two constants nothing is answered.
use Rattle.std.proofs.Common.{◌∙◌, ℕ, List, length, subst, sym, ap}
use Rattle.std.specs.Prelude.{All}
use Rattle.std.proofs.Common.{rules}
use Rattle.su_tableau.specs.declared.symbols.Sym.{Sym}
use Rattle.su_tableau.specs.Tableaux.{AreBelow}
use Rattle.su_chase.specs.Chase.{IsClash}
use Rattle.su_chase.specs.Chased.{AreRows}
use Rattle.su_chase.specs.inside.Rows.{name_by, named_tab}
use Rattle.su_chase.proofs.NamedAnswers.{rows_are, chase_told, clash_answers}
use Rattle.su_chase.proofs.chasing.chase.Goals as goal

pub close-requires : goal.close-requires
close-requires c = record { rows = subst (λ (rows : List (List Sym)). AreRows c.args.fds.now rows) (sym (c.as_slice.ensures ∙ c.in_ok-rows.ensures)) (rows_are c.args.fds.now c.args.t.now c.keeps_its_rules.ensures.valid c.keeps_its_rules.ensures.small c.requires.below) }

pub returns-in-Some-clause-answers : goal.returns-in-Some-clause-answers
returns-in-Some-clause-answers c =
    let k : IsClash c.args.fds.now c.args.t.now.rows c.in-Some.less c.in-Some.greater = search rules in
    clash_answers c.args.fds.now c.args.t.now c.in-Some.less c.in-Some.greater k.differ k.together

pub named_tableau-requires-clause-all : goal.named_tableau-requires-clause-all
named_tableau-requires-clause-all c =
    subst (λ (n : ℕ). All (AreBelow n) c.as_slice-in-None.result.now) (sym (ap length c.as_slice-in-None-2.ensures))
    (subst (λ (rows : List (List Sym)). All (AreBelow (length c.in_ok-closed.closed.names)) rows) (c.as_slice.ensures ∙ sym c.as_slice-in-None.ensures) c.in_ok-closed.ensures.all)

pub returns-clause-chased : goal.returns-clause-chased
returns-clause-chased c =
    let closed = c.in_ok-closed.closed in
    (chase_told c.args.fds.now c.args.t.now c.keeps_its_rules.ensures.valid c.requires.below closed.names c.as_slice.result.now (c.as_slice.ensures ∙ c.in_ok-rows.ensures) c.in_ok-closed.ensures.all c.in_ok-closed.ensures.names closed.clash c.in_ok-closed.ensures.clash c.in-None.is
    c.in_ok-chased-in-None.chased (c.in_ok-chased-in-None.ensures ∙ ap (λ (names : List Sym). named_tab (name_by names) c.args.t.now) c.as_slice-in-None-2.ensures)).0

pub returns-clause-answers : goal.returns-clause-answers
returns-clause-answers c =
    let closed = c.in_ok-closed.closed in
    (chase_told c.args.fds.now c.args.t.now c.keeps_its_rules.ensures.valid c.requires.below closed.names c.as_slice.result.now (c.as_slice.ensures ∙ c.in_ok-rows.ensures) c.in_ok-closed.ensures.all c.in_ok-closed.ensures.names closed.clash c.in_ok-closed.ensures.clash c.in-None.is
    c.in_ok-chased-in-None.chased (c.in_ok-chased-in-None.ensures ∙ ap (λ (names : List Sym). named_tab (name_by names) c.args.t.now) c.as_slice-in-None-2.ensures)).1

pub returns-clause-typed : goal.returns-clause-typed
returns-clause-typed c =
    let closed = c.in_ok-closed.closed in
    (chase_told c.args.fds.now c.args.t.now c.keeps_its_rules.ensures.valid c.requires.below closed.names c.as_slice.result.now (c.as_slice.ensures ∙ c.in_ok-rows.ensures) c.in_ok-closed.ensures.all c.in_ok-closed.ensures.names closed.clash c.in_ok-closed.ensures.clash c.in-None.is
    c.in_ok-chased-in-None.chased (c.in_ok-chased-in-None.ensures ∙ ap (λ (names : List Sym). named_tab (name_by names) c.args.t.now) c.as_slice-in-None-2.ensures)).2

pub returns-clause-settled : goal.returns-clause-settled
returns-clause-settled c =
    let closed = c.in_ok-closed.closed in
    (chase_told c.args.fds.now c.args.t.now c.keeps_its_rules.ensures.valid c.requires.below closed.names c.as_slice.result.now (c.as_slice.ensures ∙ c.in_ok-rows.ensures) c.in_ok-closed.ensures.all c.in_ok-closed.ensures.names closed.clash c.in_ok-closed.ensures.clash c.in-None.is
    c.in_ok-chased-in-None.chased (c.in_ok-chased-in-None.ensures ∙ ap (λ (names : List Sym). named_tab (name_by names) c.args.t.now) c.as_slice-in-None-2.ensures)).3
