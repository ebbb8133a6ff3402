-- The candidates say which valuations agree with the stored rows, merging keeps what they give the outputs' variables, and the outputs are read off what is merged; so each step is an equality of what the valuations give.
use Rattle.std.proofs.Common.{◌≡◌, List, ℕ, Some, sym, ap, subst, ◌∙◌}
use Rattle.std.specs.Prelude.{IfOk, IfErr}
use Rattle.su_base.specs.declared.values.Value.{Value}
use Rattle.su_rel.specs.Stored.{Stored}
use Rattle.su_exec.specs.declared.checks.Check.{Check}
use Rattle.su_exec.specs.declared.checks.CodedSymbol.{CodedSymbol}
use Rattle.su_exec.specs.declared.tasks.ExecFault.TheVariants.{More}
use Rattle.su_exec.specs.inside.Checks.{all_hold}
use Rattle.su_exec.specs.inside.Edges.{Edge}
use Rattle.su_exec.specs.inside.Shown.{HasVars, IsMoreBy, IsShownBy, term_vars}
use Rattle.su_reduce.proofs.CodeExtensions.{extends_then}
use Rattle.su_exec.proofs.Outputs.{IsBodyOf, are_there, body_of, has_vars, more_of, none_agree, none_are_outputs, outputs_of}
use Rattle.su_exec.proofs.executing.execute_by.Goals as goal

pub returns-in-None-clause-outputs : goal.returns-in-None-clause-outputs
returns-in-None-clause-outputs g c =
    let tables : List Stored = g.R.Rows.tables c.args.rows.now in
    none_are_outputs tables c.args.task.now c.new.result c.new.ensures (none_agree tables c.args.task.now (rw c.in-None.is at c.in_ok-found.ensures.edges))

pub run-requires-clause-there : goal.run-requires-clause-there
run-requires-clause-there g c =
    let tables : List Stored = g.R.Rows.tables c.args.rows.now in
    let task = c.args.task.now in
    let a : List Value = c.fetch_rows.new.codes in
    let b : List Value = c.checks_of.new.codes in
    let values : List Value = c.terms_of.new.codes in
    let es : List (Edge ℕ) = c.in-Some.fetched.items in
    let fs : List (Edge ℕ) = c.in_ok-edges.edges.items in
    let checks : List Check = c.in_ok-checks.checks.items in
    let terms : List CodedSymbol = c.in_ok-outputs.outputs.items in
    let first = c.in_ok-checks.ensures.codes in
    let second = c.in_ok-outputs.ensures.codes in
    let body : IsBodyOf tables values task fs checks terms =
    body_of tables a b values task es fs checks terms (rw c.in-Some.is at c.in_ok-found.ensures.edges) c.in_ok-edges.ensures first c.in_ok-checks.ensures.checks second c.in_ok-outputs.ensures.terms (extends_then a b values first second) c.keeps_its_rules.ensures in
    let needed_is : c.deref-2.result.now ≡ term_vars terms = c.deref-2.ensures.value ∙ c.in_ok-needed.ensures ∙ ap term_vars c.deref.ensures.value in
    are_there tables values task fs checks terms c.requires body c.deref-2.result.now needed_is

pub shown-requires : goal.shown-requires
shown-requires g c =
    let terms : List CodedSymbol = c.in_ok-outputs.outputs.items in
    let needed_is : c.deref-2.result.now ≡ term_vars terms = c.deref-2.ensures.value ∙ c.in_ok-needed.ensures ∙ ap term_vars c.deref.ensures.value in
    subst (λ (ts : List CodedSymbol). HasVars ts c.in_ok-merged.merged) (sym c.deref-3.ensures.value)
    (has_vars c.deref-2.result.now terms (Some c.args.cap) c.in_ok-edges.edges.items (all_hold c.terms_of.new.codes c.in_ok-checks.checks.items) c.in_ok-merged.merged needed_is c.in_ok-merged.ensures)

pub returns-clause-outputs : goal.returns-clause-outputs
returns-clause-outputs g c =
    let tables : List Stored = g.R.Rows.tables c.args.rows.now in
    let task = c.args.task.now in
    let a : List Value = c.fetch_rows.new.codes in
    let b : List Value = c.checks_of.new.codes in
    let values : List Value = c.terms_of.new.codes in
    let es : List (Edge ℕ) = c.in-Some.fetched.items in
    let fs : List (Edge ℕ) = c.in_ok-edges.edges.items in
    let checks : List Check = c.in_ok-checks.checks.items in
    let terms : List CodedSymbol = c.in_ok-outputs.outputs.items in
    let first = c.in_ok-checks.ensures.codes in
    let second = c.in_ok-outputs.ensures.codes in
    let body : IsBodyOf tables values task fs checks terms =
    body_of tables a b values task es fs checks terms (rw c.in-Some.is at c.in_ok-found.ensures.edges) c.in_ok-edges.ensures first c.in_ok-checks.ensures.checks second c.in_ok-outputs.ensures.terms (extends_then a b values first second) c.keeps_its_rules.ensures in
    let needed_is : c.deref-2.result.now ≡ term_vars terms = c.deref-2.ensures.value ∙ c.in_ok-needed.ensures ∙ ap term_vars c.deref.ensures.value in
    outputs_of tables values task fs checks terms c.requires body c.deref-2.result.now needed_is c.args.cap c.in_ok-merged.merged c.shown.result c.in_ok-merged.ensures
    (subst (λ (ts : List CodedSymbol). IfOk c.shown.result (IsShownBy values ts c.in_ok-merged.merged)) c.deref-3.ensures.value c.shown.ensures.shown)

pub returns-clause-more : goal.returns-clause-more
returns-clause-more g c =
    let tables : List Stored = g.R.Rows.tables c.args.rows.now in
    let task = c.args.task.now in
    let a : List Value = c.fetch_rows.new.codes in
    let b : List Value = c.checks_of.new.codes in
    let values : List Value = c.terms_of.new.codes in
    let es : List (Edge ℕ) = c.in-Some.fetched.items in
    let fs : List (Edge ℕ) = c.in_ok-edges.edges.items in
    let checks : List Check = c.in_ok-checks.checks.items in
    let terms : List CodedSymbol = c.in_ok-outputs.outputs.items in
    let first = c.in_ok-checks.ensures.codes in
    let second = c.in_ok-outputs.ensures.codes in
    let body : IsBodyOf tables values task fs checks terms =
    body_of tables a b values task es fs checks terms (rw c.in-Some.is at c.in_ok-found.ensures.edges) c.in_ok-edges.ensures first c.in_ok-checks.ensures.checks second c.in_ok-outputs.ensures.terms (extends_then a b values first second) c.keeps_its_rules.ensures in
    let needed_is : c.deref-2.result.now ≡ term_vars terms = c.deref-2.ensures.value ∙ c.in_ok-needed.ensures ∙ ap term_vars c.deref.ensures.value in
    more_of tables values task fs checks terms c.requires body c.deref-2.result.now needed_is c.args.cap c.in_ok-merged.merged c.shown.result c.in_ok-merged.ensures
    (subst (λ (ts : List CodedSymbol). IfErr c.shown.result (λ fault. fault ≡ More → IsMoreBy values ts c.args.cap c.in_ok-merged.merged)) c.deref-3.ensures.value c.shown.ensures.more)
