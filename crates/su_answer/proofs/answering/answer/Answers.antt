-- The rows so far are the answers of the kept terms before those that are left. A term's task gives the term's answers, and a list that is missing, or a merge past the limit, shows more answers than may be.
use Rattle.std.proofs.Common.{◌≡◌, ℕ, ◌<◌, List, [], length, All, Result, sym, subst, arith}
use Rattle.std.specs.Prelude.{IfErr}
use Rattle.std.specs.List.{AllZip}
use Rattle.std.proofs.lemmas.Bool.Decides.{nat_tests}
use Rattle.std.proofs.lemmas.List.{nil_from_length}
use Rattle.std.proofs.lemmas.Result.{err_from_is_err_and}
use Rattle.su_base.specs.declared.values.Value.{Value}
use Rattle.su_tableau.specs.Kinds.{IsTyped}
use Rattle.su_schema.specs.Entries.{attribute_kinds}
use Rattle.su_min.specs.Kept.{Minimised}
use Rattle.su_min.specs.Reduction.{term_at}
use Rattle.su_answer.specs.declared.faults.AnswerFault.{AnswerFault}
use Rattle.su_answer.specs.declared.faults.AnswerFault.TheVariants.{Limit}
use Rattle.su_answer.specs.Answers.{IsAnswer}
use Rattle.su_rel.specs.MoreThan.{AreMoreThan}
use Rattle.su_answer.specs.inside.Executed.{IsFoundFor}
use Rattle.su_answer.proofs.Minimals.{minimals_fit}
use Rattle.su_answer.proofs.Union.{AreUnited, kept_low, all_left, halves, wave_low, wave_united, wave_more, lists_ascend, more_answers, are_answers}
use Rattle.su_answer.proofs.answering.answer.Goals as goal

pub loop-minimals-init : goal.loop-minimals-init
loop-minimals-init g c =
    let db = c.args.db.now in
    let p = c.args.prepared.now in
    subst (λ (ks : List ℕ). AreUnited db p.minimals p.reduced.kept ks c.new-rows.result) (sym c.as_slice-kept.ensures)
    (subst (λ (rs : List (List Value)). AreUnited db p.minimals p.reduced.kept p.reduced.kept rs) (sym c.new-rows.ensures) (all_left db p.minimals p.reduced.kept))

pub found-requires-clause-typed : goal.found-requires-clause-typed
found-requires-clause-typed g c κs within =
    let p = c.requires.prepared in
    let fit = minimals_fit c.terms_are_valid_and_typed.ensures c.args.db.now.schema p.maximal p.query c.args.prepared.now c.keeps_its_rules.ensures.valid p.resolved p.is in
    subst (λ (ms : List Minimised). All (λ (m : Minimised). IsTyped (attribute_kinds c.args.db.now.schema) m.tableau) ms) (sym c.as_slice-minimals.ensures) (λ k d l. (fit k d l).1)

pub found-requires-clause-within : goal.found-requires-clause-within
found-requires-clause-within g c κs within =
    let p = c.args.prepared.now in
    let now : List ℕ = c.split_at.result.0.now in
    let parts = halves c.min.result c.loop-minimals.left.now now c.split_at.result.1.now c.split_at.ensures.front c.split_at.ensures.back in
    subst (λ (ms : List Minimised). All (λ k. k < length ms) now) (sym c.as_slice-minimals.ensures)
    (wave_low c.args.db.now p.minimals p.reduced.kept c.loop-minimals.left.now now c.split_at.result.1.now c.loop-minimals.rows (length p.minimals) c.loop-minimals.invariant parts (kept_low p c.requires.prepared.is.reduced))

pub gathered-requires-clause-lists : goal.gathered-requires-clause-lists
gathered-requires-clause-lists g c =
    let db = c.args.db.now in
    let p = c.args.prepared.now in
    let now : List ℕ = c.split_at.result.0.now in
    lists_ascend db p.minimals now c.in_ok-lists.lists
    (subst (λ (ms : List Minimised). AllZip (λ k f. IsFoundFor db (term_at ms k) f) now c.in_ok-lists.lists) c.as_slice-minimals.ensures c.in_ok-lists.ensures)

pub returns-in_err-rows-clause-limit : goal.returns-in_err-rows-clause-limit
returns-in_err-rows-clause-limit g c =
    let db = c.args.db.now in
    let p = c.args.prepared.now in
    let now : List ℕ = c.split_at.result.0.now in
    let e = err_from_is_err_and c.from_residual-in_err-rows.result c.from_residual-in_err-rows.ensures.1 in
    let parts = halves c.min.result c.loop-minimals.left.now now c.split_at.result.1.now c.split_at.ensures.front c.split_at.ensures.back in
    let found : AllZip (λ k f. IsFoundFor db (term_at p.minimals k) f) now c.in_ok-lists.lists =
    subst (λ (ms : List Minimised). AllZip (λ k f. IsFoundFor db (term_at ms k) f) now c.in_ok-lists.lists) c.as_slice-minimals.ensures c.in_ok-lists.ensures in
    subst (λ (r : Result (List (List Value)) AnswerFault). IfErr r (λ fault. fault ≡ Limit → AreMoreThan 1000000 (IsAnswer db p))) (sym e.1)
    (subst (λ (f : AnswerFault). f ≡ Limit → AreMoreThan 1000000 (IsAnswer db p)) (sym e.2)
    (λ is. more_answers db p (wave_more db p.minimals p.reduced.kept c.loop-minimals.left.now now c.split_at.result.1.now c.loop-minimals.rows c.in_ok-lists.lists c.loop-minimals.invariant parts found (c.in_err-rows.ensures.limit is))))

pub loop-minimals-preserved : goal.loop-minimals-preserved
loop-minimals-preserved g c =
    let db = c.args.db.now in
    let p = c.args.prepared.now in
    let now : List ℕ = c.split_at.result.0.now in
    let parts = halves c.min.result c.loop-minimals.left.now now c.split_at.result.1.now c.split_at.ensures.front c.split_at.ensures.back in
    let found : AllZip (λ k f. IsFoundFor db (term_at p.minimals k) f) now c.in_ok-lists.lists =
    subst (λ (ms : List Minimised). AllZip (λ k f. IsFoundFor db (term_at ms k) f) now c.in_ok-lists.lists) c.as_slice-minimals.ensures c.in_ok-lists.ensures in
    let e = c.in_ok-rows.ensures in
    wave_united db p.minimals p.reduced.kept c.loop-minimals.left.now now c.split_at.result.1.now c.loop-minimals.rows c.in_ok-lists.lists c.loop-minimals.invariant parts found c.in_ok-rows.rows e.rows e.all e.ascending e.few

pub returns-clause-answers : goal.returns-clause-answers
returns-clause-answers g c =
    let none : c.loop-minimals.left.now ≡ [] = nil_from_length c.loop-minimals.left.now (grind (arith, nat_tests, c.loop-minimals-test.ensures)) in
    are_answers c.args.db.now c.args.prepared.now c.loop-minimals.left.now c.loop-minimals.rows c.loop-minimals.invariant none
