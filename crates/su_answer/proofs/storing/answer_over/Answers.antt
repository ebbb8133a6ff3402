-- The rows so far are the answers of the kept terms before those that are left. A term's task gives the term's answers, and a list that is missing, or a merge past the limit, shows more answers than may be.
use Rattle.std.proofs.Common.{◌≡◌, ◌∙◌, ℕ, ◌<◌, List, [], ◌∷◌, ◌++◌, take, drop, length, get_or, All, Result, refl, sym, subst, arith}
use Rattle.std.specs.Prelude.{IfErr, slice_index_or}
use Rattle.std.specs.List.{AllZip}
use Rattle.std.proofs.lemmas.Bool.Decides.{nat_tests}
use Rattle.std.proofs.lemmas.List.{nil_from_length, get_or_default}
use Rattle.std.proofs.lemmas.Result.{err_from_is_err_and}
use Rattle.su_base.specs.declared.values.Value.{Value}
use Rattle.su_rel.specs.Stored.{Stored}
use Rattle.su_tableau.specs.Kinds.{IsTyped}
use Rattle.su_schema.specs.Entries.{attribute_kinds}
use Rattle.su_state.specs.DatabaseValue.{DatabaseValue}
use Rattle.su_min.specs.Kept.{Minimised}
use Rattle.su_min.specs.Reduction.{term_at, IsReduced}
use Rattle.su_answer.specs.declared.faults.AnswerFault.{AnswerFault}
use Rattle.su_answer.specs.declared.faults.AnswerFault.TheVariants.{Limit}
use Rattle.su_answer.specs.declared.found.Found.{Found}
use Rattle.su_answer.specs.declared.preparing.Prepared.{Prepared}
use Rattle.su_answer.specs.Answers.{IsAnswer}
use Rattle.su_rel.specs.MoreThan.{AreMoreThan}
use Rattle.su_answer.specs.inside.Executed.{IsFoundFor}
use Rattle.su_answer.proofs.Minimals.{minimals_fit}
use Rattle.su_answer.proofs.Union.{AreUnited, kept_low, all_left, halves, wave_low, wave_united, wave_more, more_answers, are_answers}
use Rattle.su_answer.proofs.storing.answer_over.Goals as goal

-- the first of them alone
first_alone : (xs ys : List ℕ) → ys ≡ take 1 xs → 0 < length xs → ys ≡ slice_index_or ys 0 0 ∷ []
first_alone [] ys e l = absurd (omega (arith, l))
first_alone (x ∷ xs) ys e l = subst (λ (zs : List ℕ). zs ≡ slice_index_or zs 0 0 ∷ []) (sym e) refl

module _ (db : DatabaseValue) (p : Prepared) (reduced : IsReduced p.minimals p.reduced) (left now later : List ℕ) (rows : List (List Value)) (united : AreUnited db p.minimals p.reduced.kept left rows) (front : now ≡ take 1 left) (back : later ≡ drop 1 left) (some : 0 < length left) where
  parts : left ≡ now ++ later
  parts = halves 1 left now later front back

  abbrev first : ℕ
  first = slice_index_or now 0 0

  -- the term that is next is one of the query's
  below : first < length p.minimals
  below =
      let low : All (λ k. k < length p.minimals) now = wave_low db p.minimals p.reduced.kept left now later rows (length p.minimals) united parts (kept_low p reduced) in
      let alone : All (λ k. k < length p.minimals) (first ∷ []) = subst (λ (ks : List ℕ). All (λ k. k < length p.minimals) ks) (first_alone left now front some) low in
      alone 0 0 (omega arith)

  -- what was found for it, as a list of one
  found_alone : (m : Minimised) (found : Found) (lists : List Found) → m ≡ get_or p.minimals first m → IsFoundFor db m found → lists ≡ found ∷ [] → AllZip (λ k f. IsFoundFor db (term_at p.minimals k) f) now lists
  found_alone m found lists is of' e =
      let none : Minimised = record { tableau = record { width = 0; rows = []; head = []; outputs = 0; operators = [] }; mask = 0; fold = [] } in
      let at : m ≡ term_at p.minimals first = is ∙ get_or_default p.minimals first m none below in
      subst (λ (ks : List ℕ). AllZip (λ k f. IsFoundFor db (term_at p.minimals k) f) ks lists) (sym (first_alone left now front some))
      (subst (λ (fs : List Found). AllZip (λ k f. IsFoundFor db (term_at p.minimals k) f) (first ∷ []) fs) (sym e) (subst (λ (n : Minimised). IsFoundFor db n found) at of', tt))

pub loop-minimals-init : goal.loop-minimals-init
loop-minimals-init g c =
    let db : DatabaseValue = record { schema = c.args.schema.now; tables = g.S.Rows.tables c.args.store.now } in
    let p = c.args.prepared.now in
    record {
      tables = refl;
      united = subst (λ (ks : List ℕ). AreUnited db p.minimals p.reduced.kept ks c.new-rows.result) (sym c.as_slice-kept.ensures)
          (subst (λ (rs : List (List Value)). AreUnited db p.minimals p.reduced.kept p.reduced.kept rs) (sym c.new-rows.ensures) (all_left db p.minimals p.reduced.kept));
    }

pub bounds-minimals-now : goal.bounds-minimals-now
bounds-minimals-now g c =
    let db : DatabaseValue = record { schema = c.args.schema.now; tables = g.S.Rows.tables c.args.store.now } in
    let some : 0 < length c.loop-minimals.left.now = grind (arith, nat_tests, c.loop-minimals-test.ensures) in
    let low = below db c.args.prepared.now c.requires.prepared.is.reduced c.loop-minimals.left.now c.split_at.result.0.now c.split_at.result.1.now c.loop-minimals.rows c.loop-minimals.invariant.united c.split_at.ensures.front c.split_at.ensures.back some in
    subst (λ (ms : List Minimised). slice_index_or c.split_at.result.0.now 0 0 < length ms) (sym c.as_slice-minimals.ensures) low

pub found_in-requires-clause-typed : goal.found_in-requires-clause-typed
found_in-requires-clause-typed g c =
    let db : DatabaseValue = record { schema = c.args.schema.now; tables = g.S.Rows.tables c.args.store.now } in
    let p = c.requires.prepared in
    let ms = c.args.prepared.now.minimals in
    let k = slice_index_or c.split_at.result.0.now 0 0 in
    let some : 0 < length c.loop-minimals.left.now = grind (arith, nat_tests, c.loop-minimals-test.ensures) in
    let low = below db c.args.prepared.now c.requires.prepared.is.reduced c.loop-minimals.left.now c.split_at.result.0.now c.split_at.result.1.now c.loop-minimals.rows c.loop-minimals.invariant.united c.split_at.ensures.front c.split_at.ensures.back some in
    let fit = minimals_fit c.terms_are_valid_and_typed.ensures c.args.schema.now p.maximal p.query c.args.prepared.now c.requires.kept.valid p.resolved p.is in
    let at : c.index-minimals-now.result ≡ get_or ms k c.index-minimals-now.result = subst (λ (xs : List Minimised). c.index-minimals-now.result ≡ get_or xs k c.index-minimals-now.result) c.as_slice-minimals.ensures c.index-minimals-now.is in
    subst (λ (m : Minimised). IsTyped (attribute_kinds c.args.schema.now) m.tableau) (sym at) (fit k c.index-minimals-now.result low).1

pub returns-in_err-rows-clause-limit : goal.returns-in_err-rows-clause-limit
returns-in_err-rows-clause-limit g c =
    let db : DatabaseValue = record { schema = c.args.schema.now; tables = g.S.Rows.tables c.args.store.now } in
    let p = c.args.prepared.now in
    let now : List ℕ = c.split_at.result.0.now in
    let later : List ℕ = c.split_at.result.1.now in
    let left : List ℕ = c.loop-minimals.left.now in
    let k = slice_index_or now 0 0 in
    let m = c.index-minimals-now.result in
    let some : 0 < length c.loop-minimals.left.now = grind (arith, nat_tests, c.loop-minimals-test.ensures) in
    let united = c.loop-minimals.invariant.united in
    let at : m ≡ get_or p.minimals k m = subst (λ (xs : List Minimised). m ≡ get_or xs k m) c.as_slice-minimals.ensures c.index-minimals-now.is in
    let one : IsFoundFor db m c.in_ok-found.found = subst (λ (ts : List Stored). IsFoundFor (record { schema = c.args.schema.now; tables = ts }) m c.in_ok-found.found) c.loop-minimals.invariant.tables c.in_ok-found.ensures.found in
    let found = found_alone db p c.requires.prepared.is.reduced left now later c.loop-minimals.rows united c.split_at.ensures.front c.split_at.ensures.back some m c.in_ok-found.found c.in_ok-lists.lists at one c.in_ok-lists.ensures in
    let e = err_from_is_err_and c.from_residual-in_err-rows.result c.from_residual-in_err-rows.ensures.1 in
    let parts = halves 1 left now later c.split_at.ensures.front c.split_at.ensures.back in
    subst (λ (r : Result (List (List Value)) AnswerFault). IfErr r (λ fault. fault ≡ Limit → AreMoreThan 1000000 (IsAnswer db p))) (sym e.1)
    (subst (λ (f : AnswerFault). f ≡ Limit → AreMoreThan 1000000 (IsAnswer db p)) (sym e.2)
    (λ is. more_answers db p (wave_more db p.minimals p.reduced.kept left now later c.loop-minimals.rows c.in_ok-lists.lists united parts found (c.in_err-rows.ensures.limit is))))

pub loop-minimals-preserved : goal.loop-minimals-preserved
loop-minimals-preserved g c =
    let db : DatabaseValue = record { schema = c.args.schema.now; tables = g.S.Rows.tables c.args.store.now } in
    let p = c.args.prepared.now in
    let now : List ℕ = c.split_at.result.0.now in
    let later : List ℕ = c.split_at.result.1.now in
    let left : List ℕ = c.loop-minimals.left.now in
    let k = slice_index_or now 0 0 in
    let m = c.index-minimals-now.result in
    let some : 0 < length c.loop-minimals.left.now = grind (arith, nat_tests, c.loop-minimals-test.ensures) in
    let united = c.loop-minimals.invariant.united in
    let at : m ≡ get_or p.minimals k m = subst (λ (xs : List Minimised). m ≡ get_or xs k m) c.as_slice-minimals.ensures c.index-minimals-now.is in
    let one : IsFoundFor db m c.in_ok-found.found = subst (λ (ts : List Stored). IsFoundFor (record { schema = c.args.schema.now; tables = ts }) m c.in_ok-found.found) c.loop-minimals.invariant.tables c.in_ok-found.ensures.found in
    let found = found_alone db p c.requires.prepared.is.reduced left now later c.loop-minimals.rows united c.split_at.ensures.front c.split_at.ensures.back some m c.in_ok-found.found c.in_ok-lists.lists at one c.in_ok-lists.ensures in
    let parts = halves 1 left now later c.split_at.ensures.front c.split_at.ensures.back in
    let e = c.in_ok-rows.ensures in
    record {
      tables = c.in_ok-found.ensures.tables ∙ c.loop-minimals.invariant.tables;
      united = wave_united db p.minimals p.reduced.kept left now later c.loop-minimals.rows c.in_ok-lists.lists united parts found c.in_ok-rows.rows e.rows e.all e.ascending e.few;
    }

pub returns-clause-answers : goal.returns-clause-answers
returns-clause-answers g c =
    let none : c.loop-minimals.left.now ≡ [] = nil_from_length c.loop-minimals.left.now (grind (arith, nat_tests, c.loop-minimals-test.ensures)) in
    are_answers (record { schema = c.args.schema.now; tables = g.S.Rows.tables c.args.store.now }) c.args.prepared.now c.loop-minimals.left.now c.loop-minimals.rows c.loop-minimals.invariant.united none
