-- The terms kept are valid and typed, so each select gives what its term answers over any rows of the schema; the union of the selects is then the union of the terms' answers, the query's.
use Rattle.std.proofs.Common.{ℕ, ◌<◌, List, [], length, All, sym, subst}
use Rattle.std.specs.List.{AllZip}
use Rattle.std.proofs.lemmas.List.Elements.{All-contains}
use Rattle.su_tableau.specs.Kinds.{IsTyped}
use Rattle.su_schema.specs.Entries.{attribute_kinds}
use Rattle.su_min.specs.Kept.{Minimised}
use Rattle.su_min.specs.Reduction.{term_at}
use Rattle.su_answer.proofs.Minimals.{minimals_fit}
use Rattle.su_answer.proofs.Union.{kept_low}
use Rattle.su_sql.specs.TermSelects.{IsSelectOf}
use Rattle.su_sql.proofs.Meaning.{mean_answers}
use Rattle.su_sql.proofs.making.selects.Goals as goal

pub selects_for-requires-clause-typed : goal.selects_for-requires-clause-typed
selects_for-requires-clause-typed c =
    let p = c.requires.prepared in
    let fit = minimals_fit c.terms_are_valid_and_typed.ensures c.args.db.now.schema p.maximal p.query c.args.prepared.now c.keeps_its_rules.ensures.valid p.resolved p.is in
    subst (λ (ms : List Minimised). All (λ (m : Minimised). IsTyped (attribute_kinds c.args.db.now.schema) m.tableau) ms) (sym c.as_slice-minimals.ensures) (λ k d l. (fit k d l).1)

pub selects_for-requires-clause-within : goal.selects_for-requires-clause-within
selects_for-requires-clause-within c =
    subst (λ (ks : List ℕ). All (λ k. k < length c.as_slice-minimals.result.now) ks) (sym c.as_slice-kept.ensures)
    (subst (λ (ms : List Minimised). All (λ k. k < length ms) c.args.prepared.now.reduced.kept) (sym c.as_slice-minimals.ensures) (kept_low c.args.prepared.now c.requires.prepared.is.reduced))

pub returns-clause-selects : goal.returns-clause-selects
returns-clause-selects c =
    let schema = c.args.db.now.schema in
    let selects = c.in_ok-selects.selects in
    let prepared = c.args.prepared.now in
    let made : AllZip (λ k select. IsSelectOf schema (term_at prepared.minimals k) select) prepared.reduced.kept selects =
    subst (λ (ks : List ℕ). AllZip (λ k select. IsSelectOf schema (term_at prepared.minimals k) select) ks selects) c.as_slice-kept.ensures
    (subst (λ (ms : List Minimised). AllZip (λ k select. IsSelectOf schema (term_at ms k) select) c.as_slice-kept.result.now selects) c.as_slice-minimals.ensures c.in_ok-selects.ensures) in
    made

pub returns-clause-means : goal.returns-clause-means
returns-clause-means c =
    let p = c.requires.prepared in
    let schema = c.args.db.now.schema in
    let selects = c.in_ok-selects.selects in
    let prepared = c.args.prepared.now in
    let made : AllZip (λ k select. IsSelectOf schema (term_at prepared.minimals k) select) prepared.reduced.kept selects =
    subst (λ (ks : List ℕ). AllZip (λ k select. IsSelectOf schema (term_at prepared.minimals k) select) ks selects) c.as_slice-kept.ensures
    (subst (λ (ms : List Minimised). AllZip (λ k select. IsSelectOf schema (term_at ms k) select) c.as_slice-kept.result.now selects) c.as_slice-minimals.ensures c.in_ok-selects.ensures) in
    let fit = minimals_fit c.terms_are_valid_and_typed.ensures c.args.db.now.schema p.maximal p.query prepared c.keeps_its_rules.ensures.valid p.resolved p.is in
    let low = kept_low prepared p.is.reduced in
    mean_answers c.args.db.now.schema prepared c.in_ok-selects.selects c.keeps_its_rules.ensures.valid
    (λ k has. (fit k (record { tableau = record { width = 0; rows = []; head = []; outputs = 0; operators = [] }; mask = 0; fold = [] }) (All-contains (λ j. j < length prepared.minimals) prepared.reduced.kept k low has)).0) made
