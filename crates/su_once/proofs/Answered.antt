-- A query is prepared in one way, and has one answer over databases that are alike.
use Rattle.std.proofs.Common.{◌≡◌, ℕ, List, [], ◌∷◌, slice_get, Some, refl, sym, subst, arith}
use Rattle.std.specs.List.{AllZip}
use Rattle.std.specs.Ordering.{nat_cmp}
use Rattle.std.specs.FinSet.{FinSet}
use Rattle.su_base.specs.declared.values.Value.{Value}
use Rattle.su_tableau.specs.Tableaux.{Tab}
use Rattle.su_schema.specs.SchemaValue.{SchemaValue}
use Rattle.su_query.specs.declared.resolving.Resolved.{Resolved}
use Rattle.su_state.specs.DatabaseValue.{DatabaseValue}
use Rattle.su_min.specs.Kept.{Minimised}
use Rattle.su_min.specs.Reduction.{term_at, IsReduced}
use Rattle.su_steps.specs.declared.results.Term.{Term}
use Rattle.su_steps.specs.Sources.{IsSource}
use Rattle.su_answer.specs.declared.preparing.Prepared.{Prepared}
use Rattle.su_answer.specs.Prepared.{IsMinimisedOf, IsPrepared}
use Rattle.su_answer.specs.Answers.{IsRead, StoredAnswer, IsTermAnswer, IsAnswer, AreAnswers}
use Rattle.su_once.specs.States.{AreAlike}
use Rattle.su_once.specs.Answers.{OnePreparation, OneAnswer, TooLongOrAnswered}
use Rattle.su_once.proofs.Counted.{no_more}
use Rattle.su_once.proofs.Mapped.{one_minimised, one_reduced}
use Rattle.su_once.proofs.Named.{one_list_of_terms}
use Rattle.su_once.proofs.Rows.{one_strict_list}

one_list_minimised : (ts : List Term) (ms ns : List Minimised) → AllZip (λ term m. IsMinimisedOf term.tableau m) ts ms → AllZip (λ term m. IsMinimisedOf term.tableau m) ts ns → ms ≡ ns
one_list_minimised [] [] [] h k = refl
one_list_minimised [] [] (n ∷ ns) h k = absurd k
one_list_minimised [] (m ∷ ms) ns h k = absurd h
one_list_minimised (t ∷ ts) [] ns h k = absurd h
one_list_minimised (t ∷ ts) (m ∷ ms) [] h k = absurd k
one_list_minimised (t ∷ ts) (m ∷ ms) (n ∷ ns) h k =
    let first = one_minimised t.tableau m n h.0.tableau k.0.tableau h.0.minimised k.0.minimised in
    let rest = one_list_minimised ts ms ns h.1 k.1 in
    λ i. first i ∷ rest i

pub one_preparation : OnePreparation
one_preparation schema maximal q p other h k =
    let terms : p.terms ≡ other.terms = one_list_of_terms schema maximal q p.terms other.terms h.terms k.terms in
    let minimals : p.minimals ≡ other.minimals =
    one_list_minimised other.terms p.minimals other.minimals (subst (λ (ts : List Term). AllZip (λ term m. IsMinimisedOf term.tableau m) ts p.minimals) terms h.minimals) k.minimals in
    let reduced = one_reduced other.minimals p.reduced other.reduced (subst (λ (ms : List Minimised). IsReduced ms p.reduced) minimals h.reduced) k.reduced in
    λ i. record { terms = terms i; minimals = minimals i; reduced = reduced i }

-- ---- answers over the same rows

module _ (a b : DatabaseValue) (alike : AreAlike a b) where
  read_moves : (t : Tab) (m : ℕ) (v : ℕ → Value) (i : ℕ) → IsRead a t m v i → IsRead b t m v i
  read_moves t m v i h = record {
    source = h.source;
    is_source = subst (λ (s : SchemaValue). IsSource s t m i h.source) alike.schema h.is_source;
    object = h.object;
    is = subst (λ (s : SchemaValue). slice_get s.objects h.source ≡ Some h.object) alike.schema h.is;
    row = h.row;
    stored = (alike.rows h.object.relation h.row).0 h.stored;
    agrees = h.agrees;
  }

  stored_moves : (t : Tab) (m : ℕ) (h : List Value) → StoredAnswer a t m h → StoredAnswer b t m h
  stored_moves t m h s = record { valuation = s.valuation; holds = λ i below one. read_moves t m _ i (s.holds i below one); gives = s.gives }

  term_moves : (m : Minimised) (h : List Value) → IsTermAnswer a m h → IsTermAnswer b m h
  term_moves m h x = record { head = x.head; member = stored_moves m.tableau m.mask x.head x.member; compared = x.compared; outputs = x.outputs }

  answer_moves : (p : Prepared) (h : List Value) → IsAnswer a p h → IsAnswer b p h
  answer_moves p h x = record { term = x.term; kept = x.kept; answer = term_moves (term_at p.minimals x.term) h x.answer }

pub back : (a b : DatabaseValue) → AreAlike a b → AreAlike b a
back a b alike = record { schema = sym alike.schema; tables = sym alike.tables; rows = λ r z. ((alike.rows r z).1, (alike.rows r z).0); counts = λ r. sym (alike.counts r) }

same_preparation : (a b : DatabaseValue) (maximal : List (FinSet nat_cmp)) (q : Resolved) (p other : Prepared) → AreAlike a b → IsPrepared a.schema maximal q p → IsPrepared b.schema maximal q other → p ≡ other
same_preparation a b maximal q p other alike h k = one_preparation a.schema maximal q p other h (subst (λ (s : SchemaValue). IsPrepared s maximal q other) (sym alike.schema) k)

pub one_answer : OneAnswer
one_answer a b maximal q rows others alike h k =
    let same : h.prepared ≡ k.prepared = same_preparation a b maximal q h.prepared k.prepared alike h.is_prepared k.is_prepared in
    let answers : AreAnswers b h.prepared others = subst (λ (p : Prepared). AreAnswers b p others) (sym same) k.answers in
    one_strict_list rows others h.answers.ascending answers.ascending
    (λ z there. (answers.exact z).1 (answer_moves a b alike h.prepared z ((h.answers.exact z).0 there)))
    (λ z there. (h.answers.exact z).1 (answer_moves b a (back a b alike) h.prepared z ((answers.exact z).0 there)))

pub not_too_long : TooLongOrAnswered
not_too_long a b maximal q rows alike long h few =
    let same : long.prepared ≡ h.prepared = same_preparation a b maximal q long.prepared h.prepared alike long.is_prepared h.is_prepared in
    let answers : AreAnswers b long.prepared rows = subst (λ (p : Prepared). AreAnswers b p rows) (sym same) h.answers in
    let many = no_more 1000001 long.many.member rows (λ i below. (answers.exact (long.many.member i)).1 (answer_moves a b alike long.prepared (long.many.member i) (long.many.each i (omega (arith, below))))) (λ i j less within. long.many.differ i j less (omega (arith, within))) in
    absurd (omega (arith, many, few))
