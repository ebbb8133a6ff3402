-- A statement wants one file, and has one reply on databases that are alike, which it leaves alike.
use Rattle.std.proofs.Common.{◌≡◌, ◌≤◌, ◌⊎◌, ℕ, Bool, List, [], length, Option, Some, unwrap_or, Result, Ok, Err, refl, ap, sym, ◌∙◌, subst, inl, inr}
use Rattle.std.proofs.lemmas.Option.{none-some, same_Some}
use Rattle.std.specs.Ordering.{nat_cmp}
use Rattle.std.specs.FinSet.{FinSet}
use Rattle.su_base.specs.declared.values.Value.{Value}
use Rattle.su_rel.specs.Stored.{Stored}
use Rattle.su_csv.specs.declared.faults.CsvFault.{CsvFault}
use Rattle.su_schema.specs.SchemaValue.{SchemaValue}
use Rattle.su_schema.specs.Entries.{attribute_kinds, column_names, relation_names, place_of}
use Rattle.su_schema.specs.declared.definitions.Definition.{Definition}
use Rattle.su_ddl.proofs.Formed.{one_definition}
use Rattle.su_query.specs.Refs.{NamedCond}
use Rattle.su_query.specs.declared.faults.QueryFault.{QueryFault}
use Rattle.su_query.specs.declared.statements.Query.{Query as AQuery}
use Rattle.su_query.specs.declared.resolving.Resolved.{Resolved}
use Rattle.su_query.specs.declared.statements.Statement.{Statement}
use Rattle.su_query.specs.declared.statements.Statement.TheVariants.{Insert, Delete, DeleteWhere, Load, Print, Schema, Closure, Retrieve, Explain, Certify, Support, Compare, Window}
use Rattle.su_query.specs.NumberedConditions.{resolved_of, with_columns}
use Rattle.su_maxobj.proofs.Listed.{one_list as one_list_of_maximal}
use Rattle.su_steps.specs.declared.faults.StepFault.{StepFault}
use Rattle.su_steps.specs.Refusals.{IsAccepted}
use Rattle.su_state.specs.DatabaseValue.{DatabaseValue, IsWellKept, columns_of}
use Rattle.su_state.specs.Loads.{Loads}
use Rattle.su_state.specs.Definitions.{Defines}
use Rattle.su_answer.specs.declared.preparing.Prepared.{Prepared}
use Rattle.su_answer.specs.Prepared.{IsPrepared}
use Rattle.su_answer.specs.Support.{AreSupports}
use Rattle.su_check.specs.declared.nodes.Node.{Node}
use Rattle.su_refute.specs.AllTrees.{AreTrees, HasMoreNodes, all_nodes}
use Rattle.su_refute.specs.Written.{certificate_of, certificate_text}
use Rattle.su_refute.proofs.Kept.{one_lists, no_more}
use Rattle.su_window.specs.declared.faults.WindowFault.{WindowFault}
use Rattle.su_window.specs.declared.faults.WindowFault.TheVariants as window
use Rattle.su_show.specs.declared.statement_refusal.Refusal.{Refusal}
use Rattle.su_show.specs.declared.statement_refusal.Refusal.TheVariants as refusal
use Rattle.su_show.specs.Replies.{rows_text, header_of, schema_reply}
use Rattle.su_show.specs.Changes.{deleted_text}
use Rattle.su_show.specs.Explanations.{IsExplanation}
use Rattle.su_show.specs.Supports.{supports_text}
use Rattle.su_session.specs.declared.replies.Reply.{Reply}
use Rattle.su_session.specs.declared.wants.Want.TheVariants.{Nothing, File}
use Rattle.su_session.specs.Outcomes.{Accepts, Refuses, TellsInsert, TellsDelete, TellsLoad, TellsDefine}
use Rattle.su_session.specs.Retrievals.{IsRefusalOf, HasTerms, AfterTerms, Retrieves}
use Rattle.su_session.specs.Explanations.{Explains}
use Rattle.su_session.specs.Certificates.{Certifies, node_limit}
use Rattle.su_session.specs.Supports.{Supports}
use Rattle.su_session.specs.Comparisons.{IsTermsRefusal, ShowsVerdicts, ComparesTerms, Compares}
use Rattle.su_session.specs.Windows.{attribute_numbers, TellsWindowFault, ShowsWindow}
use Rattle.su_session.specs.RowStatements.{InRelation, InsertsRow, DeletesRow, DeletesRows, LoadsRows}
use Rattle.su_session.specs.Statements.{PrintsRows, ShowsSchema, ShowsClosure, Answers}
use Rattle.su_session.specs.Reply.{RepliesDefinition, RepliesStatement, Replied}
use Rattle.su_session.specs.Reply as said
use Rattle.su_session.specs.WantedFiles.{IsLoad}
use Rattle.su_once.specs.States.{AreAlike}
use Rattle.su_once.specs.Replies.{OneWant, OneReply}
use Rattle.su_once.proofs.Answered.{one_preparation, one_answer, not_too_long}
use Rattle.su_once.proofs.Changed.{same_schema, one_insert, one_delete, one_delete_where, one_order}
use Rattle.su_once.proofs.Defined.{one_defined}
use Rattle.su_once.proofs.Explained.{one_explanation, one_closure_reply}
use Rattle.su_once.proofs.Loaded.{one_load}
use Rattle.su_once.proofs.Paired.{one_form_refusal, refused_or_formed, one_terms_refusal, refused_or_accepted, one_verdicts_text}
use Rattle.su_once.proofs.Supported.{one_supports}
use Rattle.su_once.proofs.Windowed.{one_window, one_window_refusal, refused_or_fitting}
use Rattle.su_once.proofs.OneOutcome.{one_statement, one_refusal, not_refused, one_query_refusal, query_not_refused, one_name_refusal, names_not_refused, one_column_refusal, condition_not_refused}
use Rattle.su_once.proofs.Refused.{one_step_refusal, not_refused as has_terms}
use Rattle.su_once.proofs.Told.{accept, still, refuse, one_insert_told, one_delete_told, one_load_told, one_definition_told}

-- ---- the cause of a refused query

data Cause (schema : SchemaValue) (maximal : List (FinSet nat_cmp)) (q : AQuery) (why : Refusal) : Type 0 where
  of_names : (fault : QueryFault) → IsRefusalOf schema maximal q (refusal.Query fault) → why ≡ refusal.Query fault → Cause schema maximal q why
  of_steps : (fault : StepFault) → IsRefusalOf schema maximal q (refusal.Steps fault) → why ≡ refusal.Steps fault → Cause schema maximal q why

module _ (schema : SchemaValue) (maximal : List (FinSet nat_cmp)) (q : AQuery) where
  cause_of : (why : Refusal) → IsRefusalOf schema maximal q why → Cause schema maximal q why
  cause_of (refusal.Query fault) h = of_names fault h refl
  cause_of (refusal.Steps fault) h = of_steps fault h refl
  cause_of (refusal.State fault) h = absurd h
  cause_of (refusal.Record fault) h = absurd h
  cause_of (refusal.Csv r fault) h = absurd h
  cause_of refusal.Answer h = absurd h
  cause_of refusal.Nodes h = absurd h
  cause_of (refusal.Define fault) h = absurd h
  cause_of refusal.OnlyEqual h = absurd h
  cause_of refusal.OutputsDiffer h = absurd h
  cause_of refusal.WindowLimit h = absurd h
  cause_of (refusal.Inconsistent less greater) h = absurd h

  one_cause : (why other : Refusal) → Cause schema maximal q why → Cause schema maximal q other → why ≡ other
  one_cause why other (of_names f h e) (of_names g k e') = e ∙ ap refusal.Query (one_query_refusal schema q f g h k) ∙ sym e'
  one_cause why other (of_names f h e) (of_steps g k e') = absurd (query_not_refused schema q f h k.0)
  one_cause why other (of_steps f h e) (of_names g k e') = absurd (query_not_refused schema q g k h.0)
  one_cause why other (of_steps f h e) (of_steps g k e') = e ∙ ap refusal.Steps (one_step_refusal schema maximal (resolved_of schema q) f g h.1 k.1) ∙ sym e'

  refused_or_terms : (why : Refusal) → Cause schema maximal q why → HasTerms schema maximal q → ⊥
  refused_or_terms why (of_names f h e) terms = query_not_refused schema q f h terms.known
  refused_or_terms why (of_steps f h e) terms = has_terms schema maximal (resolved_of schema q) f h.1 terms.accepted

-- ---- one reply, over two databases of one schema

module _ (a : DatabaseValue) (tables : List Stored) (alike : AreAlike a (record { schema = a.schema; tables = tables })) (kept : IsWellKept a) (also : IsWellKept (record { schema = a.schema; tables = tables })) (r s : Reply) (c d : DatabaseValue) where
  abbrev b : DatabaseValue
  b = record { schema = a.schema; tables = tables }

  abbrev Same : Type 0
  Same = (r ≡ s) × AreAlike c d

  back : AreAlike a b → AreAlike b a
  back x = record { schema = sym x.schema; tables = sym x.tables; rows = λ n z. ((x.rows n z).1, (x.rows n z).0); counts = λ n. sym (x.counts n) }

  agree : (text other : List ℕ) → Accepts text r → Accepts other s → text ≡ other → c ≡ a → d ≡ b → Same
  agree text other h k same one two = (accept r s text other h k same, still a tables r s c d alike one two)

  in_relation : (name : List ℕ) (K L : ℕ → Type 0) → InRelation a name r c K → InRelation b name s d L → ((n : ℕ) → K n → L n → Same) → Same
  in_relation name K L (inl (none, h)) (inl (gone, k)) f = refuse a tables r s c d alike _ _ h k refl
  in_relation name K L (inl (none, h)) (inr (n, some, k)) f = absurd (none-some n (sym none ∙ some))
  in_relation name K L (inr (n, some, h)) (inl (none, k)) f = absurd (none-some n (sym none ∙ some))
  in_relation name K L (inr (n, some, h)) (inr (m, there, k)) f = f n h (subst L (same_Some m n (sym there ∙ some)) k)

  inserts : (row : List Value) (n : ℕ) → InsertsRow a row r c n → InsertsRow b row s d n → Same
  inserts row n (x, h, t) (y, k, u) =
      let one = one_insert a b c d n row x y alike h k in
      (one_insert_told a tables r s c d x t (subst (λ (z : Result Bool _). TellsInsert b z s d) (sym one.0) u), one.1)

  deletes : (row : List Value) (n : ℕ) → DeletesRow a row r c n → DeletesRow b row s d n → Same
  deletes row n (x, h, t) (y, k, u) =
      let one = one_delete a b c d n row x y alike h k in
      (one_delete_told a tables r s c d x t (subst (λ (z : Result Bool _). TellsDelete b z s d) (sym one.0) u), one.1)

  deletes_where : (cond : NamedCond) (n : ℕ) → DeletesRows a cond r c n → DeletesRows b cond s d n → Same
  deletes_where cond n (inl (f, h, t)) (inl (g, k, u)) = refuse a tables r s c d alike _ _ t u (ap refusal.Query (one_column_refusal a.schema n cond f g h k))
  deletes_where cond n (inl (f, h, t)) (inr (known, (count, k, u))) = absurd (condition_not_refused a.schema n cond f h known)
  deletes_where cond n (inr (known, (count, h, t))) (inl (g, k, u)) = absurd (condition_not_refused a.schema n cond g k known)
  deletes_where cond n (inr (known, (count, h, t))) (inr (same, (number, k, u))) =
      let one = one_delete_where a b c d n (with_columns a.schema n cond) count number alike kept also h k in
      (accept r s _ _ t u (ap deleted_text one.0), one.1)

  loads : (bytes : List ℕ) (n : ℕ) → LoadsRows a bytes r c n → LoadsRows b bytes s d n → Same
  loads bytes n (inl (f, h, t)) (inl (g, k, u)) =
      let both : ◌≡◌ {A = Result (List (List Value)) CsvFault} (Err f) (Err g) = sym h ∙ k in
      let same : f ≡ g = cc in
      refuse a tables r s c d alike _ _ t u (ap (refusal.Csv n) same)
  loads bytes n (inl (f, h, t)) (inr (rows, k, (x, l, u))) = absurd (let both : ◌≡◌ {A = Result (List (List Value)) CsvFault} (Err f) (Ok rows) = sym h ∙ k in cc)
  loads bytes n (inr (rows, h, (x, l, t))) (inl (g, k, u)) = absurd (let both : ◌≡◌ {A = Result (List (List Value)) CsvFault} (Ok rows) (Err g) = sym h ∙ k in cc)
  loads bytes n (inr (rows, h, (x, l, t))) (inr (others, k, (y, m, u))) =
      let both : ◌≡◌ {A = Result (List (List Value)) CsvFault} (Ok others) (Ok rows) = sym k ∙ h in
      let same : others ≡ rows = cc in
      let m' : Loads b n rows y d = subst (λ (z : List (List Value)). Loads b n z y d) same m in
      let u' : TellsLoad b (length rows) y s d = subst (λ (z : List (List Value)). TellsLoad b (length z) y s d) same u in
      let one = one_load a b c d n rows x y alike l m' in
      (one_load_told a tables r s c d (length rows) x t (subst (λ (z : Result ℕ _). TellsLoad b (length rows) z s d) (sym one.0) u'), one.1)

  prints : (n : ℕ) → PrintsRows a r c n → PrintsRows b s d n → Same
  prints n ((rows, h, t), one) ((others, k, u), two) = agree _ _ t u (ap (rows_text (column_names (columns_of a n))) (one_order a b n rows others alike h k)) one two

  shows_schema : ShowsSchema a r c → ShowsSchema b s d → Same
  shows_schema ((sets, h, t), one) ((others, k, u), two) = agree _ _ t u (ap (schema_reply a.schema) (sym (one_list_of_maximal a.schema sets others h k))) one two

  shows_closure : (names : List (List ℕ)) → ShowsClosure a names r c → ShowsClosure b names s d → Same
  shows_closure names (inl (f, h, t)) (inl (g, k, u)) = refuse a tables r s c d alike _ _ t u (ap refusal.Query (one_name_refusal a.schema names f g h k))
  shows_closure names (inl (f, h, t)) (inr (none, k, u)) = absurd (names_not_refused a.schema names f h none)
  shows_closure names (inr (none, h, t)) (inl (g, k, u)) = absurd (names_not_refused a.schema names g k none)
  shows_closure names (inr (none, (text, h, t), one)) (inr (gone, (other, k, u), two)) = agree _ _ t u (one_closure_reply a.schema _ text other h k) one two

  after_terms : (q : AQuery) (K L : List (FinSet nat_cmp) → Type 0) → AfterTerms a q r c K → AfterTerms b q s d L → ((maximal : List (FinSet nat_cmp)) → K maximal → L maximal → Same) → Same
  after_terms q K L (maximal, are, h) (others, these, k) f =
      let same : maximal ≡ others = sym (one_list_of_maximal a.schema maximal others are these) in
      at h (subst (λ (m : List (FinSet nat_cmp)). ((why : Refusal) × IsRefusalOf a.schema m q why × Refuses b why s d) ⊎ (HasTerms a.schema m q × L m)) (sym same) k) where
        at : ((why : Refusal) × IsRefusalOf a.schema maximal q why × Refuses a why r c) ⊎ (HasTerms a.schema maximal q × K maximal) → ((why : Refusal) × IsRefusalOf a.schema maximal q why × Refuses b why s d) ⊎ (HasTerms a.schema maximal q × L maximal) → Same
        at (inl (why, is, t)) (inl (other, too, u)) = refuse a tables r s c d alike why other t u (one_cause a.schema maximal q why other (cause_of a.schema maximal q why is) (cause_of a.schema maximal q other too))
        at (inl (why, is, t)) (inr (terms, l)) = absurd (refused_or_terms a.schema maximal q why (cause_of a.schema maximal q why is) terms)
        at (inr (terms, l)) (inl (why, is, u)) = absurd (refused_or_terms a.schema maximal q why (cause_of a.schema maximal q why is) terms)
        at (inr (terms, l)) (inr (these', m)) = f maximal l m

  retrieves : (q : AQuery) → Retrieves a q r c → Retrieves b q s d → Same
  retrieves q h k = after_terms q _ _ h k (λ maximal x y. elim x [
    | inl (long, t) ↦ elim y [
      | inl (too, u) ↦ refuse a tables r s c d alike _ _ t u refl
      | inr (shows, two) ↦ absurd (not_too_long a b maximal (resolved_of a.schema q) shows.rows alike long shows.answer shows.few)
    ]
    | inr (shows, one) ↦ elim y [
      | inl (long, u) ↦ absurd (not_too_long b a maximal (resolved_of a.schema q) shows.rows (back alike) long shows.answer shows.few)
      | inr (other, two) ↦ agree _ _ shows.text other.text (ap (rows_text (header_of q)) (one_answer a b maximal (resolved_of a.schema q) shows.rows other.rows alike shows.answer other.answer)) one two
    ]
  ])

  explains : (q : AQuery) → Explains a q r c → Explains b q s d → Same
  explains q h k = after_terms q _ _ h k (λ maximal (x, one) (y, two).
      let same = one_preparation a.schema maximal (resolved_of a.schema q) x.prepared y.prepared x.is_prepared y.is_prepared in
      let other = subst (λ (p : Prepared). IsExplanation a.schema q (resolved_of a.schema q) p.terms p.minimals p.reduced s.bytes) (sym same) y.explanation in
      agree _ _ x.text y.text (one_explanation a.schema q (resolved_of a.schema q) x.prepared.terms x.prepared.minimals x.prepared.reduced r.bytes s.bytes x.explanation other) one two)

  certifies : (q : AQuery) → Certifies a q r c → Certifies b q s d → Same
  certifies q h k = after_terms q _ _ h k (λ maximal x y. elim x [
    | inl (many, t) ↦ elim y [
      | inl (too, u) ↦ refuse a tables r s c d alike _ _ t u refl
      | inr (shows, two) ↦ absurd (few maximal q many.prepared shows.prepared many.is_prepared shows.is_prepared many.more shows.trees shows.are_trees shows.few)
    ]
    | inr (shows, one) ↦ elim y [
      | inl (many, u) ↦ absurd (few maximal q many.prepared shows.prepared many.is_prepared shows.is_prepared many.more shows.trees shows.are_trees shows.few)
      | inr (other, two) ↦
          let same = one_preparation a.schema maximal (resolved_of a.schema q) shows.prepared other.prepared shows.is_prepared other.is_prepared in
          let trees = one_lists shows.prepared.minimals shows.trees other.trees shows.are_trees (subst (λ (p : Prepared). AreTrees p.minimals other.trees) (sym same) other.are_trees) in
          agree _ _ shows.text other.text (λ i. certificate_text (certificate_of (attribute_kinds a.schema) (same i).minimals (trees i))) one two
    ]
  ]) where
    few : (maximal : List (FinSet nat_cmp)) (q : AQuery) (p other : Prepared) → IsPrepared a.schema maximal (resolved_of a.schema q) p → IsPrepared a.schema maximal (resolved_of a.schema q) other → HasMoreNodes p.minimals node_limit
        → (trees : List (List Node)) → AreTrees other.minimals trees → all_nodes trees ≤ node_limit → ⊥
    few maximal q p other is_p is_other many trees are upto =
        let same = one_preparation a.schema maximal (resolved_of a.schema q) p other is_p is_other in
        no_more other.minimals node_limit trees are upto (subst (λ (v : Prepared). HasMoreNodes v.minimals node_limit) same many)

  supports : (q : AQuery) → Supports a q r c → Supports b q s d → Same
  supports q h k = after_terms q _ _ h k (λ maximal (x, one) (y, two).
      let same = one_preparation a.schema maximal (resolved_of a.schema q) x.prepared y.prepared x.is_prepared y.is_prepared in
      let other = subst (λ (p : Prepared). AreSupports b p y.supports) (sym same) y.are_supports in
      agree _ _ x.text y.text (ap supports_text (one_supports a b x.prepared x.supports y.supports alike x.are_supports other)) one two)

  -- of two queries of one form
  compares_terms : (p q : Resolved) → ComparesTerms a p q r c → ComparesTerms b p q s d → Same
  compares_terms p q (maximal, are, h) (others, these, k) =
      let same : others ≡ maximal = one_list_of_maximal a.schema maximal others are these in
      at h
      (subst (λ (m : List (FinSet nat_cmp)). ((fault : StepFault) × IsTermsRefusal a.schema m p q fault × Refuses b (refusal.Steps fault) s d) ⊎ (IsAccepted a.schema m p × IsAccepted a.schema m q × ShowsVerdicts a.schema m p q s × (d ≡ b))) same k) where
        at : ((fault : StepFault) × IsTermsRefusal a.schema maximal p q fault × Refuses a (refusal.Steps fault) r c) ⊎ (IsAccepted a.schema maximal p × IsAccepted a.schema maximal q × ShowsVerdicts a.schema maximal p q r × (c ≡ a))
            → ((fault : StepFault) × IsTermsRefusal a.schema maximal p q fault × Refuses b (refusal.Steps fault) s d) ⊎ (IsAccepted a.schema maximal p × IsAccepted a.schema maximal q × ShowsVerdicts a.schema maximal p q s × (d ≡ b)) → Same
        at (inl (f, is, t)) (inl (g, too, u)) = refuse a tables r s c d alike _ _ t u (ap refusal.Steps (one_terms_refusal a.schema maximal p q f g is too))
        at (inl (f, is, t)) (inr (first, second, l, same')) = absurd (refused_or_accepted a.schema maximal p q f is first second)
        at (inr (first, second, l, same')) (inl (g, too, u)) = absurd (refused_or_accepted a.schema maximal p q g too first second)
        at (inr (first, second, x, one)) (inr (also, too, y, two)) = agree _ _ x.text y.text (one_verdicts_text a.schema maximal p q kept.valid r s x y) one two

  compares : (first second : AQuery) → Compares a first second r c → Compares b first second s d → Same
  compares first second (inl (why, h, t)) (inl (other, k, u)) = refuse a tables r s c d alike why other t u (one_form_refusal a.schema first second why other h k)
  compares first second (inl (why, h, t)) (inr (form, k)) = absurd (refused_or_formed a.schema first second why h form)
  compares first second (inr (form, h)) (inl (why, k, u)) = absurd (refused_or_formed a.schema first second why k form)
  compares first second (inr (form, h)) (inr (these, k)) = compares_terms (resolved_of a.schema first) (resolved_of a.schema second) h k

  one_window_told : (f : WindowFault) → TellsWindowFault a f r c → TellsWindowFault b f s d → Same
  one_window_told window.Limit h k = refuse a tables r s c d alike _ _ h k refl
  one_window_told (window.Inconsistent less greater) h k = refuse a tables r s c d alike _ _ h k refl
  one_window_told window.NoMemory h k = absurd h

  shows_window : (names : List (List ℕ)) → ShowsWindow a names r c → ShowsWindow b names s d → Same
  shows_window names (inl (f, h, t)) (inl (g, k, u)) = refuse a tables r s c d alike _ _ t u (ap refusal.Query (one_name_refusal a.schema names f g h k))
  shows_window names (inl (f, h, t)) (inr (none, k)) = absurd (names_not_refused a.schema names f h none)
  shows_window names (inr (none, h)) (inl (g, k, u)) = absurd (names_not_refused a.schema names g k none)
  shows_window names (inr (none, inl (f, h, t))) (inr (gone, inl (g, k, u))) =
      let same = one_window_refusal a b f g alike h k in
      one_window_told f t (subst (λ (z : WindowFault). TellsWindowFault b z s d) (sym same) u)
  shows_window names (inr (none, inl (f, h, t))) (inr (gone, inr (y, two))) = absurd (refused_or_fitting a b f y.universe alike h y.few y.fits)
  shows_window names (inr (none, inr (x, one))) (inr (gone, inl (g, k, u))) = absurd (refused_or_fitting b a g x.universe (back alike) k x.few x.fits)
  shows_window names (inr (none, inr (x, one))) (inr (gone, inr (y, two))) =
      let same = one_window a b (attribute_numbers a.schema names) x.rows y.rows alike x.rows_are y.rows_are in
      agree _ _ x.text y.text (ap (rows_text names) same) one two

  answers : (file : List ℕ) (st : Statement) → Answers a file st r c → Answers b file st s d → Same
  answers file (Insert name row) h k = in_relation name _ _ h k (inserts row)
  answers file (Delete name row) h k = in_relation name _ _ h k (deletes row)
  answers file (DeleteWhere name cond) h k = in_relation name _ _ h k (deletes_where cond)
  answers file (Load name path) h k = in_relation name _ _ h k (loads file)
  answers file (Print name) h k = in_relation name _ _ h k prints
  answers file Schema h k = shows_schema h k
  answers file (Closure names) h k = shows_closure names h k
  answers file (Retrieve q) h k = retrieves q h k
  answers file (Explain q) h k = explains q h k
  answers file (Certify q) h k = certifies q h k
  answers file (Support q) h k = supports q h k
  answers file (Compare first second) h k = compares first second h k
  answers file (Window names) h k = shows_window names h k

  definition : (text : List ℕ) → RepliesDefinition a text r c → RepliesDefinition b text s d → Same
  definition text (inl (none, t)) (inl (gone, u)) = refuse a tables r s c d alike _ _ t u refl
  definition text (inl (none, t)) (inr (e, is, adds)) = absurd (none e is)
  definition text (inr (e, is, adds)) (inl (none, u)) = absurd (none e is)
  definition text (inr (e, is, (x, h, t))) (inr (f, too, (y, k, u))) =
      let same : f ≡ e = one_definition text f e too is in
      let one = one_defined a b c d e x y alike h (subst (λ (v : Definition). Defines b v y d) same k) in
      (one_definition_told a tables r s c d x t (subst (λ (z : Result (Unit {0}) _). TellsDefine b z s d) (sym one.0) u), one.1)

  statement : (text file : List ℕ) → RepliesStatement a text file r c → RepliesStatement b text file s d → Same
  statement text file (inl (f, h, t)) (inl (g, k, u)) = refuse a tables r s c d alike _ _ t u (ap refusal.Query (one_refusal text f g h k))
  statement text file (inl (f, h, t)) (inr (st, is, few, k)) = absurd (not_refused text f st h is few)
  statement text file (inr (st, is, few, h)) (inl (g, k, u)) = absurd (not_refused text g st k is few)
  statement text file (inr (st, is, few, h)) (inr (other, too, less, k)) = answers file st h (subst (λ (v : Statement). Answers b file v s d) (one_statement text other st too is) k)

  replied : (text : List ℕ) (file : Option (List ℕ)) → Replied a text file r c → Replied b text file s d → Same
  replied text file (said.definition begins h) (said.definition also k) = definition text h k
  replied text file (said.definition begins h) (said.statement none k) = absurd (none begins)
  replied text file (said.statement none h) (said.definition begins k) = absurd (none begins)
  replied text file (said.statement none h) (said.statement gone k) = statement text (unwrap_or file []) h k

pub one_reply : OneReply
one_reply a b c d text file reply other alike kept also h k =
    let same = same_schema a b alike.schema in
    replied a b.tables (record { schema = refl; tables = alike.tables; rows = alike.rows; counts = alike.counts }) kept (subst IsWellKept same also) reply other c d text file h (subst (λ (v : DatabaseValue). Replied v text file other d) same k)

-- ---- one file

load_of : (a b : DatabaseValue) (text path : List ℕ) → a.schema ≡ b.schema → IsLoad a text path → IsLoad b text path
load_of a b text path same (name, r, is, there) = (name, r, is, subst (λ (s : SchemaValue). place_of (relation_names s) name ≡ Some r) same there)

same_path : (name other path file : List ℕ) → Load name path ≡ Load other file → path ≡ file
same_path name other path file e = cc

pub one_want : OneWant
one_want a b text Nothing Nothing same h k = refl
one_want a b text Nothing (File path) same h k = absurd (h path (load_of b a text path (sym same) k))
one_want a b text (File path) Nothing same h k = absurd (k path (load_of a b text path same h))
one_want a b text (File path) (File other) same (name, r, is, there) (also, m, too, place) = ap File (same_path name also path other (one_statement text (Load name path) (Load also other) is too))
