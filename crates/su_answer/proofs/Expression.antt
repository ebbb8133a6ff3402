-- Where the relations are projections of a universal relation, the answers are those of the query's expression.
use Rattle.std.proofs.Common.{◌≡◌, ◌↔◌, ◌⊎◌, ℕ, ◌<◌, List, [], map, length, get_or, Contains, All, sym, ap, ◌∙◌, subst, arith}
use Rattle.std.specs.Ordering.{nat_cmp}
use Rattle.std.specs.FinSet.{FinSet}
use Rattle.std.proofs.lemmas.List.{length-map, get_or-map}
use Rattle.std.proofs.lemmas.List.Elements.{All-contains, Contains-get_or}
use Rattle.su_base.specs.declared.values.Kind.{Kind}
use Rattle.su_base.specs.declared.values.Value.{Value}
use Rattle.su_base.specs.Value.{kind_of}
use Rattle.su_base.proofs.Items.{All-members}
use Rattle.su_tableau.specs.Tableaux.{Tab, IsValid}
use Rattle.su_tableau.specs.Valuations.{Ext, Cut}
use Rattle.su_tableau.specs.Kinds.{IsUniverse, IsTyped}
use Rattle.su_tableau.specs.Parts.{part}
use Rattle.su_tableau.specs.Mapping.{Maps}
use Rattle.su_tableau.specs.Essential.{ExtByEssential}
use Rattle.su_tableau.proofs.Containment.{maps_within}
use Rattle.su_map.specs.Lists.{IsMapping}
use Rattle.su_schema.specs.Entries.{attribute_kinds}
use Rattle.su_query.specs.declared.resolving.Resolved.{Resolved}
use Rattle.su_query.specs.Ranges.{IsResolved}
use Rattle.su_state.specs.DatabaseValue.{DatabaseValue, IsWellKept}
use Rattle.su_min.specs.Kept.{Minimised, IsMinimised, IsLeastPart}
use Rattle.su_min.specs.Cover.{Covers}
use Rattle.su_min.specs.Reduction.{term_at}
use Rattle.su_min.specs.Laws.{KeptRowsAreLeast, TermsAreKeptOrCovered, HasCover}
use Rattle.su_steps.specs.declared.results.Term.{Term}
use Rattle.su_steps.specs.Expression.{Meets, cut, cuts, InExpression}
use Rattle.su_steps.specs.Terms.{InUnion}
use Rattle.su_steps.specs.Laws.{TermsAreValidAndTyped, TermsAreTheExpression, RowsHaveSources}
use Rattle.su_steps.specs.Objects.{attributes_at, width}
use Rattle.su_answer.specs.declared.preparing.Prepared.{Prepared}
use Rattle.su_answer.specs.Prepared.{IsPrepared}
use Rattle.su_answer.specs.Answers.{StoredAnswer, IsAnswer}
use Rattle.su_answer.specs.Projections.{view_of, AreProjections}
use Rattle.su_answer.proofs.Minimals.{same_tableaux, all_minimised, minimals_fit}
use Rattle.su_answer.proofs.Covered.{OfKept, OfTerm, kept_give_all}
use Rattle.su_answer.proofs.Projections.{HaveSources, stored_is_ext}

abbrev no_minimised : Minimised
no_minimised = record { tableau = record { width = 0; rows = []; head = []; outputs = 0; operators = [] }; mask = 0; fold = [] }

-- the laws of the layers below
pub record Laws : Type 0 where
  pub typed : TermsAreValidAndTyped
  pub union : TermsAreTheExpression
  pub sources : RowsHaveSources
  pub least : KeptRowsAreLeast
  pub covered : TermsAreKeptOrCovered
  pub lists : (s t : Tab) (m k : ℕ) (list : List ℕ) → IsMapping s m t k list → Maps (part s m) (part t k)
  pub essential : (t : Tab) (m : ℕ) (universe : List (List Value)) (h : List Value) → IsValid (part t m) → All (λ row. length row ≡ t.width) t.rows → All (λ u. length u ≡ t.width) universe
      → (ExtByEssential t m universe h ↔ Ext (part t m) universe h)

module _
    (laws : Laws) (db : DatabaseValue) (p : Prepared) (maximal : List (FinSet nat_cmp)) (q : Resolved) (universe : List (List Value))
    (kept : IsWellKept db) (resolved : IsResolved db.schema q) (prepared : IsPrepared db.schema maximal q p)
    (kinds : IsUniverse (attribute_kinds db.schema) universe) (meets : Meets db.schema.fds universe) (projections : AreProjections db universe) where
  tableaux : map (λ (m : Minimised). m.tableau) p.minimals ≡ map (λ (t : Term). t.tableau) p.terms
  tableaux = same_tableaux p.terms p.minimals prepared.minimals

  count : length p.minimals ≡ length p.terms
  count =
      let a = length-map p.minimals (λ (m : Minimised). m.tableau) in
      let b = length-map p.terms (λ (t : Term). t.tableau) in
      let e : length (map (λ (m : Minimised). m.tableau) p.minimals) ≡ length (map (λ (t : Term). t.tableau) p.terms) = ap (λ (ts : List Tab). length ts) tableaux in
      omega arith

  -- the term of a number, and its tableau
  term_of : (k : ℕ) → k < length p.minimals → (t : Term) × Contains p.terms t × (t.tableau ≡ (term_at p.minimals k).tableau)
  term_of k l =
      let n = count in
      let low : k < length p.terms = omega arith in
      let t = get_or p.terms k (record { disjunct = 0; choice = []; origins = []; tableau = no_minimised.tableau }) in
      let same : t.tableau ≡ (term_at p.minimals k).tableau =
      sym (get_or-map (λ (t : Term). t.tableau) p.terms k (record { disjunct = 0; choice = []; origins = []; tableau = no_minimised.tableau }) no_minimised.tableau low)
      ∙ ap (λ (ts : List Tab). get_or ts k no_minimised.tableau) (sym tableaux) ∙ get_or-map (λ (m : Minimised). m.tableau) p.minimals k no_minimised no_minimised.tableau l in
      (t, Contains-get_or p.terms k (record { disjunct = 0; choice = []; origins = []; tableau = no_minimised.tableau }) low, same)

  minimised : (k : ℕ) → k < length p.minimals → IsMinimised (term_at p.minimals k)
  minimised k l = all_minimised p.terms p.minimals prepared.minimals k no_minimised l

  fit : (k : ℕ) → k < length p.minimals → IsValid (term_at p.minimals k).tableau × IsTyped (attribute_kinds db.schema) (term_at p.minimals k).tableau
  fit k l = minimals_fit laws.typed db.schema maximal q p kept.valid resolved prepared k no_minimised l

  least : (k : ℕ) (l : k < length p.minimals) → IsLeastPart (attribute_kinds db.schema) (term_at p.minimals k).tableau (term_at p.minimals k).mask
  least k l = laws.least (attribute_kinds db.schema) (term_at p.minimals k).tableau (term_at p.minimals k).mask (fit k l).0 (fit k l).1 (minimised k l).kept

  have_sources : (k : ℕ) → k < length p.minimals → HaveSources db.schema (term_at p.minimals k).tableau (term_at p.minimals k).mask
  have_sources k l =
      let t = term_of k l in
      subst (λ (u : Tab). HaveSources db.schema u (term_at p.minimals k).mask) t.2 (λ i low set. laws.sources db.schema maximal q p.terms kept.valid resolved prepared.terms t.0 (term_at p.minimals k).mask i t.1 low)

  stored_same : (k : ℕ) → k < length p.minimals → (h : List Value) → StoredAnswer db (term_at p.minimals k).tableau (term_at p.minimals k).mask h ↔ Ext (part (term_at p.minimals k).tableau (term_at p.minimals k).mask) universe h
  stored_same k l h =
      let t = (term_at p.minimals k).tableau in
      let m = (term_at p.minimals k).mask in
      let valid = (fit k l).0 in
      let wide : t.width ≡ width db.schema = (fit k l).1.width in
      let rows_wide : All (λ u. length u ≡ t.width) universe = All-members (λ u. length u ≡ t.width) universe (λ u c.
      let one : map kind_of u ≡ attribute_kinds db.schema = All-contains (λ row. map kind_of row ≡ attribute_kinds db.schema) universe u kinds c in
      sym (length-map u kind_of) ∙ ap (λ (ks : List Kind). length ks) one ∙ sym wide) in
      let s = stored_is_ext db t m universe kept wide valid.widths kinds projections (have_sources k l) h in
      let e = laws.essential t m universe h (least k l).valid valid.widths rows_wide in
      (λ a. e.0 (s.0 a), λ x. s.1 (e.1 x))

  whole_same : (k : ℕ) → k < length p.minimals → (h : List Value) → Ext (part (term_at p.minimals k).tableau (term_at p.minimals k).mask) universe h ↔ Ext (term_at p.minimals k).tableau universe h
  whole_same k l h = (least k l).equivalent universe h kinds

  kept_or_covered : (i : ℕ) → i < length p.minimals → Contains p.reduced.kept i ⊎ HasCover p.minimals p.reduced.kept i
  kept_or_covered = laws.covered p.minimals p.reduced prepared.reduced

  covers_within : (i j : ℕ) → i < length p.minimals → j < length p.minimals → Covers (term_at p.minimals i) (term_at p.minimals j) → (h : List Value)
      → Ext (part (term_at p.minimals j).tableau (term_at p.minimals j).mask) universe h → Ext (part (term_at p.minimals i).tableau (term_at p.minimals i).mask) universe h
  covers_within i j li lj c h e =
      let one = term_at p.minimals i in let other = term_at p.minimals j in
      maps_within (attribute_kinds db.schema) (part one.tableau one.mask) (part other.tableau other.mask) (laws.lists one.tableau other.tableau one.mask other.mask c.list c.maps) universe h kinds e

  kept_all : (h : List Value) → OfKept p.minimals p.reduced universe prepared.reduced kept_or_covered whole_same covers_within h
      ↔ OfTerm p.minimals p.reduced universe prepared.reduced kept_or_covered whole_same covers_within h
  kept_all h = kept_give_all p.minimals p.reduced universe prepared.reduced kept_or_covered whole_same covers_within h

  low_of : (k : ℕ) → Contains p.reduced.kept k → k < length p.minimals
  low_of k c = ((prepared.reduced.kept.members k).0 c).0

  -- ---- terms and their tableaux

  of_union : (h : List Value) → InUnion p.terms universe h → OfTerm p.minimals p.reduced universe prepared.reduced kept_or_covered whole_same covers_within h
  of_union h u =
      let n = count in
      let at = u.1 in
      let low : at.0 < length p.minimals = let l = at.1 in omega arith in
      let same : u.0.tableau ≡ (term_at p.minimals at.0).tableau =
      ap (λ (t : Term). t.tableau) (sym at.2) ∙ sym (get_or-map (λ (t : Term). t.tableau) p.terms at.0 u.0 no_minimised.tableau at.1)
      ∙ ap (λ (ts : List Tab). get_or ts at.0 no_minimised.tableau) (sym tableaux) ∙ get_or-map (λ (m : Minimised). m.tableau) p.minimals at.0 no_minimised no_minimised.tableau low in
      record { term = at.0; below = low; answer = subst (λ (t : Tab). Cut t (Ext t universe) h) same u.2 }

  to_union : (h : List Value) → OfTerm p.minimals p.reduced universe prepared.reduced kept_or_covered whole_same covers_within h → InUnion p.terms universe h
  to_union h o = let t = term_of o.term o.below in (t.0, t.1, subst (λ (u : Tab). Cut u (Ext u universe) h) (sym t.2) o.answer)

  -- ---- views and cuts

  to_views : (h : List Value) → InExpression db.schema maximal q (cuts db.schema universe) h → InExpression db.schema maximal q (view_of db) h
  to_views h e = record {
    chosen = e.chosen;
    lists = e.lists;
    is_maximal = e.is_maximal;
    covering = e.covering;
    typed = e.typed;
    within = λ v o lv lo has. (projections o lo (cut (attributes_at db.schema o) (e.lists v))).1 (e.within v o lv lo has);
    holds = e.holds;
    gives = e.gives;
  }

  to_cuts : (h : List Value) → InExpression db.schema maximal q (view_of db) h → InExpression db.schema maximal q (cuts db.schema universe) h
  to_cuts h e = record {
    chosen = e.chosen;
    lists = e.lists;
    is_maximal = e.is_maximal;
    covering = e.covering;
    typed = e.typed;
    within = λ v o lv lo has. (projections o lo (cut (attributes_at db.schema o) (e.lists v))).0 (e.within v o lv lo has);
    holds = e.holds;
    gives = e.gives;
  }

  pub answers_are_the_expression : (h : List Value) → IsAnswer db p h ↔ InExpression db.schema maximal q (view_of db) h
  answers_are_the_expression h =
      let law = laws.union db.schema maximal q p.terms kept.valid resolved prepared.terms universe h kinds meets in (
        λ a.
            let l = low_of a.term a.kept in
            to_views h (law.0 (to_union h ((kept_all h).0 (record {
              term = a.term;
              is_kept = a.kept;
              answer = record { head = a.answer.head; member = (stored_same a.term l a.answer.head).0 a.answer.member; compared = a.answer.compared; outputs = a.answer.outputs };
            })))),
        λ e.
            let k = (kept_all h).1 (of_union h (law.1 (to_cuts h e))) in
            let l = low_of k.term k.is_kept in
            record {
              term = k.term;
              kept = k.is_kept;
              answer = record { head = k.answer.head; member = (stored_same k.term l k.answer.head).1 k.answer.member; compared = k.answer.compared; outputs = k.answer.outputs };
            },
      )
