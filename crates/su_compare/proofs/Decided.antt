-- What a verdict of the terms says: a term that is settled has no answers but those of the second query, and the frozen rows of one that isn't are a universal relation where the first query alone has the frozen head.
use Rattle.std.proofs.Common.{ℕ, List, [], map, get_or, All, Option, None, Some, refl, sym, subst}
use Rattle.std.specs.Ordering.{nat_cmp}
use Rattle.std.specs.FinSet.{FinSet}
use Rattle.su_base.specs.declared.values.Value.{Value}
use Rattle.su_fd.specs.declared.dependencies.Fd.{Fd}
use Rattle.su_fd.specs.MetDependencies.{Meets}
use Rattle.su_tableau.specs.Tableaux.{Tab, IsValid}
use Rattle.su_tableau.specs.Valuations.{Ext, values_of}
use Rattle.su_tableau.specs.Kinds.{Kinds, IsUniverse, IsTyped}
use Rattle.su_tableau.specs.Mapping.{Maps}
use Rattle.su_chase.specs.Chase.{IsClosedPartition}
use Rattle.su_chase.specs.Frozen.{AreAvoided}
use Rattle.su_chase.specs.declared.freezing.Frozen.{Frozen}
use Rattle.su_chase.proofs.NamedAnswers.{no_answer, chased_answers, chased_valid, chased_settled}
use Rattle.su_chase.proofs.FrozenValues.{frozen_universe, frozen_answer, frozen_maps, frozen_meets}
use Rattle.su_schema.specs.Valid as schemas
use Rattle.su_schema.specs.SchemaValue.{SchemaValue}
use Rattle.su_schema.specs.Entries.{attribute_kinds}
use Rattle.su_query.specs.declared.resolving.Resolved.{Resolved}
use Rattle.su_steps.specs.declared.results.Term.{Term}
use Rattle.su_steps.specs.Laws.{TermsAreTheExpression, TermsAreValidAndTyped}
use Rattle.su_compare.specs.declared.verdicts.Found.{Found}
use Rattle.su_compare.specs.declared.verdicts.Reason.{Reason}
use Rattle.su_compare.specs.declared.verdicts.Verdict.TheVariants as verdict
use Rattle.su_compare.specs.Comparable.{AreComparable}
use Rattle.su_compare.specs.Counterexamples.{IsApart}
use Rattle.su_compare.specs.Laws.{VerdictsDecide}
use Rattle.su_compare.specs.Settled.{tab_at, IsBy}
use Rattle.su_compare.specs.Verdict.{AreReasons}
use Rattle.su_compare.specs.Within.{IsQueryWithin, IsCounterexample, AreOf}
use Rattle.su_compare.proofs.Members.{ext_included, universe_included, meets_included}
use Rattle.su_compare.proofs.PlainTerms.{fds_below, answers_are}
use Rattle.su_compare.proofs.Settled.{tab_here, IsAnswer, found_answers}
use Rattle.su_compare.proofs.UnmappedRows.{chased_avoided, none_left}

-- ---- a yes

-- over each universal relation that meets the dependencies the answers of the first terms are answers of the second
abbrev AreWithin : SchemaValue → List Term → List Term → Type 0
AreWithin schema first second = (universe : List (List Value)) (h : List Value) → IsUniverse (attribute_kinds schema) universe → Meets schema.fds universe → IsAnswer first universe h → IsAnswer second universe h

by_answers : (fds : List Fd) (second : List Term) (t : Tab) (by : Option Found) (kinds : Kinds) (u : List (List Value)) (h : List Value) → IsUniverse kinds u → Meets fds u → IsBy fds second t by → Ext t u h → IsAnswer second u h
by_answers fds second t None kinds u h typed meets (less, greater, clash) ext = absurd (no_answer fds t less greater clash.differ clash.together u h meets ext)
by_answers fds second t (Some f) kinds u h typed meets (c, chased, found) ext = found_answers second c kinds u h f.term f.mapping typed found ((chased_answers fds t c chased u h meets).0 ext)

all_within : (schema : SchemaValue) (first second : List Term) (reasons : List Reason) → AreReasons schema.fds first second reasons → AreWithin schema first second
all_within schema first second reasons are u h typed meets (i, low, ext) =
    let d : Reason = record { term = 0; by = None } in
    by_answers schema.fds second (tab_at first i) (get_or reasons i d).by (attribute_kinds schema) u h typed meets (are.each i d low).by ext

-- ---- a no

-- over this universal relation h is an answer of the first terms and of none of the second ones
record IsApartOver (schema : SchemaValue) (first second : List Term) (universe : List (List Value)) (h : List Value) : Type 0 where
  typed : IsUniverse (attribute_kinds schema) universe
  meets : Meets schema.fds universe
  in_first : IsAnswer first universe h
  not_in_second : IsAnswer second universe h → ⊥

module _ (schema : SchemaValue) (first second : List Term) (term : ℕ) (shown : Frozen) (valid : schemas.IsValid schema) (tabs : All (λ t. IsValid t.tableau × IsTyped (attribute_kinds schema) t.tableau) first) (is : IsApart schema first second term shown) where
  abbrev kinds : Kinds
  kinds = attribute_kinds schema

  abbrev t : Tab
  t = tab_at first term

  abbrev c : Tab
  c = is.chased

  abbrev frozen : Frozen
  frozen = is.shown_is.frozen

  -- the term is a valid tableau, well typed
  here : IsValid t × IsTyped kinds t
  here =
      let d : Term = record { disjunct = 0; choice = []; origins = []; tableau = tab_at [] 0 } in
      subst (λ t. IsValid t × IsTyped kinds t) (sym (tab_here first term d is.below)) (tabs term d is.below)

  valid_c : IsValid c
  valid_c = chased_valid schema.fds t c is.unsettled.chased here.0

  avoided : AreAvoided is.shown_is.avoid c
  avoided = chased_avoided schema.fds first second t c is.shown_is.avoid here.0 (term, is.below, refl) is.unsettled is.shown_is.avoided

  closed : IsClosedPartition schema.fds c.rows (λ x. x)
  closed = chased_settled schema.fds t c is.unsettled.chased here.0 (fds_below schema t valid here.1.width)

  typed_u : IsUniverse kinds frozen.universe
  typed_u = let f = is.shown_is.frozen_is in subst (IsUniverse kinds) (sym f.universe) (frozen_universe kinds c is.shown_is.avoid valid_c f.var_kind f.fits f.valuation f.each)

  meets_u : Meets schema.fds frozen.universe
  meets_u = let f = is.shown_is.frozen_is in subst (Meets schema.fds) (sym f.universe) (frozen_meets kinds c is.shown_is.avoid valid_c f.var_kind f.fits f.valuation f.each avoided schema.fds closed)

  answers_u : Ext c frozen.universe frozen.head
  answers_u =
      let f = is.shown_is.frozen_is in
      subst (λ u. Ext c u frozen.head) (sym f.universe) (subst (Ext c (map (values_of f.valuation) c.rows)) (sym f.head) (frozen_answer kinds c is.shown_is.avoid valid_c f.var_kind f.fits f.valuation f.each))

  thawed_u : (s : Tab) → AreAvoided is.shown_is.avoid s → AreAvoided is.shown_is.avoid c → Ext s frozen.universe frozen.head → Maps s c
  thawed_u s avoided_s own ext =
      let f = is.shown_is.frozen_is in
      frozen_maps kinds c is.shown_is.avoid valid_c f.var_kind f.fits f.valuation f.each own s avoided_s
      (subst (λ u. Ext s u (values_of f.valuation c.head)) f.universe (subst (Ext s frozen.universe) f.head ext))

  apart_over : IsApartOver schema first second shown.universe shown.head
  apart_over =
      let same = is.shown_is.rows.exact in
      let meets = meets_included schema.fds shown.universe frozen.universe (λ x. (same x).0) meets_u in
      let ext : Ext c shown.universe shown.head = subst (Ext c shown.universe) (sym is.shown_is.head) (ext_included c frozen.universe shown.universe frozen.head (λ x. (same x).1) answers_u) in
      record {
        typed = universe_included kinds shown.universe frozen.universe (λ x. (same x).0) typed_u;
        meets = meets;
        in_first = (term, is.below, (chased_answers schema.fds t c is.unsettled.chased shown.universe shown.head meets).1 ext);
        not_in_second = λ a.
            none_left schema.fds first second t c is.shown_is.avoid frozen.universe shown.universe frozen.head avoided is.unsettled is.shown_is.avoided thawed_u same
            (subst (IsAnswer second shown.universe) is.shown_is.head a);
      }

-- ---- the queries

within_queries : TermsAreTheExpression → TermsAreValidAndTyped → (schema : SchemaValue) (maximal : List (FinSet nat_cmp)) (p q : Resolved) (first second : List Term) → schemas.IsValid schema → AreComparable schema first second → AreOf schema maximal p first → AreOf schema maximal q second
    → ((u : List (List Value)) (h : List Value) → IsUniverse (attribute_kinds schema) u → Meets schema.fds u → IsAnswer first u h → IsAnswer second u h) → IsQueryWithin schema maximal p q
within_queries law typing schema maximal p q first second valid comparable of_p of_q all u h typed meets in_p =
    let a = (answers_are law typing schema maximal p comparable.outputs first valid of_p comparable.first_plain u h typed meets).1 in_p in
    (answers_are law typing schema maximal q comparable.outputs second valid of_q comparable.second_plain u h typed meets).0 (all u h typed meets a)

counterexample : TermsAreTheExpression → TermsAreValidAndTyped → (schema : SchemaValue) (maximal : List (FinSet nat_cmp)) (p q : Resolved) (first second : List Term) → schemas.IsValid schema → AreComparable schema first second → AreOf schema maximal p first → AreOf schema maximal q second
    → (u : List (List Value)) (h : List Value) → IsApartOver schema first second u h → IsCounterexample schema maximal p q u h
counterexample law typing schema maximal p q first second valid comparable of_p of_q u h apart = record {
  typed = apart.typed;
  meets = apart.meets;
  in_first = (answers_are law typing schema maximal p comparable.outputs first valid of_p comparable.first_plain u h apart.typed apart.meets).0 apart.in_first;
  not_in_second = λ e. apart.not_in_second ((answers_are law typing schema maximal q comparable.outputs second valid of_q comparable.second_plain u h apart.typed apart.meets).1 e);
}

pub decide : TermsAreTheExpression → TermsAreValidAndTyped → VerdictsDecide
decide law typing schema maximal p q first second (verdict.Within reasons) valid of_p of_q comparable is =
    let within = within_queries law typing schema maximal p q first second valid comparable of_p of_q (all_within schema first second reasons is) in
    record { decides = (λ yes'. within, λ _. tt); apart = tt }
decide law typing schema maximal p q first second (verdict.Apart term universe head) valid of_p of_q comparable is =
    let tabs = typing schema maximal p first valid of_p.resolved of_p.terms_are in
    let shows : IsCounterexample schema maximal p q universe head =
    counterexample law typing schema maximal p q first second valid comparable of_p of_q universe head (apart_over schema first second term (record { universe = universe; head = head }) valid tabs is) in
    record { decides = (λ no. absurd no, λ within. absurd (shows.not_in_second (within universe head shows.typed shows.meets shows.in_first))); apart = shows }
