-- The frozen rows of a chased term into which no term of the second query maps.
use Rattle.std.proofs.Common.{◌≡◌, ◌↔◌, ◌⊎◌, inl, inr, ℕ, ◌<◌, List, length, get_or, Contains, refl, subst}
use Rattle.std.specs.List.Sorted.{IsStrictlySortedBy}
use Rattle.std.proofs.lemmas.List.Elements.{Contains-get_or}
use Rattle.su_base.specs.declared.values.Value.{Value}
use Rattle.su_base.specs.declared.values.Kind.{Kind}
use Rattle.su_base.specs.Value.{compare_lists}
use Rattle.su_fd.specs.declared.dependencies.Fd.{Fd}
use Rattle.su_tableau.specs.Tableaux.{Tab, IsValid}
use Rattle.su_tableau.specs.Valuations.{Ext}
use Rattle.su_tableau.specs.Mapping.{Maps}
use Rattle.su_chase.specs.Frozen.{IsFrozen, AreAvoided}
use Rattle.su_chase.specs.declared.freezing.Frozen.{Frozen}
use Rattle.su_schema.specs.SchemaValue.{SchemaValue}
use Rattle.su_schema.specs.Entries.{attribute_kinds}
use Rattle.su_steps.specs.declared.results.Term.{Term}
use Rattle.su_compare.specs.Settled.{tab_at, IsUnsettled}
use Rattle.su_compare.specs.Counterexamples.{InTerms, IsShown}
use Rattle.su_compare.proofs.Members.{ext_included}
use Rattle.su_compare.proofs.Settled.{IsAnswer}
use Rattle.su_compare.proofs.Constants.{chased_constants}

pub avoided_by : (terms : List Term) (avoid : List Value) → ((v : Value) → InTerms terms v → Contains avoid v) → (i : ℕ) → i < length terms → AreAvoided avoid (tab_at terms i)
avoided_by terms avoid has i low = record {
  rows = λ k d below v at. has v (i, low, inl (get_or (tab_at terms i).rows k d, Contains-get_or (tab_at terms i).rows k d below, at));
  head = λ v at. has v (i, low, inr at);
}

-- the values that are avoided: the constants of all terms of both
abbrev pub AreAll : List Term → List Term → List Value → Type 0
AreAll first second avoid = (v : Value) → Contains avoid v ↔ (InTerms first v ⊎ InTerms second v)

pub chased_avoided : (fds : List Fd) (first second : List Term) (t c : Tab) (avoid : List Value) → IsValid t → ((i : ℕ) × (i < length first) × (tab_at first i ≡ t)) → IsUnsettled fds second t c → AreAll first second avoid → AreAvoided avoid c
chased_avoided fds first second t c avoid valid at unsettled all =
    chased_constants fds t c avoid valid.widths unsettled.chased
    (subst (AreAvoided avoid) at.2 (avoided_by first avoid (λ v h. (all v).1 (inl h)) at.0 at.1))

pub none_left : (fds : List Fd) (first second : List Term) (t c : Tab) (avoid : List Value) (universe sorted : List (List Value)) (h : List Value) → AreAvoided avoid c → IsUnsettled fds second t c → AreAll first second avoid
    → ((s : Tab) → AreAvoided avoid s → AreAvoided avoid c → Ext s universe h → Maps s c)
    → ((x : List Value) → Contains sorted x ↔ Contains universe x) → IsAnswer second sorted h → ⊥
none_left fds first second t c avoid universe sorted h avoided unsettled all thawed same answer =
    let s = tab_at second answer.0 in
    unsettled.none answer.0 answer.1
    (thawed s (avoided_by second avoid (λ v k. (all v).1 (inr k)) answer.0 answer.1) avoided (ext_included s sorted universe h (λ x. (same x).0) answer.2))

pub shown_is : (schema : SchemaValue) (first second : List Term) (c : Tab) (kinds : List Kind) (avoid : List Value) (frozen : Frozen) (sorted : List (List Value)) → kinds ≡ attribute_kinds schema → AreAll first second avoid
    → IsFrozen kinds c avoid frozen → ((x : List Value) → Contains sorted x ↔ Contains frozen.universe x) → IsStrictlySortedBy compare_lists sorted
    → IsShown schema first second c (record { universe = sorted; head = frozen.head })
shown_is schema first second c kinds avoid frozen sorted kinds_are all is same ascending = record {
  avoid = avoid;
  avoided = all;
  frozen = frozen;
  frozen_is = subst (λ k. IsFrozen k c avoid frozen) kinds_are is;
  rows = record { exact = same; ascending = ascending };
  head = refl;
}
