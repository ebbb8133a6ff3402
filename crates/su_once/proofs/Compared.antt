-- Two lists of terms have one verdict.
use Rattle.std.proofs.Common.{◌≡◌, ◌↔◌, ◌<◌, ℕ, List, [], length, get_or, Contains, Option, Some, None, All, inl, inr, refl, ap, sym, ◌∙◌, subst, arith}
use Rattle.std.proofs.lemmas.List.{same_lists}
use Rattle.std.proofs.lemmas.Bool.{cases_lt}
use Rattle.su_base.specs.declared.values.Value.{Value}
use Rattle.su_fd.specs.declared.dependencies.Fd.{Fd}
use Rattle.su_tableau.specs.Tableaux.{Tab, IsValid, Occurs}
use Rattle.su_tableau.specs.declared.symbols.Sym.TheVariants.{Var}
use Rattle.su_tableau.specs.Mapping.{Maps}
use Rattle.su_map.specs.Lists.{IsFirst}
use Rattle.su_map.proofs.Containment.{list_maps, whole_maps}
use Rattle.su_chase.specs.Chased.{IsChased}
use Rattle.su_chase.specs.declared.freezing.Frozen.{Frozen}
use Rattle.su_schema.specs.SchemaValue.{SchemaValue}
use Rattle.su_schema.specs.Entries.{attribute_kinds}
use Rattle.su_steps.specs.declared.results.Term.{Term}
use Rattle.su_compare.specs.declared.verdicts.Found.{Found}
use Rattle.su_compare.specs.declared.verdicts.Reason.{Reason}
use Rattle.su_compare.specs.declared.verdicts.Verdict.TheVariants.{Within, Apart}
use Rattle.su_compare.specs.Settled.{tab_at, IsFirstOfAllRows, IsFound, Clashes, IsBy, IsUnsettled}
use Rattle.su_compare.specs.Verdict.{IsReason, AreReasons}
use Rattle.su_compare.specs.Counterexamples.{IsShown, IsApart}
use Rattle.su_compare.proofs.Settled.{tab_here}
use Rattle.su_once.specs.Verdicts.{OneVerdict}
use Rattle.su_once.proofs.OneChase.{one_chase, no_clash, head_stands}
use Rattle.su_once.proofs.Frozen.{one_frozen}
use Rattle.su_once.proofs.Mapped.{one_first}
use Rattle.su_once.proofs.Rows.{one_strict_list}

-- ---- the least term that maps, by the first mapping

module _ (second : List Term) (c : Tab) where
  found_maps : (f : Found) → IsFound second c f → Maps (tab_at second f.term) c
  found_maps f x =
      let m = x.mapping in
      whole_maps (tab_at second f.term) c f.mapping.from_mask f.mapping.to_mask m.from_all (list_maps (tab_at second f.term) c f.mapping.from_mask f.mapping.to_mask f.mapping.list m.first.maps)

  one_least : (f g : Found) → IsFound second c f → IsFound second c g → f.term ≡ g.term
  one_least f g x y = elim (cases_lt f.term g.term) [
    | inl less ↦ absurd (y.least f.term less (found_maps f x))
    | inr from ↦ elim (cases_lt g.term f.term) [ inl less ↦ absurd (x.least g.term less (found_maps g y)) | inr upto ↦ omega (arith, from, upto) ]
  ]

  one_found : (f g : Found) → IsFound second c f → IsFound second c g → f ≡ g
  one_found f g x y =
      let term = one_least f g x y in
      let one : IsFirstOfAllRows (tab_at second g.term) c f.mapping = subst (λ (n : ℕ). IsFirstOfAllRows (tab_at second n) c f.mapping) term x.mapping in
      let other = y.mapping in
      let from = one.from ∙ sym other.from in
      let to = one.to ∙ sym other.to in
      let from_mask : f.mapping.from_mask ≡ g.mapping.from_mask = let a = one.from_all in let b = other.from_all in omega (arith, a, b) in
      let to_mask : f.mapping.to_mask ≡ g.mapping.to_mask = let a = one.to_all in let b = other.to_all in omega (arith, a, b) in
      let first : IsFirst (tab_at second g.term) g.mapping.from_mask c g.mapping.to_mask f.mapping.list =
      subst (λ (m : ℕ). IsFirst (tab_at second g.term) m c g.mapping.to_mask f.mapping.list) from_mask (subst (λ (m : ℕ). IsFirst (tab_at second g.term) f.mapping.from_mask c m f.mapping.list) to_mask one.first) in
      let list = one_first _ _ _ _ f.mapping.list g.mapping.list first other.first in
      λ i. record { term = term i; mapping = record { from = from i; from_mask = from_mask i; to = to i; to_mask = to_mask i; list = list i } }

-- ---- one reason

module _ (fds : List Fd) (second : List Term) (t : Tab) where
  clash_or_chase : (c : Tab) → Clashes fds t → IsChased fds t c → ⊥
  clash_or_chase c (less, greater, clash) chased = no_clash fds t.rows less greater clash chased.consistent

  one_by : (b d : Option Found) → IsBy fds second t b → IsBy fds second t d → b ≡ d
  one_by None None h k = refl
  one_by None (Some g) h (c, chased, found) = absurd (clash_or_chase c h chased)
  one_by (Some f) None (c, chased, found) k = absurd (clash_or_chase c k chased)
  one_by (Some f) (Some g) (c, chased, found) (d, too, same) =
      let one : d ≡ c = one_chase fds t d c too chased in
      ap Some (one_found second c f g found (subst (λ (e : Tab). IsFound second e g) one same))

  settled_or_not : (c : Tab) (b : Option Found) → IsBy fds second t b → IsUnsettled fds second t c → ⊥
  settled_or_not c None h k = clash_or_chase c h k.chased
  settled_or_not c (Some f) (d, chased, found) k =
      let one : d ≡ c = one_chase fds t d c chased k.chased in
      k.none f.term found.below (subst (Maps (tab_at second f.term)) one (found_maps second d f found))

one_reason : (fds : List Fd) (first second : List Term) (i : ℕ) (r s : Reason) → IsReason fds first second i r → IsReason fds first second i s → r ≡ s
one_reason fds first second i r s h k =
    let term = h.term ∙ sym k.term in
    let by = one_by fds second (tab_at first i) r.by s.by h.by k.by in
    λ j. record { term = term j; by = by j }

one_list_of_reasons : (fds : List Fd) (first second : List Term) (rs ss : List Reason) → AreReasons fds first second rs → AreReasons fds first second ss → rs ≡ ss
one_list_of_reasons fds first second rs ss h k =
    same_lists rs ss (h.one_each ∙ sym k.one_each)
    (λ i d low. let within : i < length first = subst (λ (n : ℕ). i < n) h.one_each low in one_reason fds first second i (get_or rs i d) (get_or ss i d) (h.each i d within) (k.each i d within))

-- ---- one term that is not settled, and its frozen rows

module _ (schema : SchemaValue) (first second : List Term) where
  one_shown : (c : Tab) (f g : Frozen) → ((k : ℕ) → Contains c.head (Var k) → Occurs c.rows k) → IsShown schema first second c f → IsShown schema first second c g → f ≡ g
  one_shown c f g stand x y =
      let same : (v : Value) → Contains x.avoid v ↔ Contains y.avoid v = λ v. (λ there. (y.avoided v).1 ((x.avoided v).0 there), λ there. (x.avoided v).1 ((y.avoided v).0 there)) in
      let frozen : x.frozen ≡ y.frozen = one_frozen (attribute_kinds schema) c x.avoid y.avoid x.frozen y.frozen same x.frozen_is y.frozen_is stand in
      let there : (row : List Value) → Contains x.frozen.universe row ↔ Contains y.frozen.universe row = λ row. (subst (λ (z : Frozen). Contains z.universe row) frozen, subst (λ (z : Frozen). Contains z.universe row) (sym frozen)) in
      let universe = one_strict_list f.universe g.universe x.rows.ascending y.rows.ascending
      (λ row inside. (y.rows.exact row).1 ((there row).0 ((x.rows.exact row).0 inside)))
      (λ row inside. (x.rows.exact row).1 ((there row).1 ((y.rows.exact row).0 inside))) in
      let head = x.head ∙ ap (λ (z : Frozen). z.head) frozen ∙ sym y.head in
      λ i. record { universe = universe i; head = head i }

  one_term : (m n : ℕ) (f g : Frozen) → IsApart schema first second m f → IsApart schema first second n g → m ≡ n
  one_term m n f g x y = elim (cases_lt m n) [
    | inl less ↦ absurd (let settled = y.earlier m less in settled_or_not schema.fds second (tab_at first m) x.chased settled.0 settled.1 x.unsettled)
    | inr from ↦ elim (cases_lt n m) [
      | inl less ↦ absurd (let settled = x.earlier n less in settled_or_not schema.fds second (tab_at first n) y.chased settled.0 settled.1 y.unsettled)
      | inr upto ↦ omega (arith, from, upto)
    ]
  ]

  valid_at : (m : ℕ) → All (λ (t : Term). IsValid t.tableau) first → m < length first → IsValid (tab_at first m)
  valid_at m valid low = subst IsValid (sym (tab_here first m no_term low)) (valid m no_term low) where
    no_term : Term
    no_term = record { disjunct = 0; choice = []; origins = []; tableau = tab_at [] 0 }

  one_apart : (m n : ℕ) (f g : Frozen) → All (λ (t : Term). IsValid t.tableau) first → IsApart schema first second m f → IsApart schema first second n g → f ≡ g
  one_apart m n f g valid x y =
      let same : n ≡ m = one_term n m g f y x in
      let z : IsApart schema first second m g = subst (λ (k : ℕ). IsApart schema first second k g) same y in
      let chased : z.chased ≡ x.chased = one_chase schema.fds (tab_at first m) z.chased x.chased z.unsettled.chased x.unsettled.chased in
      one_shown x.chased f g (head_stands schema.fds (tab_at first m) x.chased (valid_at m valid x.below) x.unsettled.chased) x.shown_is (subst (λ (c : Tab). IsShown schema first second c g) chased z.shown_is)

  within_or_apart : (reasons : List Reason) (m : ℕ) (f : Frozen) → AreReasons schema.fds first second reasons → IsApart schema first second m f → ⊥
  within_or_apart reasons m f h x =
      let none : Reason = record { term = 0; by = None } in
      let reason = h.each m none x.below in
      settled_or_not schema.fds second (tab_at first m) x.chased (get_or reasons m none).by reason.by x.unsettled

pub one_verdict : OneVerdict
one_verdict schema first second (Within rs) (Within ss) valid h k = ap Within (one_list_of_reasons schema.fds first second rs ss h k)
one_verdict schema first second (Within rs) (Apart n u z) valid h k = absurd (within_or_apart schema first second rs n _ h k)
one_verdict schema first second (Apart m v y) (Within ss) valid h k = absurd (within_or_apart schema first second ss m _ k h)
one_verdict schema first second (Apart m v y) (Apart n u z) valid h k =
    let term = one_term schema first second m n _ _ h k in
    let shown = one_apart schema first second m n (record { universe = v; head = y }) (record { universe = u; head = z }) valid h k in
    λ i. Apart (term i) (shown i).universe (shown i).head
