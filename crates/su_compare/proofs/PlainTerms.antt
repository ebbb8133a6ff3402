-- Terms that compare nothing: their answers, and what settling each of them says.
use Rattle.std.proofs.Common.{◌≡◌, ◌↔◌, ℕ, ◌+◌, ◌<◌, ◌≤◌, max, List, [], ◌∷◌, ◌++◌, length, get_or, All, Option, None, refl, sym, ap, ◌∙◌, subst, below_more, arith}
use Rattle.std.specs.Ordering.{nat_cmp, ord_max}
use Rattle.std.specs.FinSet.{FinSet}
use Rattle.std.proofs.lemmas.List.{get_or_append_left, length-map, length-append, take_all}
use Rattle.std.proofs.Math.Seq.{get_or-append_seam}
use Rattle.std.proofs.lemmas.List.Elements.{All-contains, Contains-get_or}
use Rattle.su_base.specs.declared.values.Value.{Value}
use Rattle.su_base.proofs.Numbers.{ord_max-numbers}
use Rattle.su_tableau.specs.Tableaux.{Tab, IsValid}
use Rattle.su_tableau.specs.Valuations.{Ext, Cut, value_of}
use Rattle.su_tableau.specs.Kinds.{IsUniverse, IsTyped}
use Rattle.su_fd.specs.MetDependencies.{Meets}
use Rattle.su_chase.specs.Chased.{IsFdBelow}
use Rattle.su_schema.specs.Valid as schemas
use Rattle.su_schema.specs.SchemaValue.{SchemaValue}
use Rattle.su_schema.specs.Entries.{attribute_kinds}
use Rattle.su_query.specs.declared.resolving.Resolved.{Resolved}
use Rattle.su_steps.specs.declared.results.Term.{Term}
use Rattle.su_steps.specs.Expression.{cuts, InExpression}
use Rattle.su_steps.specs.Terms.{InUnion}
use Rattle.su_steps.specs.Laws.{TermsAreTheExpression, TermsAreValidAndTyped}
use Rattle.su_compare.specs.declared.verdicts.Found.{Found}
use Rattle.su_compare.specs.declared.verdicts.Reason.{Reason}
use Rattle.su_compare.specs.Within.{AreOf}
use Rattle.su_compare.specs.Settled.{tab_at, IsBy, IsSettled}
use Rattle.su_compare.specs.Verdict.{IsReason}
use Rattle.su_compare.specs.Comparable.{IsPlain, AreComparable}
use Rattle.su_compare.specs.inside.Settlements.{IsAlike, AreAlike}
use Rattle.su_compare.proofs.Settled.{tab_here, IsAnswer}

pub max_left : (a b m : ℕ) → m ≡ ord_max nat_cmp a b → a ≤ m
max_left a b m e = let g : m ≡ max a b = e ∙ ord_max-numbers a b in omega arith

pub max_right : (a b m : ℕ) → m ≡ ord_max nat_cmp a b → b ≤ m
max_right a b m e = let g : m ≡ max a b = e ∙ ord_max-numbers a b in omega arith

-- ---- plain terms

-- a term by its number, as its tableau
pub plain_at : (schema : SchemaValue) (n : ℕ) (terms : List Term) (i : ℕ) (d : Term) → All (IsPlain schema n) terms → i < length terms → IsPlain schema n (get_or terms i d)
plain_at schema n terms i d all low = all i d low

pub typed_at : (schema : SchemaValue) (n : ℕ) (terms : List Term) (i : ℕ) (d : Term) → All (IsPlain schema n) terms → i < length terms → IsTyped (attribute_kinds schema) (tab_at terms i)
typed_at schema n terms i d all low = subst (IsTyped (attribute_kinds schema)) (sym (tab_here terms i d low)) (all i d low).typed

abbrev no_term : Term
no_term = record { disjunct = 0; choice = []; origins = []; tableau = tab_at [] 0 }

pub all_alike : (schema : SchemaValue) (first second : List Term) (i : ℕ) (d : Term) → AreComparable schema first second → i < length first → AreAlike (get_or first i d).tableau second
all_alike schema first second i d comparable low j below =
    let p = comparable.first_plain i d low in
    let q = comparable.second_plain j no_term below in
    subst (IsAlike (get_or first i d).tableau) (sym (tab_here second j no_term below)) (record {
      width = q.typed.width ∙ sym p.typed.width;
      outputs = q.outputs_are ∙ sym p.outputs_are;
      operators = q.operators ∙ sym p.operators;
    })

pub fds_below : (schema : SchemaValue) (t : Tab) → schemas.IsValid schema → t.width ≡ length (attribute_kinds schema) → All (IsFdBelow t.width) schema.fds
fds_below schema t valid width k d low =
    let f = valid.fds k d low in
    let n : length (attribute_kinds schema) ≡ length schema.attributes = length-map schema.attributes (λ a. a.kind) in
    record {
      left = λ a in'. let l = f.left.below a in' in omega arith;
      right = λ a in'. let l = f.right.below a in' in omega arith;
    }

-- ---- reasons, one more at a time

pub record AreSettled (schema : SchemaValue) (first second : List Term) (i : ℕ) (reasons : List Reason) : Type 0 where
  pub one_each : length reasons ≡ i
  pub each : (k : ℕ) (d : Reason) → k < i → IsReason schema.fds first second k (get_or reasons k d)

pub one_settled : (schema : SchemaValue) (first second : List Term) (i : ℕ) (reasons new : List Reason) (by : Option Found) → new ≡ reasons ++ record { term = i; by = by } ∷ []
    → IsBy schema.fds second (tab_at first i) by → AreSettled schema first second i reasons → AreSettled schema first second (i + 1) new
one_settled schema first second i reasons new by is settled before =
    let r : Reason = record { term = i; by = by } in
    let n = before.one_each in
    let len = ap length is ∙ length-append reasons (r ∷ []) in
    record {
      one_each = omega arith;
      each = λ k d low. (below_more (λ k. (d : Reason) → IsReason schema.fds first second k (get_or new k d)) i
          (λ k below d.
          let e : get_or new k d ≡ get_or reasons k d = ap (λ l. get_or l k d) is ∙ get_or_append_left reasons (r ∷ []) d k (omega arith) in
          subst (IsReason schema.fds first second k) (sym e) (before.each k d below))
          (λ d.
          let e : get_or new i d ≡ r = ap (λ l. get_or l i d) is ∙ ap (λ k. get_or (reasons ++ r ∷ []) k d) (sym n) ∙ get_or-append_seam reasons r [] d in
          subst (IsReason schema.fds first second i) (sym e) (record { term = refl; by = settled }))) k low d;
    }

pub earlier_settled : (schema : SchemaValue) (first second : List Term) (i : ℕ) (reasons : List Reason) → AreSettled schema first second i reasons → (k : ℕ) → k < i → IsSettled schema.fds second (tab_at first k)
earlier_settled schema first second i reasons are k low = let none : Reason = record { term = 0; by = None } in ((get_or reasons k none).by, (are.each k none low).by)

-- ---- queries

-- a tableau that compares nothing: the outputs of its answers are these
cut_plain : (t : Tab) (u : List (List Value)) (h : List Value) → IsValid t → t.operators ≡ [] → Cut t (Ext t u) h ↔ Ext t u h
cut_plain t u h valid none =
    let ops : length t.operators ≡ 0 = ap length none in
    let long = valid.head_length in
    let len : (g : List Value) → Ext t u g → length g ≤ t.outputs =
    λ g e. let n : length g ≡ length t.head = ap length (sym e.gives) ∙ length-map t.head (value_of e.valuation) in omega arith in (
      λ c. subst (Ext t u) (sym (take_all t.outputs c.head (len c.head c.member)) ∙ c.outputs) c.member,
      λ e. record {
        head = h;
        member = e;
        compared = λ i low. absurd (omega arith);
        outputs = take_all t.outputs h (len h e);
      },
    )

in_union : (schema : SchemaValue) (n : ℕ) (terms : List Term) (u : List (List Value)) (h : List Value) → All (IsPlain schema n) terms → All (λ t. IsValid t.tableau × IsTyped (attribute_kinds schema) t.tableau) terms → InUnion terms u h ↔ IsAnswer terms u h
in_union schema n terms u h plain valid = (
  λ m.
      let t = m.0 in
      let k = m.1 in
      let p = All-contains (IsPlain schema n) terms t plain k in
      let v = All-contains (λ t. IsValid t.tableau × IsTyped (attribute_kinds schema) t.tableau) terms t valid k in
      let at : tab_at terms k.0 ≡ t.tableau = tab_here terms k.0 t k.1 ∙ ap (λ t. t.tableau) k.2 in
      (k.0, k.1, subst (λ t. Ext t u h) (sym at) ((cut_plain t.tableau u h v.0 p.operators).0 m.2)),
  λ a.
      let i = a.0 in
      let t = get_or terms i no_term in
      let at = tab_here terms i no_term a.1 in
      (t, Contains-get_or terms i no_term a.1, (cut_plain t.tableau u h (valid i no_term a.1).0 (plain i no_term a.1).operators).1 (subst (λ t. Ext t u h) at a.2)),
)

-- the answers of the terms are the rows of the query
pub answers_are : TermsAreTheExpression → TermsAreValidAndTyped → (schema : SchemaValue) (maximal : List (FinSet nat_cmp)) (q : Resolved) (n : ℕ) (terms : List Term) → schemas.IsValid schema → AreOf schema maximal q terms → All (IsPlain schema n) terms
    → (u : List (List Value)) (h : List Value) → IsUniverse (attribute_kinds schema) u → Meets schema.fds u → IsAnswer terms u h ↔ InExpression schema maximal q (cuts schema u) h
answers_are law typing schema maximal q n terms valid of' plain u h typed meets =
    let union = in_union schema n terms u h plain (typing schema maximal q terms valid of'.resolved of'.terms_are) in
    let same = law schema maximal q terms valid of'.resolved of'.terms_are u h typed meets in
    (λ a. same.0 (union.1 a), λ e. union.0 (same.1 e))
