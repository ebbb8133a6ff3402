-- The kept terms give what all terms give.
use Rattle.std.proofs.Common.{◌≡◌, ◌↔◌, ◌⊎◌, ℕ, ◌<◌, List, length, Contains, sym, ap, ◌∙◌, subst, ⊎_elim}
use Rattle.std.specs.Prelude.{take}
use Rattle.su_base.specs.declared.values.Value.{Value}
use Rattle.su_where.specs.declared.operators.Op.{Op}
use Rattle.su_tableau.specs.Tableaux.{Tab}
use Rattle.su_tableau.specs.Valuations.{Ext, AreCompared, Cut}
use Rattle.su_tableau.specs.Parts.{part}
use Rattle.su_min.specs.Kept.{Minimised}
use Rattle.su_min.specs.Cover.{AreAlike, Covers}
use Rattle.su_min.specs.declared.reduced.Reduced.{Reduced}
use Rattle.su_min.specs.Reduction.{term_at, IsReduced}
use Rattle.su_min.specs.Laws.{HasCover}

-- comparisons of alike tableaux are the same
compared_alike : (s t : Tab) (head : List Value) → AreAlike s t → AreCompared t head → AreCompared s head
compared_alike s t head alike h =
    let by : (n : ℕ) (ops : List Op) → s.outputs ≡ n → s.operators ≡ ops → AreCompared (record t { outputs = n; operators = ops }) head → AreCompared (record t { outputs = s.outputs; operators = s.operators }) head = λ n ops e f k.
    subst (λ os. AreCompared (record t { outputs = s.outputs; operators = os }) head) (sym f) (subst (λ q. AreCompared (record t { outputs = q; operators = ops }) head) (sym e) k) in
    by t.outputs t.operators alike.outputs alike.operators h

module _
    (terms : List Minimised) (r : Reduced) (universe : List (List Value))
    (reduced : IsReduced terms r) (kept_or_covered : (i : ℕ) → i < length terms → Contains r.kept i ⊎ HasCover terms r.kept i)
    (same : (i : ℕ) → i < length terms → (h : List Value) → Ext (part (term_at terms i).tableau (term_at terms i).mask) universe h ↔ Ext (term_at terms i).tableau universe h)
    (within : (i j : ℕ) → i < length terms → j < length terms → Covers (term_at terms i) (term_at terms j) → (h : List Value) → Ext (part (term_at terms j).tableau (term_at terms j).mask) universe h → Ext (part (term_at terms i).tableau (term_at terms i).mask) universe h) where
  -- an answer of the kept rows of some kept term
  pub record OfKept (h : List Value) : Type 0 where
    pub term : ℕ
    pub is_kept : Contains r.kept term
    pub answer : Cut (term_at terms term).tableau (λ g. Ext (part (term_at terms term).tableau (term_at terms term).mask) universe g) h

  -- an answer of some term
  pub record OfTerm (h : List Value) : Type 0 where
    pub term : ℕ
    pub below : term < length terms
    pub answer : Cut (term_at terms term).tableau (λ g. Ext (term_at terms term).tableau universe g) h

  pub kept_give_all : (h : List Value) → OfKept h ↔ OfTerm h
  kept_give_all h = (
    λ k.
        let low = ((reduced.kept.members k.term).0 k.is_kept).0 in
        record {
          term = k.term;
          below = low;
          answer = record { head = k.answer.head; member = (same k.term low k.answer.head).0 k.answer.member; compared = k.answer.compared; outputs = k.answer.outputs };
        },
    λ t.
        ⊎_elim
        (λ (c : Contains r.kept t.term). record {
          term = t.term;
          is_kept = c;
          answer = record { head = t.answer.head; member = (same t.term t.below t.answer.head).1 t.answer.member; compared = t.answer.compared; outputs = t.answer.outputs };
        })
        (λ (c : HasCover terms r.kept t.term).
        record {
          term = c.by;
          is_kept = c.is_kept;
          answer = record {
            head = t.answer.head;
            member = within c.by t.term c.below t.below c.covers t.answer.head ((same t.term t.below t.answer.head).1 t.answer.member);
            compared = compared_alike (term_at terms c.by).tableau (term_at terms t.term).tableau t.answer.head c.covers.alike t.answer.compared;
            outputs = ap (λ n. take n t.answer.head) c.covers.alike.outputs ∙ t.answer.outputs;
          };
        })
        (kept_or_covered t.term t.below),
  )
