-- Why a query is refused, from what was counted.
use Rattle.std.proofs.Common.{◌≡◌, ◌⊎◌, ⊎_elim, ℕ, zero, suc, ◌*◌, ◌<◌, ◌≤◌, min, true, false, Some, None, List, [], ◌∷◌, length, get_or, sym, ap, ◌∙◌, subst, arith}
use Rattle.std.specs.Prelude.{position, ◌==◌}
use Rattle.std.specs.Ordering.{nat_cmp}
use Rattle.std.specs.FinSet.{FinSet}
use Rattle.std.proofs.Math.Nat.{eq-zero-or-pos, zero-mul}
use Rattle.std.proofs.lemmas.List.Elements.{Contains-get_or}
use Rattle.std.proofs.lemmas.List.Quantifiers.{position-Some}
use Rattle.su_base.proofs.RemainingSets.{position-None}
use Rattle.su_where.specs.Disjunct.{disjuncts_of}
use Rattle.su_base.proofs.Combinations.{same_or_many}
use Rattle.su_schema.specs.SchemaValue.{SchemaValue}
use Rattle.su_query.specs.declared.resolving.Resolved.{Resolved}
use Rattle.su_steps.specs.declared.faults.StepFault.{StepFault}
use Rattle.su_steps.specs.declared.faults.StepFault.TheVariants.{NotCovered, Limit, NoMemory}
use Rattle.su_steps.specs.Choices.{coverings, choices}
use Rattle.su_steps.specs.inside.RowCounts.{objects_in}
use Rattle.su_steps.specs.Limits.{disjunct_count, HasFewDisjuncts, HasFewRows, HasFewTerms, HasManyRows}
use Rattle.su_steps.specs.Refusals.{IsCovered, IsStepRefusal, NamesVariable}
use Rattle.su_steps.proofs.ChoiceCounts.{row_count_is, total_at, total_of}
use Rattle.su_steps.proofs.Chosen.{coverings_count}

module _ (schema : SchemaValue) (maximal : List (FinSet nat_cmp)) (q : Resolved) (xss : List (List ℕ)) (all : xss ≡ coverings schema maximal q) where
  pub covered_is : None ≡ position (λ (ms : List ℕ). length ms == 0) xss → IsCovered schema maximal q
  covered_is e = ap (position (λ (ms : List ℕ). length ms == 0)) (sym all) ∙ sym e

  pub refused_cover : (v : ℕ) (fault : StepFault) → Some v ≡ position (λ (ms : List ℕ). length ms == 0) xss → NamesVariable q v fault → IsStepRefusal schema maximal q fault
  refused_cover v (NotCovered variable mentioned) e names = (v, ap (position (λ (ms : List ℕ). length ms == 0)) (sym all) ∙ sym e, names)
  refused_cover v (Limit limit) e names = absurd names
  refused_cover v NoMemory e names = absurd names

  pub first_below : (v : ℕ) → Some v ≡ position (λ (ms : List ℕ). length ms == 0) xss → v < length q.variables
  first_below v e =
      let l = (position-Some (λ (ms : List ℕ). length ms == 0) xss v [] (sym e)).0 in
      let n = coverings_count schema maximal q in
      let a = ap length all in
      omega arith

  pub many_disjuncts : (n : ℕ) → n ≡ min (length (disjuncts_of q.cond)) 65 → 64 < n → 64 < disjunct_count q
  many_disjuncts n e l = omega arith

  pub few_disjuncts : (n : ℕ) → n ≡ min (length (disjuncts_of q.cond)) 65 → n ≤ 64 → HasFewDisjuncts q
  few_disjuncts n e l = omega arith

  some_length : (ms : List ℕ) → (length ms == 0) ≡ false → 0 < length ms
  some_length [] h = absurd (let e : true ≡ false = h in cc)
  some_length (m ∷ ms) h = omega arith

  pub many_rows : (n : ℕ) → None ≡ position (λ (ms : List ℕ). length ms == 0) xss → n ≡ objects_in schema maximal xss → 64 < n → HasManyRows schema maximal q
  many_rows n none e l =
      let w = total_of schema maximal (coverings schema maximal q) (λ v h. some_length (get_or (coverings schema maximal q) v []) (position-None (λ (ms : List ℕ). length ms == 0) (coverings schema maximal q) (covered_is none) v [] h)) in
      let r = row_count_is schema maximal w.0 in
      let t = w.2 in
      let o = ap (objects_in schema maximal) all in
      (w.0, w.1, omega arith)

  pub few_rows : (n : ℕ) → n ≡ objects_in schema maximal xss → n ≤ 64 → HasFewRows schema maximal q
  few_rows n e l k d h =
      let choice = get_or (choices schema maximal q) k d in
      let t = total_at schema maximal (coverings schema maximal q) choice (Contains-get_or (choices schema maximal q) k d h) in
      let r = row_count_is schema maximal choice in
      let o = ap (objects_in schema maximal) all in
      omega arith

times_many : (d n : ℕ) → 0 < d → 257 ≤ n → 256 < d * n
times_many zero n l h = absurd (omega arith)
times_many (suc d) n l h = grind (arith, h)

pub many_terms : (schema : SchemaValue) (maximal : List (FinSet nat_cmp)) (q : Resolved) (d m : ℕ) → d ≡ disjunct_count q → m ≡ min (length (choices schema maximal q)) 257 → 256 < d * m → 256 < disjunct_count q * length (choices schema maximal q)
many_terms schema maximal q d m e f l =
    ⊎_elim
    (λ (s : m ≡ length (choices schema maximal q)). subst (λ k. 256 < k * length (choices schema maximal q)) e (subst (λ k. 256 < d * k) s l))
    (λ (b : (m ≡ 257) × (257 ≤ length (choices schema maximal q))).
    ⊎_elim
    (λ (z : d ≡ 0). absurd (let x : d * m ≡ 0 = ap (λ k. k * m) z ∙ zero-mul m in omega arith))
    (λ (p : 0 < d). times_many (disjunct_count q) (length (choices schema maximal q)) (omega arith) b.1)
    (eq-zero-or-pos d))
    (same_or_many 257 m (length (choices schema maximal q)) f)

pub few_terms : (schema : SchemaValue) (maximal : List (FinSet nat_cmp)) (q : Resolved) (d m : ℕ) → d ≡ disjunct_count q → m ≡ min (length (choices schema maximal q)) 257 → d * m ≤ 256 → HasFewTerms schema maximal q
few_terms schema maximal q d m e f l =
    ⊎_elim
    (λ (s : m ≡ length (choices schema maximal q)). subst (λ k. k * length (choices schema maximal q) ≤ 256) e (subst (λ k. d * k ≤ 256) s l))
    (λ (b : (m ≡ 257) × (257 ≤ length (choices schema maximal q))).
    ⊎_elim
    (λ (z : d ≡ 0). let x : disjunct_count q * length (choices schema maximal q) ≡ 0 = ap (λ k. k * length (choices schema maximal q)) (sym e ∙ z) ∙ zero-mul (length (choices schema maximal q)) in omega arith)
    (λ (p : 0 < d). absurd (let x : 256 < d * m = times_many d m p (omega (arith, b.0)) in omega arith))
    (eq-zero-or-pos d))
    (same_or_many 257 m (length (choices schema maximal q)) f)
