-- A row of the first query over any universal relation is one over its copy of bytes, so one of the second there, and is read back.
use Rattle.std.proofs.Common.{◌≡◌, ℕ, zero, suc, ◌+◌, ◌<◌, ◌≤◌, List, [], ◌∷◌, map, length, get_or, All, ap, ◌∙◌, subst, arith}
use Rattle.std.proofs.lemmas.List.{take-map}
use Rattle.std.proofs.lemmas.List.Elements.{All-contains}
use Rattle.su_base.specs.declared.values.Value.{Value}
use Rattle.su_tableau.specs.Tableaux.{Tab}
use Rattle.su_tableau.specs.Valuations.{Ext, Cut}
use Rattle.su_schema.specs.Entries.{attribute_kinds}
use Rattle.su_steps.specs.declared.results.Term.{Term}
use Rattle.su_steps.specs.Terms.{InUnion}
use Rattle.su_steps.proofs.Whole.{whole}
use Rattle.su_bytes.specs.Constants.{AreByteTerms, CompareNothing}
use Rattle.su_bytes.specs.Queries.{BytesSufficeForQueries}
use Rattle.su_bytes.proofs.Codes.{coded, decoded, spans, row_spans, there_and_back, rows_there_and_back, coded_universe}
use Rattle.su_bytes.proofs.RenamedAnswers.{KeepsConstants, renamed_answer, tab_spans, coded_keeps, decoded_keeps}
use Rattle.su_bytes.proofs.RenamedDependencies.{renamed_meets}

-- ---- the constants of terms

-- above the span of each constant of the terms
abbrev terms_spans : List Term → ℕ
terms_spans [] = 0
terms_spans (t ∷ ts) = tab_spans t.tableau + terms_spans ts

in_spans : (ts : List Term) (k : ℕ) (d : Term) → k < length ts → tab_spans (get_or ts k d).tableau ≤ terms_spans ts
in_spans [] k d low = absurd (omega arith)
in_spans (t ∷ ts) zero d low = omega arith
in_spans (t ∷ ts) (suc k) d low = let i = in_spans ts k d (omega arith) in omega arith

-- ---- terms that compare nothing

renamed_cut : (g : Value → Value) (t : Tab) (universe : List (List Value)) (h : List Value) → t.operators ≡ [] → KeepsConstants g t → Cut t (Ext t universe) h → Cut t (Ext t (map (map g) universe)) (map g h)
renamed_cut g t universe h none keeps cut =
    let ops : length t.operators ≡ 0 = ap length none in
    record {
      head = map g cut.head;
      member = renamed_answer g t universe cut.head keeps.0 keeps.1 cut.member;
      compared = λ i low. absurd (omega arith);
      outputs = take-map g t.outputs cut.head ∙ ap (map g) cut.outputs;
    }

renamed_union : (g : Value → Value) (ts : List Term) (universe : List (List Value)) (h : List Value) → CompareNothing ts → All (λ (t : Term). KeepsConstants g t.tableau) ts
    → InUnion ts universe h → InUnion ts (map (map g) universe) (map g h)
renamed_union g ts universe h none keeps m =
    let t = m.0 in
    let o = All-contains (λ (t : Term). t.tableau.operators ≡ []) ts t none m.1 in
    let k = All-contains (λ (t : Term). KeepsConstants g t.tableau) ts t keeps m.1 in
    (t, m.1, renamed_cut g t.tableau universe h o k m.2)

all_coded : (n : ℕ) (ts : List Term) → AreByteTerms ts → All (λ (t : Term). KeepsConstants (coded n) t.tableau) ts
all_coded n ts bytes k d low = coded_keeps n (get_or ts k d).tableau (bytes k d low)

all_decoded : (n : ℕ) (ts : List Term) → terms_spans ts ≤ n → All (λ (t : Term). KeepsConstants (decoded n) t.tableau) ts
all_decoded n ts great k d low = decoded_keeps n (get_or ts k d).tableau (let i = in_spans ts k d low in omega arith)

-- what the terms give over the copy, as read back
read_back : (n : ℕ) (ts : List Term) (universe : List (List Value)) (h : List Value) → row_spans universe ≤ n → spans h ≤ n → terms_spans ts ≤ n → CompareNothing ts
    → InUnion ts (map (map (coded n)) universe) (map (coded n) h) → InUnion ts universe h
read_back n ts universe h rows values constants none is =
    let back = renamed_union (decoded n) ts (map (map (coded n)) universe) (map (coded n) h) none (all_decoded n ts constants) is in
    subst (λ u. InUnion ts u h) (rows_there_and_back n universe rows)
    (subst (λ g. InUnion ts (map (map (decoded n)) (map (map (coded n)) universe)) g) (there_and_back n h values) back)

-- ---- queries

pub queries_by_bytes : BytesSufficeForQueries
queries_by_bytes schema maximal p q first second valid of_p of_q none_first none_second bytes within universe h typed meets in_p =
    let n : ℕ = spans h + row_spans universe + terms_spans second in
    let copy = map (map (coded n)) universe in
    let g = map (coded n) h in
    let is = coded_universe (attribute_kinds schema) n universe typed in
    let met = renamed_meets n schema.fds universe (omega arith) meets in
    let first_is = whole schema maximal p valid of_p.resolved first of_p.terms_are in
    let second_is = whole schema maximal q valid of_q.resolved second of_q.terms_are in
    let there = renamed_union (coded n) first universe h none_first (all_coded n first bytes) ((first_is universe h typed meets).1 in_p) in
    let in_q = within copy g is met ((first_is copy g is.typed met).0 there) in
    (second_is universe h typed meets).0
    (read_back n second universe h (omega arith) (omega arith) (omega arith) none_second ((second_is copy g is.typed met).1 in_q))
