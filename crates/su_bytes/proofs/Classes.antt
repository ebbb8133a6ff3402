-- A class's answers are told by the copy of bytes of a universal relation.
use Rattle.std.proofs.Common.{ℕ, ◌+◌, ◌<◌, ◌≤◌, List, map, length, All, Contains, sum_by, subst, arith}
use Rattle.std.proofs.lemmas.List.Elements.{All-contains}
use Rattle.std.proofs.lemmas.List.Sums.{get_or-le-sum_by}
use Rattle.su_base.specs.declared.values.Value.{Value}
use Rattle.su_tableau.specs.Tableaux.{Tab}
use Rattle.su_min.specs.Kept.{Minimised}
use Rattle.su_min.specs.Needed.{tableau_at, IsInClass, IsClassAnswer, IsListAnswer}
use Rattle.su_bytes.specs.Constants.{HasByteSymbols}
use Rattle.su_bytes.specs.Classes.{BytesSufficeForClasses}
use Rattle.su_bytes.proofs.Codes.{coded, spans, row_spans, coded_universe}
use Rattle.su_bytes.proofs.RenamedAnswers.{tab_spans, coded_answer, decoded_answer}

-- above the spans of the constants of all terms
abbrev term_spans : List Minimised → ℕ
term_spans terms = sum_by (λ m. tab_spans m.tableau) terms

-- and of all tableaux
abbrev list_spans : List Tab → ℕ
list_spans tableaux = sum_by tab_spans tableaux

term_low : (terms : List Minimised) (i : ℕ) → i < length terms → tab_spans (tableau_at terms i) ≤ term_spans terms
term_low terms i low = get_or-le-sum_by (λ m. tab_spans m.tableau) terms i _ low

member_low : (tableaux : List Tab) (t : Tab) → Contains tableaux t → tab_spans t ≤ list_spans tableaux
member_low tableaux t member = subst (λ s. tab_spans s ≤ list_spans tableaux) member.2 (get_or-le-sum_by tab_spans tableaux member.0 t member.1)

-- ---- answers of a class

class_coded : (n : ℕ) (terms : List Minimised) (c : ℕ) (universe : List (List Value)) (h : List Value) → ((i : ℕ) → IsInClass terms c i → HasByteSymbols (tableau_at terms i))
    → IsClassAnswer terms c universe h → IsClassAnswer terms c (map (map (coded n)) universe) (map (coded n) h)
class_coded n terms c universe h bytes a =
    record {
      term = a.term;
      in_class = a.in_class;
      answer = coded_answer n (tableau_at terms a.term) universe h (bytes a.term a.in_class) a.answer;
    }

class_decoded : (n : ℕ) (terms : List Minimised) (c : ℕ) (universe : List (List Value)) (h : List Value) → term_spans terms ≤ n → row_spans universe ≤ n → spans h ≤ n
    → IsClassAnswer terms c (map (map (coded n)) universe) (map (coded n) h) → IsClassAnswer terms c universe h
class_decoded n terms c universe h low_terms low_universe low_h a =
    let low = term_low terms a.term a.in_class.below in
    record {
      term = a.term;
      in_class = a.in_class;
      answer = decoded_answer n (tableau_at terms a.term) universe h (omega arith) low_universe low_h a.answer;
    }

-- ---- answers of a list

list_coded : (n : ℕ) (tableaux : List Tab) (universe : List (List Value)) (h : List Value) → All HasByteSymbols tableaux
    → IsListAnswer tableaux universe h → IsListAnswer tableaux (map (map (coded n)) universe) (map (coded n) h)
list_coded n tableaux universe h bytes a =
    record {
      tableau = a.tableau;
      member = a.member;
      answer = coded_answer n a.tableau universe h (All-contains HasByteSymbols tableaux a.tableau bytes a.member) a.answer;
    }

list_decoded : (n : ℕ) (tableaux : List Tab) (universe : List (List Value)) (h : List Value) → list_spans tableaux ≤ n → row_spans universe ≤ n → spans h ≤ n
    → IsListAnswer tableaux (map (map (coded n)) universe) (map (coded n) h) → IsListAnswer tableaux universe h
list_decoded n tableaux universe h low_list low_universe low_h a =
    let low = member_low tableaux a.tableau a.member in
    record {
      tableau = a.tableau;
      member = a.member;
      answer = decoded_answer n a.tableau universe h (omega arith) low_universe low_h a.answer;
    }

-- ---- the theorem

pub classes_by_bytes : BytesSufficeForClasses
classes_by_bytes kinds terms c tableaux bytes_terms bytes_list same universe h typed =
    let n = term_spans terms + list_spans tableaux + row_spans universe + spans h in
    let over_copy = same (map (map (coded n)) universe) (map (coded n) h) (coded_universe kinds n universe typed) in (
      λ a. list_decoded n tableaux universe h (omega arith) (omega arith) (omega arith) (over_copy.0 (class_coded n terms c universe h bytes_terms a)),
      λ a. class_decoded n terms c universe h (omega arith) (omega arith) (omega arith) (over_copy.1 (list_coded n tableaux universe h bytes_list a)),
    )
