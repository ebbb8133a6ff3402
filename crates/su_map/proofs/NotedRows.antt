-- Rows that are noted at their variables.
use Rattle.std.proofs.Common.{◌≡◌, ◌≢◌, ◌+◌, ◌<◌, ◌≤◌, ◌^◌, ◌↔◌, ◌∙◌, ℕ, List, length, get_or, ⊎_elim, refl, sym, ap, arith}
use Rattle.std.proofs.lemmas.Bool.{cases_eq}
use Rattle.std.specs.Int.{bit_at}
use Rattle.su_base.specs.declared.values.Value.{Value}
use Rattle.su_tableau.specs.declared.symbols.Sym.{Sym}
use Rattle.su_tableau.specs.declared.symbols.Sym.TheVariants.{Const, Var}
use Rattle.su_tableau.specs.Tableaux.{Tab, AreVarsBelow}
use Rattle.su_map.specs.Lists.{row_of}
use Rattle.su_map.specs.inside.Targets.{AreAllNoted, HoldOne}
use Rattle.su_map.proofs.Members.{full_member, no_member}

pub vars_below : (t : Tab) (n m : ℕ) → n ≤ m → AreVarsBelow n t → AreVarsBelow m t
vars_below t n m low b = record {
  head = λ k h. let l = b.head k h in omega arith;
  rows = λ i d h k has. let l = b.rows i d h k has in omega arith;
}

-- a row that holds at the column what row p holds there is in the set of its symbol
pub noted_member : (t : Tab) (rows_at : List ℕ) (all set p j column : ℕ) (x : Sym)
    → AreAllNoted t rows_at → all + 1 ≡ 2 ^ length t.rows
    → ((v : Value) → x ≡ Const v → set ≡ all) → ((k : ℕ) → x ≡ Var k → set ≡ get_or rows_at k 0)
    → ((d : Sym) → get_or (row_of t p) column d ≡ x) → j < length t.rows → column < length (row_of t j) → HoldOne t column p j
    → bit_at set j ≡ 1
noted_member t rows_at all set p j column (Const v) noted e const var there low wide same = ap (λ m. bit_at m j) (const v refl) ∙ (full_member all (length t.rows) j e).1 low
noted_member t rows_at all set p j column (Var k) noted e const var there low wide same = ap (λ m. bit_at m j) (var k refl) ∙ noted.rows j k low (column, wide, sym (same (Var k)) ∙ there (Var k))

-- a set without others than p, which has all rows that are alike, and the set of p alone
pub only_one : (t : Tab) (set others one p column : ℕ) → p < length t.rows
    → ((j : ℕ) → j < length t.rows → HoldOne t column p j → bit_at set j ≡ 1)
    → ((j : ℕ) → j ≢ p → bit_at others j ≡ bit_at set j) → others ≡ 0
    → ((j : ℕ) → j ≢ p → bit_at one j ≡ bit_at 0 j) → bit_at one p ≡ 1
    → (j : ℕ) → (bit_at one j ≡ 1) ↔ ((j < length t.rows) × HoldOne t column p j)
only_one t set others one p column low has same none same' member j =
    ⊎_elim
    (λ (e : j ≡ p). (λ h. (omega arith, λ d. ap (λ r. get_or (row_of t r) column d) (sym e)), λ h. ap (bit_at one) e ∙ member))
    (λ (ne : j ≢ p). (
      λ h. absurd (no_member 0 j refl (sym (same' j ne) ∙ h)),
      λ h. absurd (no_member others j none (same j ne ∙ has j h.0 h.1)),
    ))
    (cases_eq j p)
