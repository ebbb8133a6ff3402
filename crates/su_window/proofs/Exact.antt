-- There are not both at most 20000 members and more than 20000.
use Rattle.std.proofs.Common.{◌≡◌, ◌≢◌, ℕ, ◌<◌, ◌≤◌, ⊎_elim, List, length, get_or, sym, ap, ◌∙◌, arith}
use Rattle.std.proofs.lemmas.Bool.{cases_lt}
use Rattle.std.proofs.lemmas.List.{get_or_default}
use Rattle.su_base.proofs.Numbers.{pigeonhole}
use Rattle.su_state.specs.DatabaseValue.{DatabaseValue}
use Rattle.su_rel.specs.MoreThan.{AreMoreThan}
use Rattle.su_window.specs.Members.{Member, IsMember, HasFew}

module _ (db : DatabaseValue) (few : HasFew db) (many : AreMoreThan 20000 (IsMember db)) where
  abbrev members : List Member
  members = few.0

  -- a place for each number, where the member with the number stands
  abbrev PlaceOfMember : ℕ → Type 0
  PlaceOfMember i = (k : ℕ) × (i < 20001 → (k < length members) × (get_or members k (many.member i) ≡ many.member i))

  place : (i : ℕ) → PlaceOfMember i
  place i =
      ⊎_elim
      (λ (l : i < 20001). let c = (few.1.exact (many.member i)).1 (many.each i (omega (arith, l))) in (c.0, λ _. (c.1, c.2)))
      (λ (g : 20001 ≤ i). (0, λ (l : i < 20001). absurd (omega (arith, l, g))))
      (cases_lt i 20001)

  apart : (i j : ℕ) → i < j → j < 20001 → (place i).0 ≢ (place j).0
  apart i j less low same =
      let a = (place i).1 (omega (arith, less, low)) in
      let b = (place j).1 low in
      many.differ i j less (omega (arith, low)) (sym a.1 ∙ get_or_default members (place i).0 (many.member i) (many.member j) a.0 ∙ ap (λ (k : ℕ). get_or members k (many.member j)) same ∙ b.1)

  pub not_both : ⊥
  not_both =
      let l = pigeonhole (length members) 20001 (λ i. (place i).0) (λ i low. ((place i).1 low).0) apart in
      let m = few.2 in
      absurd (omega (arith, l, m))
