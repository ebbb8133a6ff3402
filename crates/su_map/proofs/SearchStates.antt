-- How a search stands, and what it finds.
use Rattle.std.proofs.Common.{◌≡◌, ◌≢◌, ℕ, ◌+◌, ◌*◌, ◌<◌, ◌≤◌, ◌⊎◌, List, length, get_or, set, inr, sym, ap, subst, ◌∙◌, ⊎_elim, arith, get_or-set_other, get_or-set_same}
use Rattle.std.specs.Int.{bit_at}
use Rattle.std.proofs.lemmas.Bool.{cases_eq, cases_lt}
use Rattle.std.proofs.lemmas.Nat.Bits.{bit_at-lt, bit_at-zero}
use Rattle.su_tableau.proofs.Sets.{IsSub, sub_le}
use Rattle.su_map.specs.inside.Netted.{Netted, near_of, agree_of}
use Rattle.su_map.specs.Lists.{numbers_of}
use Rattle.su_map.specs.inside.Choices.{IsChoice, AreSame, IsLess, choice_of, Stands, IsInOrder, AreKept, IsAssigned}
use Rattle.su_map.proofs.ShrunkDomains.{positive, positive_has}
use Rattle.su_map.proofs.Ranks.{numbers_without}

-- a set without a member is a smaller number
pub without_less : (m new r : ℕ) → bit_at m r ≡ 1 → bit_at new r ≡ 0 → ((i : ℕ) → i ≢ r → bit_at new i ≡ bit_at m i) → new < m
without_less m new r one out same =
    let sub : IsSub new m = λ i. ⊎_elim (λ (e : i ≡ r). let a = ap (bit_at new) e in let b = ap (bit_at m) e in omega arith) (λ (ne : i ≢ r). let e = same i ne in omega arith) (cases_eq i r) in
    let le = sub_le new m sub in
    let differ : new ≢ m = λ e. absurd (let x = ap (λ m. bit_at m r) e in omega arith) in
    omega arith

room_plain : (d len room back : ℕ) → (d + 1) * len ≤ room → room ≡ len + back → d * len ≤ back
room_plain d len room back h e = omega arith

-- the room of the next level
pub room_next : (n m new r room back : ℕ) → r < n → bit_at m r ≡ 1 → bit_at new r ≡ 0 → ((i : ℕ) → i ≢ r → bit_at new i ≡ bit_at m i) → length (numbers_of m n) * n ≤ room → room ≡ n + back → length (numbers_of new n) * n ≤ back
room_next n m new r room back h one out same enough e =
    room_plain (length (numbers_of new n)) n room back (subst (λ d. d * n ≤ room) (sym (numbers_without m new r n h one out same)) enough) e

one_plain : (d len room : ℕ) → (d + 1) * len ≤ room → len ≤ room
one_plain d len room h = omega arith

-- there is room for one level
pub room_enough : (n m new r room : ℕ) → r < n → bit_at m r ≡ 1 → bit_at new r ≡ 0 → ((i : ℕ) → i ≢ r → bit_at new i ≡ bit_at m i) → length (numbers_of m n) * n ≤ room → n ≤ room
room_enough n m new r room h one out same enough = one_plain (length (numbers_of new n)) n room (subst (λ d. d * n ≤ room) (sym (numbers_without m new r n h one out same)) enough)

-- ---- at the end

pub full_choice : (net : Netted) (n m todo : ℕ) (domains : List ℕ) (choice : ℕ → ℕ) → todo ≡ 0 → Stands net n m todo domains choice → IsChoice net n m domains choice
full_choice net n m todo domains choice e s =
    let z = λ (r : ℕ). ap (λ t. bit_at t r) e ∙ bit_at-zero r in
    record {
      within = λ r hr br. s.chosen r hr br (z r);
      fit = λ r q hr hq br bq. s.fits r q (choice q) hr hq br bq (z r) (s.chosen q hq bq (z q));
    }

pub full_same : (net : Netted) (n m todo : ℕ) (domains : List ℕ) (choice other : ℕ → ℕ) → todo ≡ 0 → Stands net n m todo domains choice → IsChoice net n m domains other → AreSame n m other choice
full_same net n m todo domains choice other e s c r hr br = s.only r (other r) hr br (ap (λ t. bit_at t r) e ∙ bit_at-zero r) (c.within r hr br)

-- ---- one row further

module _ (net : Netted) (n m todo rest row target : ℕ) (domains next list old : List ℕ)
    (out : bit_at rest row ≡ 0) (others : (i : ℕ) → i ≢ row → bit_at rest i ≡ bit_at todo i) (one : bit_at todo row ≡ 1)
    (low : row < length list) (kept : AreKept n m todo (choice_of old) (choice_of list)) where
  pub in_rest : (r : ℕ) → bit_at rest r ≡ 1 → bit_at todo r ≡ 1
  in_rest r h =
      ⊎_elim
      (λ (e : r ≡ row). absurd (let x = ap (bit_at rest) e ∙ out in omega arith))
      (λ (ne : r ≢ row). sym (others r ne) ∙ h)
      (cases_eq r row)

  pub not_rest : (r : ℕ) → r ≢ row → bit_at rest r ≡ 0 → bit_at todo r ≡ 0
  not_rest r ne h = sym (others r ne) ∙ h

  wrote : choice_of (set list row target) row ≡ target
  wrote = get_or-set_same list row target 0 low

  pub stays : (r : ℕ) → r < n → bit_at m r ≡ 1 → bit_at todo r ≡ 0 → choice_of (set list row target) r ≡ choice_of old r
  stays r hr br z =
      ⊎_elim
      (λ (e : r ≡ row). absurd (let x = ap (bit_at todo) e ∙ one in omega arith))
      (λ (ne : r ≢ row). get_or-set_other list row r target 0 ne ∙ kept r hr br z)
      (cases_eq r row)

  -- a row that has a target then has one before
  filled : Stands net n m todo domains (choice_of old) → bit_at (get_or domains row 0) target ≡ 1 → (r : ℕ) → r < n → bit_at m r ≡ 1 → bit_at rest r ≡ 0 → 0 < get_or domains r 0
  filled s has r hr br z =
      ⊎_elim
      (λ (e : r ≡ row). positive (get_or domains r 0) target (ap (λ r. bit_at (get_or domains r 0) target) e ∙ has))
      (λ (ne : r ≢ row). positive (get_or domains r 0) (choice_of old r) (s.chosen r hr br (not_rest r ne z)))
      (cases_eq r row)

  pub stands_next : Stands net n m todo domains (choice_of old) → bit_at (get_or domains row 0) target ≡ 1 → IsAssigned net n m row target domains next → Stands net n m rest next (choice_of (set list row target))
  stands_next s has a =
      let shrinks = a.shrinks in
      let only = a.only in
      let fits = a.fits in
      let next_only : (r x : ℕ) → r < n → bit_at m r ≡ 1 → bit_at rest r ≡ 0 → bit_at (get_or next r 0) x ≡ 1 → x ≡ choice_of (set list row target) r = λ r x hr br z h.
      ⊎_elim
      (λ (e : r ≡ row). only x (ap (λ r. bit_at (get_or next r 0) x) (sym e) ∙ h) ∙ sym wrote ∙ ap (λ r. choice_of (set list row target) r) (sym e))
      (λ (ne : r ≢ row). let z' = not_rest r ne z in s.only r x hr br z' (shrinks r x hr h) ∙ sym (stays r hr br z'))
      (cases_eq r row) in
      record {
        todo_in = λ r h. s.todo_in r (in_rest r h);
        chosen = λ r hr br z. positive_has (get_or next r 0) (choice_of (set list row target) r) (a.alive r (filled s has r hr br z)) (λ x h. next_only r x hr br z h);
        only = next_only;
        fits = λ r q x hr hq br bq z h ne near.
            ⊎_elim
            (λ (e : r ≡ row).
            let f = fits q x (λ f. ne (e ∙ f)) bq (ap (λ r. bit_at (near_of net r) q) (sym e) ∙ near) h in
            ap (λ p. bit_at (agree_of net r q p) x) (ap (λ r. choice_of (set list row target) r) e ∙ wrote) ∙ ap (λ r. bit_at (agree_of net r q target) x) e ∙ f)
            (λ (ne' : r ≢ row).
            let z' = not_rest r ne' z in
            ap (λ p. bit_at (agree_of net r q p) x) (stays r hr br z') ∙ s.fits r q x hr hq br bq z' (shrinks q x hq h) ne near)
            (cases_eq r row);
      }

  pub order_next : ((r : ℕ) → bit_at todo r ≡ 1 → row ≤ r) → IsInOrder n m todo → IsInOrder n m rest
  order_next least order r q hr br z h =
      let q_in = in_rest q h in
      ⊎_elim
      (λ (e : r ≡ row).
      let l = least q q_in in
      let ne : q ≢ row = λ f. absurd (let x = ap (bit_at rest) f ∙ out in omega arith) in
      omega arith)
      (λ (ne : r ≢ row). order r q hr br (not_rest r ne z) q_in)
      (cases_eq r row)

  -- what a deeper search leaves is as before but for the rows to come
  pub kept_deeper : (new : List ℕ) → AreKept n m rest (choice_of (set list row target)) (choice_of new) → AreKept n m todo (choice_of old) (choice_of new)
  kept_deeper new f r hr br z =
      let ne : r ≢ row = λ e. absurd (let x = ap (bit_at todo) e ∙ one in omega arith) in
      f r hr br (others r ne ∙ z) ∙ stays r hr br z

  -- the first that goes on with the target, where no other goes on with a lesser one, is the first
  pub first_step : (new : List ℕ) → row < n → bit_at m row ≡ 1 → Stands net n m todo domains (choice_of old) → ((r : ℕ) → bit_at todo r ≡ 1 → row ≤ r) → AreKept n m rest (choice_of (set list row target)) (choice_of new) → ((other : ℕ → ℕ) → IsChoice net n m domains other → other row ≡ target → AreSame n m other (choice_of new) ⊎ IsLess n m (choice_of new) other) → ((other : ℕ → ℕ) → IsChoice net n m domains other → target ≤ other row) → (other : ℕ → ℕ) → IsChoice net n m domains other → AreSame n m other (choice_of new) ⊎ IsLess n m (choice_of new) other
  first_step new hrow brow s least f deeper passed other c =
      let above = passed other c in
      let here : choice_of new row ≡ target = f row hrow brow out ∙ wrote in
      ⊎_elim
      (λ (lt : target < other row).
      inr (record {
        row = row;
        row_in = hrow;
        in_set = brow;
        same = λ r hr br.
            let hn : r < n = omega arith in
            let z : bit_at todo r ≡ 0 =
            ⊎_elim
            (λ (o : bit_at todo r ≡ 1). absurd (let l = least r o in omega arith))
            (λ (ne : bit_at todo r ≢ 1). let l = bit_at-lt todo r in let e : bit_at todo r ≡ 0 = omega arith in e)
            (cases_eq (bit_at todo r) 1) in
            kept_deeper new f r hn br z ∙ sym (s.only r (other r) hn br z (c.within r hn br));
        less = omega arith;
      }))
      (λ (le : other row ≤ target). let e : other row ≡ target = omega arith in deeper other c e)
      (cases_lt target (other row))
