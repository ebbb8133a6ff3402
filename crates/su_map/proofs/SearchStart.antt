-- The search from the start.
use Rattle.std.proofs.Common.{◌≡◌, ◌≢◌, ℕ, zero, suc, ◌+◌, ◌*◌, ◌<◌, ◌≤◌, ◌⊎◌, ◌↔◌, Bool, List, map, length, get_or, inl, inr, sym, ap, subst, ◌∙◌, ⊎_elim, arith}
use Rattle.std.specs.Int.{bit_at}
use Rattle.std.proofs.Math.Nat.{mul-le-mul_right}
use Rattle.std.proofs.lemmas.Bool.{cases_lt, cases_eq}
use Rattle.std.proofs.lemmas.List.{length-map, get_or-map}
use Rattle.std.proofs.lemmas.Nat.Bits.{bit_at-lt}
use Rattle.su_map.specs.Lists.{numbers_of}
use Rattle.su_base.specs.Numbers.{count_below}
use Rattle.su_map.specs.Candidates.{sum_of_products}
use Rattle.su_map.specs.inside.Netted.{Netted, base_of}
use Rattle.su_map.specs.inside.Choices.{IsBefore, IsChoice, IsChoiceInto, Shrinks, AreSame, IsLess, IsFirstOf, Stands, tries, ArePassed, ArePassedInto}
use Rattle.su_map.specs.inside.SearchEnds.{AreAtStart, LacksTarget, KeepsChoices, IsFirstChoice}
use Rattle.su_map.proofs.Ranks.{numbers_same, numbers_step, map_at, map_same, rank, rank_in, ranked_at, rank_less}

-- the rows of a mask that are below n
abbrev pub AreBoth : ℕ → ℕ → ℕ → Type 0
AreBoth n mask rows = (r : ℕ) → (bit_at rows r ≡ 1) ↔ ((bit_at mask r ≡ 1) × (r < n))

pub both_rows : (n mask all rows : ℕ) → ((j : ℕ) → (bit_at all j ≡ 1) ↔ (j < n)) → ((j : ℕ) → (bit_at rows j ≡ 1) ↔ ((bit_at mask j ≡ 1) × (bit_at all j ≡ 1))) → AreBoth n mask rows
both_rows n mask all rows f g r = (λ h. let p = (g r).0 h in (p.0, (f r).0 p.1), λ h. (g r).1 (h.0, (f r).1 h.1))

pub into_choice : (net : Netted) (n mask rows k : ℕ) (domains : List ℕ) (a : ℕ → ℕ) → AreBoth n mask rows → AreAtStart net n rows k domains → IsChoiceInto net n mask k a → IsChoice net n rows domains a
into_choice net n mask rows k domains a both begins c = record {
  within = λ r hr br. (begins r hr br (a r)).1 (c.within r hr ((both r).0 br).0);
  fit = λ r q hr hq br bq. c.fit r q hr hq ((both r).0 br).0 ((both q).0 bq).0;
}

pub none_begun : (net : Netted) (n mask rows k : ℕ) (a : ℕ → ℕ) → AreBoth n mask rows → LacksTarget net n rows k → IsChoiceInto net n mask k a → ⊥
none_begun net n mask rows k a both lacks c = let w = c.within lacks.0 lacks.1 ((both lacks.0).0 lacks.2).0 in lacks.3 (a lacks.0) w.0 w.1

pub same_rows : (n mask rows : ℕ) (a b : ℕ → ℕ) → AreBoth n mask rows → AreSame n rows a b ⊎ IsLess n rows b a → AreSame n mask a b ⊎ IsLess n mask b a
same_rows n mask rows a b both =
    ⊎_elim
    (λ (s : AreSame n rows a b). inl (λ r hr br. s r hr ((both r).1 (br, hr))))
    (λ (l : IsLess n rows b a).
    let low = l.row_in in
    inr (record { row = l.row; row_in = low; in_set = ((both l.row).0 l.in_set).0; same = λ r hr br. l.same r hr ((both r).1 (br, omega arith)); less = l.less }))

pub stands_start : (net : Netted) (n mask rows : ℕ) (domains : List ℕ) (choice : ℕ → ℕ) → AreBoth n mask rows → Stands net n rows rows domains choice
stands_start net n mask rows domains choice both = record {
  todo_in = λ r h. (((both r).0 h).1, h);
  chosen = λ r hr br z. absurd (omega arith);
  only = λ r x hr br z h. absurd (omega arith);
  fits = λ r q x hr hq br bq z h. absurd (omega arith);
}

pub numbers_few : (m n : ℕ) → length (numbers_of m n) ≤ n
numbers_few m zero = omega arith
numbers_few m (suc n) =
    let i = numbers_few m n in
    let e = numbers_step m n in
    let b = bit_at-lt m n in
    omega arith

pub levels_enough : (m n room : ℕ) → n * n ≤ room → length (numbers_of m n) * n ≤ room
levels_enough m n room h = let s = mul-le-mul_right n (numbers_few m n) in omega arith

pub rows_numbers : (n mask rows : ℕ) → AreBoth n mask rows → numbers_of rows n ≡ numbers_of mask n
rows_numbers n mask rows both =
    numbers_same rows mask n (λ i l.
    let a = bit_at-lt rows i in let b = bit_at-lt mask i in
    ⊎_elim
    (λ (one : bit_at mask i ≡ 1). (both i).1 (one, l) ∙ sym one)
    (λ (none : bit_at mask i ≢ 1).
    let other : bit_at rows i ≢ 1 = λ o. none ((both i).0 o).0 in
    let e : bit_at rows i ≡ bit_at mask i = omega arith in e)
    (cases_eq (bit_at mask i) 1))

pub rows_tries : (passes : ℕ → ℕ → Bool) (targets n mask rows : ℕ) → AreBoth n mask rows → tries passes targets n rows ≡ tries passes targets n mask
rows_tries passes targets n mask rows both = ap (λ ns. sum_of_products (map (λ r. count_below (passes r) targets) ns)) (rows_numbers n mask rows both)

-- ---- from choices to lists

pub lists_before : (n m : ℕ) (a b : ℕ → ℕ) → IsLess n m a b → IsBefore (map a (numbers_of m n)) (map b (numbers_of m n))
lists_before n m a b l =
    let la = length-map (numbers_of m n) a in let lb = length-map (numbers_of m n) b in
    let r = rank_in m n l.row l.row_in l.in_set in
    record {
      place = rank m l.row;
      in_both = (omega arith, omega arith);
      same = λ i h.
          let low : i < length (numbers_of m n) = omega arith in
          let at = ranked_at m n i low in
          let below : at.number < l.row =
          ⊎_elim
          (λ (lt : at.number < l.row). lt)
          (λ (le : l.row ≤ at.number).
          ⊎_elim
          (λ (lt : l.row < at.number). absurd (let s = rank_less m l.row at.number lt l.in_set in let e = at.ranked in omega arith))
          (λ (ge : at.number ≤ l.row). absurd (let e : at.number ≡ l.row = omega arith in let s = ap (rank m) e in let t = at.ranked in omega arith))
          (cases_lt l.row at.number))
          (cases_lt at.number l.row) in
          get_or-map a (numbers_of m n) i 0 0 low ∙ ap a at.is ∙ l.same at.number below at.member ∙ ap b (sym at.is) ∙ sym (get_or-map b (numbers_of m n) i 0 0 low);
      less = let x = map_at m n a l.row l.row_in l.in_set in let y = map_at m n b l.row l.row_in l.in_set in let z = l.less in omega arith;
    }

pub lists_first : (n m : ℕ) (a other : ℕ → ℕ) → AreSame n m other a ⊎ IsLess n m a other → (map other (numbers_of m n) ≡ map a (numbers_of m n)) ⊎ IsBefore (map a (numbers_of m n)) (map other (numbers_of m n))
lists_first n m a other =
    ⊎_elim
    (λ (s : AreSame n m other a). inl (map_same m n other a s))
    (λ (l : IsLess n m a other). inr (lists_before n m a other l))

-- ---- in the domains of a start that were narrowed

-- the domains have targets in k alone, and each choice into k is one from them
pub record IsNarrowed (net : Netted) (n mask rows k : ℕ) (domains : List ℕ) : Type 0 where
  pub both : AreBoth n mask rows
  pub within : (r x : ℕ) → r < n → bit_at rows r ≡ 1 → bit_at (get_or domains r 0) x ≡ 1 → (bit_at (base_of net r) x ≡ 1) × (bit_at k x ≡ 1)
  pub all : (a : ℕ → ℕ) → IsChoiceInto net n mask k a → IsChoice net n rows domains a

-- cut: as many places as there are rows; begun: what the search begins with there; domains: what is left of it
pub narrowed : (net : Netted) (n mask rows k : ℕ) (cut begun domains : List ℕ) → length cut ≡ n → length begun ≡ length cut → AreBoth n mask rows
    → AreAtStart net (length cut) rows k begun → Shrinks (length begun) begun domains → KeepsChoices net (length begun) rows begun domains → IsNarrowed net n mask rows k domains
narrowed net n mask rows k cut begun domains e f both begins shrinks keeps =
    let start = subst (λ d. AreAtStart net d rows k begun) e begins in
    let less = subst (λ d. Shrinks d begun domains) (f ∙ e) shrinks in
    let kept = subst (λ d. KeepsChoices net d rows begun domains) (f ∙ e) keeps in
    record {
      both = both;
      within = λ r x hr br h. (start r hr br x).0 (less r x hr h);
      all = λ a c. kept a (into_choice net n mask rows k begun a both start c);
    }

pub narrowed_into : (net : Netted) (n mask rows k : ℕ) (domains : List ℕ) (a : ℕ → ℕ) → IsNarrowed net n mask rows k domains → IsChoice net n rows domains a → IsChoiceInto net n mask k a
narrowed_into net n mask rows k domains a s c = record {
  within = λ r hr br. let b = (s.both r).1 (br, hr) in s.within r (a r) hr b (c.within r hr b);
  fit = λ r q hr hq br bq. c.fit r q hr hq ((s.both r).1 (br, hr)) ((s.both q).1 (bq, hq));
}

-- the first choice from them has the first list
pub narrowed_first : (net : Netted) (n mask rows k : ℕ) (domains : List ℕ) (a : ℕ → ℕ) (list : List ℕ) → IsNarrowed net n mask rows k domains → length domains ≡ n → list ≡ map a (numbers_of mask n) → IsFirstChoice net rows domains a → IsFirstOf net n mask k list
narrowed_first net n mask rows k domains a list s long listed first other c =
    let each = subst (λ d. (other : ℕ → ℕ) → IsChoice net d rows domains other → AreSame d rows other a ⊎ IsLess d rows a other) long first in
    subst (λ l. (map other (numbers_of mask n) ≡ l) ⊎ IsBefore l (map other (numbers_of mask n))) (sym listed)
    (lists_first n mask a other (same_rows n mask rows other a s.both (each other (s.all other c))))

-- what was tried in them is within the tries of the mask
pub narrowed_tries : (net : Netted) (n mask rows k : ℕ) (domains : List ℕ) (passes : ℕ → ℕ → Bool) (targets start now : ℕ) → IsNarrowed net n mask rows k domains → length domains ≡ n → ArePassedInto net n mask k passes → (ArePassed domains (length domains) rows passes → now ≤ start + tries passes targets (length domains) rows) → now ≤ start + tries passes targets n mask
narrowed_tries net n mask rows k domains passes targets start now s long all tried =
    let own : ArePassed domains n rows passes = λ r x hr br h. let w = s.within r x hr br h in all r x hr ((s.both r).0 br).0 w.0 w.1 in
    let here = tried (subst (λ d. ArePassed domains d rows passes) (sym long) own) in
    subst (λ t. now ≤ start + t) (rows_tries passes targets n mask rows s.both) (subst (λ d. now ≤ start + tries passes targets d rows) long here)
