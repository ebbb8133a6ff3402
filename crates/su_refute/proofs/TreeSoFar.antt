-- How the making of a tree stands after one row more.
use Rattle.std.proofs.Common.{◌∷◌, ◌≡◌, ◌≢◌, ℕ, ◌<◌, ◌≤◌, ◌⊎◌, ◌↔◌, List, [], length, get_or, count_ones, sym, ap, subst, ◌∙◌, ⊎_elim, arith}
use Rattle.std.specs.Int.{bit_at}
use Rattle.std.proofs.lemmas.Bool.{cases_eq}
use Rattle.std.proofs.lemmas.List.Elements.{All-push}
use Rattle.std.proofs.lemmas.Nat.Bits.{bit_at-zero}
use Rattle.su_base.proofs.AscendingNumbers.{exactly_as}
use Rattle.su_base.proofs.Items.{All-append_left, All-middle}
use Rattle.su_tableau.specs.Tableaux.{Tab}
use Rattle.su_map.proofs.RowLists.{of_rows}
use Rattle.su_check.specs.declared.sending.Sent.{Sent}
use Rattle.su_check.specs.SentRows.{sent_too}
use Rattle.su_check.specs.Refutations.{IsOpen, IsFitting}
use Rattle.su_refute.proofs.Ready.{ready_more}
use Rattle.su_refute.specs.declared.nets.Net.{Net}
use Rattle.su_refute.specs.inside.Nets.{IsNet}
use Rattle.su_refute.specs.Trees.{IsFewest, lines_in}
use Rattle.su_refute.specs.inside.Positions.{IsFree, IsAt, Stands, IsFewestOf}
use Rattle.su_refute.proofs.FittingTargets.{fits_next}
use Rattle.su_refute.proofs.MemberCounts.{count_set}

pub open_in : (t : Tab) (m : ℕ) (p : List Sent) (q : ℕ) → IsOpen (lines_in t m) p q → (q < length t.rows) × (bit_at m q ≡ 1)
open_in t m p q h = of_rows t m q h.member

pub fitting_in : (t : Tab) (m r : ℕ) (p : List Sent) (q i : ℕ) → IsFitting (lines_in t m) r p q i → (i < length t.rows) × (bit_at m i ≡ 1)
fitting_in t m r p q i h = of_rows t m i h.member

pub at_next : (net : Net) (t : Tab) (m r : ℕ) (p : List Sent) (todo rest : ℕ) (left next : List ℕ) (s j : ℕ) → IsNet t m net → IsAt t m r p todo left → length left ≡ length t.rows
    → bit_at todo s ≡ 1 → bit_at (get_or left s 0) j ≡ 1 → ((q : ℕ) → q ≢ s → bit_at rest q ≡ bit_at todo q) → bit_at rest s ≡ 0
    → ((q i : ℕ) → q < length left → (bit_at (get_or next q 0) i ≡ 1) ↔ ((bit_at (get_or left q 0) i ≡ 1) × (bit_at (get_or (get_or (get_or net.agree s []) j []) q 0) i ≡ 1)))
    → IsAt t m r (sent_too p s j) rest next
at_next net t m r p todo rest left next s j is_net at len one bit same out both =
    let L = lines_in t m in
    let new : Sent = record { row = s; target = j } in
    let open' = (at.open_rows s).0 one in
    let fit = (at.targets s j one).0 bit in
    let hs = open_in t m p s open' in
    let hj = fitting_in t m r p s j fit in
    let apart = λ (q : ℕ) (b : bit_at rest q ≡ 1) (e : q ≡ s). let z = ap (bit_at rest) e ∙ out in let n : ⊥ = absurd (omega arith) in n in
    record {
      ready = ready_more L r p s j at.ready open'.member fit;
      free = All-push (IsFree L r) p new at.free (fit.member, fit.other);
      open_rows = λ q. (
        λ b.
            let ne = apart q b in
            let o = (at.open_rows q).0 (sym (same q ne) ∙ b) in
            record { member = o.member; free = All-push (λ x. x.row ≢ q) p new o.free (λ e. ne (sym e)) },
        λ o.
            let ne = All-middle (λ x. x.row ≢ q) p new [] o.free in
            same q (λ e. ne (sym e)) ∙ (at.open_rows q).1 (record { member = o.member; free = All-append_left (λ x. x.row ≢ q) p (new ∷ []) o.free }),
      );
      targets = λ q i b.
          let ne = apart q b in
          let before = sym (same q ne) ∙ b in
          let hq = open_in t m p q ((at.open_rows q).0 before) in
          let told = ((is_net.agree s hs.0 hs.1).told j hj.0).told q hq.0 i in
          let two = both q i (let l = hq.0 in omega arith) in (
            λ x. let y = two.0 x in let a = told.0 y.1 in (fits_next L r p s j q i at.ready fit hq.0 a.0).0 ((at.targets q i before).0 y.0, a.2),
            λ x.
                let hi = fitting_in t m r (sent_too p s j) q i x in
                let y = (fits_next L r p s j q i at.ready fit hq.0 hi.0).1 x in
                two.1 ((at.targets q i before).1 y.0, told.1 (hi.0, hi.1, y.1)),
          );
    }

-- some row has no target yet
pub some_todo : (net : Net) (todo : ℕ) (left : List ℕ) → Stands net todo left → 0 < todo
some_todo net todo left s =
    ⊎_elim
    (λ (none : todo ≡ 0).
    absurd (s.needed s.sent s.is_at.ready.sent s.is_at.free (λ q member open'.
    let b = (s.is_at.open_rows q).1 open' in
    let z = ap (λ m. bit_at m q) none ∙ bit_at-zero q in
    let n : ⊥ = absurd (omega arith) in n)))
    (λ (some : todo ≢ 0). let r : 0 < todo = omega arith in r)
    (cases_eq todo 0)

pub todo_within : (net : Net) (todo : ℕ) (left : List ℕ) → Stands net todo left → (q : ℕ) → bit_at todo q ≡ 1 → q < length left
todo_within net todo left s q b = let h = (open_in s.tableau s.mask s.sent q ((s.is_at.open_rows q).0 b)).0 in let e = s.one_each in omega arith

-- the targets that are left to a row are below 64
pub left_small : (net : Net) (todo : ℕ) (left : List ℕ) (s : Stands net todo left) (q : ℕ) → bit_at todo q ≡ 1 → (i : ℕ) → bit_at (get_or left q 0) i ≡ 1 → i < 64
left_small net todo left s q b i one = let h = (fitting_in s.tableau s.mask s.left_out s.sent q i ((s.is_at.targets q i b).0 one)).0 in let l = s.small in omega arith

pub fewest_is : (net : Net) (todo : ℕ) (left : List ℕ) (s : Stands net todo left) (row : ℕ) → IsFewestOf left todo row → IsFewest (lines_in s.tableau s.mask) s.left_out s.sent row
fewest_is net todo left s row h q js ks open' ejs eks =
    let L = lines_in s.tableau s.mask in
    let bq = (s.is_at.open_rows q).1 open' in
    let cs = count_set (get_or left row 0) js (left_small net todo left s row h.member) (exactly_as (IsFitting L s.left_out s.sent row) (λ i. bit_at (get_or left row 0) i ≡ 1) js (λ i. ((s.is_at.targets row i h.member).1, (s.is_at.targets row i h.member).0)) ejs) in
    let cq = count_set (get_or left q 0) ks (left_small net todo left s q bq) (exactly_as (IsFitting L s.left_out s.sent q) (λ i. bit_at (get_or left q 0) i ≡ 1) ks (λ i. ((s.is_at.targets q i bq).1, (s.is_at.targets q i bq).0)) eks) in
    subst (λ a. (a < length ks) ⊎ ((a ≡ length ks) × (row ≤ q))) cs (subst (λ b. (count_ones (get_or left row 0) < b) ⊎ ((count_ones (get_or left row 0) ≡ b) × (row ≤ q))) cq (h.fewest q bq))
