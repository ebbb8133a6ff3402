-- No kept row can be left out, and how a tree begins.
use Rattle.std.proofs.Common.{◌≡◌, ◌≢◌, ℕ, ◌+◌, ◌*◌, ◌%◌, ◌^◌, ◌<◌, ◌≤◌, ◌⊎◌, List, [], ◌∷◌, length, get_or, All, Contains, bit_and, inl, inr, refl, sym, ap, subst, ◌∙◌, ⊎_elim, suc, arith}
use Rattle.std.specs.Int.{bit_at, bit_not, w64}
use Rattle.std.proofs.lemmas.Bool.{cases_eq}
use Rattle.std.proofs.lemmas.List.{get_or_default}
use Rattle.std.proofs.lemmas.List.Elements.{All-nil, All-cons, All-contains}
use Rattle.std.proofs.Math.Pow.{pow_mono}
use Rattle.su_base.proofs.Items.{All-members}
use Rattle.su_tableau.specs.Tableaux.{Tab, IsValid, IsSmall}
use Rattle.su_tableau.specs.Parts.{part}
use Rattle.su_tableau.specs.Mapping.{images_of, Maps}
use Rattle.su_tableau.proofs.Sets.{sub_le, select, select-has, select-from}
use Rattle.su_tableau.proofs.Containment.{maps_compose}
use Rattle.su_map.specs.Lists.{row_numbers}
use Rattle.su_tableau.proofs.Members.{without_same, without_out, member_below}
use Rattle.su_check.specs.declared.nodes.Node.{Node}
use Rattle.su_check.specs.declared.sending.Sent.{Sent}
use Rattle.su_check.specs.SentRows.{numbered_row}
use Rattle.su_check.specs.inside.Widths.{AreWide}
use Rattle.su_refute.specs.inside.Positions.{IsReady, IsFree, IsNeeded, IsAt, Stands, IsTreeFor}
use Rattle.su_min.specs.Kept.{IsKept}
use Rattle.su_min.proofs.Parts.{into_maps, maps_into}
use Rattle.su_min.proofs.KeptRows.{kept_within}
use Rattle.su_refute.specs.declared.nets.Net.{Net}
use Rattle.su_refute.specs.inside.Nets.{IsNet}
use Rattle.su_refute.specs.Trees.{lines_in, IsTree, node_count}
use Rattle.su_refute.proofs.MemberCounts.{numbers_exactly}
use Rattle.su_check.proofs.FoldTargets.{none_sent}
use Rattle.su_refute.proofs.FittingTargets.{fits_first}
use Rattle.su_map.proofs.RowLists.{in_rows, of_rows}

-- whether a row has a target
target_there : (p : List Sent) (s : ℕ) → All (λ x. x.row ≢ s) p ⊎ ((x : Sent) × Contains p x × (x.row ≡ s))
target_there [] s = inl (All-nil (λ x. x.row ≢ s))
target_there (x ∷ p) s =
    ⊎_elim
    (λ (e : x.row ≡ s). inr (x, (0, omega arith, refl), e))
    (λ (ne : x.row ≢ s).
    ⊎_elim
    (λ (all : All (λ x. x.row ≢ s) p). inl (All-cons (λ x. x.row ≢ s) x p ne all))
    (λ (r : (x : Sent) × Contains p x × (x.row ≡ s)). inr (r.0, (r.1.0 + 1, (let l = r.1.1 in omega arith), contains_more x p r.0 r.1.0 r.1.2), r.2))
    (target_there p s))
    (cases_eq x.row s)
  where
    contains_more : (x : Sent) (p : List Sent) (y : Sent) (k : ℕ) → get_or p k y ≡ y → get_or (x ∷ p) (k + 1) y ≡ y
    contains_more x p y k e = let s : k + 1 ≡ suc k = omega arith in subst (λ j. get_or (x ∷ p) j y ≡ y) (sym s) e

pub needed : (t : Tab) (m r : ℕ) → IsKept t m → m < 2 ^ 64 → r < 64 → bit_at m r ≡ 1 → IsNeeded (lines_in t m) r
needed t m r kept small hr one p sent free all =
    let n = bit_and m (bit_not w64 (1 * 2 ^ r % 2 ^ 64)) in
    let same = λ (j : ℕ) (ne : j ≢ r). without_same m r j small hr ne in
    let out = without_out m r hr in
    let f : Maps (part t m) (part t n) = record {
      symbols = sent.symbols;
      head = sent.head;
      rows = λ k d hk.
          let row = get_or (select m t.rows) k d in
          let at = select-from m t.rows row (k, hk, get_or_default (select m t.rows) k row d hk) in
          let member = in_rows t m at.place at.below at.is_in in
          ⊎_elim
          (λ (none : All (λ x. x.row ≢ at.place) p). absurd (all at.place member (record { member = member; free = none })))
          (λ (x : (x : Sent) × Contains p x × (x.row ≡ at.place)).
          let target = All-contains (IsFree (lines_in t m) r) p x.0 free x.1 in
          let ht = of_rows t m x.0.target target.0 in
          let image : images_of sent.symbols (numbered_row (lines_in t m) x.0.row) ≡ numbered_row (lines_in t m) x.0.target = All-contains (λ x. images_of sent.symbols (numbered_row (lines_in t m) x.row) ≡ numbered_row (lines_in t m) x.target) p x.0 sent.rows x.1 in
          let here : images_of sent.symbols row ≡ get_or t.rows x.0.target [] = ap (images_of sent.symbols) (sym (at.is []) ∙ ap (λ q. get_or t.rows q []) (sym x.2)) ∙ image in
          subst (Contains (select n t.rows)) (sym here) (select-has n t.rows x.0.target [] ht.0 (same x.0.target target.1 ∙ ht.1)))
          (target_there p at.place);
    } in
    let least = kept.least n (maps_into t n (maps_compose t (part t m) (part t n) (into_maps t m kept.maps) f)) in
    let sub = sub_le n m (λ i.
    ⊎_elim
    (λ (e : i ≡ r). let z = ap (bit_at n) e ∙ out in let l : bit_at n i ≤ bit_at m i = omega arith in l)
    (λ (ne : i ≢ r). let s = same i ne in let l : bit_at n i ≤ bit_at m i = omega arith in l)
    (cases_eq i r)) in
    let e : n ≡ m = omega arith in
    let b = ap (λ k. bit_at k r) e in
    absurd (omega arith)

-- ---- where no row has a target yet

pub wide_rows : (t : Tab) → IsValid t → AreWide t.rows
wide_rows t valid i j hi hj = valid.widths i [] hi ∙ sym (valid.widths j [] hj)

pub ready_first : (t : Tab) (m : ℕ) → IsValid t → IsReady (lines_in t m) []
ready_first t m valid = record {
  wide = wide_rows t valid;
  ascending = (numbers_exactly m (length t.rows)).ascends;
  kept = All-members (λ k. k < length t.rows) (row_numbers t m) (λ k has. (of_rows t m k has).0);
  within = λ k d h. absurd (omega arith);
  sent = none_sent (lines_in t m);
}

-- what is known where the making of a tree begins
pub record Begins (t : Tab) (m r : ℕ) (net : Net) (left : List ℕ) : Type 0 where
  pub valid : IsValid t
  pub small : IsSmall t
  pub kept : IsKept t m
  pub member : bit_at m r ≡ 1
  pub is_net : IsNet t m net
  pub one_each : length left ≡ length net.base
  pub same : (q i : ℕ) → q < length net.base → i ≢ r → bit_at (get_or left q 0) i ≡ bit_at (get_or net.base q 0) i
  pub out : (q : ℕ) → q < length net.base → bit_at (get_or left q 0) r ≡ 0

pub begin_small : (t : Tab) (m : ℕ) → IsSmall t → IsKept t m → m < 2 ^ 64
begin_small t m small kept = let w = kept_within t m kept in let s = small.rows in let p = pow_mono s in omega arith

pub row_small : (t : Tab) (m r : ℕ) → IsSmall t → IsKept t m → bit_at m r ≡ 1 → (r < length t.rows) × (r < 64)
row_small t m r small kept one = let h = member_below m (length t.rows) r (kept_within t m kept) one in let s = small.rows in (h, omega arith)

pub at_first : (t : Tab) (m r : ℕ) (net : Net) (left : List ℕ) → Begins t m r net left → IsAt t m r [] m left
at_first t m r net left g =
    let L = lines_in t m in
    let bases = g.is_net.bases in
    let within = kept_within t m g.kept in
    let wide = wide_rows t g.valid in
    record {
      ready = ready_first t m g.valid;
      free = λ k d h. absurd (omega arith);
      open_rows = λ q. (
        λ b. record { member = in_rows t m q (member_below m (length t.rows) q within b) b; free = λ k d h. absurd (omega arith) },
        λ o. (of_rows t m q o.member).1,
      );
      targets = λ q i b.
          let hq = member_below m (length t.rows) q within b in
          let hb : q < length net.base = omega arith in
          let base = g.is_net.base q hq b i in (
            λ x.
                let ne = λ (e : i ≡ r). let z = ap (bit_at (get_or left q 0)) e ∙ g.out q hb in let n : ⊥ = absurd (omega arith) in n in
                let h = base.0 (sym (g.same q i hb ne) ∙ x) in
                (fits_first L r q i wide hq h.0).1 (in_rows t m i h.0 h.1, ne, h.2),
            λ fit.
                let hi = of_rows t m i fit.member in
                let h = (fits_first L r q i wide hq hi.0).0 fit in
                g.same q i hb h.1 ∙ base.1 (hi.0, hi.1, h.2),
          );
    }

abbrev pub stands_first : (t : Tab) (m r : ℕ) (net : Net) (left : List ℕ) → Begins t m r net left → Stands net m left
stands_first t m r net left g =
    let L = lines_in t m in
    let bases = g.is_net.bases in
    let within = kept_within t m g.kept in
    record {
      tableau = t;
      mask = m;
      left_out = r;
      sent = [];
      small = g.small.rows;
      one_each = g.one_each ∙ bases;
      is_net = g.is_net;
      needed = needed t m r g.kept (begin_small t m g.small g.kept) (row_small t m r g.small g.kept g.member).1 g.member;
      is_at = at_first t m r net left g;
    }

-- the tree that is made from there
pub tree_first : (t : Tab) (m r : ℕ) (net : Net) (left : List ℕ) (mask : ℕ) (passed : List ℕ) (n : Node) → Begins t m r net left → mask ≡ m → passed ≡ left → ((s : Stands net mask passed) → IsTreeFor net mask passed s n) → IsTree (lines_in t m) r n
tree_first t m r net left mask passed n g em ep tree =
    let at : (s : Stands net m left) → IsTreeFor net m left s n = subst (λ (xs : List ℕ). (s : Stands net m xs) → IsTreeFor net m xs s n) ep (subst (λ (k : ℕ). (s : Stands net k passed) → IsTreeFor net k passed s n) em tree) in
    at (stands_first t m r net left g)

pub over_first : (t : Tab) (m r : ℕ) (net : Net) (left : List ℕ) (mask : ℕ) (passed : List ℕ) (budget : ℕ) → Begins t m r net left → mask ≡ m → passed ≡ left → ((s : Stands net mask passed) (n : Node) → IsTreeFor net mask passed s n → budget < node_count n) → (n : Node) → IsTree (lines_in t m) r n → budget < node_count n
over_first t m r net left mask passed budget g em ep over =
    let at : (s : Stands net m left) (n : Node) → IsTreeFor net m left s n → budget < node_count n = subst (λ (xs : List ℕ). (s : Stands net m xs) (n : Node) → IsTreeFor net m xs s n → budget < node_count n) ep (subst (λ (k : ℕ). (s : Stands net k passed) (n : Node) → IsTreeFor net k passed s n → budget < node_count n) em over) in
    at (stands_first t m r net left g)

-- as the calls tell it
pub begins_as : (t : Tab) (m r : ℕ) (net : Net) (left : List ℕ) (read : Tab) (bases : List ℕ) → read ≡ t → bases ≡ net.base → IsValid read → IsSmall read → IsKept t m → bit_at m r ≡ 1 → IsNet t m net → length left ≡ length bases
    → ((q i : ℕ) → q < length bases → i ≢ r → bit_at (get_or left q 0) i ≡ bit_at (get_or bases q 0) i) → ((q : ℕ) → q < length bases → bit_at (get_or left q 0) r ≡ 0) → Begins t m r net left
begins_as t m r net left read bases er eb valid small kept member is_net one_each same out = record {
  valid = subst IsValid er valid;
  small = subst IsSmall er small;
  kept = kept;
  member = member;
  is_net = is_net;
  one_each = subst (λ (b : List ℕ). length left ≡ length b) eb one_each;
  same = subst (λ (b : List ℕ). (q i : ℕ) → q < length b → i ≢ r → bit_at (get_or left q 0) i ≡ bit_at (get_or b q 0) i) eb same;
  out = subst (λ (b : List ℕ). (q : ℕ) → q < length b → bit_at (get_or left q 0) r ≡ 0) eb out;
}
