-- Sendings in domains that shrink, and those of mappings.
use Rattle.std.proofs.Common.{◌≡◌, ◌≢◌, ℕ, ◌<◌, List, length, get_or, set, Option, Some, None, sym, ap, ◌∙◌, ⊎_elim, get_or-set_other, get_or-set_same}
use Rattle.std.specs.Int.{bit_at}
use Rattle.std.proofs.lemmas.Bool.{cases_eq}
use Rattle.su_tableau.specs.declared.symbols.Sym.{Sym}
use Rattle.su_tableau.specs.Tableaux.{Tab}
use Rattle.su_map.specs.Lists.{row_of, IsMapping}
use Rattle.su_map.specs.inside.Nets.{HasBase}
use Rattle.su_map.specs.inside.Targets.{AreShared}
use Rattle.su_map.specs.inside.Sendings.{AreRows, IsSending}
use Rattle.su_map.proofs.Cells.{told_agree}
use Rattle.su_map.proofs.RowTargets.{mapping_by, by_target, images_agree}
use Rattle.su_map.proofs.ShrunkDomains.{set_shrinks}
use Rattle.su_map.proofs.Ranks.{choice_by}
use Rattle.su_map.proofs.AgreementTable.{target_fits, shared_is}

pub rows_fewer : (s : Tab) (m : ℕ) (t : Tab) (domains : List ℕ) (q v : ℕ) → q < length domains → ((x : ℕ) → bit_at v x ≡ 1 → bit_at (get_or domains q 0) x ≡ 1) → AreRows s m t domains → AreRows s m t (set domains q v)
rows_fewer s m t domains q v low less rows i j hi oi one = rows i j hi oi (set_shrinks (length s.rows) q v domains domains low less (λ r x l h. h) i j hi one)

-- a sending whose target of row q stays
pub sending_stays : (s : Tab) (m : ℕ) (t : Tab) (domains : List ℕ) (q v : ℕ) (a : ℕ → ℕ) → q < length domains → bit_at v (a q) ≡ 1 → IsSending s m t domains a → IsSending s m t (set domains q v) a
sending_stays s m t domains q v a low has f = record {
  within = λ i hi oi.
      ⊎_elim
      (λ (e : i ≡ q). ap (λ r. bit_at (get_or (set domains q v) r 0) (a r)) e ∙ ap (λ d. bit_at d (a q)) (get_or-set_same domains q v 0 low) ∙ has)
      (λ (ne : i ≢ q). ap (λ d. bit_at d (a i)) (get_or-set_other domains q i v 0 ne) ∙ f.within i hi oi)
      (cases_eq i q);
  own = f.own;
  agree = f.agree;
}

-- the target of row q agrees with that of row i at the columns shared
pub told_sending : (s t : Tab) (m : ℕ) (domains : List ℕ) (a : ℕ → ℕ) (i q p : ℕ) (columns : List (Option ℕ)) (head xs ys us : List Sym)
    → head ≡ s.head → xs ≡ row_of s i → ys ≡ row_of s q → us ≡ row_of t p → length (row_of s q) ≡ t.width
    → i < length s.rows → q < length s.rows → bit_at m i ≡ 1 → bit_at m q ≡ 1
    → AreShared head xs ys columns → IsSending s m t domains a → a i ≡ p
    → (e c : ℕ) (d : Sym) → e < t.width → get_or columns e None ≡ Some c → get_or us c d ≡ get_or (row_of t (a q)) e d
told_sending s t m domains a i q p columns head xs ys us eh ex ey eu wide hi hq oi oq shared f is e c d low at =
    let shared' = shared_is head s.head xs (row_of s i) ys (row_of s q) columns eh ex ey shared in
    let told = told_agree s.head t.head (row_of s i) (row_of t (a i)) (row_of s q) (row_of t (a q)) columns t.width wide shared' (target_fits s t i (a i) (f.own i hi oi)) (target_fits s t q (a q) (f.own q hq oq)) in
    ap (λ r. get_or r c d) eu ∙ ap (λ n. get_or (row_of t n) c d) (sym is) ∙ told.1 (f.agree i q hi hq oi oq) e c d low at

-- ---- the domains at the start

pub base_rows : (s : Tab) (m : ℕ) (t : Tab) (k : ℕ) (base : List ℕ) → HasBase s m t k base → AreRows s m t base
base_rows s m t k base has i j hi oi one = ((has i j hi oi).0 one).0

-- the targets of a mapping are a sending
pub mapping_sends : (s : Tab) (m : ℕ) (t : Tab) (k : ℕ) (base list : List ℕ) → HasBase s m t k base → IsMapping s m t k list → IsSending s m t base (choice_by m list)
mapping_sends s m t k base list has f =
    let a = choice_by m list in
    let g = mapping_by s t m k list f in
    record {
      within = λ i hi oi. let r = g.targets i hi oi in (has i (a i) hi oi).1 (r.0, r.1, by_target s t m k a g i hi oi);
      own = λ i hi oi. by_target s t m k a g i hi oi;
      agree = λ i q hi hq oi oq. images_agree g.symbols (row_of s i) (row_of t (a i)) (row_of s q) (row_of t (a q)) (g.rows i hi oi) (g.rows q hq oq);
    }

pub rows_copied : (s : Tab) (m : ℕ) (t : Tab) (domains copied : List ℕ) → ((i : ℕ) → i < length s.rows → get_or copied i 0 ≡ get_or domains i 0) → AreRows s m t domains → AreRows s m t copied
rows_copied s m t domains copied same rows i j hi oi one = rows i j hi oi (ap (λ d. bit_at d j) (sym (same i hi)) ∙ one)

pub sending_copied : (s : Tab) (m : ℕ) (t : Tab) (domains copied : List ℕ) (a : ℕ → ℕ) → ((i : ℕ) → i < length s.rows → get_or copied i 0 ≡ get_or domains i 0) → IsSending s m t domains a → IsSending s m t copied a
sending_copied s m t domains copied a same f = record {
  within = λ i hi oi. ap (λ d. bit_at d (a i)) (same i hi) ∙ f.within i hi oi;
  own = f.own;
  agree = f.agree;
}
