-- From choices to mappings.
use Rattle.std.proofs.Common.{◌≡◌, ◌⊎◌, ◌<◌, ◌≤◌, ◌+◌, ◌↔◌, ℕ, Bool, true, false, ⊎_elim, List, length, sym, subst, All, arith}
use Rattle.std.specs.Int.{bit_at}
use Rattle.std.proofs.lemmas.Bool.{cases_Bool}
use Rattle.su_tableau.specs.Tableaux.{Tab}
use Rattle.su_map.specs.Lists.{IsMapping, IsFirst}
use Rattle.su_map.specs.Candidates.{IsWithinProducts}
use Rattle.su_map.specs.inside.Netted.{Netted, base_of}
use Rattle.su_map.specs.inside.Nets.{IsNet, IsNetFor}
use Rattle.su_map.specs.inside.Choices.{IsBefore, IsChoiceInto, IsFound, IsFirstOf, tries, ArePassedInto}
use Rattle.su_map.proofs.Ranks.{choice_by, list_by}
use Rattle.su_map.proofs.RowLists.{row_by_row, list_upto}
use Rattle.su_map.proofs.RowTargets.{mapping_by, by_mapping, maps_choice, choice_maps}

-- both tableaux have rows of one width, and heads of one length
pub record AreLike (s t : Tab) : Type 0 where
  pub heads : length s.head ≡ length t.head
  pub width : s.width ≡ t.width
  pub from_widths : All (λ row. length row ≡ s.width) s.rows
  pub to_widths : All (λ row. length row ≡ t.width) t.rows

pub found_mapping : (s t : Tab) (m k : ℕ) (net : Netted) (list : List ℕ) → IsNetFor s m t k net → AreLike s t → IsFound net (length s.rows) m k list → IsMapping s m t k list
found_mapping s t m k net list for like f =
    subst (IsMapping s m t k) (sym f.listed) (by_mapping s t m k f.choice (choice_maps s t m k net f.choice for like.heads like.width like.from_widths like.to_widths f.is_choice))

pub found_first : (s t : Tab) (m k : ℕ) (net : Netted) (list : List ℕ) → IsNetFor s m t k net → AreLike s t → IsFound net (length s.rows) m k list → IsFirstOf net (length s.rows) m k list → IsFirst s m t k list
found_first s t m k net list for like f first = record {
  maps = found_mapping s t m k net list for like f;
  first = λ other map'.
      let is = list_by m (length s.rows) other (row_by_row s m t k other map').one_each in
      list_upto list other (subst (λ l. (l ≡ list) ⊎ IsBefore list l) is (first (choice_by m other) (maps_choice s t m k net (choice_by m other) for (mapping_by s t m k other map'))));
}

pub none_mapping : (s t : Tab) (m k : ℕ) (net : Netted) → IsNetFor s m t k net → ((other : ℕ → ℕ) → IsChoiceInto net (length s.rows) m k other → ⊥) → (list : List ℕ) → IsMapping s m t k list → ⊥
none_mapping s t m k net for none list f = none (choice_by m list) (maps_choice s t m k net (choice_by m list) for (mapping_by s t m k list f))

pub own_net : (s t : Tab) (m k : ℕ) (net : Netted) → IsNet s m t k net → IsNetFor s m t k net
own_net s t m k net n = record { rows = m; targets = k; is_net = n; has_rows = λ i h. h; has_targets = λ j h. h }

-- the targets that a net has for a row, in the set, are its candidates there
pub within_products : (s t : Tab) (m k : ℕ) (net : Netted) (old new : ℕ) → IsNetFor s m t k net → ((passes : ℕ → ℕ → Bool) → ArePassedInto net (length s.rows) m k passes → new ≤ old + tries passes net.targets (length s.rows) m) → IsWithinProducts s m t k old new
within_products s t m k net old new for cost passes tells =
    let all : ArePassedInto net (length s.rows) m k passes = λ r x hr br h in_k.
    let b = (for.is_net.base r x hr (for.has_rows r br)).0 h in
    (tells r x hr).1 (record { row_in = b.0; in_set = in_k; constants = b.2.constants; head_symbols = b.2.head_symbols }) in
    subst (λ targets. new ≤ old + tries passes targets (length s.rows) m) for.is_net.targets (cost passes all)

pub net_targets : (s t : Tab) (m k : ℕ) (net : Netted) → IsNetFor s m t k net → (r x : ℕ) → r < length s.rows → bit_at m r ≡ 1 → bit_at (base_of net r) x ≡ 1 → x < net.targets
net_targets s t m k net for r x hr br h =
    let b = ((for.is_net.base r x hr (for.has_rows r br)).0 h).0 in
    let e = for.is_net.targets in
    omega arith

-- false exactly where there is none
pub none_iff : (s t : Tab) (m k : ℕ) (b : Bool) (list : List ℕ) → (b ≡ true → IsMapping s m t k list) → (b ≡ false → (other : List ℕ) → IsMapping s m t k other → ⊥) → (b ≡ false) ↔ ((other : List ℕ) → IsMapping s m t k other → ⊥)
none_iff s t m k b list found none = (
  none,
  λ n.
      ⊎_elim
      (λ (yes' : b ≡ true). absurd (n list (found yes')))
      (λ (no' : b ≡ false). no')
      (cases_Bool b),
)
