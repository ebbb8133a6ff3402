-- Terms by their numbers, and what settles a tableau.
use Rattle.std.proofs.Common.{◌≡◌, ℕ, ◌+◌, ◌^◌, ◌<◌, List, [], length, get_or, sym, ap, ◌∙◌, subst, arith}
use Rattle.std.proofs.lemmas.List.{get_or-map}
use Rattle.su_base.specs.declared.values.Value.{Value}
use Rattle.su_fd.specs.declared.dependencies.Fd.{Fd}
use Rattle.su_tableau.specs.Tableaux.{Tab, IsValid, AreVarsBelow}
use Rattle.su_tableau.specs.Valuations.{Ext}
use Rattle.su_tableau.specs.Kinds.{Kinds, IsUniverse}
use Rattle.su_tableau.specs.Mapping.{Maps}
use Rattle.su_tableau.proofs.Containment.{maps_within}
use Rattle.su_map.specs.Lists.{Certified, IsMapping, IsFirst}
use Rattle.su_map.specs.Rooms.{Space, HasSizesOf}
use Rattle.su_map.proofs.Containment.{list_maps, maps_list, whole_maps, maps_whole}
use Rattle.su_chase.specs.Chased.{IsChased}
use Rattle.su_steps.specs.declared.results.Term.{Term}
use Rattle.su_compare.specs.Settled.{tab_at, IsFirstOfAllRows, IsFound}
use Rattle.su_compare.specs.inside.Settlements.{HasRoomFor, IsAlike, AreAlike}

pub tab_here : (terms : List Term) (i : ℕ) (d : Term) → i < length terms → tab_at terms i ≡ (get_or terms i d).tableau
tab_here terms i d low = get_or-map (λ t. t.tableau) terms i d (tab_at [] 0) low

pub heads_same : (t s : Tab) → IsValid t → IsValid s → IsAlike t s → length s.head ≡ length t.head
heads_same t s vt vs alike =
    let a = vt.head_length in
    let b = vs.head_length in
    let o = alike.outputs in
    let n : length s.operators ≡ length t.operators = ap length alike.operators in
    omega arith

pub room_same : (terms : List Term) (old new : Space) → HasRoomFor terms old → HasSizesOf old new → HasRoomFor terms new
room_same terms old new has same i low =
    let r = has i low in
    record {
      rows = let l = r.rows in let e = same.rows in omega arith;
      symbols = subst (λ n. AreVarsBelow n (tab_at terms i)) (sym same.symbols) r.symbols;
    }

-- no list is a mapping of all rows: there is no mapping
pub no_list_no_mapping : (s c : Tab) (m k : ℕ) → k + 1 ≡ 2 ^ length c.rows → ((list : List ℕ) → IsMapping s m c k list → ⊥) → Maps s c → ⊥
no_list_no_mapping s c m k all none maps = let l = maps_list s c m k (maps_whole s c m k all maps) in none l.0 l.1

pub found_is : (terms : List Term) (c s : Tab) (j m k : ℕ) (list : List ℕ) (mapping : Certified) → j < length terms → tab_at terms j ≡ s
    → m + 1 ≡ 2 ^ length s.rows → k + 1 ≡ 2 ^ length c.rows → IsFirst s m c k list
    → mapping ≡ record { from = s; from_mask = m; to = c; to_mask = k; list = list }
    → ((i : ℕ) → i < j → ¬ Maps (tab_at terms i) c) → IsFound terms c (record { term = j; mapping = mapping })
found_is terms c s j m k list mapping low at all_s all_c first is none = record {
  below = low;
  mapping = subst (λ s. IsFirstOfAllRows s c mapping) (sym at) (record {
    from = ap (λ x. x.from) is;
    from_all = ap (λ x. x.from_mask + 1) is ∙ all_s;
    to = ap (λ x. x.to) is;
    to_all = ap (λ x. x.to_mask + 1) is ∙ all_c;
    first = subst (λ x. IsFirst s x.from_mask c x.to_mask x.list) (sym is) first;
  });
  least = none;
}

pub alike_chased : (fds : List Fd) (t c : Tab) (terms : List Term) → IsChased fds t c → AreAlike t terms → AreAlike c terms
alike_chased fds t c terms chased alike i low =
    let a = alike i low in
    record {
      width = a.width ∙ sym (ap (λ x. x.width) chased.is);
      outputs = a.outputs ∙ sym (ap (λ x. x.outputs) chased.is);
      operators = a.operators ∙ sym (ap (λ x. x.operators) chased.is);
    }

-- h is an answer of one of the terms
abbrev pub IsAnswer : List Term → List (List Value) → List Value → Type 0
IsAnswer terms universe h = (i : ℕ) × (i < length terms) × Ext (tab_at terms i) universe h

-- what maps into the chased tableau has the answers of the tableau
pub found_answers : (terms : List Term) (c : Tab) (kinds : Kinds) (universe : List (List Value)) (h : List Value) (term : ℕ) (mapping : Certified) → IsUniverse kinds universe
    → IsFound terms c (record { term = term; mapping = mapping }) → Ext c universe h → IsAnswer terms universe h
found_answers terms c kinds universe h term mapping typed found ext =
    let s = tab_at terms term in
    let f = found.mapping in
    let maps : Maps s c = whole_maps s c mapping.from_mask mapping.to_mask f.from_all (list_maps s c mapping.from_mask mapping.to_mask mapping.list f.first.maps) in
    (term, found.below, maps_within kinds s c maps universe h typed ext)
