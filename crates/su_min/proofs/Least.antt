-- The kept part is valid, has the answers of the whole, and has the fewest rows.
use Rattle.std.proofs.Common.{◌≡◌, ◌<◌, ◌≤◌, ℕ, List, [], length, get_or, All, Contains, refl, subst, arith}
use Rattle.std.specs.Int.{bit_at}
use Rattle.std.proofs.lemmas.List.Elements.{recursion_from_All}
use Rattle.std.proofs.lemmas.List.{get_or_default}
use Rattle.su_tableau.specs.declared.symbols.Sym.{Sym}
use Rattle.su_tableau.specs.Tableaux.{Tab, IsValid}
use Rattle.su_tableau.specs.Kinds.{Kinds, IsTyped}
use Rattle.su_tableau.specs.Parts.{part}
use Rattle.su_tableau.specs.Mapping.{images_of, Maps}
use Rattle.su_tableau.specs.Equivalent.{IsLeast}
use Rattle.su_tableau.proofs.Containment.{mapped_occurs, maps_compose, maps_within}
use Rattle.su_tableau.proofs.FrozenTableaux.{within_maps}
use Rattle.su_tableau.proofs.Sets.{sub_le, mark, mark-has, mark-sub, select, select-mark, select-has, select-from, choose, all_chosen}
use Rattle.su_map.proofs.Containment.{part_typed}
use Rattle.su_min.specs.Kept.{IsKept, IsLeastPart}
use Rattle.su_min.proofs.Parts.{into_maps, maps_into, part_maps}
use Rattle.su_base.proofs.Items.{AllZip-length, AllZip-get_or}

-- a row of t in the set, to which s sends the row
abbrev Goes : Tab → ℕ → (ℕ → Sym) → List Sym → ℕ → Type 0
Goes t m s row n = (n < length t.rows) × (bit_at m n ≡ 1) × ((d : List Sym) → get_or t.rows n d ≡ images_of s row)

-- a tableau between t and itself has at least as many rows as the least set that t maps into: it goes by way of that set, whose image there is a set that t maps into
least_rows : (t s : Tab) (m : ℕ) → IsKept t m → Maps t s → Maps s t → length (select m t.rows) ≤ length s.rows
least_rows t s m kept f g =
    let h = maps_compose s t (part t m) g (into_maps t m kept.maps) in
    let R : List Sym → ℕ → Type 0 = Goes t m h.symbols in
    let each : All (λ row. (n : ℕ) × R row n) s.rows = λ k d l.
    let r = select-from m t.rows (images_of h.symbols (get_or s.rows k d)) (h.rows k d l) in (r.place, (r.below, r.is_in, r.is)) in
    let c = choose R s.rows (recursion_from_All (λ row. (n : ℕ) × R row n) s.rows each) in
    let n = mark c.0 in
    let to_n : Maps s (part t n) = record {
      symbols = h.symbols;
      head = h.head;
      rows = λ k d l.
          let lt : k < length c.0 = let e = AllZip-length R s.rows c.0 c.1 in omega arith in
          let r = AllZip-get_or R s.rows c.0 k d 0 c.1 l in
          subst (Contains (select n t.rows)) (r.2 []) (select-has n t.rows (get_or c.0 k 0) [] r.0 (mark-has c.0 k 0 lt));
    } in
    let up : m ≤ n = kept.least n (maps_into t n (maps_compose t s (part t n) f to_n)) in
    let down : n ≤ m = sub_le n m (mark-sub c.0 m (all_chosen (λ n. bit_at m n ≡ 1) R (λ row n r. r.1) s.rows c.0 c.1)) in
    let same : n ≡ m = omega arith in
    let few : length (select m t.rows) ≤ length c.0 = subst (λ i. length (select i t.rows) ≤ length c.0) same (select-mark c.0 t.rows) in
    let e = AllZip-length R s.rows c.0 c.1 in
    omega arith

kept_least : (kinds : Kinds) (t : Tab) (m : ℕ) → IsTyped kinds t → IsKept t m → IsLeast kinds (part t m)
kept_least kinds t m typed kept s valid typed_s same =
    let typed_k = part_typed kinds t m typed in
    let to : Maps (part t m) s = within_maps kinds (part t m) s typed_k typed_s (λ u h w. (same u h w).0) in
    let back : Maps s (part t m) = within_maps kinds s (part t m) typed_s typed_k (λ u h w. (same u h w).1) in
    least_rows t s m kept (maps_compose t (part t m) s (into_maps t m kept.maps) to) (maps_compose s (part t m) t back (part_maps t m))

kept_valid : (t : Tab) (m : ℕ) → IsValid t → IsKept t m → IsValid (part t m)
kept_valid t m valid kept = record {
  widths = λ k d h.
      let row = get_or (select m t.rows) k d in
      let r = select-from m t.rows row (k, h, get_or_default (select m t.rows) k row d h) in
      subst (λ row. length row ≡ t.width) (r.is []) (valid.widths r.place [] r.below);
  head_length = valid.head_length;
  head_occurs = mapped_occurs t (part t m) valid (into_maps t m kept.maps) refl;
}

pub kept_least_part : (kinds : Kinds) (t : Tab) (m : ℕ) → IsValid t → IsKept t m → IsTyped kinds t → IsLeastPart kinds t m
kept_least_part kinds t m valid kept typed = record {
  valid = kept_valid t m valid kept;
  equivalent = λ universe h is. (
    maps_within kinds t (part t m) (into_maps t m kept.maps) universe h is,
    maps_within kinds (part t m) t (part_maps t m) universe h is,
  );
  least = kept_least kinds t m typed kept;
}
