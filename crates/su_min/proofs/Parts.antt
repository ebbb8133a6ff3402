-- A tableau and its parts map into each other.
use Rattle.std.proofs.Common.{◌≡◌, ◌+◌, ◌^◌, ℕ, length, get_or, Contains, refl, subst, arith, pow_pos}
use Rattle.std.proofs.lemmas.List.{get_or_default}
use Rattle.std.proofs.lemmas.Nat.Bits.{bit_at-lt}
use Rattle.su_tableau.specs.Tableaux.{Tab}
use Rattle.su_tableau.specs.Parts.{part}
use Rattle.su_tableau.specs.Mapping.{Maps}
use Rattle.su_tableau.proofs.Sets.{IsSub, select, select-has, select-from}
use Rattle.su_tableau.proofs.Containment.{maps_compose, maps_to_more}
use Rattle.su_map.proofs.Members.{full_member}
use Rattle.su_map.proofs.Containment.{list_maps, maps_list}
use Rattle.su_min.specs.Kept.{all_rows, MapsInto}

-- a tableau maps to itself
pub same_maps : (t : Tab) → Maps t t
same_maps t = maps_to_more t t refl (λ k d h. (k, h, get_or_default t.rows k (get_or t.rows k d) d h))

-- a part maps to the whole
pub part_maps : (t : Tab) (m : ℕ) → Maps (part t m) t
part_maps t m =
    maps_to_more (part t m) t refl (λ k d h.
    let row = get_or (select m t.rows) k d in
    let r = select-from m t.rows row (k, h, get_or_default (select m t.rows) k row d h) in
    (r.place, r.below, r.is row))

-- a part maps to a part with more rows
pub sub_maps : (t : Tab) (a b : ℕ) → IsSub a b → Maps (part t a) (part t b)
sub_maps t a b sub =
    maps_to_more (part t a) (part t b) refl (λ k d h.
    let row = get_or (select a t.rows) k d in
    let r = select-from a t.rows row (k, h, get_or_default (select a t.rows) k row d h) in
    let l = sub r.place in let low = bit_at-lt b r.place in let one = r.is_in in
    subst (Contains (select b t.rows)) (r.is row) (select-has b t.rows r.place row r.below (omega arith)))

pub maps_sub : (t : Tab) (a b : ℕ) → IsSub a b → Maps t (part t a) → Maps t (part t b)
maps_sub t a b sub f = maps_compose t (part t a) (part t b) f (sub_maps t a b sub)

-- ---- all rows

pub all_is : (t : Tab) → all_rows t + 1 ≡ 2 ^ length t.rows
all_is t = let p = pow_pos (length t.rows) in omega arith

-- the whole maps to the part of all rows
pub whole_maps : (t : Tab) → Maps t (part t (all_rows t))
whole_maps t =
    maps_to_more t (part t (all_rows t)) refl (λ k d h.
    select-has (all_rows t) t.rows k d h ((full_member (all_rows t) (length t.rows) k (all_is t)).1 h))

-- ---- a tableau maps into a set of its rows

pub into_maps : (t : Tab) (m : ℕ) → MapsInto t m → Maps t (part t m)
into_maps t m f = maps_compose t (part t (all_rows t)) (part t m) (whole_maps t) (list_maps t t (all_rows t) m f.0 f.1)

pub maps_into : (t : Tab) (m : ℕ) → Maps t (part t m) → MapsInto t m
maps_into t m f = maps_list t t (all_rows t) m (maps_compose (part t (all_rows t)) t (part t m) (part_maps t (all_rows t)) f)
