-- Row lists are mappings of the parts, and mappings are containment.
use Rattle.std.proofs.Common.{◌≡◌, ◌<◌, ◌+◌, ◌^◌, ◌∙◌, ◌↔◌, ℕ, Bool, true, false, ⊎_elim, List, [], map, length, get_or, All, Contains, sym, ap, subst, arith}
use Rattle.std.specs.Int.{bit_at}
use Rattle.std.proofs.lemmas.Bool.{cases_Bool}
use Rattle.std.proofs.lemmas.List.{get_or_default}
use Rattle.std.proofs.lemmas.List.Elements.{All-contains, recursion_from_All}
use Rattle.su_tableau.specs.declared.symbols.Sym.{Sym}
use Rattle.su_tableau.specs.Tableaux.{Tab, IsValid}
use Rattle.su_tableau.specs.Kinds.{Kinds, IsTyped, sym_kind}
use Rattle.su_tableau.specs.Parts.{part}
use Rattle.su_tableau.specs.Mapping.{images_of, Maps}
use Rattle.su_tableau.specs.Equivalent.{IsWithin}
use Rattle.su_tableau.proofs.Containment.{maps_within}
use Rattle.su_tableau.proofs.FrozenTableaux.{within_maps}
use Rattle.su_tableau.proofs.Sets.{select, select-has, select-from, choose}
use Rattle.su_map.specs.Lists.{row_numbers, row_of, IsMapping}
use Rattle.su_map.proofs.Members.{full_member}
use Rattle.su_map.proofs.Ranks.{ranked_at, choice_by}
use Rattle.su_map.proofs.RowLists.{from_rows}
use Rattle.su_map.proofs.RowTargets.{mapping_by}
use Rattle.su_base.proofs.Items.{AllZip-length, AllZip-get_or}

pub list_maps : (s t : Tab) (m k : ℕ) (list : List ℕ) → IsMapping s m t k list → Maps (part s m) (part t k)
list_maps s t m k list f =
    let g = mapping_by s t m k list f in
    let a = choice_by m list in
    record {
      symbols = g.symbols;
      head = g.head;
      rows = λ i d h.
          let row = get_or (select m s.rows) i d in
          let r = select-from m s.rows row (i, h, get_or_default (select m s.rows) i row d h) in
          let target = g.targets r.place r.below r.is_in in
          let sent : row_of t (a r.place) ≡ images_of g.symbols row = sym (g.rows r.place r.below r.is_in) ∙ ap (images_of g.symbols) (r.is []) in
          subst (Contains (select k t.rows)) sent (select-has k t.rows (a r.place) [] target.0 target.1);
    }

-- a row of t in the set k, to which the row of s with this number is sent
abbrev Goes : Tab → Tab → ℕ → (ℕ → Sym) → ℕ → ℕ → Type 0
Goes s t k f x y = (y < length t.rows) × (bit_at k y ≡ 1) × (images_of f (row_of s x) ≡ row_of t y)

pub maps_list : (s t : Tab) (m k : ℕ) → Maps (part s m) (part t k) → (list : List ℕ) × IsMapping s m t k list
maps_list s t m k f =
    let ns = row_numbers s m in
    let R : ℕ → ℕ → Type 0 = Goes s t k f.symbols in
    let each : All (λ x. (y : ℕ) × R x y) ns = λ p d h.
    let x = ranked_at m (length s.rows) p h in
    let is : get_or ns p d ≡ x.number = get_or_default ns p d 0 h ∙ x.is in
    let c = All-contains (λ row. Contains (select k t.rows) (images_of f.symbols row)) (select m s.rows) (row_of s x.number) f.rows (select-has m s.rows x.number [] x.below x.member) in
    let r = select-from k t.rows (images_of f.symbols (row_of s x.number)) c in
    (r.place, (r.below, r.is_in, ap (λ n. images_of f.symbols (row_of s n)) is ∙ sym (r.is []))) in
    let c = choose R ns (recursion_from_All (λ x. (y : ℕ) × R x y) ns each) in
    let len = AllZip-length R ns c.0 c.1 in (
      c.0,
      from_rows s m t k c.0 (record {
        symbols = f.symbols;
        one_each = sym len;
        head = f.head;
        rows = λ p h. (AllZip-get_or R ns c.0 p 0 0 c.1 (omega arith)).2;
        targets = λ p h. let r = AllZip-get_or R ns c.0 p 0 0 c.1 (omega arith) in (r.0, r.1);
      }),
    )

-- ---- parts of tableaux

pub part_typed : (kinds : Kinds) (t : Tab) (m : ℕ) → IsTyped kinds t → IsTyped kinds (part t m)
part_typed kinds t m typed = record {
  width = typed.width;
  var_kind = typed.var_kind;
  fits = λ k d h.
      let row = get_or (select m t.rows) k d in
      let r = select-from m t.rows row (k, h, get_or_default (select m t.rows) k row d h) in
      subst (λ row. map (sym_kind typed.var_kind) row ≡ kinds) (r.is []) (typed.fits r.place [] r.below);
}

pub mapping_within : (kinds : Kinds) (s t : Tab) (m k : ℕ) (list : List ℕ) → IsMapping s m t k list → IsWithin kinds (part t k) (part s m)
mapping_within kinds s t m k list f = maps_within kinds (part s m) (part t k) (list_maps s t m k list f)

pub within_mapping : (kinds : Kinds) (s t : Tab) (m k : ℕ) → IsTyped kinds s → IsTyped kinds t → IsWithin kinds (part t k) (part s m) → (list : List ℕ) × IsMapping s m t k list
within_mapping kinds s t m k typed_s typed_t w = maps_list s t m k (within_maps kinds (part s m) (part t k) (part_typed kinds s m typed_s) (part_typed kinds t k typed_t) w)

-- what tells whether there is a mapping tells whether the answers of one part are answers of the other
pub tells_within : (s t : Tab) (m k : ℕ) (b : Bool) → (b ≡ true → (list : List ℕ) × IsMapping s m t k list) → (b ≡ false → (list : List ℕ) → IsMapping s m t k list → ⊥) → (kinds : Kinds) → IsTyped kinds s → IsTyped kinds t → (b ≡ true) ↔ IsWithin kinds (part t k) (part s m)
tells_within s t m k b found none kinds typed_s typed_t = (
  λ yes'. let f = found yes' in mapping_within kinds s t m k f.0 f.1,
  λ w.
      let f = within_mapping kinds s t m k typed_s typed_t w in
      ⊎_elim
      (λ (yes' : b ≡ true). yes')
      (λ (no' : b ≡ false). absurd (none no' f.0 f.1))
      (cases_Bool b),
)

-- ---- whole tableaux

-- all rows of a tableau are in the part of all its numbers
whole : (t : Tab) (all : ℕ) → all + 1 ≡ 2 ^ length t.rows → (i : ℕ) (d : List Sym) → i < length t.rows → Contains (select all t.rows) (get_or t.rows i d)
whole t all e i d h = select-has all t.rows i d h ((full_member all (length t.rows) i e).1 h)

pub whole_maps : (s t : Tab) (m k : ℕ) → m + 1 ≡ 2 ^ length s.rows → Maps (part s m) (part t k) → Maps s t
whole_maps s t m k e f = record {
  symbols = f.symbols;
  head = f.head;
  rows = λ i d h.
      let c = All-contains (λ row. Contains (select k t.rows) (images_of f.symbols row)) (select m s.rows) (get_or s.rows i d) f.rows (whole s m e i d h) in
      let r = select-from k t.rows (images_of f.symbols (get_or s.rows i d)) c in
      (r.place, r.below, r.is (images_of f.symbols (get_or s.rows i d)));
}

pub maps_whole : (s t : Tab) (m k : ℕ) → k + 1 ≡ 2 ^ length t.rows → Maps s t → Maps (part s m) (part t k)
maps_whole s t m k e f = record {
  symbols = f.symbols;
  head = f.head;
  rows = λ i d h.
      let row = get_or (select m s.rows) i d in
      let r = select-from m s.rows row (i, h, get_or_default (select m s.rows) i row d h) in
      let c = subst (λ row. Contains t.rows (images_of f.symbols row)) (r.is d) (f.rows r.place d r.below) in
      subst (Contains (select k t.rows)) (get_or_default t.rows c.0 [] (images_of f.symbols row) c.1 ∙ c.2) (whole t k e c.0 [] c.1);
}

pub containment : (kinds : Kinds) (s t : Tab) (m k : ℕ) → IsValid s → IsValid t → IsTyped kinds s → IsTyped kinds t → length s.head ≡ length t.head → m + 1 ≡ 2 ^ length s.rows → k + 1 ≡ 2 ^ length t.rows → ((list : List ℕ) × IsMapping s m t k list) ↔ IsWithin kinds t s
containment kinds s t m k valid_s valid_t typed_s typed_t heads em ek = (
  λ f. maps_within kinds s t (whole_maps s t m k em (list_maps s t m k f.0 f.1)),
  λ w. maps_list s t m k (maps_whole s t m k ek (within_maps kinds s t typed_s typed_t w)),
)
