-- Where each kept row has a tree, the part of the kept rows is least.
use Rattle.std.proofs.Common.{◌≡◌, ◌≢◌, ℕ, ◌<◌, ◌≤◌, ◌⊎◌, List, [], map, length, get_or, All, Contains, inl, inr, refl, sym, ap, subst, ◌∙◌, arith}
use Rattle.std.proofs.lemmas.Bool.{cases_eq}
use Rattle.std.proofs.lemmas.List.{length-map, get_or-map, get_or_default}
use Rattle.std.proofs.lemmas.List.Elements.{All-nil, All-push, All-contains, recursion_from_All}
use Rattle.su_base.specs.Lists.{IsAscending}
use Rattle.su_base.proofs.Numbers.{pigeonhole}
use Rattle.su_base.proofs.Items.{Contains-map, AllZip-length, AllZip-get_or, Contains-map_source, Contains-or_not}
use Rattle.su_tableau.specs.declared.symbols.Sym.{Sym}
use Rattle.su_tableau.specs.declared.symbols.Sym.TheVariants.{Var}
use Rattle.su_tableau.specs.Tableaux.{Tab, IsValid, Occurs}
use Rattle.su_tableau.specs.Parts.{row_of}
use Rattle.su_tableau.specs.Kinds.{Kinds, IsTyped, sym_kind}
use Rattle.su_tableau.specs.Mapping.{image_of, images_of, Maps}
use Rattle.su_tableau.specs.Equivalent.{IsLeast}
use Rattle.su_tableau.proofs.Containment.{maps_compose, maps_to_more, maps_within, images_after}
use Rattle.su_tableau.proofs.FrozenTableaux.{within_maps}
use Rattle.su_tableau.proofs.Sets.{choose}
use Rattle.su_check.specs.declared.nodes.Node.{Node}
use Rattle.su_check.specs.declared.sending.Sent.{Sent}
use Rattle.su_check.specs.SentRows.{Lines, numbered_row, sent_too}
use Rattle.su_check.specs.Refutations.{IsFitting, Refutes, refuting, row_named, branches_of, target_of, node_of}
use Rattle.su_check.specs.LeastParts.{part_of, IsLeastListed}
use Rattle.su_check.specs.Certificate.{IsFoldInto}

-- ---- a tree refutes each map that leaves the row out

-- under the symbols each kept row goes to a kept row other than r
abbrev pub LeavesOut : Lines → ℕ → (ℕ → Sym) → Type 0
LeavesOut t r f = (s : ℕ) → Contains t.kept s → (j : ℕ) × Contains t.kept j × (j ≢ r) × (images_of f (numbered_row t s) ≡ numbered_row t j)

pub refuted : (t : Lines) (r : ℕ) (f : ℕ → Sym) → images_of f t.head ≡ t.head → LeavesOut t r f → (n : Node) (p : List Sent) → Refutes t r n p → All (λ x. images_of f (numbered_row t x.row) ≡ numbered_row t x.target) p → ⊥
refuted t r f head goes n p (refuting _ _ open' _ exact each) sent =
    let P : Sent → Type 0 = λ x. images_of f (numbered_row t x.row) ≡ numbered_row t x.target in
    let s = row_named n in
    let g = goes s open'.member in
    let more : All P (sent_too p s g.0) = All-push P p (record { row = s; target = g.0 }) sent g.3 in
    let fit : IsFitting t r p s g.0 = record { member = g.1; other = g.2; sent = record { symbols = f; head = head; rows = more } } in
    let b = Contains-map_source target_of (branches_of n) g.0 ((exact.members g.0).1 fit) in
    refuted t r f head goes (node_of b.0) (sent_too p s (target_of b.0)) (each b.0 b.1) (subst (λ j. All P (sent_too p s j)) (sym b.2) more)

-- ---- the tableau and its part

module _ (t : Tab) (kept : List ℕ) where
  row : ℕ → List Sym
  row k = get_or t.rows k []

  lines : Lines
  lines = record { head = t.head; rows = t.rows; kept = kept }

  -- a row of the part is a kept row
  part_at : (k : ℕ) (d : List Sym) → k < length (part_of t kept).rows → (i : ℕ) × Contains kept i × (get_or (part_of t kept).rows k d ≡ row i)
  unfolding row
  part_at k d h =
      let low : k < length kept = let e = length-map kept (row_of t) in omega arith in
      (get_or kept k 0, (k, low, get_or_default kept k (get_or kept k 0) 0 low), get_or-map (row_of t) kept k 0 d low)

  part_has : (i : ℕ) → Contains kept i → Contains (part_of t kept).rows (row i)
  unfolding row
  part_has i h = Contains-map (row_of t) kept i h

  pub fold_maps : (fold : List ℕ) → IsFoldInto (record { head = t.head; rows = t.rows; kept = kept }) fold → Maps t (part_of t kept)
  unfolding row
  fold_maps fold f = record {
    symbols = f.symbols;
    head = f.head;
    rows = λ i d h.
        let at : get_or t.rows i [] ≡ get_or t.rows i d = get_or_default t.rows i [] d h in
        let to : images_of f.symbols (get_or t.rows i d) ≡ get_or t.rows (get_or fold i 0) [] = ap (images_of f.symbols) (sym at) ∙ f.rows i h in
        let l = f.one_each in
        subst (Contains (part_of t kept).rows) (sym to) (part_has (get_or fold i 0) (f.into i 0 (omega arith)));
  }

  pub part_maps : All (λ k. k < length t.rows) kept → Maps (part_of t kept) t
  unfolding row
  part_maps within =
      maps_to_more (part_of t kept) t refl (λ k d h.
      let r = part_at k d h in
      let low = All-contains (λ k. k < length t.rows) kept r.0 within r.1 in
      (r.0, low, get_or_default t.rows r.0 (get_or (part_of t kept).rows k d) [] low ∙ sym r.2))

  part_typed : (kinds : Kinds) → All (λ k. k < length t.rows) kept → IsTyped kinds t → IsTyped kinds (part_of t kept)
  unfolding row
  part_typed kinds within typed = record {
    width = typed.width;
    var_kind = typed.var_kind;
    fits = λ k d h.
        let r = part_at k d h in
        subst (λ row. map (sym_kind typed.var_kind) row ≡ kinds) (sym r.2) (typed.fits r.0 [] (All-contains (λ k. k < length t.rows) kept r.0 within r.1));
  }

  -- the image of a head variable is itself, and so the row to which a row with it goes has it too
  part_occurs : IsValid t → Maps t (part_of t kept) → (k : ℕ) → Contains t.head (Var k) → Occurs (part_of t kept).rows k
  part_occurs valid f k in_head =
      let s = f.symbols in
      let fixed : s k ≡ Var k =
      ap (image_of s) (sym in_head.2)
      ∙ sym (get_or-map (image_of s) t.head in_head.0 (Var k) (Var k) in_head.1)
      ∙ ap (λ xs. get_or xs in_head.0 (Var k)) f.head
      ∙ in_head.2 in
      let at = valid.head_occurs k in_head in
      let from = get_or t.rows at.0 [] in
      let cell = at.2 in
      let c = f.rows at.0 [] at.1 in
      let image = images_of s from in
      let e : get_or image cell.0 (Var k) ≡ Var k = get_or-map (image_of s) from cell.0 (Var k) (Var k) cell.1 ∙ ap (image_of s) cell.2 ∙ fixed in
      let l : cell.0 < length image = subst (λ n. cell.0 < n) (sym (length-map from (image_of s))) cell.1 in
      let here : Contains image (Var k) = (cell.0, l, e) in
      (c.0, c.1, subst (λ r. Contains r (Var k)) (sym (get_or_default (part_of t kept).rows c.0 [] image c.1 ∙ c.2)) here)

  part_valid : All (λ k. k < length t.rows) kept → IsValid t → Maps t (part_of t kept) → IsValid (part_of t kept)
  unfolding row
  part_valid within valid f = record {
    widths = λ k d h.
        let r = part_at k d h in
        subst (λ row. length row ≡ t.width) (sym r.2) (valid.widths r.0 [] (All-contains (λ k. k < length t.rows) kept r.0 within r.1));
    head_length = valid.head_length;
    head_occurs = part_occurs valid f;
  }

  -- ---- no fewer rows

  -- a kept row to which s sends the row
  abbrev Goes : (ℕ → Sym) → List Sym → ℕ → Type 0
  Goes f from n = Contains kept n × (images_of f from ≡ get_or t.rows n [])

  abbrev place : (c : List ℕ) (x : ℕ) → Contains c x ⊎ (Contains c x → ⊥) → ℕ
  place c x (inl h) = h.0
  place c x (inr none) = 0

  place_is : (c : List ℕ) (x : ℕ) (d : Contains c x ⊎ (Contains c x → ⊥)) → Contains c x → (place c x d < length c) × (get_or c (place c x d) 0 ≡ x)
  place_is c x (inl h) has = (h.1, get_or_default c h.0 0 x h.1 ∙ h.2)
  place_is c x (inr none) has = absurd (none has)

  -- a list with all of ascending numbers is as long
  as_long : (c : List ℕ) → IsAscending kept → ((r : ℕ) → Contains kept r → Contains c r) → length kept ≤ length c
  as_long c up has =
      let f : ℕ → ℕ = λ a. place c (get_or kept a 0) (Contains-or_not cases_eq c (get_or kept a 0)) in
      let at = λ (a : ℕ) (h : a < length kept). place_is c (get_or kept a 0) (Contains-or_not cases_eq c (get_or kept a 0)) (has (get_or kept a 0) (a, h, get_or_default kept a (get_or kept a 0) 0 h)) in
      pigeonhole (length c) (length kept) f (λ a h. (at a h).0)
      (λ a b lt h e.
      let u = up a b lt h in
      let ea = (at a (omega arith)).1 in
      let eb = (at b h).1 in
      let same = ap (λ k. get_or c k 0) e in
      absurd (omega arith))

  -- each kept row is one to which some row of s goes: else a map would leave it out
  reached : (s : Tab) (c : List ℕ) (f : Maps t s) (g : Maps s (part_of t kept)) → ((q : ℕ) → q < length s.rows → Goes g.symbols (get_or s.rows q []) (get_or c q 0)) → length s.rows ≡ length c
      → All (λ k. k < length t.rows) kept → (r : ℕ) (n : Node) → Refutes (record { head = t.head; rows = t.rows; kept = kept }) r n [] → Contains c r ⊎ (Contains c r → ⊥) → Contains c r
  reached s c f g goes len within r n tree (inl has) = has
  reached s c f g goes len within r n tree (inr none) =
      let t' : Lines = record { head = t.head; rows = t.rows; kept = kept } in
      let h : ℕ → Sym = λ k. image_of g.symbols (f.symbols k) in
      let leaves : LeavesOut t' r h = λ i member.
      let low = All-contains (λ k. k < length t.rows) kept i within member in
      let to = f.rows i [] low in
      let there = goes to.0 to.1 in
      let x = get_or c to.0 0 in
      let has : Contains c x = (to.0, (let l = to.1 in omega arith), get_or_default c to.0 x 0 (let l = to.1 in omega arith)) in
      let at : get_or s.rows to.0 [] ≡ images_of f.symbols (get_or t.rows i []) = get_or_default s.rows to.0 [] (images_of f.symbols (get_or t.rows i [])) to.1 ∙ to.2 in
      (x, there.0, (λ e. none (subst (Contains c) e has)), sym (images_after f.symbols g.symbols (get_or t.rows i [])) ∙ ap (images_of g.symbols) (sym at) ∙ there.1) in
      absurd (refuted t' r h (sym (images_after f.symbols g.symbols t.head) ∙ ap (images_of g.symbols) f.head ∙ g.head) leaves n [] tree (All-nil (λ x. images_of h (numbered_row t' x.row) ≡ numbered_row t' x.target)))

  abbrev HaveTrees : Type 0
  HaveTrees = (r : ℕ) → Contains kept r → (n : Node) × Refutes (record { head = t.head; rows = t.rows; kept = kept }) r n []

  no_fewer : (s : Tab) → IsAscending kept → All (λ k. k < length t.rows) kept → HaveTrees → Maps t s → Maps s (part_of t kept) → length kept ≤ length s.rows
  unfolding row
  no_fewer s up within trees f g =
      let R : List Sym → ℕ → Type 0 = Goes g.symbols in
      let each : All (λ from. (n : ℕ) × R from n) s.rows = λ q d l.
      let to = g.rows q d l in
      let at = part_at to.0 (images_of g.symbols (get_or s.rows q d)) to.1 in
      (at.0, (at.1, sym to.2 ∙ at.2)) in
      let c = choose R s.rows (recursion_from_All (λ from. (n : ℕ) × R from n) s.rows each) in
      let len = AllZip-length R s.rows c.0 c.1 in
      let goes : (q : ℕ) → q < length s.rows → Goes g.symbols (get_or s.rows q []) (get_or c.0 q 0) = λ q h. AllZip-get_or R s.rows c.0 q [] 0 c.1 h in
      let l = as_long c.0 up (λ r member. let n = trees r member in reached s c.0 f g goes len within r n.0 n.1 (Contains-or_not cases_eq c.0 r)) in
      omega arith

  part_least : (kinds : Kinds) → IsTyped kinds t → IsAscending kept → All (λ k. k < length t.rows) kept → HaveTrees → Maps t (part_of t kept) → IsLeast kinds (part_of t kept)
  part_least kinds typed up within trees f s valid typed_s same =
      let typed_k = part_typed kinds within typed in
      let to : Maps (part_of t kept) s = within_maps kinds (part_of t kept) s typed_k typed_s (λ u h w. (same u h w).0) in
      let back : Maps s (part_of t kept) = within_maps kinds s (part_of t kept) typed_s typed_k (λ u h w. (same u h w).1) in
      let l = no_fewer s up within trees (maps_compose t (part_of t kept) s f to) back in
      let e = length-map kept (row_of t) in
      omega arith

  pub least_part : (kinds : Kinds) (fold : List ℕ) → IsValid t → IsTyped kinds t → IsAscending kept → All (λ k. k < length t.rows) kept → IsFoldInto (record { head = t.head; rows = t.rows; kept = kept }) fold → HaveTrees → IsLeastListed kinds t kept
  least_part kinds fold valid typed up within f trees =
      let to = fold_maps fold f in
      record {
        valid = part_valid within valid to;
        equivalent = λ universe h is. (
          maps_within kinds t (part_of t kept) to universe h is,
          maps_within kinds (part_of t kept) t (part_maps within) universe h is,
        );
        least = part_least kinds typed up within trees to;
      }
