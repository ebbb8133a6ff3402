-- Mappings are containment.
use Rattle.std.proofs.Common.{◌≡◌, ℕ, ◌<◌, List, [], ◌∷◌, length, get_or, Contains, refl, sym, ap, ◌∙◌, subst}
use Rattle.std.proofs.lemmas.List.{length-map, get_or-map, get_or_default}
use Rattle.std.proofs.lemmas.List.Elements.{All-contains}
use Rattle.su_base.specs.declared.values.Value.{Value}
use Rattle.su_tableau.specs.declared.symbols.Sym.{Sym}
use Rattle.su_tableau.specs.declared.symbols.Sym.TheVariants.{Const, Var}
use Rattle.su_tableau.specs.Tableaux.{Tab, IsValid, Occurs}
use Rattle.su_tableau.specs.Valuations.{value_of, values_of}
use Rattle.su_tableau.specs.Kinds.{Kinds}
use Rattle.su_tableau.specs.Mapping.{image_of, images_of, Maps}
use Rattle.su_tableau.specs.Equivalent.{IsWithin}
use Rattle.su_base.proofs.Items.{map-map_equal}

-- ---- the identity

image_of-Var : (x : Sym) → image_of Var x ≡ x
image_of-Var (Const c) = refl
image_of-Var (Var k) = refl

pub images_of-Var : (xs : List Sym) → images_of Var xs ≡ xs
images_of-Var [] = refl
images_of-Var (x ∷ xs) = let i = images_of-Var xs in let j = image_of-Var x in cc

-- a tableau maps to one with the same head that has its rows
pub maps_to_more : (s t : Tab) → s.head ≡ t.head → ((k : ℕ) (d : List Sym) → k < length s.rows → Contains t.rows (get_or s.rows k d)) → Maps s t
maps_to_more s t head has = record {
  symbols = Var;
  head = images_of-Var s.head ∙ head;
  rows = λ k d h. subst (Contains t.rows) (sym (images_of-Var (get_or s.rows k d))) (has k d h);
}

-- a variable of the head is its own image in a tableau with the same head, and so the row to which a row with it goes has it too
pub mapped_occurs : (t u : Tab) → IsValid t → Maps t u → u.head ≡ t.head → (k : ℕ) → Contains t.head (Var k) → Occurs u.rows k
mapped_occurs t u valid f head k in_head =
    let s = f.symbols in
    let fixed : s k ≡ Var k =
    ap (image_of s) (sym in_head.2)
    ∙ sym (get_or-map (image_of s) t.head in_head.0 (Var k) (Var k) in_head.1)
    ∙ ap (λ xs. get_or xs in_head.0 (Var k)) (f.head ∙ head)
    ∙ in_head.2 in
    let at = valid.head_occurs k in_head in
    let row = get_or t.rows at.0 [] in
    let cell = at.2 in
    let c = f.rows at.0 [] at.1 in
    let image = images_of s row in
    let e : get_or image cell.0 (Var k) ≡ Var k = get_or-map (image_of s) row cell.0 (Var k) (Var k) cell.1 ∙ ap (image_of s) cell.2 ∙ fixed in
    let l : cell.0 < length image = subst (λ n. cell.0 < n) (sym (length-map row (image_of s))) cell.1 in
    let here : Contains image (Var k) = (cell.0, l, e) in
    (c.0, c.1, subst (λ r. Contains r (Var k)) (sym (get_or_default u.rows c.0 [] image c.1 ∙ c.2)) here)

-- ---- composing

values_after : (v : ℕ → Value) (s : ℕ → Sym) (xs : List Sym) → values_of v (images_of s xs) ≡ values_of (λ k. value_of v (s k)) xs
values_after v s xs = map-map_equal (image_of s) (value_of v) (value_of (λ k. value_of v (s k))) (elim [ Const c ↦ refl | Var k ↦ refl ]) xs

pub images_after : (s t : ℕ → Sym) (xs : List Sym) → images_of t (images_of s xs) ≡ images_of (λ k. image_of t (s k)) xs
images_after s t xs = map-map_equal (image_of s) (image_of t) (image_of (λ k. image_of t (s k))) (elim [ Const c ↦ refl | Var k ↦ refl ]) xs

pub maps_compose : (r s t : Tab) → Maps r s → Maps s t → Maps r t
maps_compose r s t f g = record {
  symbols = λ k. image_of g.symbols (f.symbols k);
  head = sym (images_after f.symbols g.symbols r.head) ∙ ap (images_of g.symbols) f.head ∙ g.head;
  rows = λ k d h.
      let c = All-contains (λ row. Contains t.rows (images_of g.symbols row)) s.rows (images_of f.symbols (get_or r.rows k d)) g.rows (f.rows k d h) in
      subst (Contains t.rows) (images_after f.symbols g.symbols (get_or r.rows k d)) c;
}

pub maps_within : (kinds : Kinds) (s t : Tab) → Maps s t → IsWithin kinds t s
maps_within kinds s t f universe h typed e = record {
  valuation = λ k. value_of e.valuation (f.symbols k);
  holds = λ k d l.
      let c = All-contains (λ row. Contains universe (values_of e.valuation row)) t.rows (images_of f.symbols (get_or s.rows k d)) e.holds (f.rows k d l) in
      subst (Contains universe) (values_after e.valuation f.symbols (get_or s.rows k d)) c;
  gives = sym (values_after e.valuation f.symbols s.head) ∙ ap (values_of e.valuation) f.head ∙ e.gives;
}
