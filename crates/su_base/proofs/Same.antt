-- `==` on values and on rows is equality, so a look-up by it finds a row exactly where it is there.
use Rattle.std.proofs.Common.{◌≡◌, ◌==◌, Bool, true, List, ap, refl, sym, ◌∙◌, Contains}
use Rattle.std.specs.List.{list_any, Any}
use Rattle.std.proofs.lemmas.List.{get_or_default}
use Rattle.std.proofs.lemmas.List.Folds.{list_any_at, Any-from_list_any}
use Rattle.std.specs.Bool.{Decides}
use Rattle.std.specs.Cmp.Lexicographic.{pointwise}
use Rattle.std.specs.Cmp.{signed_Decides, unsigned_Decides}
use Rattle.std.proofs.lemmas.Slice.Eq.{slice_eq-Decides}
use Rattle.su_base.specs.declared.values.Value.{Value}
use Rattle.su_base.specs.declared.values.Value.TheVariants.{Int, Text}
use Rattle.su_base.specs.contracts.values.ValuePartialEq.TheImpl.{ghosts}

pub value_eq-Decides : (a b : Value) → Decides (ghosts.eq a b) (a ≡ b)
value_eq-Decides (Int m) (Int n) = let d = signed_Decides m n in (λ h. ap Int (d.0 h), λ e. d.1 (cc))
value_eq-Decides (Int m) (Text t) = (λ h. cc, λ e. cc)
value_eq-Decides (Text s) (Int n) = (λ h. cc, λ e. cc)
value_eq-Decides (Text s) (Text t) =
    let d : Decides (pointwise (λ x y. x == y) s t) (s ≡ t) = slice_eq-Decides unsigned_Decides s t _ refl in
    (λ h. ap Text (d.0 h), λ e. d.1 (cc))

pub row_eq-Decides : (a b : List Value) (r : Bool) → r ≡ pointwise ghosts.eq a b → Decides r (a ≡ b)
row_eq-Decides = slice_eq-Decides value_eq-Decides

pub has_row : (rows : List (List Value)) (row : List Value) → Decides (list_any (pointwise ghosts.eq row) rows) (Contains rows row)
has_row rows row = (
  λ one.
      let w : Any (λ y. pointwise ghosts.eq row y ≡ true) rows = Any-from_list_any (pointwise ghosts.eq row) rows one in
      let same : row ≡ w.1 = (row_eq-Decides row w.1 _ refl).0 w.4 in
      (w.0, w.2, get_or_default rows w.0 row w.1 w.2 ∙ w.3 ∙ sym same),
  λ (k, within, is). list_any_at (pointwise ghosts.eq row) rows k row within (ap (pointwise ghosts.eq row) is ∙ (row_eq-Decides row row _ refl).1 refl),
)
