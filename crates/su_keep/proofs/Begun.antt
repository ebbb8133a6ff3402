-- A store without a table has no row in any.
use Rattle.std.proofs.Common.{◌≡◌, ℕ, List, [], refl, sym, ap, subst, ◌∙◌, arith, ne_eqb, inl, inr, IsTrue}
use Rattle.std.proofs.lemmas.Bool.{cases_eq}
use Rattle.sqlite_value.specs.Order.{Row as Entry, column}
use Rattle.sqlite_trees.specs.declared.schema.Object.{Object}
use Rattle.sqlite_trees.specs.declared.store.Shape.{Shape}
use Rattle.sqlite_trees.specs.Tree.{Trees, with_tree}
use Rattle.sqlite_trees.specs.View.{View, IsOrdered, IsShaped, Commits}
use Rattle.sqlite_trees.specs.Objects.{catalog_tree, number_in, row_for, shape_code, IsListed, Creates}
use Rattle.su_keep.specs.inside.Stores.{StandsOpen, AreEmpty}
use Rattle.su_keep.proofs.Found.{absent_of_code}

pub empty_unlisted : (v : View) → IsListed (v.trees catalog_tree) v.shape v.reals → IsOrdered v.shape v.trees → v.trees catalog_tree ≡ [] → AreEmpty v.trees
empty_unlisted v listed ordered none = λ t low.
    let code : shape_code (v.shape t) ≡ 0 = listed.shapes t (λ e. omega (arith, e, low)) (λ e. omega (arith, e, low)) ∙ ap (λ (rows : List Entry). number_in (column (row_for rows t) 5)) none in
    subst (λ (s : Shape). IsShaped s (v.trees t)) (absent_of_code (v.shape t) code) (ordered t)

pub empty_made : (old mid : View) (o : Object) → Creates old mid 0 o → AreEmpty old.trees → AreEmpty mid.trees
empty_made old mid o made empty = λ t low. ap (λ (v : View). v.trees t) made.is
    ∙ beside (with_tree old.trees 0 []) catalog_tree t _ (λ e. omega (arith, e, low))
    ∙ elim (cases_eq t 0) [
      | inl is ↦ subst (λ (k : ℕ). with_tree old.trees 0 [] k ≡ []) (sym is) refl
      | inr apart ↦ beside old.trees 0 t [] apart ∙ empty t low
    ]
  where
    beside : (trees : Trees) (tree k : ℕ) (es : List Entry) → (k ≡ tree → ⊥) → with_tree trees tree es k ≡ trees k
    beside trees tree k es apart = rw (ne_eqb k tree apart) refl

pub stands_committed : (old mid new : View) (o : Object) → StandsOpen old → Creates old mid 0 o → Commits mid new → StandsOpen new
stands_committed old mid new o stands made done = record {
  settled = ap (λ (v : View). v.trees) done.is ∙ sym (ap (λ (v : View). v.committed) done.is);
  is_open = subst IsTrue (sym (ap (λ (v : View). v.is_open) done.is ∙ ap (λ (v : View). v.is_open) made.is)) stands.is_open;
  sound = ap (λ (v : View). v.is_broken) done.is ∙ done.sound;
  numbered = subst IsTrue (sym (ap (λ (v : View). v.is_numbered) done.is ∙ ap (λ (v : View). v.is_numbered) made.is)) stands.numbered;
}

pub empty_committed : (mid new : View) → Commits mid new → AreEmpty mid.trees → AreEmpty new.trees
empty_committed mid new done empty = λ t low. ap (λ (v : View). v.trees t) done.is ∙ empty t low
