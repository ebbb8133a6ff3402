-- What is told of one object, one part behind another.
use Rattle.std.proofs.Common.{ℕ, ◌≡◌, List, [], ◌++◌, Option, refl, sym, inl, inr, append-nil}
use Rattle.std.specs.Ordering.{nat_cmp}
use Rattle.std.specs.FinSet.{FinSet}
use Rattle.su_schema.specs.SchemaValue.{SchemaValue}
use Rattle.su_advise.specs.Lying.{lying_in}
use Rattle.su_show.specs.inside.AddedTexts.{Adds}
use Rattle.su_report.specs.ObjectLines.{key_lines, by_its_own}
use Rattle.su_report.specs.ObjectParts.{object_at, AreFound, AreSame, KeysOf, BrokenBy, ObjectNotes}
use Rattle.su_report.proofs.Texts.{two_added}

-- ---- its keys, once or twice

module _ (schema : SchemaValue) (o : ℕ) (all own : Option (List (FinSet nat_cmp))) (all_are : AreFound schema.fds (object_at schema o) all) (own_are : AreFound (lying_in (object_at schema o) schema.fds) (object_at schema o) own) (old mid : List ℕ) (first : mid ≡ old ++ key_lines schema o [] all) where
  pub keys_once : AreSame all own → Adds (KeysOf schema o) old mid
  keys_once same = (
    key_lines schema o [] all,
    first,
    record { all = all; all_are = all_are; own = own; own_are = own_are; again = []; again_is = inl (same, refl); text_is = sym (append-nil (key_lines schema o [] all)) },
  )

  pub keys_twice : (AreSame all own → ⊥) → (new : List ℕ) → new ≡ mid ++ key_lines schema o by_its_own own → Adds (KeysOf schema o) old new
  keys_twice differ new second = (
    key_lines schema o [] all ++ key_lines schema o by_its_own own,
    two_added old (key_lines schema o [] all) (key_lines schema o by_its_own own) mid new first second,
    record { all = all; all_are = all_are; own = own; own_are = own_are; again = key_lines schema o by_its_own own; again_is = inr (differ, refl); text_is = refl },
  )

-- ---- keys, and then what breaks its form

pub object_told : (schema : SchemaValue) (o : ℕ) (old mid new : List ℕ) → Adds (KeysOf schema o) old mid → Adds (BrokenBy schema o) mid new → Adds (ObjectNotes schema o) old new
object_told schema o old mid new keys broken =
    (keys.0 ++ broken.0, two_added old keys.0 broken.0 mid new keys.1 broken.1, (keys.0, broken.0, refl, keys.2, broken.2))
