-- Rows that agree have one digest, so that a digest without a place is that of no row.
use Rattle.std.proofs.Common.{Bool, true, false, pos, ◌≡◌, ◌++◌, ◌∷◌, ℕ, zero, suc, List, [], length, get_or, slice_get, cond, Result, Ok, Err, ap, refl, sym, ◌∙◌, subst, arith, inl, inr, Contains}
use Rattle.std.specs.Prelude.{IsTrue, OnOk}
use Rattle.std.specs.FinSet.{FinSet, contains, is_subset, is_subset-contains}
use Rattle.std.specs.HashMap.{HashMap}
use Rattle.std.specs.Option.{unwrap_or}
use Rattle.std.specs.Ordering.{nat_cmp}
use Rattle.std.proofs.lemmas.Cmp.{nat_cmp_total}
use Rattle.std.proofs.lemmas.Option.{unwrap_or-slice_get}
use Rattle.std.proofs.lemmas.List.Elements.{Contains-append_cases}
use Rattle.su_base.specs.declared.values.Value.{Value}
use Rattle.su_base.specs.declared.values.Value.TheVariants.{Int}
use Rattle.su_index.specs.declared.alike.Alike.{Alike}
use Rattle.su_index.specs.declared.alike.Alike.TheVariants.{Nowhere, MaybeAt, Unknown}
use Rattle.su_index.specs.declared.notes.Notes.{Notes}
use Rattle.su_index.specs.Notes.{AgreeAt, Tells}
use Rattle.su_index.specs.inside.Notes.{digest_with, digest_at, digest_of, IsNoted, AreNoted, AllAreNotes}

same_at : (row other : List Value) (c : ℕ) (d : Value) → slice_get row c ≡ slice_get other c → get_or row c d ≡ get_or other c d
same_at row other c d same = sym (unwrap_or-slice_get row c d) ∙ ap (λ o. unwrap_or o d) same ∙ unwrap_or-slice_get other c d

digest_at-same : (columns : FinSet nat_cmp) (row other : List Value) (n : ℕ) → AgreeAt columns row other → digest_at columns row n ≡ digest_at columns other n
digest_at-same columns row other zero agree = refl
digest_at-same columns row other (suc n) agree =
    let rest = digest_at-same columns row other n agree in
    elim (contains columns n) as (λ b. contains columns n ≡ b → cond b (digest_with (digest_at columns row n) (get_or row n (Int (pos 0)))) (digest_at columns row n) ≡ cond b (digest_with (digest_at columns other n) (get_or other n (Int (pos 0)))) (digest_at columns other n)) [
      | true ↦ λ e.
          let value : get_or row n (Int (pos 0)) ≡ get_or other n (Int (pos 0)) = same_at row other n (Int (pos 0)) (agree n e) in
          rw (rest, value) refl
      | false ↦ λ e. rest
    ] refl

pub digest-same : (columns : FinSet nat_cmp) (row other : List Value) → length row ≡ length other → AgreeAt columns row other → digest_of columns row ≡ digest_of columns other
digest-same columns row other len agree = ap (digest_at columns row) len ∙ digest_at-same columns row other (length other) agree

-- one row more is noted
pub noted_more : {S E : Type 0} (r : Result (Unit {0}) E) (whole : Bool) (columns : FinSet nat_cmp) (old new : HashMap ℕ ℕ S) (rows : List (List Value)) (row : List Value)
    → (IsTrue whole → AreNoted columns old rows)
    → ((other : List Value) → IsNoted columns old other → IsNoted columns new other)
    → OnOk r (IsNoted columns new row)
    → OnOk r (IsTrue whole → AreNoted columns new (rows ++ row ∷ []))
noted_more (Err e) whole columns old new rows row before kept noted = tt
noted_more (Ok u) whole columns old new rows row before kept noted = λ is other there.
    elim (Contains-append_cases rows (row ∷ []) other there) [
      | inl early ↦ kept other (before is other early)
      | inr (zero, within, same) ↦ subst (IsNoted columns new) same noted
      | inr (suc k, within, same) ↦ absurd (omega arith)
    ]

-- notes of rows are notes of some of them
pub notes_fewer : (old new : List (List Value)) (all : List Notes) → ((row : List Value) → Contains new row → Contains old row) → AllAreNotes old all → AllAreNotes new all
notes_fewer old new all fewer notes k d h whole row there = notes k d h whole row (fewer row there)

-- what is told of fewer columns holds of more
pub Tells-more : (held columns : FinSet nat_cmp) (rows : List (List Value)) (row : List Value) (told : Alike) → IsTrue (is_subset held columns) → Tells held rows row told → Tells columns rows row told
Tells-more held columns rows row Nowhere within none =
    λ other there agree. none other there (λ c on. agree c (is_subset-contains nat_cmp_total held columns within c on))
Tells-more held columns rows row (MaybeAt p) within below = below
Tells-more held columns rows row Unknown within u = tt
