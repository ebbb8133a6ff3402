-- The lines of maximal objects, one more at the end: whatever follows them tells of the later ones.
use Rattle.std.proofs.Common.{ℕ, suc, ◌≡◌, ◌+◌, ◌<◌, Bool, true, false, List, [], ◌∷◌, ◌++◌, drop, length, get_or, refl, sym, ap, ◌∙◌, subst, arith, append_assoc, append-nil}
use Rattle.std.specs.Prelude.{◌||◌}
use Rattle.std.proofs.Math.Seq.{drop-cons, drop-length}
use Rattle.std.specs.Ordering.{nat_cmp}
use Rattle.std.specs.FinSet.{FinSet}
use Rattle.su_schema.specs.SchemaValue.{SchemaValue}
use Rattle.su_report.specs.MaximalParts.{HangsBy, Hang}
use Rattle.su_report.specs.inside.Added.{AddsFaults}

-- before the k-th this was told, and with what is told from there on it is all
pub record IsHung (schema : SchemaValue) (maximal : List (FinSet nat_cmp)) (k : ℕ) (fault : Bool) (old new : List ℕ) : Type 0 where
  pub text : List ℕ
  pub told : new ≡ old ++ text
  pub leads : (later : Bool) (rest : List ℕ) → Hang schema k (drop k maximal) later rest → Hang schema 0 maximal (fault || later) (text ++ rest)

or_assoc : (a b c : Bool) → ((a || b) || c) ≡ (a || (b || c))
or_assoc true b c = refl
or_assoc false b c = refl

or_false : (a : Bool) → (a || false) ≡ a
or_false true = refl
or_false false = refl

pub hung_none : (schema : SchemaValue) (maximal : List (FinSet nat_cmp)) (old : List ℕ) → IsHung schema maximal 0 false old old
hung_none schema maximal old = record { text = []; told = sym (append-nil old); leads = λ later rest hang. hang }

module _ (schema : SchemaValue) (maximal : List (FinSet nat_cmp)) (k : ℕ) (m : FinSet nat_cmp) (low : k < length maximal) (m_is : m ≡ get_or maximal k m) (fault here : Bool) (old mid new : List ℕ) where
  splits : drop k maximal ≡ m ∷ drop (k + 1) maximal
  splits = drop-cons maximal k m low ∙ ap (λ x. x ∷ drop (suc k) maximal) (sym m_is) ∙ ap (λ j. m ∷ drop j maximal) (let e : suc k ≡ k + 1 = omega arith in e)

  pub hung_next : IsHung schema maximal k fault old mid → AddsFaults (HangsBy schema k m) mid new here → IsHung schema maximal (k + 1) (fault || here) old new
  hung_next so_far added =
      let line = added.0 in
      record {
        text = so_far.text ++ line;
        told = added.1 ∙ ap (λ t. t ++ line) so_far.told ∙ append_assoc old so_far.text line;
        leads = λ later rest more.
            let own : Hang schema k (m ∷ drop (k + 1) maximal) (here || later) (line ++ rest) = (here, later, line, rest, refl, refl, added.2, more) in
            let all : Hang schema 0 maximal (fault || (here || later)) (so_far.text ++ (line ++ rest)) =
            so_far.leads (here || later) (line ++ rest) (subst (λ (ms : List (FinSet nat_cmp)). Hang schema k ms (here || later) (line ++ rest)) (sym splits) own) in
            subst (λ (t : List ℕ). Hang schema 0 maximal ((fault || here) || later) t) (sym (append_assoc so_far.text line rest))
            (subst (λ (b : Bool). Hang schema 0 maximal b (so_far.text ++ (line ++ rest))) (sym (or_assoc fault here later)) all);
      }

pub hung_all : (schema : SchemaValue) (maximal : List (FinSet nat_cmp)) (k : ℕ) (fault : Bool) (old new : List ℕ) → k ≡ length maximal → IsHung schema maximal k fault old new → AddsFaults (Hang schema 0 maximal) old new fault
hung_all schema maximal k fault old new end so_far =
    let none : drop k maximal ≡ [] = ap (λ j. drop j maximal) end ∙ drop-length maximal in
    let all : Hang schema 0 maximal (fault || false) (so_far.text ++ []) = so_far.leads false [] (subst (λ (ms : List (FinSet nat_cmp)). Hang schema k ms false []) (sym none) (refl, refl)) in (
      so_far.text,
      so_far.told,
      subst (λ (b : Bool). Hang schema 0 maximal b so_far.text) (or_false fault) (subst (λ (t : List ℕ). Hang schema 0 maximal (fault || false) t) (append-nil so_far.text) all),
    )
