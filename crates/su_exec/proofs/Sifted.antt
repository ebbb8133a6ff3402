-- What is left of candidates that lose rows.
use Rattle.std.proofs.Common.{◌≡◌, ℕ, Bool, true, List, [], length, get_or, Contains, refl, sym, ap, subst, ◌∙◌}
use Rattle.std.specs.Prelude.{map}
use Rattle.std.proofs.lemmas.List.{get_or_default}
use Rattle.su_reduce.specs.Left.{marked}
use Rattle.su_reduce.proofs.MarkedItems.{marked_from, marked_has}
use Rattle.su_exec.specs.inside.Edges.{Edge}
use Rattle.su_exec.specs.inside.Sifts.{AreMarks, IsSifted}

pub sifted : (t : List ℕ → List ℕ → Bool) (a : Edge ℕ) (marks : List Bool) → AreMarks t a.rows (length a.rows) marks → IsSifted t a (record { vars = a.vars; rows = marked marks a.rows })
sifted t a marks exact = record {
  vars = refl;
  rows = λ v. (
    λ f.
        let s = marked_from marks a.rows (map v a.vars) f in
        let at : get_or a.rows s.0 [] ≡ map v a.vars = get_or_default a.rows s.0 [] (map v a.vars) s.1 ∙ s.3 in
        ((s.0, s.1, s.3), ap (λ r. t r r) (sym at) ∙ sym (exact s.0 s.1) ∙ s.2),
    λ both.
        let f = both.0 in
        let at : get_or a.rows f.0 [] ≡ map v a.vars = get_or_default a.rows f.0 [] (map v a.vars) f.1 ∙ f.2 in
        subst (λ r. Contains (marked marks a.rows) r) at (marked_has marks a.rows f.0 [] f.1 (exact f.0 f.1 ∙ ap (λ r. t r r) at ∙ both.1)),
  );
}

-- where every pair passes, nothing is lost
pub nothing_sifted : (t : List ℕ → List ℕ → Bool) (a : Edge ℕ) → ((r : List ℕ) → t r r ≡ true) → IsSifted t a a
nothing_sifted t a every = record {
  vars = refl;
  rows = λ v. (λ f. (f, every (map v a.vars)), λ both. both.0);
}
