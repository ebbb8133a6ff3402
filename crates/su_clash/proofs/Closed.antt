-- Names by which no rows break a dependency are a closed partition.
use Rattle.std.proofs.Common.{◌≡◌, List, [], get_or, sym, ap, ◌∙◌, subst, inl, inr}
use Rattle.std.specs.FinSet.{FinSet, empty}
use Rattle.std.specs.Ordering.{nat_cmp}
use Rattle.std.proofs.lemmas.Bool.{cases_Bool, false≢true}
use Rattle.std.proofs.lemmas.List.{get_or_default}
use Rattle.su_fd.specs.declared.dependencies.Fd.{Fd}
use Rattle.su_tableau.specs.declared.symbols.Sym.{Sym}
use Rattle.su_tableau.specs.declared.symbols.Sym.TheVariants.{Const}
use Rattle.su_chase.specs.Chase.{SameLabels, IsClosedPartition, IsConsistent}
use Rattle.su_clash.specs.declared.renaming.Rename.{Rename}
use Rattle.su_clash.specs.declared.steps.Step.{Step}
use Rattle.su_clash.specs.Derivations.{fd_of}
use Rattle.su_clash.specs.inside.Renames.{is_same, renamed, AreNames, FollowsBy, NoneBreaks}
use Rattle.su_clash.proofs.Names.{same_is, same_itself}

-- two symbols that can't differ are one
pub stable : (x y : Sym) → ((x ≡ y → ⊥) → ⊥) → x ≡ y
stable x y never =
    elim (cases_Bool (is_same x y)) [
      | inl t ↦ same_is x y t
      | inr f ↦ absurd (never (λ e. false≢true (sym f ∙ ap (is_same x) (sym e) ∙ same_itself x)))
    ]

pub labels_stable : (label : Sym → Sym) (s : FinSet nat_cmp) (r q : List Sym) → ((SameLabels label s r q → ⊥) → ⊥) → SameLabels label s r q
labels_stable label s r q never a d has = stable (label (get_or r a d)) (label (get_or q a d)) (λ differ. never (λ same. differ (same a d has)))

module _ (fds : List Fd) (rows : List (List Sym)) (renames : List Rename) (none : NoneBreaks fds rows renames) where
  pub closed : IsClosedPartition fds rows (renamed renames)
  closed f r q (i, i_low, i_is) (j, j_low, j_is) (k, k_low, k_is) left =
      let s : Step = record { fd = i; first = j; second = k } in
      let f_is : fd_of fds s ≡ f = get_or_default fds i (record { left = empty; right = empty }) f i_low ∙ i_is in
      let r_is : get_or rows j [] ≡ r = get_or_default rows j [] r j_low ∙ j_is in
      let q_is : get_or rows k [] ≡ q = get_or_default rows k [] q k_low ∙ k_is in
      let follows : FollowsBy fds rows renames s =
      record {
        named = record { fd = i_low; first = j_low; second = k_low };
        left =
            subst (λ (g : Fd). SameLabels (renamed renames) g.left (get_or rows j []) (get_or rows k [])) (sym f_is)
            (subst (λ (x : List Sym). SameLabels (renamed renames) f.left x (get_or rows k [])) (sym r_is) (subst (λ (x : List Sym). SameLabels (renamed renames) f.left r x) (sym q_is) left));
      } in
      let right : SameLabels (renamed renames) (fd_of fds s).right (get_or rows j []) (get_or rows k []) =
      labels_stable (renamed renames) (fd_of fds s).right (get_or rows j []) (get_or rows k []) (λ broken. none s (record { follows = follows; broken = broken })) in
      subst (λ (x : List Sym). SameLabels (renamed renames) f.right r x) q_is
      (subst (λ (x : List Sym). SameLabels (renamed renames) f.right x (get_or rows k [])) r_is
      (subst (λ (g : Fd). SameLabels (renamed renames) g.right (get_or rows j []) (get_or rows k [])) f_is right))

  -- no class has two constants
  pub consistent : AreNames renames → IsConsistent fds rows
  consistent names a b together =
      let same : Const a ≡ Const b = sym (names.constants a) ∙ together (renamed renames) closed ∙ names.constants b in
      cc
