-- What is equal by some steps is what renames that stand for them call the same.
use Rattle.std.proofs.Common.{◌≡◌, ◌↔◌, List, sym, ap, ◌∙◌}
use Rattle.su_base.specs.declared.values.Value.{Value}
use Rattle.su_fd.specs.declared.dependencies.Fd.{Fd}
use Rattle.su_tableau.specs.declared.symbols.Sym.{Sym}
use Rattle.su_tableau.specs.declared.symbols.Sym.TheVariants.{Const}
use Rattle.su_clash.specs.declared.renaming.Rename.{Rename}
use Rattle.su_clash.specs.declared.steps.Step.{Step}
use Rattle.su_clash.specs.Derivations.{AreEqualBy, Clashes}
use Rattle.su_clash.specs.inside.Renames.{renamed, AreRenamesOf}

module _ (fds : List Fd) (rows : List (List Sym)) (steps : List Step) (renames : List Rename) (are : AreRenamesOf fds rows steps renames) where
  pub equal_names : (x y : Sym) → AreEqualBy fds rows steps x y ↔ (renamed renames x ≡ renamed renames y)
  equal_names x y = (
    λ equal. equal (renamed renames) are.kept,
    λ same label keeps. are.sound label keeps x ∙ ap label same ∙ sym (are.sound label keeps y),
  )

  -- where constants are called by themselves, no two different ones are equal
  pub no_clash : (one other : Value) → ¬ Clashes fds rows steps one other
  no_clash one other c =
      let same : Const one ≡ Const other = sym (are.names.constants one) ∙ (equal_names (Const one) (Const other)).0 c.equal ∙ are.names.constants other in
      c.differ (cc)
