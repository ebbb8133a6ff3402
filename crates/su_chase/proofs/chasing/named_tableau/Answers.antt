-- The head's variables stand in the rows, so they have names too, and naming symbols alike leaves the tableau valid.
use Rattle.std.proofs.Common.{List, length, refl, subst, sym}
use Rattle.std.specs.Prelude.{All}
use Rattle.su_tableau.specs.declared.symbols.Sym.{Sym}
use Rattle.su_tableau.specs.Tableaux.{AreBelow}
use Rattle.su_chase.specs.inside.Rows.{name_by}
use Rattle.su_chase.proofs.NamedAnswers.{valid, head_below}
use Rattle.su_chase.proofs.chasing.named_tableau.Goals as goal

pub named-requires : goal.named-requires
named-requires c =
    let n = length c.args.names.now in
    subst (AreBelow n) (sym c.head.ensures)
    (head_below c.args.t.now c.keeps_its_rules.ensures.valid n (subst (λ (rows : List (List Sym)). All (AreBelow n) rows) c.requires.rows c.requires.all))

pub new-requires-clause-valid : goal.new-requires-clause-valid
new-requires-clause-valid c =
    rw (c.width.ensures, c.in_ok-rows.ensures, c.in_ok-head.ensures, c.outputs.ensures, c.from_vec-operators.ensures, c.in_ok-from_slice.ensures.items, c.requires.rows, c.head.ensures, c.operators.ensures) (valid c.args.t.now (name_by c.args.names.now) (λ v. refl) c.keeps_its_rules.ensures.valid)
