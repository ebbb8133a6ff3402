-- Each symbol read is in a row, and so has a name; where one of the names isn't a constant, the row has no constants at these attributes.
use Rattle.std.proofs.Common.{◌∙◌, ℕ, get_or, sym}
use Rattle.std.proofs.lemmas.List.{get_or_default}
use Rattle.su_tableau.specs.declared.symbols.Sym.TheVariants.{Var}
use Rattle.su_window.proofs.Constants.{no_constants}
use Rattle.su_window.proofs.windows.constants.Goals as goal

pub constant-requires : goal.constant-requires
constant-requires c = λ k e.
    let i = c.loop-a.a-index in
    let a : ℕ = get_or c.args.attributes.now i 0 in
    let low = c.requires.within i 0 c.loop-a-test.true in
    c.requires.below k (a, low, get_or_default c.args.row.now a (Var k) c.index-row-a.result low ∙ sym c.index-row-a.is ∙ e)

pub returns-in-None : goal.returns-in-None
returns-in-None c =
    let i = c.loop-a.a-index in
    let attributes = c.args.attributes.now in
    let a : ℕ = get_or attributes i 0 in
    no_constants c.args.names.now c.args.row.now attributes i a c.index-row-a.result c.loop-a-test.true (get_or_default attributes i 0 a c.loop-a-test.true) (c.requires.within i 0 c.loop-a-test.true) c.index-row-a.is c.in-None.ensures
