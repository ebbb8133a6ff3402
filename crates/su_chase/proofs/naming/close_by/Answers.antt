-- The table holds the least closed classes of the items, so an item's name is read off its class, and a class with two constants is a clash.
use Rattle.std.proofs.Common.{◌<◌, ℕ, List, get_or, subst, sym, arith}
use Rattle.std.specs.Prelude.{All}
use Rattle.su_tableau.specs.declared.symbols.Sym.TheVariants.{Var}
use Rattle.su_tableau.specs.Tableaux.{AreBelow}
use Rattle.su_chase.specs.inside.Rows.{IsTableOf}
use Rattle.su_chase.proofs.Tabled.{name_is, clash_told}
use Rattle.su_chase.proofs.naming.close_by.Goals as goal

pub returns-clause-all : goal.returns-clause-all
returns-clause-all c = subst (λ (n : ℕ). All (AreBelow n) c.args.rows.now) (sym c.in_ok-names.ensures.each) c.limit_of-limit.ensures.above

pub returns-clause-names : goal.returns-clause-names
returns-clause-names c = λ k l.
    let limit = c.limit_of-limit.result in
    let each = c.in_ok-names.ensures.each in
    let low : k < limit = omega arith in
    let t : IsTableOf c.args.constants.now limit c.args.fds.now c.args.rows.now c.as_slice-table.result.now =
    subst (λ (table : List ℕ). IsTableOf c.args.constants.now limit c.args.fds.now c.args.rows.now table) (sym c.as_slice-table.ensures.value) c.in_ok-table.ensures in
    name_is c.args.constants.now limit c.args.fds.now c.args.rows.now c.requires.rows c.requires.all c.requires.ascending c.limit_of-limit.ensures.above c.as_slice-table.result.now t k (get_or c.in_ok-names.names k (Var k)) low (c.in_ok-names.ensures.names k low)

pub returns-clause-clash : goal.returns-clause-clash
returns-clause-clash c =
    let limit = c.limit_of-limit.result in
    let t : IsTableOf c.args.constants.now limit c.args.fds.now c.args.rows.now c.as_slice-table.result.now =
    subst (λ (table : List ℕ). IsTableOf c.args.constants.now limit c.args.fds.now c.args.rows.now table) (sym c.as_slice-table.ensures.value) c.in_ok-table.ensures in
    clash_told c.args.constants.now limit c.args.fds.now c.args.rows.now c.requires.rows c.requires.all c.requires.ascending c.limit_of-limit.ensures.above c.as_slice-table.result.now t c.in_ok-clash.clash c.in_ok-clash.ensures
