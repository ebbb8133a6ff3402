-- The entries of the columns so far tell which rows are alike there, and filling a column leaves those of the columns before it as they are.
use Rattle.std.proofs.Common.{◌≡◌, ◌+◌, ◌*◌, ◌<◌, ◌↔◌, length, get_or, sym, subst, arith, below_more}
use Rattle.std.specs.Int.{bit_at}
use Rattle.su_tableau.specs.declared.symbols.Sym.{Sym}
use Rattle.su_map.specs.Lists.{row_of}
use Rattle.su_map.specs.inside.Targets.{AreAlikeAt}
use Rattle.su_map.proofs.sides.fill_alike.Goals as goal

pub loop-column-preserved : goal.loop-column-preserved
loop-column-preserved c =
    let to = c.args.to.now in let n = c.loop-column.column in
    below_more (λ e. AreAlikeAt to e c.fill_column.new.alike) n
    (λ e l p j low. subst (λ w. (bit_at w j ≡ 1) ↔ ((j < length to.rows) × ((d : Sym) → get_or (row_of to p) e d ≡ get_or (row_of to j) e d))) (sym (c.fill_column.ensures.before (e * 64 + p) (let s = c.keeps_its_rules.ensures.small.rows in omega arith))) (c.loop-column.invariant e l p j low))
    c.fill_column.ensures.filled
