-- The number is above the variables of the cells so far, and each bound of the row that is no less than the start is no less than it.
use Rattle.std.proofs.Common.{◌∙◌, arith}
use Rattle.std.proofs.lemmas.List.{get_or_default}
use Rattle.su_tableau.specs.declared.symbols.Sym.TheVariants.{Var}
use Rattle.su_tableau.proofs.Rows.{above_more, var_read, contains_read}
use Rattle.su_tableau.proofs.tableaux.above.Goals as goal
use Rattle.su_tableau.proofs.tableaux.above.Goals.{in-Var+then-top-next, in-Var+else-top-next, in_default}

pub loop-x-preserved : goal.loop-x-preserved
loop-x-preserved c =
    let row = c.args.row.now in let n = c.loop-x.x-index in let x = c.x-item.result in
    elim c.match-x.branch [
      | in-Var+then-top-next w ↦ record {
        no_less = let e = w.top-is in let t = w.if-top-next.true in omega arith;
        small = let e = w.top-is in let r = w.in-Var.k in omega arith;
        above = above_more row n c.loop-x.top c.match-x.top (let e = w.top-is in let t = w.if-top-next.true in omega arith) c.loop-x.invariant.above (λ k at. let e = var_read row n w.in-Var.k k x c.loop-x-test.true c.x-item.is w.in-Var.is at in let s = w.top-is in omega arith);
        least = λ m l below. let low = below w.in-Var.k (contains_read row n x (Var w.in-Var.k) c.loop-x-test.true c.x-item.is w.in-Var.is) in let s = w.top-is in omega arith;
      }
      | in-Var+else-top-next w ↦ record {
        no_less = let e = w.top-is in omega arith;
        small = let e = w.top-is in omega arith;
        above = above_more row n c.loop-x.top c.match-x.top (let e = w.top-is in omega arith) c.loop-x.invariant.above (λ k at. let e = var_read row n w.in-Var.k k x c.loop-x-test.true c.x-item.is w.in-Var.is at in let s = w.top-is in let t = w.if-top-next.false in omega arith);
        least = λ m l below. let i = c.loop-x.invariant.least m l below in let s = w.top-is in omega arith;
      }
      | in_default w ↦ record {
        no_less = let e = w.top-is in omega arith;
        small = let e = w.top-is in omega arith;
        above = above_more row n c.loop-x.top c.match-x.top (let e = w.top-is in omega arith) c.loop-x.invariant.above (λ k at. absurd (w.in_default.not-Var k (c.x-item.is ∙ get_or_default row n x (Var k) c.loop-x-test.true ∙ at)));
        least = λ m l below. let i = c.loop-x.invariant.least m l below in let s = w.top-is in omega arith;
      }
    ]
