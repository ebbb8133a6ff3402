-- The number is above all variables of the head and the rows so far, and each bound of the tableau's variables is no less than it.
use Rattle.std.proofs.Common.{[], get_or, subst, sym, arith, below_more}
use Rattle.std.proofs.lemmas.List.Elements.{All-from_get_or}
use Rattle.su_tableau.specs.Tableaux.{AreBelow}
use Rattle.su_tableau.proofs.Rows.{below_up}
use Rattle.su_tableau.proofs.tableaux.Tableau.symbols.Goals as goal

pub loop-i-init : goal.loop-i-init
loop-i-init c = record {
  small = c.above-top.ensures.small;
  head = subst (AreBelow c.above-top.result) c.head.ensures c.above-top.ensures.above;
  rows = λ n h. absurd (omega arith);
  least = λ m below. c.above-top.ensures.least m (omega arith) (subst (AreBelow m) (sym c.head.ensures) below.head);
}

pub loop-i-preserved : goal.loop-i-preserved
loop-i-preserved c =
    let new = c.above-top-in-loop-i.result in
    let up = c.above-top-in-loop-i.ensures.no_less in
    record {
      small = c.above-top-in-loop-i.ensures.small;
      head = below_up c.args.self.now.head c.loop-i.top new up c.loop-i.invariant.head;
      rows = below_more (λ n. AreBelow new (get_or c.args.self.now.rows n [])) c.loop-i.i (λ n h. below_up (get_or c.args.self.now.rows n []) c.loop-i.top new up (c.loop-i.invariant.rows n h))
          (subst (AreBelow new) c.row.ensures.is c.above-top-in-loop-i.ensures.above);
      least = λ m below. c.above-top-in-loop-i.ensures.least m (c.loop-i.invariant.least m below) (subst (AreBelow m) (sym c.row.ensures.is) (below.rows c.loop-i.i [] (omega arith)));
    }

pub returns : goal.returns
returns c = record {
  below = record {
    head = c.loop-i.invariant.head;
    rows = All-from_get_or (AreBelow c.loop-i.top) c.args.self.now.rows [] (λ i h. c.loop-i.invariant.rows i (omega arith));
  };
  least = c.loop-i.invariant.least;
}
