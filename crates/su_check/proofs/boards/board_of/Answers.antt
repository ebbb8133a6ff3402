-- The marks are given exactly where the rows have each variable of the head, and with them the numbers of the cells make the board.
use Rattle.std.proofs.Common.{sym, subst, Contains}
use Rattle.std.proofs.lemmas.Option.{MatchOption-at_none, MatchOption-at_some}
use Rattle.su_tableau.specs.Tableaux.{Occurs}
use Rattle.su_check.proofs.Boarded.{board_good, board_none}
use Rattle.su_check.proofs.boards.board_of.Goals as goal

pub all_numbers-requires-clause-there : goal.all_numbers-requires-clause-there
all_numbers-requires-clause-there c = λ k has. subst (λ v. Contains v k) (sym c.as_slice-in-Some.ensures) ((c.requires.all k).1 (subst (λ r. Occurs r k) c.as_slice-rows.ensures has))

pub returns-in_ok-numbers-in-Some : goal.returns-in_ok-numbers-in-Some
returns-in_ok-numbers-in-Some c =
    board_good c.args.term.now c.args.variables _ _ _ _ c.in-Some.marks _ c.in_ok-numbers-in-Some.numbers c.as_slice.ensures c.as_slice-in-Some.ensures c.as_slice-2.ensures c.as_slice-rows.ensures c.as_slice-in-Some-2.ensures
    c.requires.all (MatchOption-at_some _ _ c.in-Some.marks c.in-Some.is c.in_ok-marks.ensures) c.in_ok-numbers-in-Some.ensures.one_each c.in_ok-numbers-in-Some.ensures.rows

pub returns-in-None : goal.returns-in-None
returns-in-None c = board_none c.args.term.now c.args.variables _ _ c.as_slice.ensures c.as_slice-2.ensures c.requires.all (MatchOption-at_none _ _ c.in-None.is c.in_ok-marks.ensures)
