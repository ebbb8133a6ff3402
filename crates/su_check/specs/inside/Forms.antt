-- The board of a term whose form is looked at.
-- board: the variables of a term's rows, and for each cell the number of its variable; good in form: as in Certificate
-- x: a term of a certificate; place: where it stands among the terms, from 0; kinds: one for each column
-- No public contract cites this module.
use Rattle.std.specs.Prelude.{ℕ, List, Option, MatchOption}
use Rattle.su_base.specs.declared.values.Kind.{Kind}
use Rattle.su_check.specs.declared.certificates.StatedTerm.{StatedTerm}
use Rattle.su_check.specs.declared.boards.Board.{Board}
use Rattle.su_check.specs.Certificate.{lines_of, IsGoodForm}
use Rattle.su_check.specs.inside.Boards.{IsBoard}

-- the term is good in form, and this is its board; or it isn't
abbrev pub IsBoardIfGood : List Kind → ℕ → StatedTerm → Option Board → Type 0
IsBoardIfGood kinds place x board = MatchOption board (¬ IsGoodForm kinds place x) (λ b. IsGoodForm kinds place x × IsBoard (lines_of x) b)
