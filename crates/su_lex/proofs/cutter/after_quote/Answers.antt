-- A quoted part is its first quote, the bytes before the next one, and that quote; where no quote follows, it takes the whole rest.
use Rattle.std.proofs.Common.{drop, arith, List, ℕ, subst, ◌∷◌}
use Rattle.std.proofs.lemmas.List.{take_rest, nil_from_length}
use Rattle.su_lex.specs.Pieces.{Part}
use Rattle.su_lex.proofs.Cuts.{quote_at}
use Rattle.su_lex.proofs.cutter.after_quote.Goals as goal

pub returns-in-empty-clause-part : goal.returns-in-empty-clause-part
returns-in-empty-clause-part c =
    let n = c.unquoted_bytes.result in
    let less = rw take_rest at c.in-empty.len_below in
    let nil = nil_from_length (drop n c.args.content.now) (omega arith) in
    subst (λ (v : List ℕ). Part (39 ∷ c.args.content.now) (drop 1 v)) nil (quote_at c.args.content.now n c.unquoted_bytes.ensures.count)

pub returns-in-len1-up-clause-part : goal.returns-in-len1-up-clause-part
returns-in-len1-up-clause-part c = rw (take_rest, take_rest) (quote_at c.args.content.now c.unquoted_bytes.result c.unquoted_bytes.ensures.count)
