-- The targets that hold at the column what the target holds at the shared one: the table has them where the columns are the same, and else they are looked for.
use Rattle.std.proofs.Common.{◌∙◌, get_or, sym, ap, arith}
use Rattle.std.proofs.lemmas.Option.{same_Some}
use Rattle.su_map.specs.Lists.{row_of}
use Rattle.su_map.proofs.Cells.{read_holds}
use Rattle.su_map.proofs.tables.agreeing_at.Goals as goal

pub returns-then-c-column : goal.returns-then-c-column
returns-then-c-column c = λ j.
    let to = c.args.to.now in let p = c.args.target in
    let f = c.both.ensures j in
    let same = c.requires.alike c.args.column c.requires.column p j c.requires.target in (
      λ h. let r = f.0 h in (r.0, λ a d e. ap (λ a. get_or (row_of to p) a d) (sym (same_Some c.in-Some.c a (sym c.in-Some.is ∙ e)) ∙ c.if-c-column.true) ∙ (same.0 r.1).1 d),
      λ h. f.1 (h.0, same.1 (c.requires.within j h.0, λ d. ap (λ a. get_or (row_of to p) a d) (sym c.if-c-column.true) ∙ h.1 c.in-Some.c d c.in-Some.is)),
    )

pub returns-else-c-column : goal.returns-else-c-column
returns-else-c-column c = λ j.
    let to = c.args.to.now in let p = c.args.target in let at = c.in-Some.c in
    let x = c.index-row-c.result in
    let low = c.requires.shared at c.in-Some.is in
    let there = read_holds to p at c.row.result.now x c.row.ensures.is (omega arith) c.index-row-c.is in
    let f = c.holding.ensures j in (
      λ h. let r = f.0 h in (r.1, λ a d e. ap (λ a. get_or (row_of to p) a d) (sym (same_Some at a (sym c.in-Some.is ∙ e))) ∙ there d ∙ sym (r.2 d)),
      λ h. f.1 (c.requires.within j h.0, h.0, λ d. sym (h.1 at d c.in-Some.is) ∙ there d),
    )
