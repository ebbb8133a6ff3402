-- What is left so far are the masked targets that fit at the columns so far; a row goes to a target by itself exactly where every cell fits.
use Rattle.std.proofs.Common.{ℕ, List, length, sym, ap, ◌∙◌, ◌^◌, subst, arith, below_more}
use Rattle.su_tableau.specs.declared.symbols.Sym.{Sym}
use Rattle.su_map.specs.Lists.{row_of}
use Rattle.su_map.specs.inside.Targets.{CellFits, IsPlain}
use Rattle.su_map.proofs.Members.{full_member}
use Rattle.su_map.proofs.Cells.{Fits, cells_fit, fits_cells}
use Rattle.su_map.proofs.targets.targets_of.Goals as goal

pub fitting-left-requires-clause-plain : goal.fitting-left-requires-clause-plain
fitting-left-requires-clause-plain c = λ no. subst IsPlain (sym c.row-cells.ensures.is) (c.requires.plain no)

pub loop-column-init : goal.loop-column-init
loop-column-init c = λ j.
    let f = full_member c.full.result (length c.args.to.now.rows) j (c.full.ensures ∙ ap (λ n. 2 ^ n) c.row_count.ensures.is) in
    let b = c.both-left.ensures j in (
      λ h. let r = b.0 h in (f.0 r.1, r.0, λ i l. absurd (omega arith)),
      λ h. b.1 (h.1, f.1 h.0),
    )

pub loop-column-preserved : goal.loop-column-preserved
loop-column-preserved c = λ j.
    let i = c.loop-column.invariant j in
    let f = c.fitting-left.ensures j in
    let P = λ (column : ℕ). CellFits c.args.from.now.head c.args.to.now.head c.row-cells.result.now (row_of c.args.to.now j) column in
    let P' = λ (head : List Sym). CellFits head c.args.to.now.head c.row-cells.result.now (row_of c.args.to.now j) c.loop-column.column in (
      λ h. let r = f.0 h in let s = i.0 r.1 in (r.0, s.1, below_more P c.loop-column.column s.2 (subst P' c.head.ensures r.2)),
      λ h. f.1 (h.0, i.1 (h.0, h.1, λ q l. h.2 q (omega arith)), subst P' (sym c.head.ensures) (h.2 c.loop-column.column (omega arith))),
    )

pub returns : goal.returns
returns c = λ j.
    let i = c.loop-column.invariant j in
    let from = c.args.from.now in let to = c.args.to.now in
    let cells = c.row-cells.result.now in
    let is = c.row-cells.ensures.is in (
      λ h.
          let r = i.0 h in
          let f = subst (λ row. Fits from.head to.head row (row_of to j)) is (cells_fit from.head to.head cells (row_of to j) c.requires.head_agrees (λ q l. r.2 q (omega arith))) in
          (r.0, r.1, record { constants = f.constants; head_symbols = f.head_symbols; itself = f.itself }),
      λ h.
          let t = h.2 in
          let f : Fits from.head to.head cells (row_of to j) = subst (λ row. Fits from.head to.head row (row_of to j)) (sym is) (record { constants = t.constants; head_symbols = t.head_symbols; itself = t.itself }) in
          i.1 (h.0, h.1, λ q l. fits_cells from.head to.head cells (row_of to j) f q),
    )
