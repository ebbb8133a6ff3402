-- There is a place for each variable, since their count is no more than the places, and all rows are in the mask; so each is noted at its variables.
use Rattle.std.proofs.Common.{◌^◌, ◌∙◌, length, ap, sym, subst, arith}
use Rattle.su_tableau.specs.Tableaux.{AreVarsBelow}
use Rattle.su_map.proofs.Members.{full_member}
use Rattle.su_map.proofs.NotedRows.{vars_below}
use Rattle.su_map.proofs.sides.note_targets.Goals as goal

pub note_rows-requires : goal.note_rows-requires
note_rows-requires c = vars_below c.args.to.now c.symbols.result (length c.args.rows_at.now) (omega arith) c.symbols.ensures.below

pub returns : goal.returns
returns c = λ yes.
    let to = c.args.to.now in
    let all = c.full.ensures ∙ ap (λ n. 2 ^ n) c.row_count.ensures.is in
    record {
      symbols = subst (λ n. AreVarsBelow n to) (sym c.note_rows.auto.rows_of) (vars_below to c.symbols.result (length c.args.rows_at.now) (omega arith) c.symbols.ensures.below);
      rows = λ j k low has. c.note_rows.ensures.noted j low ((full_member c.full.result (length to.rows) j all).1 low) k has;
    }
