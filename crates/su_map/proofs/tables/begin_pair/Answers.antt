-- The entries of the rows so far are the others, and the next entry has a place of its own, past all that stood before the table.
use Rattle.std.proofs.Common.{◌≡◌, ◌+◌, ◌∙◌, get_or, arith, get_or-set_other, get_or-set_same, set, below_more}
use Rattle.su_map.proofs.tables.begin_pair.Goals as goal

pub loop-p-preserved : goal.loop-p-preserved
loop-p-preserved c =
    let start = c.args.start in let n = c.loop-p.p in let old = c.loop-p.agree in let v = c.args.others in
    record {
      before = λ x l. get_or-set_other old (start + n) x v 0 (omega arith) ∙ c.loop-p.invariant.before x l;
      begun = below_more (λ p. get_or (set old (start + n) v) (start + p) 0 ≡ v) n
          (λ p l. get_or-set_other old (start + n) (start + p) v 0 (omega arith) ∙ c.loop-p.invariant.begun p l)
          (get_or-set_same old (start + n) v 0 (omega arith));
    }
