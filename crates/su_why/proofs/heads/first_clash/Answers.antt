-- None of the places so far clashes; past the end of the shorter the longer one does.
use Rattle.std.proofs.Common.{List, length, sym, ap, subst, ◌∙◌, arith}
use Rattle.std.proofs.lemmas.Bool.{true≢false}
use Rattle.su_base.specs.declared.values.Value.{Value}
use Rattle.su_why.specs.Heads.{IsClash}
use Rattle.su_why.proofs.Clashes.{no_clash_more, no_clash, longer_clash}
use Rattle.su_why.proofs.heads.first_clash.Goals as goal

pub returns-then-clashes_at : goal.returns-then-clashes_at
returns-then-clashes_at c = record {
  clash = subst (λ (h : List Value). IsClash c.args.outputs.now h c.loop-j.j) c.as_slice-h.ensures (c.clashes_at.ensures.0 c.if-clashes_at.true);
  first = c.loop-j.invariant;
}

pub loop-j-preserved : goal.loop-j-preserved
loop-j-preserved c =
    no_clash_more c.args.outputs.now c.args.row.now c.loop-j.j c.loop-j.invariant
    (λ clash. true≢false (sym (c.clashes_at.ensures.1 (subst (λ (h : List Value). IsClash c.args.outputs.now h c.loop-j.j) (sym c.as_slice-h.ensures) clash)) ∙ c.if-clashes_at.false))

pub returns-then-symbols-values : goal.returns-then-symbols-values
returns-then-symbols-values c =
    let h = ap length c.as_slice-h.ensures in let m = c.min-both.ensures in
    let ne = c.if-symbols-values.true in let t = c.loop-j-test.false in
    longer_clash c.args.outputs.now c.args.row.now c.min-both.result (omega (arith, h, m)) (λ same. absurd (omega (arith, ne, h, same)))
    (λ i l. c.loop-j.invariant i (omega (arith, t, l)))

pub returns : goal.returns
returns c =
    let h = ap length c.as_slice-h.ensures in let m = c.min-both.ensures in
    let e = c.if-symbols-values.false in let t = c.loop-j-test.false in
    no_clash c.args.outputs.now c.args.row.now c.loop-j.j (omega (arith, h, m, e, t)) (omega (arith, h, e)) c.loop-j.invariant
