-- For each target the entry is what agrees with it at the columns so far: at none it is all of the others, and each column cuts down every entry alike.
use Rattle.std.proofs.Common.{◌+◌, ◌∙◌, get_or, sym, subst, arith}
use Rattle.su_map.proofs.AgreementTable.{AreToldTo, told_none, told_next, told_all}
use Rattle.su_map.proofs.tables.fill_pair.Goals as goal

pub loop-e-init : goal.loop-e-init
loop-e-init c = record {
  before = c.begin_pair.ensures.before;
  filled = λ p l one. subst (AreToldTo c.args.to.now c.args.columns.now p c.args.others 0) (sym (c.begin_pair.ensures.begun p l)) (told_none c.args.to.now c.args.columns.now p c.args.others);
}

pub agree_at-requires-clause-shared : goal.agree_at-requires-clause-shared
agree_at-requires-clause-shared c = λ a is. c.requires.columns c.loop-e.e a (omega arith) is

pub agree_at-requires-clause-within : goal.agree_at-requires-clause-within
agree_at-requires-clause-within c = λ p j l one h. c.requires.within j ((c.loop-e.invariant.filled p l one j).0 h).0

pub loop-e-preserved : goal.loop-e-preserved
loop-e-preserved c = record {
  before = λ x l. c.agree_at.ensures.before x l ∙ c.loop-e.invariant.before x l;
  filled = λ p l one. told_next c.args.to.now c.args.columns.now p c.args.others c.loop-e.e (get_or c.loop-e.agree (c.args.start + p) 0) (get_or c.agree_at.new.agree (c.args.start + p) 0) (c.loop-e.invariant.filled p l one) (c.agree_at.ensures.told p l one);
}

pub returns-clause-filled : goal.returns-clause-filled
returns-clause-filled c = λ p l one. told_all c.args.to.now c.args.columns.now p c.args.others c.loop-e.e (get_or c.loop-e.agree (c.args.start + p) 0) (omega arith) (omega arith) (c.loop-e.invariant.filled p l one)
