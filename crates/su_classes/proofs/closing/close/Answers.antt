-- Each labelling that keeps the dependencies and the equalities is constant on the classes so far; a sweep that changes nothing shows that the classes keep them, and others leave fewer classes.
use Rattle.std.proofs.Common.{◌≡◌, ◌<◌, ℕ, length, ◌∙◌, arith}
use Rattle.su_classes.specs.Tables.{rep}
use Rattle.su_classes.proofs.JoinedRows.{own_sound, own_equal}
use Rattle.su_classes.proofs.closing.close.Goals as goal

pub sweeps-init : goal.sweeps-init
sweeps-init c =
    let start = c.number.new.table in
    let own : (i : ℕ) → i < length start → rep start i ≡ i = λ i l. c.number.ensures.own i (let e = c.number.ensures.length in omega arith) in
    let j = c.join_all.ensures in
    let m = c.in_ok-rush.ensures in
    let s = c.flatten.ensures.shortened in
    record {
      same_length = s.same_length ∙ m.same_length ∙ j.same_length ∙ c.number.ensures.length;
      flat = c.flatten.ensures.flat;
      within = λ label k. (s.exact label).1 (m.sound label ((j.exact label).1 (own_sound start label own, k.equalities)) k.dependencies);
      equal = λ label x. ((j.exact label).0 (m.finer label ((s.exact label).0 x))).1;
    }

pub sweeps-preserved : goal.sweeps-preserved
sweeps-preserved c =
    let m = c.in_ok-changed.ensures.merging in
    let so_far = c.sweeps.invariant in
    record {
      same_length = m.same_length ∙ so_far.same_length;
      flat = c.in_ok-changed.ensures.flat;
      within = λ label k. m.sound label (so_far.within label k) k.dependencies;
      equal = λ label s. so_far.equal label (m.finer label s);
    }

pub returns-then-not-changed-clause-least : goal.returns-then-not-changed-clause-least
returns-then-not-changed-clause-least c =
    let m = c.in_ok-changed.ensures.merging in
    let so_far = c.sweeps.invariant in
    let flat = c.in_ok-changed.ensures.flat in
    record {
      ordered = flat;
      kept = record {
        equalities = own_equal c.sweep.new.table c.args.equal.now flat (λ label s. so_far.equal label (m.finer label s));
        dependencies = c.in_ok-changed.ensures.settled c.if-not-changed.true;
      };
      within = λ label k. m.sound label (so_far.within label k) k.dependencies;
    }
