-- Each semijoin leaves the same valuations and as many edges, so all of them do.
use Rattle.std.proofs.Common.{◌∙◌}
use Rattle.su_exec.proofs.Partners.{same_trans}
use Rattle.su_exec.proofs.reducing.go_down.Goals as goal

pub loop-link-preserved-in-Continue-1 : goal.loop-link-preserved-in-Continue-1
loop-link-preserved-in-Continue-1 c = record {
  same = same_trans c.args.edges.now.items c.loop-link.edges.items c.reduce_one.new.edges.items c.loop-link.invariant.same c.in_ok-reduce_one.ensures.same;
  len = c.in_ok-reduce_one.ensures.length ∙ c.loop-link.invariant.len;
  vars = λ k h. c.in_ok-reduce_one.ensures.vars k (c.loop-link.invariant.vars k h);
}
