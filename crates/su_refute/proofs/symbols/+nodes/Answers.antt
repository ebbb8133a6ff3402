-- A node is spelled by its sign, its row, its branches one after another, and the sign that closes.
use Rattle.std.proofs.lemmas.Result.{on_ok_weaker}
use Rattle.su_refute.proofs.Texts.{node_pushed}
use Rattle.su_refute.proofs.symbols.+nodes.Goals as goal

pub push_node-returns : goal.push_node-returns
push_node-returns t c =
    on_ok_weaker c.push_sign-2.result (λ e. node_pushed c.args.node.now c.args.out.now c.push_sign.new.out c.push_number.new.out c.push_branches.new.out c.push_sign-2.new.out c.as_slice.result.now c.in_ok-push_sign.ensures.ok c.in_ok-push_number.ensures c.as_slice.ensures c.in_ok-push_branches.ensures e) c.push_sign-2.ensures.ok
