-- The edge read is the one at its place, so that the count of its candidates and of those left are what the definition counts there.
use Rattle.std.proofs.Common.{◌≡◌, [], ◌∙◌}
use Rattle.std.proofs.lemmas.List.{get_or_default}
use Rattle.su_reduce.specs.Left.{edge_at}
use Rattle.su_answer.proofs.supporting.count_of.Goals as goal

pub returns : goal.returns
returns c =
    let edges = c.args.edges.now in
    let edge : c.index-edges-k.result ≡ edge_at edges c.args.k = c.index-edges-k.is ∙ get_or_default edges c.args.k c.index-edges-k.result (record { cells = []; candidates = [] }) c.requires.edges in
    let count = c.len.ensures in
    let left = c.left_at.ensures in
    cc
