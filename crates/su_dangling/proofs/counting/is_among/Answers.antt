-- In ascending rows a search finds a row exactly where it is one of them.
use Rattle.std.proofs.Common.{◌∙◌}
use Rattle.su_dangling.proofs.Left.{one_searched}
use Rattle.su_dangling.proofs.counting.is_among.Goals as goal

pub returns : goal.returns
returns c = c.is_ok.ensures.value ∙ one_searched c.args.rows.now c.args.row.now c.binary_search.result c.requires c.binary_search.ensures.bound c.binary_search.ensures.position
