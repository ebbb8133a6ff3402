-- A piece is blank where no statement stands in it.
use Rattle.su_stream.proofs.Statements.{statements_of_cut}
use Rattle.su_stream.proofs.laws.pieces_are_the_statements_of_files.Goals as goal

pub returns : goal.returns
returns c = statements_of_cut
