use Rattle.su_answer.proofs.supporting.edges_for.Given as goal

abbrev pub ghosts-edges_of : goal.ghosts-edges_of
ghosts-edges_of a = record { name = a.blank.name; parts = a.blank.parts }
