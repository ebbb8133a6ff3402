use Rattle.su_why.proofs.giving.given.Given as goal

abbrev pub ghosts-outputs_of : goal.ghosts-outputs_of
ghosts-outputs_of a = record { name = a.blank.name; parts = a.blank.parts }
