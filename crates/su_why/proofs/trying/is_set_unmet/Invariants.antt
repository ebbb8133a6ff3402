use Rattle.su_why.proofs.trying.is_set_unmet.Given as goal

abbrev pub ghosts-is_unmet : goal.ghosts-is_unmet
ghosts-is_unmet a = record { name = a.blank.name; parts = a.blank.parts }
