use Rattle.su_map_tests.proofs.tests.any_into.Given as goal

abbrev pub ghosts-any_counted : goal.ghosts-any_counted
ghosts-any_counted a = record { name = a.blank.name; parts = a.blank.parts }
