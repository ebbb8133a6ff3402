use Rattle.su_exec_tests.proofs.tests.fetches.Given as goal

abbrev pub ghosts-fetches_of : goal.ghosts-fetches_of
ghosts-fetches_of g a = record { name = a.blank.name; parts = a.blank.parts }
