use Rattle.su_min.proofs.minimal.minimise.Given as goal

abbrev pub ghosts-kept_and_fold : goal.ghosts-kept_and_fold
ghosts-kept_and_fold a = record { name = a.blank.name; parts = a.blank.parts }
