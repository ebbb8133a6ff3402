use Rattle.su_min.proofs.matrix.matrix_row.Given as goal

abbrev pub ghosts-row_alone : goal.ghosts-row_alone
ghosts-row_alone a = record { name = a.blank.name; parts = a.blank.parts }
