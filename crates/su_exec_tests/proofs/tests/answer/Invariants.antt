use Rattle.su_exec_tests.proofs.tests.answer.Given as goal

abbrev pub ghosts-answer_of : goal.ghosts-answer_of
ghosts-answer_of g a = record { name = a.blank.name; parts = a.blank.parts }

abbrev pub ghosts-plain_answer_of : goal.ghosts-plain_answer_of
ghosts-plain_answer_of g a = record { name = a.blank.name; parts = a.blank.parts }
