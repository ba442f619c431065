use Rattle.fedi_history_tests.proofs.opening.has_first_item.Given as goal

abbrev pub ghosts-first_place : goal.ghosts-first_place
ghosts-first_place a = record { name = a.blank.name; parts = a.blank.parts }
