use Rattle.fedi_history_tests.proofs.shelves.directed_in.Given as goal

abbrev pub ghosts-counted_directed : goal.ghosts-counted_directed
ghosts-counted_directed g a = record { name = a.blank.name; parts = a.blank.parts }
