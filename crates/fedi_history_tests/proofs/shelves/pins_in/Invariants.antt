use Rattle.fedi_history_tests.proofs.shelves.pins_in.Given as goal

abbrev pub ghosts-counted_pins : goal.ghosts-counted_pins
ghosts-counted_pins g a = record { name = a.blank.name; parts = a.blank.parts }
