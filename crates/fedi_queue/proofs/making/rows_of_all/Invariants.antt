use Rattle.fedi_queue.proofs.making.rows_of_all.Given as goal

abbrev pub ghosts-rows_counted : goal.ghosts-rows_counted
ghosts-rows_counted a = record { name = a.blank.name; parts = a.blank.parts }
