use Rattle.fedi_core.proofs.attempts.act_at.Given as goal

abbrev pub ghosts-act_counted : goal.ghosts-act_counted
ghosts-act_counted a = record { name = a.blank.name; parts = a.blank.parts }
