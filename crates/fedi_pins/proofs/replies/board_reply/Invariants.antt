use Rattle.fedi_pins.proofs.replies.board_reply.Given as goal

abbrev pub ghosts-part_reply : goal.ghosts-part_reply
ghosts-part_reply g a = record { name = a.blank.name; parts = a.blank.parts }
