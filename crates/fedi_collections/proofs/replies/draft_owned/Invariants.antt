use Rattle.fedi_collections.proofs.replies.draft_owned.Given as goal

abbrev pub ghosts-draft_part : goal.ghosts-draft_part
ghosts-draft_part g a = record { name = a.blank.name; parts = a.blank.parts }
