use Rattle.fedi_report.proofs.exports.activity_at.Given as goal

abbrev pub ghosts-counted_at : goal.ghosts-counted_at
ghosts-counted_at a = record { name = a.blank.name; parts = a.blank.parts }
