use Rattle.fedi_log.proofs.LifeLemmas.{entries_stay, next_finds, places_stay}
use Rattle.fedi_log.proofs.lives.kept_entries_stay.Goals as goal

pub returns-clause-history : goal.returns-clause-history
returns-clause-history c = entries_stay

pub returns-clause-place : goal.returns-clause-place
returns-clause-place c = places_stay

pub returns-clause-behind : goal.returns-clause-behind
returns-clause-behind c = next_finds
