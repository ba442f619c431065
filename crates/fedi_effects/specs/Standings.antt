-- What has become of a delivery, as it is computed.
use Rattle.std.specs.Prelude.{ℕ, ◌<◌, ⊤, List, filter}
use Rattle.std.specs.List.{fold}
use Rattle.fedi_town.specs.declared.act.Attempt.{Attempt}
use Rattle.fedi_town.specs.Queues.{Progress, after_attempt, is_of_pair}
use Rattle.fedi_town.specs.Queues.{Due, Ended}
use Rattle.fedi_effects.specs.declared.progress.Standing.{Standing}
use Rattle.fedi_effects.specs.declared.progress.Standing.TheVariants as standings

-- the progress that it says
abbrev pub progress_in : Standing → Progress
progress_in (standings.Due attempts from) = Due attempts from
progress_in (standings.Ended attempts) = Ended attempts

-- if another attempt is due, there were fewer than eight
abbrev pub IsFew : Standing → Type 0
IsFew (standings.Due attempts from) = attempts < 8
IsFew (standings.Ended attempts) = ⊤

-- what has become of a delivery after these attempts, if its activity was accepted at this moment
unfoldable pub progress_at : List Attempt → List ℕ → List ℕ → ℕ → Progress
progress_at attempts id recipient moment =
    fold after_attempt (Due 0 moment) (filter (is_of_pair id recipient) attempts)
