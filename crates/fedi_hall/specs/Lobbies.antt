-- What workers know of a machine outside of turns.
use Rattle.std.specs.Prelude.{◌≡◌, Some}
use Rattle.fedi_effects.specs.Rosters.{callers_in}
use Rattle.fedi_town.specs.Towns.{Town}
use Rattle.fedi_hall.specs.declared.hall.Lobby.{Lobby}

-- its host, and who may be taken for a caller, are those of the town
pub record IsLobbyOf (t : Town) (l : Lobby) : Type 0 where
  pub host : t.host ≡ Some l.host
  pub roster : l.roster ≡ callers_in t
