-- Servers of a world after the beginning.
use Rattle.std.proofs.Common.{◌≡◌, ℕ, ◌^◌, ◌<◌, true, List, length, Some}
use Rattle.std.specs.Prelude.{codes}
use Rattle.fedi_address.specs.Hosts.{address, is_host_text}
use Rattle.fedi_address.specs.Iris.{IsIri}
use Rattle.fedi_town.specs.Histories.{town}
use Rattle.fedi_town.specs.Legal.{IsLegal}
use Rattle.fedi_worlds.specs.Worlds.{Server}

-- the text is a host, and its root is an IRI
pub record IsSite (host : List ℕ) : Type 0 where
  pub shape : is_host_text host ≡ true
  pub root : IsIri (address host (codes "/"))

-- a server has a legal history of its host
pub record IsServer (s : Server) : Type 0 where
  pub host : (town s.history).host ≡ Some s.host
  pub legal : IsLegal s.history
  pub few : length (town s.history).acts < 2 ^ 64
  pub shape : IsSite s.host
