-- The machines of servers that a script sets up.
use Rattle.std.specs.Prelude.{◌≡◌, ℕ, ◌+◌, List, [], ◌∷◌, map, slice_get, Some, IsTrue, is_some}
use Rattle.fedi_core.specs.Machines.{Machine}
use Rattle.fedi_log.specs.Keeping.{growth_of}
use Rattle.fedi_objects.specs.declared.entry.Entry.TheVariants.{Hosted}
use Rattle.fedi_outside.specs.MemoryKeepers.{CalmKeeperState}
use Rattle.fedi_servers.specs.declared.servers.Servers as coded
use Rattle.fedi_servers.specs.Founding.{Founding, hosts_of, moment}
use Rattle.fedi_town.specs.Collections.{text_of}
use Rattle.fedi_town.specs.Histories.{town}
use Rattle.fedi_worlds.specs.Promises.{IsSetUp}
use Rattle.fedi_worlds.specs.Worlds.{Server}

-- the machine of a server over a keeper in memory
abbrev pub ServerMachine : Type 0
ServerMachine = Machine CalmKeeperState

-- a record of this length moves the end by so much
abbrev pub growth : ℕ → ℕ
growth length = 9 + length

-- the host and the history of a machine that was set up
abbrev pub server_of : ServerMachine → Server
server_of m = record { host = text_of (town m.history).host; history = m.history }

-- where the records of a machine end
abbrev pub end_of : ServerMachine → ℕ
end_of m = m.keeper.end

-- the machine has been set up, has members and peers alone, and nothing to deliver, and its records
-- are all that its keeper has room for
pub record IsFounded (m : ServerMachine) : Type 0 where
  pub hosted : IsTrue (is_some (town m.history).host)
  pub set_up : IsSetUp m.history
  pub quiet : (town m.history).acts ≡ []
  pub idle : m.rows ≡ []
  pub end : m.keeper.end ≡ growth_of growth m.history

-- the machine was set up for this host, and no more
pub record IsNewMachine (host : List ℕ) (m : ServerMachine) : Type 0 where
  pub history : m.history ≡ Hosted host moment ∷ []
  pub founded : IsFounded m

-- each machine is founded, the hosts that are named are theirs, and no two of them are the same
pub record AreFounded (named : List (List ℕ)) (machines : List ServerMachine) : Type 0 where
  pub each : (n : ℕ) (m : ServerMachine) → slice_get machines n ≡ Some m → IsFounded m
  pub hosts : named ≡ hosts_of (map server_of machines)
  pub apart : (j k : ℕ) (host : List ℕ) → slice_get named j ≡ Some host
      → slice_get named k ≡ Some host → j ≡ k

-- what was set up so far, by the code
abbrev pub founding_of : coded.Servers → Founding
founding_of s = record {
  servers = map server_of s.cores.items;
  members = s.members;
  pairs = s.pairs;
}

-- and it is in order
abbrev pub IsInOrder : coded.Servers → Type 0
IsInOrder s = AreFounded s.hosts.items s.cores.items
