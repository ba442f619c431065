-- Servers, as the first lines of a script set them up.
use Rattle.std.specs.Prelude.{◌≡◌, ◌≢◌, ℕ, ◌+◌, true, false, List, [], ◌∷◌, ◌++◌, map, replicate}
use Rattle.std.specs.Prelude.{position, slice_get, Option, Some, None, IsTrue}
use Rattle.std.specs.Int.{to_be_bytes, w64}
use Rattle.std.specs.Str.{bytes_eq}
use Rattle.fedi_address.specs.Hosts.{IsHost}
use Rattle.fedi_address.specs.Names.{is_name}
use Rattle.fedi_objects.specs.declared.entry.Entry.{Entry}
use Rattle.fedi_objects.specs.declared.entry.Entry.TheVariants.{Hosted, Made, PeerSet}
use Rattle.fedi_script.specs.Lines as script
use Rattle.fedi_script.specs.Lines.{Instruction}
use Rattle.fedi_town.specs.Histories.{town}
use Rattle.fedi_town.specs.Legal.{broken_command}
use Rattle.fedi_worlds.specs.Worlds.{Server, keeping}

-- ---- entries

-- the moment of each entry: 1994-11-06T08:49:37Z
abbrev pub moment : ℕ
moment = 784111777

-- 32 bytes that are the number: 24 that are zero, and its eight bytes, the most significant first
unfoldable pub numbered : ℕ → List ℕ
numbered number = replicate 24 0 ++ to_be_bytes w64 number

-- a member of this name, who is not locked and whose key has these bytes as its digest
abbrev pub member : List ℕ → ℕ → Entry
member name number = Made name (numbered number) false moment

-- a peer of this host, which is also its address, with these bytes as the key
abbrev pub peer : List ℕ → ℕ → Entry
peer host number = PeerSet host (numbered number) host false moment

-- a server that was set up for this host, and no more
abbrev pub new_server : List ℕ → Server
new_server host = record { host = host; history = Hosted host moment ∷ [] }

-- ---- what was set up so far

-- the servers, in the order in which they were named, and how many members and pairs of peers they
-- have been given
pub record Founding : Type 0 where
  pub servers : List Server
  pub members : ℕ
  pub pairs : ℕ

-- nothing
abbrev pub nothing : Founding
nothing = record { servers = []; members = 0; pairs = 0 }

-- the hosts of these servers
abbrev pub hosts_of : List Server → List (List ℕ)
hosts_of servers = map (λ (s : Server). s.host) servers

-- the index of the host among these
abbrev pub index_in : List (List ℕ) → List ℕ → Option ℕ
index_in hosts host = position (λ own. bytes_eq own host) hosts

-- the server of this host, and its index
pub record IsAt (servers : List Server) (host : List ℕ) (n : ℕ) (s : Server) : Type 0 where
  pub index : index_in (hosts_of servers) host ≡ Some n
  pub there : slice_get servers n ≡ Some s

-- ---- what a line adds

-- What a line adds that sets servers up:
-- - a server, whose host is one and is new;
-- - a member, whose name is one and is new at this server, with the number of members as the
--   digest;
-- - for two servers, neither of which is the other or has it as a peer, a peer each, which is the
--   other one, with the number of pairs as their key.
abbrev pub Adds : Founding → Instruction → Founding → Type 0
Adds u (script.Server host) v =
    IsHost host × (index_in (hosts_of u.servers) host ≡ None)
    × (v ≡ record u { servers = u.servers ++ new_server host ∷ [] })
Adds u (script.Actor host name) v =
    (n : ℕ) × (s : Server) × IsAt u.servers host n s × IsTrue (is_name name)
    × (broken_command (town s.history) (member name (u.members + 1)) ≡ None)
    × (v ≡ record u {
      servers = keeping n (member name (u.members + 1) ∷ []) u.servers;
      members = u.members + 1;
    })
Adds u (script.Peers one other) v =
    (m n : ℕ) × (s t : Server) × IsAt u.servers one m s × IsAt u.servers other n t
    × (broken_command (town s.history) (peer other (u.pairs + 1)) ≡ None)
    × (broken_command (town t.history) (peer one (u.pairs + 1)) ≡ None)
    × (v ≡ record u {
      servers = keeping n (peer one (u.pairs + 1) ∷ [])
          (keeping m (peer other (u.pairs + 1) ∷ []) u.servers);
      pairs = u.pairs + 1;
    })
Adds u (script.Say host name body) v = ⊥
Adds u (script.Claim host) v = ⊥
Adds u (script.Arrive request) v = ⊥
Adds u (script.Reach reply) v = ⊥
Adds u (script.Lose attempt) v = ⊥
Adds u (script.Crash host) v = ⊥
Adds u (script.Wait seconds) v = ⊥

-- a line is refused that can add nothing
abbrev pub IsRefused : Founding → Instruction → Type 0
IsRefused u i = (v : Founding) → Adds u i v → ⊥
