-- What a line adds to servers that are set up.
use Rattle.std.proofs.Common.{◌≡◌, ◌≢◌, ◌∙◌, ◌+◌, ◌||◌, ◌<◌, not, ℕ, Bool, true, List, [], ◌∷◌, ◌++◌, length, map, Option, None, Some, sym, ap, subst, arith, length-set}
use Rattle.std.specs.Prelude.{IsTrue, slice_get, slice_index_or, slice_set, if◌then◌else◌}
use Rattle.std.specs.Str.{bytes_eq}
use Rattle.std.proofs.lemmas.Slice.Eq.{bytes_eq-Decides}
use Rattle.fedi_address.specs.Hosts.{IsHost}
use Rattle.fedi_address.specs.Names.{is_name}
use Rattle.fedi_core.specs.Commands.{IsCommand}
use Rattle.fedi_script.specs.Lines.{Actor, Peers, Server as Named}
use Rattle.fedi_servers.specs.Founding.{Adds, Founding, IsAt, hosts_of, index_in, member, peer}
use Rattle.fedi_servers.specs.Machines.{AreFounded, IsFounded, IsNewMachine, ServerMachine, server_of}
use Rattle.fedi_servers.proofs.Positions.{found_inside, found_is, index_is, map_at, set_other}
use Rattle.fedi_servers.proofs.Setting.{adds_server, kept_at, machine_at, server_more}
use Rattle.fedi_town.specs.declared.command_fault.CommandFault.{CommandFault}
use Rattle.fedi_town.specs.declared.command_fault.CommandFault.TheVariants.{HostTaken}
use Rattle.fedi_town.specs.Collections.{text_of}
use Rattle.fedi_town.specs.Histories.{town}
use Rattle.fedi_town.specs.Legal.{broken_command, is_other_host}
use Rattle.fedi_worlds.specs.Worlds.{Server, keeping}

abbrev pub founding : List ServerMachine → ℕ → ℕ → Founding
founding machines members pairs = record {
  servers = map server_of machines;
  members = members;
  pairs = pairs;
}

-- ---- the server of a host

pub at_index : (hosts : List (List ℕ)) (machines : List ServerMachine) (host : List ℕ) (n : ℕ)
    (m : ServerMachine) → AreFounded hosts machines → index_in hosts host ≡ Some n
    → slice_get machines n ≡ Some m → IsAt (map server_of machines) host n (server_of m)
at_index hosts machines host n m order found there = record {
  index = subst (λ (l : List (List ℕ)). index_in l host ≡ Some n) order.hosts found;
  there = map_at server_of machines n m there;
}

own_host : (hosts : List (List ℕ)) (machines : List ServerMachine) (host : List ℕ) (n : ℕ)
    (m : ServerMachine) → AreFounded hosts machines → index_in hosts host ≡ Some n
    → slice_get machines n ≡ Some m → (server_of m).host ≡ host
own_host hosts machines host n m order found there =
    let at = at_index hosts machines host n m order found there in
    found_is (hosts_of (map server_of machines)) host n (server_of m).host at.index
    (map_at (λ (s : Server). s.host) (map server_of machines) n (server_of m) at.there)

-- ---- a server

pub server_added : (hosts : List (List ℕ)) (machines : List ServerMachine) (members pairs : ℕ)
    (host : List ℕ) (m : ServerMachine) → AreFounded hosts machines → index_in hosts host ≡ None
    → IsHost host → IsNewMachine host m
    → Adds (founding machines members pairs) (Named host) (founding (machines ++ m ∷ []) members pairs)
server_added hosts machines members pairs host m order none is_host new = (
  is_host,
  subst (λ (l : List (List ℕ)). index_in l host ≡ None) order.hosts none,
  adds_server machines members pairs host m new,
)

-- ---- a member

pub actor_added : (hosts : List (List ℕ)) (machines : List ServerMachine) (members pairs n : ℕ)
    (host name : List ℕ) (m o : ServerMachine) → AreFounded hosts machines
    → index_in hosts host ≡ Some n → slice_get machines n ≡ Some m → IsTrue (is_name name)
    → IsCommand (town m.history) (member name (members + 1))
    → broken_command (town m.history) (member name (members + 1)) ≡ None
    → o.history ≡ m.history ++ member name (members + 1) ∷ []
    → Adds (founding machines members pairs) (Actor host name)
    (founding (slice_set machines n o) (members + 1) pairs)
actor_added hosts machines members pairs n host name m o order found there named command unbroken history =
    let e = member name (members + 1) in (
      n,
      server_of m,
      at_index hosts machines host n m order found there,
      named,
      unbroken,
      ap (λ (l : List Server). record { servers = l; members = members + 1; pairs = pairs })
          (kept_at machines n m o (e ∷ []) there (server_more m o e command history)),
    )

-- ---- two peers

not_own : (own : Option (List ℕ)) (among : Bool) (other : List ℕ) (rest : Option CommandFault)
    → (if not (is_other_host own other) || among then Some HostTaken else rest) ≡ None
    → other ≢ text_of own
not_own None among other rest unbroken same = absurd (cc unbroken)
not_own (Some own) among other rest unbroken same =
    let equal : bytes_eq other own ≡ true = (bytes_eq-Decides other own).1 same in
    absurd (cc (rw equal at unbroken))

-- they are two
pub are_two : (hosts : List (List ℕ)) (machines : List ServerMachine) (one other : List ℕ) (m n k : ℕ)
    (a : ServerMachine) → AreFounded hosts machines → index_in hosts one ≡ Some m
    → index_in hosts other ≡ Some n → slice_get machines m ≡ Some a
    → broken_command (town a.history) (peer other k) ≡ None → m ≢ n
are_two hosts machines one other m n k a order first second there unbroken same =
    not_own (town a.history).host _ other _ unbroken
    (sym (own_host hosts machines other m a order (subst (λ (j : ℕ). index_in hosts other ≡ Some j) (sym same) second) there))

pub second_there : (machines : List ServerMachine) (m n : ℕ) (o b : ServerMachine) → m ≢ n
    → slice_get (slice_set machines m o) n ≡ Some b → slice_get machines n ≡ Some b
second_there machines m n o b two there = sym (set_other machines m o n two) ∙ there

pub peers_added : (hosts : List (List ℕ)) (machines : List ServerMachine) (members pairs m n : ℕ)
    (one other : List ℕ) (a b o p : ServerMachine) → AreFounded hosts machines
    → index_in hosts one ≡ Some m → index_in hosts other ≡ Some n
    → slice_get machines m ≡ Some a → slice_get (slice_set machines m o) n ≡ Some b
    → IsCommand (town a.history) (peer other (pairs + 1))
    → IsCommand (town b.history) (peer one (pairs + 1))
    → broken_command (town a.history) (peer other (pairs + 1)) ≡ None
    → broken_command (town b.history) (peer one (pairs + 1)) ≡ None
    → o.history ≡ a.history ++ peer other (pairs + 1) ∷ []
    → p.history ≡ b.history ++ peer one (pairs + 1) ∷ []
    → Adds (founding machines members pairs) (Peers one other)
    (founding (slice_set (slice_set machines m o) n p) members (pairs + 1))
peers_added hosts machines members pairs m n one other a b o p order first second there here command answer unbroken whole history last =
    let e = peer other (pairs + 1) in
    let f = peer one (pairs + 1) in
    let two = are_two hosts machines one other m n (pairs + 1) a order first second there unbroken in
    let at = second_there machines m n o b two here in
    let servers : map server_of (slice_set (slice_set machines m o) n p)
    ≡ keeping n (f ∷ []) (keeping m (e ∷ []) (map server_of machines)) =
    kept_at (slice_set machines m o) n b p (f ∷ []) here (server_more b p f answer last)
    ∙ ap (keeping n (f ∷ [])) (kept_at machines m a o (e ∷ []) there (server_more a o e command history)) in (
      m,
      n,
      server_of a,
      server_of b,
      at_index hosts machines one m a order first there,
      at_index hosts machines other n b order second at,
      unbroken,
      whole,
      ap (λ (l : List Server). record { servers = l; members = members; pairs = pairs + 1 }) servers,
    )

-- ---- the machine of a host

-- the machine that was found, by its index
pub record IsFoundAt (hosts : List (List ℕ)) (machines : List ServerMachine) (host : List ℕ)
    (n : ℕ) (m : ServerMachine) : Type 0 where
  pub found : index_in hosts host ≡ Some n
  pub there : slice_get machines n ≡ Some m
  pub founded : IsFounded m
  pub at : IsAt (map server_of machines) host n (server_of m)

pub found_there : (hosts : List (List ℕ)) (machines : List ServerMachine) (host : List ℕ) (n : ℕ)
    (m : ServerMachine) → AreFounded hosts machines → Some n ≡ index_in hosts host
    → m ≡ slice_index_or machines n m → IsFoundAt hosts machines host n m
found_there hosts machines host n m order found is =
    let inside = (machine_at hosts machines host n order (sym found)).inside in
    let there = index_is machines n m inside is in
    record {
      found = sym found;
      there = there;
      founded = order.each n m there;
      at = at_index hosts machines host n m order (sym found) there;
    }

pub inside_machines : (hosts : List (List ℕ)) (machines : List ServerMachine) (host : List ℕ) (n : ℕ)
    → AreFounded hosts machines → Some n ≡ index_in hosts host → n < length machines
inside_machines hosts machines host n order found = (machine_at hosts machines host n order (sym found)).inside

pub inside_hosts : (hosts : List (List ℕ)) (host : List ℕ) (n : ℕ) → Some n ≡ index_in hosts host
    → n < length hosts
inside_hosts hosts host n found = found_inside (λ own. bytes_eq own host) hosts n (sym found)

-- the host at the index is the one that was found
pub host_there : (hosts : List (List ℕ)) (host : List ℕ) (n : ℕ) (own : List ℕ)
    → Some n ≡ index_in hosts host → own ≡ slice_index_or hosts n own → own ≡ host
host_there hosts host n own found is =
    found_is hosts host n own (sym found) (index_is hosts n own (inside_hosts hosts host n found) is)

-- the machine at another index is as before
pub second_is : (hosts : List (List ℕ)) (machines : List ServerMachine) (host : List ℕ) (m n : ℕ)
    (o b : ServerMachine) → AreFounded hosts machines → Some n ≡ index_in hosts host → m ≢ n
    → b ≡ slice_index_or (slice_set machines m o) n b → slice_get machines n ≡ Some b
second_is hosts machines host m n o b order found two is =
    let inside = inside_machines hosts machines host n order found in
    let count = length-set machines m o in
    second_there machines m n o b two (index_is (slice_set machines m o) n b (omega (arith, inside, count)) is)

pub same_machine : (machines : List ServerMachine) (n : ℕ) (a b : ServerMachine)
    → slice_get machines n ≡ Some a → slice_get machines n ≡ Some b → a ≡ b
same_machine machines n a b first second =
    let same : ◌≡◌ {A = Option ServerMachine} (Some a) (Some b) = sym first ∙ second in cc same
