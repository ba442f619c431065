-- Servers that are set up: what one more entry, and one more server, changes.
use Rattle.std.proofs.Common.{◌≡◌, ◌∙◌, ◌+◌, ◌<◌, ℕ, zero, suc, Bool, List, [], ◌∷◌, ◌++◌, length, map, Option, None, Some, inl, inr, ⊎_elim, refl, sym, ap, subst, arith}
use Rattle.std.specs.Prelude.{◌⊎◌, IsTrue, is_some, slice_get, slice_set}
use Rattle.std.specs.Str.{bytes_eq}
use Rattle.std.proofs.lemmas.List.{length-map, map-append}
use Rattle.std.proofs.lemmas.List.Sums.{fold-append, sum_by-append}
use Rattle.fedi_core.specs.Commands.{IsCommand}
use Rattle.fedi_entry.specs.Codes.{code_of}
use Rattle.fedi_log.specs.Keeping.{growth_of}
use Rattle.fedi_objects.specs.declared.entry.Entry.{Entry}
use Rattle.fedi_objects.specs.declared.entry.Entry.TheVariants.{Hosted, Made, PeerSet, Local, Remote, Tried}
use Rattle.fedi_queue.specs.declared.rows.QueueRow.{QueueRow}
use Rattle.fedi_queue.specs.Claims.{release}
use Rattle.fedi_queue.specs.Rows.{rows_of}
use Rattle.fedi_servers.specs.Founding.{Founding, IsAt, hosts_of, new_server, index_in}
use Rattle.fedi_servers.specs.Machines.{AreFounded, IsFounded, IsNewMachine, ServerMachine, growth, server_of}
use Rattle.fedi_servers.proofs.Positions.{at_last, found_inside, is_new, last_is, map_at, set_from, there_is}
use Rattle.fedi_town.specs.Collections.{text_of}
use Rattle.fedi_town.specs.Histories.{member_addition, step, town, with_addition}
use Rattle.fedi_town.specs.Towns.{Town, empty_town}
use Rattle.fedi_worlds.specs.Promises.{IsSetUp}
use Rattle.fedi_worlds.specs.Worlds.{Server, keeping}

-- ---- one more entry

pub town_more : (h : List Entry) (e : Entry) → town (h ++ e ∷ []) ≡ step (town h) e
town_more h e = fold-append step empty_town h (e ∷ [])

set_up_more : (h : List Entry) (e : Entry) → IsSetUp h → IsSetUp (e ∷ []) → IsSetUp (h ++ e ∷ [])
set_up_more [] e first last = last
set_up_more (Hosted host moment ∷ h) e first last = set_up_more h e first last
set_up_more (Made name digest locked moment ∷ h) e first last = set_up_more h e first last
set_up_more (PeerSet host key address relay moment ∷ h) e first last = set_up_more h e first last
set_up_more (Local name repeat a moment ∷ h) e first last = absurd first
set_up_more (Remote peer inbox a moment ∷ h) e first last = absurd first
set_up_more (Tried activity recipient came moment ∷ h) e first last = absurd first

pub growth_more : (h : List Entry) (e : Entry)
    → growth_of growth (h ++ e ∷ []) ≡ growth_of growth h + growth (length (code_of e))
growth_more h e =
    let more = sum_by-append (λ (x : Entry). growth (length (code_of x))) h (e ∷ []) in
    omega (arith, more)

-- a command changes neither the host nor the activities
made_host : (t : Town) (o : Option (List ℕ)) (name digest : List ℕ) (locked : Bool)
    → (with_addition t (member_addition o name digest locked)).host ≡ t.host
made_host t None name digest locked = refl
made_host t (Some host) name digest locked = refl

made_acts : (t : Town) (o : Option (List ℕ)) (name digest : List ℕ) (locked : Bool)
    → (with_addition t (member_addition o name digest locked)).acts ≡ t.acts
made_acts t None name digest locked = refl
made_acts t (Some host) name digest locked = refl

same_host : (t : Town) (e : Entry) → IsCommand t e → (step t e).host ≡ t.host
same_host t (Hosted host moment) command = absurd command
same_host t (Made name digest locked moment) command = made_host t t.host name digest locked
same_host t (PeerSet host key address relay moment) command = refl
same_host t (Local name repeat a moment) command = absurd command
same_host t (Remote peer inbox a moment) command = absurd command
same_host t (Tried activity recipient came moment) command = absurd command

same_acts : (t : Town) (e : Entry) → IsCommand t e → (step t e).acts ≡ t.acts
same_acts t (Hosted host moment) command = absurd command
same_acts t (Made name digest locked moment) command = made_acts t t.host name digest locked
same_acts t (PeerSet host key address relay moment) command = refl
same_acts t (Local name repeat a moment) command = absurd command
same_acts t (Remote peer inbox a moment) command = absurd command
same_acts t (Tried activity recipient came moment) command = absurd command

command_sets_up : (t : Town) (e : Entry) → IsCommand t e → IsSetUp (e ∷ [])
command_sets_up t (Hosted host moment) command = tt
command_sets_up t (Made name digest locked moment) command = tt
command_sets_up t (PeerSet host key address relay moment) command = tt
command_sets_up t (Local name repeat a moment) command = absurd command
command_sets_up t (Remote peer inbox a moment) command = absurd command
command_sets_up t (Tried activity recipient came moment) command = absurd command

pub host_more : (h : List Entry) (e : Entry) → IsCommand (town h) e
    → (town (h ++ e ∷ [])).host ≡ (town h).host
host_more h e command = ap (λ (t : Town). t.host) (town_more h e) ∙ same_host (town h) e command

-- ---- nothing to deliver

pub no_rows : (t : Town) → t.acts ≡ [] → rows_of t ≡ []
unfolding rows_of
no_rows t quiet = rw quiet refl

none_left : (rows : List QueueRow) → map release rows ≡ [] → rows ≡ []
none_left [] none = refl
none_left (row ∷ rows) none = absurd (cc none)

pub idle_rows : (t : Town) (rows : List QueueRow) → t.acts ≡ [] → map release rows ≡ rows_of t
    → rows ≡ []
idle_rows t rows quiet is = none_left rows (is ∙ no_rows t quiet)

pub rows_idle : (t : Town) (rows : List QueueRow) → t.acts ≡ [] → rows ≡ [] → rows ≡ rows_of t
rows_idle t rows quiet idle = idle ∙ sym (no_rows t quiet)

-- ---- one more entry of a machine

pub founded_more : (m n : ServerMachine) (e : Entry) → IsFounded m → IsCommand (town m.history) e
    → n.history ≡ m.history ++ e ∷ []
    → n.keeper.end ≡ m.keeper.end + growth (length (code_of e))
    → map release n.rows ≡ rows_of (town n.history) → IsFounded n
founded_more m n e founded command history end rows =
    let host : (town n.history).host ≡ (town m.history).host =
    ap (λ (h : List Entry). (town h).host) history ∙ host_more m.history e command in
    let acts : (town n.history).acts ≡ [] =
    ap (λ (h : List Entry). (town h).acts) history
    ∙ (ap (λ (t : Town). t.acts) (town_more m.history e)
    ∙ (same_acts (town m.history) e command ∙ founded.quiet)) in
    record {
      hosted = subst (λ (o : Option (List ℕ)). IsTrue (is_some o)) (sym host) founded.hosted;
      set_up = subst IsSetUp (sym history)
          (set_up_more m.history e founded.set_up (command_sets_up (town m.history) e command));
      quiet = acts;
      idle = idle_rows (town n.history) n.rows acts rows;
      end = end ∙ (ap (λ (k : ℕ). k + growth (length (code_of e))) founded.end
          ∙ (sym (growth_more m.history e) ∙ ap (growth_of growth) (sym history)));
    }

-- ---- one more entry of a server

abbrev server_with : Option (List ℕ) → List Entry → Server
server_with host history = record { host = text_of host; history = history }

pub server_more : (m n : ServerMachine) (e : Entry) → IsCommand (town m.history) e
    → n.history ≡ m.history ++ e ∷ []
    → server_of n ≡ record { host = (server_of m).host; history = m.history ++ e ∷ [] }
server_more m n e command history =
    ap (λ (h : List Entry). server_with (town h).host h) history
    ∙ ap (λ (o : Option (List ℕ)). server_with o (m.history ++ e ∷ [])) (host_more m.history e command)

pub kept_at : (machines : List ServerMachine) (k : ℕ) (m n : ServerMachine) (more : List Entry)
    → slice_get machines k ≡ Some m
    → server_of n ≡ record { host = (server_of m).host; history = m.history ++ more }
    → map server_of (slice_set machines k n) ≡ keeping k more (map server_of machines)
kept_at [] k m n more there is = absurd (cc there)
kept_at (x ∷ machines) zero m n more there is =
    let same : x ≡ m = cc there in
    ap (λ (s : Server). s ∷ map server_of machines) (is ∙ ap (λ (y : ServerMachine). record { host = (server_of y).host; history = y.history ++ more }) (sym same))
kept_at (x ∷ machines) (suc k) m n more there is =
    ap (λ (servers : List Server). server_of x ∷ servers) (kept_at machines k m n more there is)

pub hosts_kept : (k : ℕ) (more : List Entry) (servers : List Server)
    → hosts_of (keeping k more servers) ≡ hosts_of servers
hosts_kept k more [] = refl
hosts_kept zero more (s ∷ servers) = refl
hosts_kept (suc k) more (s ∷ servers) = ap (λ (hosts : List (List ℕ)). s.host ∷ hosts) (hosts_kept k more servers)

-- ---- one more server

own_host : (host : List ℕ) (m : ServerMachine) → IsNewMachine host m → (server_of m).host ≡ host
own_host host m new = ap (λ (h : List Entry). text_of (town h).host) new.history

own_server : (host : List ℕ) (m : ServerMachine) → IsNewMachine host m → server_of m ≡ new_server host
own_server host m new = ap (λ (h : List Entry). server_with (town h).host h) new.history

hosts_append : (servers : List Server) (s : Server)
    → hosts_of (servers ++ s ∷ []) ≡ hosts_of servers ++ s.host ∷ []
hosts_append servers s = map-append (λ (x : Server). x.host) servers (s ∷ [])

servers_append : (machines : List ServerMachine) (m : ServerMachine)
    → map server_of (machines ++ m ∷ []) ≡ map server_of machines ++ server_of m ∷ []
servers_append machines m = map-append server_of machines (m ∷ [])

pub more_founded : (hosts : List (List ℕ)) (machines : List ServerMachine) (host : List ℕ)
    (m : ServerMachine) → AreFounded hosts machines → index_in hosts host ≡ None
    → IsNewMachine host m → AreFounded (hosts ++ host ∷ []) (machines ++ m ∷ [])
more_founded hosts machines host m order none new = record {
  each = last_is (λ n x. IsFounded x) machines m order.each new.founded;
  hosts = ap (λ (l : List (List ℕ)). l ++ host ∷ []) order.hosts
      ∙ (ap (λ (h : List ℕ). hosts_of (map server_of machines) ++ h ∷ []) (sym (own_host host m new))
      ∙ (sym (hosts_append (map server_of machines) (server_of m))
      ∙ ap hosts_of (sym (servers_append machines m))));
  apart = λ j k h first second. by j k h (at_last hosts host j h first) (at_last hosts host k h second);
}
  where
    by : (j k : ℕ) (h : List ℕ)
        → (slice_get hosts j ≡ Some h) ⊎ ((j ≡ length hosts) × (h ≡ host))
        → (slice_get hosts k ≡ Some h) ⊎ ((k ≡ length hosts) × (h ≡ host)) → j ≡ k
    by j k h (inl first) (inl second) = order.apart j k h first second
    by j k h (inl first) (inr second) =
        absurd (is_new hosts host none j (subst (λ (x : List ℕ). slice_get hosts j ≡ Some x) second.1 first))
    by j k h (inr first) (inl second) =
        absurd (is_new hosts host none k (subst (λ (x : List ℕ). slice_get hosts k ≡ Some x) first.1 second))
    by j k h (inr first) (inr second) = first.0 ∙ sym second.0

pub adds_server : (machines : List ServerMachine) (members pairs : ℕ) (host : List ℕ)
    (m : ServerMachine) → IsNewMachine host m
    → ◌≡◌ {A = Founding} (record {
      servers = map server_of (machines ++ m ∷ []);
      members = members;
      pairs = pairs;
    }) (record {
      servers = map server_of machines ++ new_server host ∷ [];
      members = members;
      pairs = pairs;
    })
adds_server machines members pairs host m new =
    ap (λ (l : List Server). record { servers = l; members = members; pairs = pairs })
    (servers_append machines m
    ∙ ap (λ (s : Server). map server_of machines ++ s ∷ []) (own_server host m new))

-- ---- the server of a host

pub record IsMachineAt (hosts : List (List ℕ)) (machines : List ServerMachine) (host : List ℕ)
    (n : ℕ) : Type 0 where
  pub machine : ServerMachine
  pub there : slice_get machines n ≡ Some machine
  pub founded : IsFounded machine
  pub at : IsAt (map server_of machines) host n (server_of machine)
  pub inside : n < length machines

pub machine_at : (hosts : List (List ℕ)) (machines : List ServerMachine) (host : List ℕ) (n : ℕ)
    → AreFounded hosts machines → index_in hosts host ≡ Some n → IsMachineAt hosts machines host n
machine_at hosts machines host n order index =
    let within = found_inside (λ own. bytes_eq own host) hosts n index in
    let count : length hosts ≡ length machines =
    ap length order.hosts
    ∙ (length-map (map server_of machines) (λ (s : Server). s.host) ∙ length-map machines server_of) in
    let inside : n < length machines = omega (arith, within, count) in
    let found = there_is machines n inside in
    record {
      machine = found.0;
      there = found.1;
      founded = order.each n found.0 found.1;
      at = record {
        index = subst (λ (l : List (List ℕ)). index_in l host ≡ Some n) order.hosts index;
        there = map_at server_of machines n found.0 found.1;
      };
      inside = inside;
    }

pub one_changed : (hosts : List (List ℕ)) (machines : List ServerMachine) (n : ℕ)
    (m o : ServerMachine) (e : Entry) → AreFounded hosts machines → slice_get machines n ≡ Some m
    → IsCommand (town m.history) e → o.history ≡ m.history ++ e ∷ [] → IsFounded o
    → AreFounded hosts (slice_set machines n o)
one_changed hosts machines n m o e order there command history founded = record {
  each = λ k x at. ⊎_elim (λ (same : o ≡ x). subst IsFounded same founded)
      (λ (old : slice_get machines k ≡ Some x). order.each k x old) (set_from machines n o k x at);
  hosts = order.hosts
      ∙ (sym (hosts_kept n (e ∷ []) (map server_of machines))
      ∙ ap hosts_of (sym (kept_at machines n m o (e ∷ []) there (server_more m o e command history))));
  apart = order.apart;
}
