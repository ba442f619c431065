-- How a script is played: what happens at each of its lines, what is printed, and how it ends.
use Rattle.std.specs.Prelude.{◌≡◌, ◌⊎◌, ℕ, ◌+◌, ◌^◌, ◌<◌, ◌≤◌, nat_lt, Bool, true, false, MatchBool}
use Rattle.std.specs.Prelude.{List, [], ◌∷◌, ◌++◌, length, map, Option, Some, None, IsTrue}
use Rattle.std.specs.Prelude.{if◌then◌else◌}
use Rattle.std.specs.Option.{option_and_then}
use Rattle.fedi_address.specs.Names.{is_name}
use Rattle.fedi_log.specs.Keeping.{growth_of}
use Rattle.fedi_script.specs.Lines as script
use Rattle.fedi_script.specs.Lines.{Instruction, instruction_in, lines_of}
use Rattle.fedi_script.specs.Printed.{entries_line, refused_line, too_long_line}
use Rattle.fedi_script.specs.declared.lines.TheConstants.{LONGEST}
use Rattle.fedi_servers.specs.Founding as founding
use Rattle.fedi_servers.specs.Founding.{Adds, Founding, hosts_of, moment, nothing, index_in}
use Rattle.fedi_servers.specs.Machines.{growth}
use Rattle.fedi_world.specs.declared.event.Event.{Event}
use Rattle.fedi_world.specs.declared.event.Event.TheVariants as events
use Rattle.fedi_world.specs.declared.event.Happened.{Happened}
use Rattle.fedi_world.specs.Happenings.{Happens, LacksAttempt, LacksName, LacksReply, LacksRequest}
use Rattle.fedi_world.specs.Happenings.{LacksRoom, LacksServer, Limits, limits}
use Rattle.fedi_world.specs.Scenes.{Scene}
use Rattle.fedi_worlds.specs.Promises.{HaveArrived, HaveOrigins}
use Rattle.fedi_worlds.specs.Worlds.{Server}
use Rattle.fedi_play.specs.Telling.{happened_line}

-- ---- the world

-- the keepers of a script's servers, which are in memory
abbrev pub memory : Limits
memory = limits growth (λ length. 10 + length)

-- the world that begins with these servers: none of them has sent anything
abbrev pub beginning : List Server → Scene
beginning servers = record {
  world = record {
    moment = moment;
    servers = servers;
    requests = [];
    replies = [];
    attempts = [];
  };
  ends = map (λ (s : Server). growth_of growth s.history) servers;
}

-- ---- events

-- the number of the server of this host, which has 32 bits
abbrev pub server_in : List (List ℕ) → List ℕ → Option ℕ
server_in hosts host =
    option_and_then (λ n. if nat_lt n (2 ^ 32) then Some n else None) (index_in hosts host)

-- among servers of these hosts the line asks for this event
abbrev pub AsksFor : List (List ℕ) → Instruction → Event → Type 0
AsksFor hosts (script.Say host name body) (events.Say n who content) =
    (server_in hosts host ≡ Some n) × IsTrue (is_name name) × (who ≡ name)
    × (content.items ≡ body)
AsksFor hosts (script.Claim host) (events.Claim n) = server_in hosts host ≡ Some n
AsksFor hosts (script.Arrive request) (events.Arrive k) = k ≡ request
AsksFor hosts (script.Reach reply) (events.Reach j) = j ≡ reply
AsksFor hosts (script.Lose attempt) (events.Lose number) = number ≡ attempt
AsksFor hosts (script.Crash host) (events.Crash n) = server_in hosts host ≡ Some n
AsksFor hosts (script.Wait seconds) (events.Wait time) = time ≡ seconds
AsksFor hosts i e = ⊥

-- the same, among the servers of this world
abbrev pub AsksIn : Scene → Instruction → Event → Type 0
AsksIn w i e = AsksFor (hosts_of w.world.servers) i e

-- the event cannot happen: what it names is not there, or there is no room for its result
abbrev pub CannotHappen : Scene → Event → Type 0
CannotHappen w e =
    LacksServer w.world e ⊎ (LacksRequest w.world e ⊎ (LacksReply w.world e
    ⊎ (LacksAttempt w.world e ⊎ (LacksName w.world e ⊎ LacksRoom memory w e))))

-- the line asks for no event, or for one that cannot happen
abbrev pub IsRefusedIn : Scene → Instruction → Type 0
IsRefusedIn w i =
    ((e : Event) → AsksIn w i e → ⊥) ⊎ ((e : Event) × AsksIn w i e × CannotHappen w e)

-- The line asks for an event, which happens, and the line about it is printed. Then each delivery
-- that a server has accepted comes from where it says, and what a server has kept as delivered has
-- arrived (ActivityPub, sections 3 and 7.1).
pub record Lets (w : Scene) (i : Instruction) (printed : List ℕ) (v : Scene) : Type 0 where
  pub event : Event
  pub asked : AsksIn w i event
  pub what : Happened
  pub happens : Happens memory w event what v
  pub reported : printed ≡ happened_line what
  pub origins : HaveOrigins v.world
  pub arrivals : HaveArrived v.world

-- ---- one line

-- how far a script is: its servers are set up, or events happen among them
pub data State : Type 0 where
  SettingUp : Founding → State
  Running : Scene → State

-- the world, as the next event finds it
abbrev pub scene_in : State → Scene
scene_in (SettingUp u) = beginning u.servers
scene_in (Running w) = w

-- the line sets servers up
abbrev pub sets_up : Instruction → Bool
sets_up (script.Server host) = true
sets_up (script.Actor host name) = true
sets_up (script.Peers one other) = true
sets_up (script.Say host name body) = false
sets_up (script.Claim host) = false
sets_up (script.Arrive request) = false
sets_up (script.Reach reply) = false
sets_up (script.Lose attempt) = false
sets_up (script.Crash host) = false
sets_up (script.Wait seconds) = false

-- a line that sets servers up is refused after an event, or if it can add nothing
abbrev pub IsRefusedSetUp : State → Instruction → Type 0
IsRefusedSetUp (SettingUp u) i = founding.IsRefused u i
IsRefusedSetUp (Running w) i = Unit {0}

-- The line is refused here: it has none of the forms, or it sets servers up and is refused as such,
-- or the event that it asks for is.
abbrev pub IsRefusedAt : State → Option Instruction → Type 0
IsRefusedAt s None = Unit {0}
IsRefusedAt s (Some i) = MatchBool (sets_up i) (IsRefusedSetUp s i) (IsRefusedIn (scene_in s) i)

-- a line that sets servers up adds to them
abbrev pub SetsUp : State → Instruction → State → Type 0
SetsUp (SettingUp u) i (SettingUp v) = Adds u i v
SetsUp (SettingUp u) i (Running v) = ⊥
SetsUp (Running w) i next = ⊥

-- The line is played, and prints this: it sets servers up, which prints nothing, or lets an event
-- happen.
abbrev pub Does : State → Option Instruction → List ℕ → State → Type 0
Does s None printed next = ⊥
Does s (Some i) printed next = MatchBool (sets_up i) (SetsUp s i next × (printed ≡ []))
    ((v : Scene) × (next ≡ Running v) × Lets (scene_in s) i printed v)

-- ---- a script

-- how many entries the history of each server has
abbrev pub entries_lines : List Server → List ℕ
entries_lines [] = []
entries_lines (s ∷ servers) = entries_line s.host (length s.history) ++ entries_lines servers

-- From here on these lines are played, the first of which has this number, with this text, and this
-- says whether one of them is refused, which is then the last that is looked at.
abbrev pub Plays : State → ℕ → List (List ℕ) → List ℕ → Bool → Type 0
Plays s number [] text refused =
    (refused ≡ false) × (text ≡ entries_lines (scene_in s).world.servers)
Plays s number (line ∷ lines) text refused =
    (IsRefusedAt s (instruction_in line) × (refused ≡ true) × (text ≡ refused_line number))
    ⊎ ((next : State) × (printed more : List ℕ) × Does s (instruction_in line) printed next
    × Plays next (number + 1) lines more refused × (text ≡ printed ++ more))

-- The script is played with this text, and is refused or not: as a whole if it is too long, or else
-- at a line.
abbrev pub IsPlay : List ℕ → List ℕ → Bool → Type 0
IsPlay bytes text refused =
    ((LONGEST < length bytes) × (refused ≡ true) × (text ≡ too_long_line))
    ⊎ ((length bytes ≤ LONGEST) × Plays (SettingUp nothing) 1 (lines_of bytes) text refused)

-- ---- parts of it

-- the next of these lines, if there is one, asks for an event
abbrev pub BeginsWithEvent : List (List ℕ) → Type 0
BeginsWithEvent [] = Unit {0}
BeginsWithEvent (line ∷ lines) =
    (i : Instruction) × (instruction_in line ≡ Some i) × (sets_up i ≡ false)

-- the next of these lines is refused here
abbrev pub BeginsRefused : State → List (List ℕ) → Type 0
BeginsRefused s [] = ⊥
BeginsRefused s (line ∷ lines) = IsRefusedAt s (instruction_in line)

-- what is played from the second of these states on, with its lines, is played from the first one
-- on, after this text
abbrev pub Leads : State → ℕ → List (List ℕ) → List ℕ → State → ℕ → List (List ℕ) → Type 0
Leads s number lines printed t later left =
    (more : List ℕ) (refused : Bool) → Plays t later left more refused
    → Plays s number lines (printed ++ more) refused
