-- What is true of a world between two events.
use Rattle.std.specs.Prelude.{◌≡◌, ℕ, ◌≤◌, true, List, ◌++◌, map, IsTrue, Some, is_some, slice_get}
use Rattle.std.specs.List.{list_any}
use Rattle.fedi_delivery.specs.Deliveries.{body_of, lookup_to}
use Rattle.fedi_log.specs.Claims.{HasClaimed, is_claimed_in}
use Rattle.fedi_log.specs.Log.{Log, history_of}
use Rattle.fedi_log.specs.declared.items.Pair.{Pair}
use Rattle.fedi_logged.specs.Logs.{MachineLog}
use Rattle.fedi_queue.specs.declared.rows.Claim.{Claim}
use Rattle.fedi_town.specs.declared.act.Act.{Act}
use Rattle.fedi_town.specs.Histories.{town}
use Rattle.fedi_worlds.specs.Events.{Event}
use Rattle.fedi_worlds.specs.Promises.{IsStart}
use Rattle.fedi_worlds.specs.Steps.{IsFit, Runs}
use Rattle.fedi_worlds.specs.Worlds.{Attempt, World, is_open, is_open_at, is_open_for}
use Rattle.fedi_world.specs.declared.parts.Answer.{Answer}
use Rattle.fedi_world.specs.declared.parts.Packet.{Packet}
use Rattle.fedi_world.specs.declared.parts.Pending.{Pending}
use Rattle.fedi_world.specs.Scenes.{attempt_of, claim_in, stage_of, world_of}

-- events lead to this world from the beginning
pub record IsReached (w : World) : Type 0 where
  pub first : World
  pub events : List Event
  pub start : IsStart first
  pub runs : Runs first events w

-- the delivery that is attempted
abbrev pub pair_at : Attempt → Pair
pair_at a = record { activity = a.task.activity; recipient = a.task.recipient }

-- What is claimed in the log of server `n` is what the server attempts. An attempt is the pass of
-- its own number: it has claimed its delivery, with its claim, and has done nothing since.
pub record IsTied (attempts : List Attempt) (claims : List Claim) (n : ℕ) (log : Log)
    : Type 0 where
  pub held : (k : ℕ) (a : Attempt) → slice_get attempts k ≡ Some a → is_open_at n a ≡ true
      → (c : Claim) × (slice_get claims k ≡ Some c) × HasClaimed (Some k) log (pair_at a) c
  pub taken : (p : Pair) → is_claimed_in log p
      ≡ list_any (is_open_for n p.activity p.recipient) attempts

-- The attempt can go on: its server has claimed the delivery at some moment before, had a request
-- for the lookup then, and the body is the document that the activity had.
pub record IsReady {P : Type 0} (moment : ℕ) (seats : List (MachineLog P)) (a : Pending)
    : Type 0 where
  pub seat : MachineLog P
  pub there : slice_get seats a.server ≡ Some seat
  pub earlier : a.claimed ≤ moment
  pub seen : Log
  pub more : Log
  pub is : seat.log ≡ seen ++ more
  pub since : a.since.value.history ≡ history_of seen
  pub known : IsTrue (is_some (lookup_to (town (history_of seen)) a.recipient))
  pub place : ℕ
  pub act : Act
  pub kept : slice_get (town (history_of seen)).acts place ≡ Some act
  pub named : act.activity.id ≡ Some a.activity.value
  pub body : a.body.items ≡ body_of (town (history_of seen)) act

-- The history of the machine is that of its log. It is one that a server may have, and has a host.
pub record IsSeated {P : Type 0} (m : MachineLog P) : Type 0 where
  pub logged : m.core.history ≡ history_of m.log
  pub hosted : IsTrue (is_some (town m.core.history).host)
  pub fit : IsFit m.core.history

-- Events lead to the world; what is claimed at each server is what it attempts, and each of its
-- open attempts can go on.
pub record IsWhole {P : Type 0} (moment : ℕ) (seats : List (MachineLog P)) (requests : List Packet)
    (replies : List Answer) (attempts : List Pending) : Type 0 where
  pub reached : IsReached (world_of moment seats requests replies attempts)
  pub tied : (n : ℕ) (m : MachineLog P) → slice_get seats n ≡ Some m
      → IsTied (map attempt_of attempts) (map claim_in attempts) n m.log
  pub seated : (n : ℕ) (m : MachineLog P) → slice_get seats n ≡ Some m → IsSeated m
  pub ready : (k : ℕ) (a : Pending) → slice_get attempts k ≡ Some a
      → is_open (stage_of a.stage) ≡ true → IsReady moment seats a
