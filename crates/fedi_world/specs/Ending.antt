-- The end of attempts.
use Rattle.std.specs.Prelude.{◌≡◌, ◌≢◌, ℕ, ◌+◌, ◌^◌, ◌<◌, ◌&&◌, nat_eq, true, false, List, [], ◌∷◌}
use Rattle.std.specs.Prelude.{◌++◌, length, slice_get}
use Rattle.std.specs.Prelude.{slice_set, Some, Result, Ok, Err, if◌then◌else◌}
use Rattle.fedi_core.specs.declared.delivering.RecordFault.{RecordFault}
use Rattle.fedi_core.specs.declared.delivering.RecordFault.TheVariants as records
use Rattle.fedi_delivery.specs.Replies.{IsCameOfPost, IsFoundIn}
use Rattle.fedi_delivery.specs.declared.replies.Found.{Found}
use Rattle.fedi_delivery.specs.declared.replies.Found.TheVariants.{Ended}
use Rattle.fedi_entry.specs.Codes.{code_of}
use Rattle.fedi_log.specs.Claims.{HasClaimed}
use Rattle.fedi_log.specs.Log.{Log, history_of, made_by}
use Rattle.fedi_log.specs.declared.items.Pair.{Pair}
use Rattle.fedi_log.specs.declared.items.What.TheVariants.{Entered, Released}
use Rattle.fedi_logged.specs.Claiming.{ChangesClaims, IsPostSince, tried}
use Rattle.fedi_logged.specs.Logs.{MachineLog}
use Rattle.fedi_objects.specs.declared.entry.Came.{Came}
use Rattle.fedi_objects.specs.declared.entry.What.TheVariants.{Failed}
use Rattle.fedi_outside.specs.Keepers.{HasRoom, IsFull, KeeperState}
use Rattle.fedi_worlds.specs.Steps.{IsFit, step_of}
use Rattle.fedi_worlds.specs.Worlds as worlds
use Rattle.fedi_worlds.specs.Worlds.{Stage, is_open}
use Rattle.fedi_world.specs.declared.event.WorldFault.{WorldFault}
use Rattle.fedi_world.specs.declared.event.WorldFault.TheVariants.{NoServer, NoRequest, NoReply}
use Rattle.fedi_world.specs.declared.event.WorldFault.TheVariants.{NoAttempt, NoName, Full, Memory}
use Rattle.fedi_world.specs.declared.parts.Packet.{Packet}
use Rattle.fedi_world.specs.declared.parts.Pending.{Pending}
use Rattle.fedi_world.specs.declared.parts.Stage.TheVariants.{Over}
use Rattle.fedi_world.specs.Happenings.{Limits}
use Rattle.fedi_world.specs.Scenes.{attempt_of, claim_in, stage_of}
use Rattle.fedi_seat.specs.Seats.{IsSeat}
use Rattle.fedi_world.specs.Standing.{pair_at}

-- the result of an attempt that gets no reply at this stage
abbrev pub failed_at : Stage → Came
failed_at stage = record { step = step_of stage; what = Failed }

-- the attempt after an end
abbrev pub over : Pending → Pending
over a = record a { stage = Over }

-- the attempt after a crash of this server
unfoldable pub over_at : ℕ → Pending → Pending
over_at server a =
    if nat_eq a.server server && is_open (stage_of a.stage) then over a else a

-- there is an open attempt of this number
pub record IsOpenAt (attempts : List Pending) (number : ℕ) : Type 0 where
  pub attempt : Pending
  pub there : slice_get attempts number ≡ Some attempt
  pub open_yet : is_open (stage_of attempt.stage) ≡ true

-- there is none
abbrev pub HasNoOpenAt : List Pending → ℕ → Type 0
HasNoOpenAt attempts number =
    (a : Pending) → slice_get attempts number ≡ Some a → is_open (stage_of a.stage) ≡ false

-- why the result was not kept, at a server whose keeper never fails
abbrev pub unkept : RecordFault → WorldFault
unkept records.Full = Full
unkept records.Memory = Memory
unkept records.KeeperFault = Memory

-- what the server makes of the result of an attempt of this delivery: it keeps the entry, or it
-- releases the delivery, as there is no room or no memory
abbrev pub EndsAt : {P : Type 0} → Limits → (P → KeeperState) → ℕ → Pair → Came → ℕ
    → MachineLog P → MachineLog P → Result (Unit {0}) WorldFault → Type 0
EndsAt l shown number p came moment before after (Ok done) =
    (after.core.history ≡ before.core.history ++ tried p came moment ∷ [])
    × (after.log ≡ before.log ++ made_by (Some number) (Entered (tried p came moment)) ∷ [])
    × HasRoom l.room (shown before.core.keeper).end (length (code_of (tried p came moment)))
    × ((shown after.core.keeper).end
    ≡ (shown before.core.keeper).end + l.growth (length (code_of (tried p came moment))))
EndsAt l shown number p came moment before after (Err Full) =
    (after.core.history ≡ before.core.history)
    × (after.log ≡ before.log ++ made_by (Some number) (Released p) ∷ [])
    × IsFull l.room (shown before.core.keeper).end (length (code_of (tried p came moment)))
    × ((shown after.core.keeper).end ≡ (shown before.core.keeper).end)
EndsAt l shown number p came moment before after (Err Memory) =
    (after.core.history ≡ before.core.history)
    × (after.log ≡ before.log ++ made_by (Some number) (Released p) ∷ [])
    × ((shown after.core.keeper).end ≡ (shown before.core.keeper).end)
EndsAt l shown number p came moment before after (Err NoServer) = ⊥
EndsAt l shown number p came moment before after (Err NoRequest) = ⊥
EndsAt l shown number p came moment before after (Err NoReply) = ⊥
EndsAt l shown number p came moment before after (Err NoAttempt) = ⊥
EndsAt l shown number p came moment before after (Err NoName) = ⊥

-- what a server has released of its claims: its history and its keeper stay, and so does the
-- history of its log
pub record GivesBack {P : Type 0} (before after : MachineLog P) : Type 0 where
  pub changes : ChangesClaims before.core after.core
  pub history : history_of after.log ≡ history_of before.log

-- the request is the last one of this attempt, which is open
pub record IsOpenOf (requests : List Packet) (attempts : List Pending) (request number : ℕ)
    : Type 0 where
  pub packet : Packet
  pub sent : slice_get requests request ≡ Some packet
  pub of : packet.attempt ≡ number
  pub attempt : Pending
  pub there : slice_get attempts number ≡ Some attempt
  pub open_yet : is_open (stage_of attempt.stage) ≡ true
  pub last : attempt.request ≡ request

-- it is the last one of no open attempt
abbrev pub HasNoOpen : List Packet → List Pending → ℕ → Type 0
HasNoOpen requests attempts request =
    (q : Packet) (a : Pending) → slice_get requests request ≡ Some q
    → slice_get attempts q.attempt ≡ Some a → is_open (stage_of a.stage) ≡ true
    → a.request ≢ request

-- ---- what a reply shows

-- What the reply to the last request of an attempt at this stage shows: that to a lookup the inbox,
-- or how the attempt ends; and that to a post how it ends.
abbrev pub IsHeard : Stage → List ℕ → List ℕ → Found → Type 0
IsHeard worlds.Looking recipient text found = IsFoundIn recipient (Some text) found
IsHeard worlds.Posting recipient text found =
    (came : Came) × (found ≡ Ended came) × IsCameOfPost (Some text) came
IsHeard worlds.Over recipient text found =
    (came : Came) × (found ≡ Ended came) × IsCameOfPost (Some text) came

-- the server has claimed the delivery of this attempt for it
pub record HasClaim {P : Type 0} (seats : List (MachineLog P)) (attempts : List Pending)
    (number : ℕ) : Type 0 where
  pub attempt : Pending
  pub there : slice_get attempts number ≡ Some attempt
  pub seat : MachineLog P
  pub at : slice_get seats attempt.server ≡ Some seat
  pub held : HasClaimed (Some number) seat.log (pair_at (attempt_of attempt)) (claim_in attempt)

-- the text is the post of what this attempt delivers to the inbox, which fits in memory
abbrev pub IsPost : {P : Type 0} → List (MachineLog P) → List Pending → ℕ → (inbox text : List ℕ)
    → Type 0
IsPost {P} seats attempts number inbox text =
    (a : Pending) (m : MachineLog P) → slice_get attempts number ≡ Some a
    → slice_get seats a.server ≡ Some m
    → IsPostSince m.log (pair_at (attempt_of a)) inbox a.body.items text
    × (length a.body.items < 2 ^ 64)
