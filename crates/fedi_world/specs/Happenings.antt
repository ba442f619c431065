-- What has happened in a world, and why something has not (ActivityPub, sections 6 and 7.1).
use Rattle.std.specs.Prelude.{◌↔◌, IsErrOf}
use Rattle.std.specs.Prelude.{◌≡◌, ◌≢◌, ◌⊎◌, ℕ, ◌+◌, ◌≤◌, true, false, List, [], ◌∷◌}
use Rattle.std.specs.Prelude.{length, slice_get, slice_set, Option, Some, None, Result, Ok, Err}
use Rattle.fedi_delivery.specs.Replies.{IsCameOfPost, IsFoundIn}
use Rattle.fedi_delivery.specs.declared.replies.Found.TheVariants.{Ended}
use Rattle.fedi_entry.specs.Codes.{code_of}
use Rattle.fedi_log.specs.Keeping.{growth_of}
use Rattle.fedi_model.specs.declared.ask.Ask.TheVariants.{Outbox}
use Rattle.fedi_model.specs.declared.post.KeyAsk.TheVariants.{Absent}
use Rattle.fedi_model.specs.declared.post.Post.{Post}
use Rattle.fedi_model.specs.declared.reply.Reply as replies
use Rattle.fedi_model.specs.declared.request.Request as requests
use Rattle.fedi_model.specs.Answers.{Answers}
use Rattle.fedi_model.specs.Asks.{entry_of}
use Rattle.fedi_model.specs.Routes.{ReadsBody, no_digest}
use Rattle.fedi_objects.specs.declared.entry.Came.{Came}
use Rattle.fedi_objects.specs.declared.entry.Entry.{Entry}
use Rattle.fedi_objects.specs.declared.entry.Entry.TheVariants.{Tried}
use Rattle.fedi_objects.specs.declared.entry.What.TheVariants.{Failed}
use Rattle.fedi_outside.specs.Keepers.{IsFull}
use Rattle.fedi_reading.specs.Activities.{reads_activity}
use Rattle.fedi_town.specs.declared.caller.Caller.TheVariants.{Actor}
use Rattle.fedi_town.specs.declared.refusal.Refusal.{Refusal}
use Rattle.fedi_town.specs.Histories.{town}
use Rattle.fedi_town.specs.Towns.{id_of}
use Rattle.fedi_worlds.specs.Events as events
use Rattle.fedi_worlds.specs.Steps.{Asks, Claims, Idles, Arrives, Reaches, Loses, Crashes, Settles}
use Rattle.fedi_worlds.specs.Steps.{Steps, step_of}
use Rattle.fedi_worlds.specs.Worlds.{Server, Request, Reply, Attempt, World, keeping, is_open}
use Rattle.fedi_worlds.specs.Worlds.{Stage, Looking, Posting, Over, replaced, ended}
use Rattle.fedi_world.specs.declared.event.Event.{Event}
use Rattle.fedi_world.specs.declared.event.Event.TheVariants.{Say, Claim, Arrive, Reach, Lose}
use Rattle.fedi_world.specs.declared.event.Event.TheVariants.{Crash, Wait}
use Rattle.fedi_world.specs.declared.event.Happened.{Happened}
use Rattle.fedi_world.specs.declared.event.Happened.TheVariants.{Replied, Sent, Idle, Answered}
use Rattle.fedi_world.specs.declared.event.Happened.TheVariants.{Moved, Recorded, Crashed, Waited}
use Rattle.fedi_world.specs.declared.event.WorldFault.{WorldFault}
use Rattle.fedi_world.specs.declared.event.WorldFault.TheVariants.{NoServer, NoRequest, NoReply}
use Rattle.fedi_world.specs.declared.event.WorldFault.TheVariants.{NoAttempt, NoName, Full, Memory}
use Rattle.fedi_world.specs.Scenes.{Scene}
use Rattle.fedi_seat.specs.Serving.{FitsAt}

-- ---- room for entries

-- a keeper, by how far a record of some length moves its end, and by how much room it needs
pub record Limits : Type 0 where
  pub growth : ℕ → ℕ
  pub room : ℕ → ℕ

-- these, together
abbrev pub limits : (growth room : ℕ → ℕ) → Limits
limits growth room = record { growth = growth; room = room }

-- these entries are kept at server `n`, as there is room for the one that is made
pub record Fits (l : Limits) (n : ℕ) (made : Option Entry) (more : List Entry)
    (before after : List ℕ) : Type 0 where
  pub end : ℕ
  pub there : slice_get before n ≡ Some end
  pub fits : FitsAt l.room end made more
  pub moved : after ≡ slice_set before n (end + growth_of l.growth more)

-- ---- which event it is

-- what the author posts who sends this body to its outbox, as ActivityStreams and without a key
-- (ActivityPub, section 6)
pub record IsPostBy (author body : List ℕ) (post : Post) : Type 0 where
  pub typed : post.is_typed ≡ true
  pub key : post.key ≡ Absent
  pub digest : post.digest ≡ no_digest
  pub read : ReadsBody (reads_activity author) body post.read

-- The event is this one of the definitions. A member that says something asks its server to take
-- its post.
abbrev pub Means : World → Event → events.Event → Type 0
Means w (Say n name body) e =
    (server : Server) × (slice_get w.servers n ≡ Some server)
    × (author : List ℕ) × (id_of (town server.history) name ≡ Some author)
    × (post : Post) × IsPostBy author body.items post
    × (e ≡ events.Asking n (Actor name) (Outbox name post))
Means w (Claim n) e = e ≡ events.Claim n
Means w (Arrive k) e = e ≡ events.Arrive k
Means w (Reach j) e = e ≡ events.Reach j
Means w (Lose number) e = e ≡ events.Lose number
Means w (Crash n) e = e ≡ events.Crash n
Means w (Wait seconds) e = e ≡ events.Wait seconds

-- ---- what has happened

-- the attempt with this number has ended with this result, which its server has kept
pub record Ends (w : World) (number : ℕ) (a : Attempt) (came : Came) (v : World) : Type 0 where
  pub known : slice_get w.attempts number ≡ Some a
  pub open_yet : is_open a.stage ≡ true
  pub after : v ≡ record w {
    servers = keeping a.task.server
        (Tried a.task.activity a.task.recipient came w.moment ∷ []) w.servers;
    attempts = replaced number (ended a) w.attempts;
  }

-- the same, and there was room for the result
abbrev pub EndsIn : Limits → Scene → ℕ → Came → Scene → Type 0
EndsIn l w number came v =
    (a : Attempt) × Ends w.world number a came v.world
    × Fits l a.task.server
    (Some (Tried a.task.activity a.task.recipient came w.world.moment))
    (Tried a.task.activity a.task.recipient came w.world.moment ∷ []) w.ends v.ends

-- what came is answered in this way, with the entry that is made if there is room for it
abbrev pub AnswersAt : Limits → ℕ → List Entry → ℕ → Result requests.Request Refusal → List ℕ
    → replies.Reply → List Entry → List ℕ → List ℕ → Type 0
AnswersAt l n h moment (Ok q) body given more before after =
    (r : replies.Reply) × (made : Option Entry) × Answers (town h) moment q body r made
    × Settles r made given more × Fits l n made more before after
AnswersAt l n h moment (Err e) body given more before after = after ≡ before

-- what is said of an event happened, between the world before (w) and the world after it (v)
abbrev pub Tells : Limits → Scene → events.Event → Happened → Scene → Type 0
Tells l w (events.Asking n c ask) (Replied status location) v =
    (given : replies.Reply) × (asks : Asks w.world n c ask given v.world)
    × (status ≡ given.status) × (location ≡ given.location)
    × Fits l n (entry_of (town asks.server.history) c ask w.world.moment) asks.more w.ends v.ends
Tells l w (events.Claim n) (Sent attempt request) v =
    Claims w.world n v.world × (attempt ≡ length w.world.attempts)
    × (request ≡ length w.world.requests) × (v.ends ≡ w.ends)
Tells l w (events.Claim n) Idle v = Idles w.world n v.world × (v.ends ≡ w.ends)
Tells l w (events.Arrive k) (Answered reply status) v =
    (given : replies.Reply) × (arrives : Arrives w.world k given v.world)
    × (reply ≡ length w.world.replies) × (status ≡ given.status)
    × AnswersAt l arrives.number arrives.server.history w.world.moment arrives.came arrives.body
    given arrives.more w.ends v.ends
Tells l w (events.Reach j) (Moved request) v =
    Reaches w.world j v.world × (request ≡ length w.world.requests)
    × (length v.world.requests ≡ request + 1) × (v.ends ≡ w.ends)
Tells l w (events.Reach j) (Recorded came) v =
    Reaches w.world j v.world × ((number : ℕ) × EndsIn l w number came v)
Tells l w (events.Lose number) (Recorded came) v =
    Loses w.world number v.world × EndsIn l w number came v × (came.what ≡ Failed)
Tells l w (events.Crash n) Crashed v = Crashes w.world n v.world × (v.ends ≡ w.ends)
Tells l w (events.Wait seconds) Waited v = (v.ends ≡ w.ends)
Tells l w e what v = ⊥

-- what happened is the event, and this is said of it
pub record Happens (l : Limits) (w : Scene) (event : Event) (what : Happened) (v : Scene)
    : Type 0 where
  pub kind : events.Event
  pub means : Means w.world event kind
  pub steps : Steps w.world kind v.world
  pub tells : Tells l w kind what v

-- ---- why nothing has happened

-- there is no server of this number, or none with the host of the request
abbrev pub LacksServer : World → Event → Type 0
LacksServer w (Say n name body) = length w.servers ≤ n
LacksServer w (Claim n) = length w.servers ≤ n
LacksServer w (Arrive k) =
    (request : Request) × (slice_get w.requests k ≡ Some request)
    × ((n : ℕ) (s : Server) → slice_get w.servers n ≡ Some s → s.host ≢ request.host)
LacksServer w (Reach j) = ⊥
LacksServer w (Lose number) = ⊥
LacksServer w (Crash n) = length w.servers ≤ n
LacksServer w (Wait seconds) = ⊥

-- there is no such request
abbrev pub LacksRequest : World → Event → Type 0
LacksRequest w (Arrive k) = length w.requests ≤ k
LacksRequest w event = ⊥

-- there is no such reply
abbrev pub LacksReply : World → Event → Type 0
LacksReply w (Reach j) = length w.replies ≤ j
LacksReply w event = ⊥

-- there is no open attempt of this number, or the reply does not answer the last request of an open
-- attempt
abbrev pub LacksAttempt : World → Event → Type 0
LacksAttempt w (Lose number) =
    (a : Attempt) → slice_get w.attempts number ≡ Some a → is_open a.stage ≡ false
LacksAttempt w (Reach j) =
    (back : Reply) × (slice_get w.replies j ≡ Some back)
    × ((request : Request) (a : Attempt) → slice_get w.requests back.request ≡ Some request
    → slice_get w.attempts request.attempt ≡ Some a → is_open a.stage ≡ true
    → a.request ≢ back.request)
LacksAttempt w event = ⊥

-- the server has no member of this name
abbrev pub LacksName : World → Event → Type 0
LacksName w (Say n name body) =
    (server : Server) × (slice_get w.servers n ≡ Some server)
    × (id_of (town server.history) name ≡ None)
LacksName w event = ⊥

-- each fault that says that something is not there comes exactly if it is not
pub record AreCaused (w : World) (event : Event) (answer : Result Happened WorldFault)
    : Type 0 where
  pub no_server : IsErrOf answer NoServer ↔ LacksServer w event
  pub no_request : IsErrOf answer NoRequest ↔ LacksRequest w event
  pub no_reply : IsErrOf answer NoReply ↔ LacksReply w event
  pub no_attempt : IsErrOf answer NoAttempt ↔ LacksAttempt w event
  pub no_name : IsErrOf answer NoName ↔ LacksName w event

-- ---- what stays after a refusal

-- The attempt with this number has ended, its server has kept nothing, and may claim the delivery
-- again.
pub record Forgets (w : World) (number : ℕ) (v : World) : Type 0 where
  pub attempt : Attempt
  pub known : slice_get w.attempts number ≡ Some attempt
  pub after : v ≡ record w { attempts = replaced number (ended attempt) w.attempts }

-- the event is the end of this attempt, whose result was not kept
abbrev pub IsForgotten : World → Event → World → Type 0
IsForgotten w (Reach j) v = Reaches w j v × ((number : ℕ) × Forgets w number v)
IsForgotten w (Lose number) v = Loses w number v × Forgets w number v
IsForgotten w event v = ⊥

-- the reply to the last request of an attempt at this stage ends the attempt with this result
abbrev pub EndsWith : Stage → (recipient text : List ℕ) → Came → Type 0
EndsWith Looking recipient text came = IsFoundIn recipient (Some text) (Ended came)
EndsWith Posting recipient text came = IsCameOfPost (Some text) came
EndsWith Over recipient text came = ⊥

-- the reply reaches this attempt, whose last request it answers, and ends it with this result
pub record IsEndedBy (w : World) (j : ℕ) (a : Attempt) (came : Came) : Type 0 where
  pub back : Reply
  pub sent : slice_get w.replies j ≡ Some back
  pub request : Request
  pub asked : slice_get w.requests back.request ≡ Some request
  pub known : slice_get w.attempts request.attempt ≡ Some a
  pub last : a.request ≡ back.request
  pub ends : EndsWith a.stage a.task.recipient back.text came

-- the server of the attempt has no room for this result of it
pub record IsNoRoomFor (l : Limits) (w : Scene) (a : Attempt) (came : Came) : Type 0 where
  pub end : ℕ
  pub there : slice_get w.ends a.task.server ≡ Some end
  pub full : IsFull l.room end
      (length (code_of (Tried a.task.activity a.task.recipient came w.world.moment)))

-- there is no room for the result with which an attempt ends
abbrev pub LacksRoom : Limits → Scene → Event → Type 0
LacksRoom l w (Reach j) =
    (a : Attempt) × (came : Came) × IsEndedBy w.world j a came × IsNoRoomFor l w a came
LacksRoom l w (Lose number) =
    (a : Attempt) × (slice_get w.world.attempts number ≡ Some a) × (is_open a.stage ≡ true)
    × IsNoRoomFor l w a (record { step = step_of a.stage; what = Failed })
LacksRoom l w event = ⊥

-- What is left where there was no memory. A reply leaves all as before, or ends its attempt without
-- the result; an attempt that is lost has ended, and a server that crashes has crashed. Time takes
-- no memory. Whatever else did not happen leaves all as before.
abbrev pub IsCutShort : World → Event → World → Type 0
IsCutShort w (Reach j) v = (v ≡ w) ⊎ IsForgotten w (Reach j) v
IsCutShort w (Lose number) v = IsForgotten w (Lose number) v
IsCutShort w (Crash n) v = Crashes w n v
IsCutShort w (Wait seconds) v = ⊥
IsCutShort w event v = v ≡ w

-- what is left after a refusal
abbrev pub Leaves : Limits → WorldFault → Scene → Event → Scene → Type 0
Leaves l NoServer w event v = v ≡ w
Leaves l NoRequest w event v = v ≡ w
Leaves l NoReply w event v = v ≡ w
Leaves l NoAttempt w event v = v ≡ w
Leaves l NoName w event v = v ≡ w
Leaves l Full w event v =
    LacksRoom l w event × IsForgotten w.world event v.world × (v.ends ≡ w.ends)
Leaves l Memory w event v = IsCutShort w.world event v.world × (v.ends ≡ w.ends)
