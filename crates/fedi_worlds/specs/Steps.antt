-- What each event makes of a world: delivery between servers (ActivityPub, section 7.1), where any
-- message may be lost, delayed, repeated and overtaken, and any server may crash.
--
-- What is supposed about keys is said by the form of the events, and nowhere else. A key that two
-- servers share is known to them alone: so whoever asks a server of his own accord is no peer of it
-- (`no_peer` in `Asks`), and a request that shows a peer's code exists only as bytes that a server
-- made and sent (`sent` in `Arrives`), to which `Claims` and `Posts` alone add. Whoever has seen
-- these bytes may send them again, as they are. Nothing is supposed about HMAC (RFC 2104) as a
-- function.
--
-- What is supposed about the way between servers is said in the same form. An address leads to its
-- host (RFC 9110, section 4.3.3), so a request arrives at the server that it is for or nowhere
-- (`host` in `Arrives`), and a reply that is heard is one that this server has sent (`sent` in
-- `Reaches`), though nothing signs it.
use Rattle.std.specs.Prelude.{◌≡◌, ◌⊎◌, ℕ, ◌+◌, ◌^◌, ◌<◌, min, Bool, true, false, not, List, []}
use Rattle.std.specs.Prelude.{◌∷◌}
use Rattle.std.specs.Prelude.{◌++◌, length, map, filter, slice_get, option_to_list, Option, Some}
use Rattle.std.specs.Prelude.{None}
use Rattle.std.specs.Prelude.{Result, Ok, Err, IsTrue, is_some}
use Rattle.std.specs.List.{list_any}
use Rattle.fedi_address.specs.Iris.{host_of}
use Rattle.fedi_delivery.specs.Deliveries.{body_of, lookup_to, post_to}
use Rattle.fedi_delivery.specs.Replies.{IsCameOfPost, IsFoundIn}
use Rattle.fedi_delivery.specs.declared.replies.Found.TheVariants.{Inbox, Ended}
use Rattle.fedi_http.specs.Arrivals.{IsArrival}
use Rattle.fedi_http.specs.declared.arrivals.Arrived.TheVariants as arrivals
use Rattle.fedi_http.specs.declared.heads.TheConstants.{HEAD_LIMIT}
use Rattle.fedi_http.specs.declared.requests.TheConstants.{MOST_FIELDS}
use Rattle.fedi_log.specs.Claims.{IsFirst}
use Rattle.fedi_model.specs.declared.ask.Ask.{Ask}
use Rattle.fedi_model.specs.declared.reply.Reply as replies
use Rattle.fedi_model.specs.declared.request.Request as requests
use Rattle.fedi_model.specs.Answers.{Answers}
use Rattle.fedi_model.specs.Asks.{entry_of}
use Rattle.fedi_model.specs.Reading.{is_peer}
use Rattle.fedi_model.specs.Refusing.{refused}
use Rattle.fedi_model.specs.Replies.{reply}
use Rattle.fedi_model.specs.ReplyText.{reply_text}
use Rattle.fedi_objects.specs.declared.entry.Came.{Came}
use Rattle.fedi_objects.specs.declared.entry.Entry.{Entry}
use Rattle.fedi_objects.specs.declared.entry.Entry.TheVariants.{Tried}
use Rattle.fedi_objects.specs.declared.entry.Sent.{Sent}
use Rattle.fedi_objects.specs.declared.entry.Sent.TheVariants as sent
use Rattle.fedi_objects.specs.declared.entry.What.TheVariants.{Failed}
use Rattle.fedi_queue.specs.Due.{due_in}
use Rattle.fedi_town.specs.declared.act.Act.{Act}
use Rattle.fedi_town.specs.declared.caller.Caller.{Caller}
use Rattle.fedi_town.specs.declared.refusal.Refusal.{Refusal}
use Rattle.fedi_town.specs.declared.refusal.Refusal.TheVariants.{JournalFull}
use Rattle.fedi_town.specs.Histories.{town}
use Rattle.fedi_town.specs.Legal.{IsLegal}
use Rattle.fedi_town.specs.Queues.{Delivery}
use Rattle.fedi_worlds.specs.Events.{Event, Asking, Claim, Arrive, Reach, Lose, Crash, Wait}
use Rattle.fedi_worlds.specs.Worlds.{Server, Request, Reply, Attempt, World, Stage, Looking}
use Rattle.fedi_worlds.specs.Worlds.{Posting}
use Rattle.fedi_worlds.specs.Worlds.{Over, keeping, is_open, is_open_for, replaced, ended}
use Rattle.fedi_worlds.specs.Worlds.{crashed_at}

-- ---- what a server answers

-- The reply is this one, and the entry that the request makes, if any, is kept; or there is no room
-- for the entry, nothing is kept, and the reply says so.
abbrev pub Settles : replies.Reply → Option Entry → replies.Reply → List Entry → Type 0
Settles r made given more =
    ((given ≡ r) × (more ≡ option_to_list made))
    ⊎ (IsTrue (is_some made) × (given ≡ refused JournalFull) × (more ≡ []))

-- the bytes begin with a request with this body, or with something that is refused (RFC 9112,
-- sections 2 to 7)
abbrev pub Comes : List ℕ → Result requests.Request Refusal → List ℕ → Type 0
Comes text (Ok q) body =
    (rest : List ℕ) × IsArrival HEAD_LIMIT MOST_FIELDS text (arrivals.Request q) body rest
Comes text (Err e) body = IsArrival HEAD_LIMIT MOST_FIELDS text (arrivals.Refused e) [] []

-- At this history, what came is answered with this reply, and these entries are kept. Who asks is
-- judged by the credentials that the request shows, and by nothing else.
abbrev pub IsAnswered : List Entry → ℕ → Result requests.Request Refusal → List ℕ → replies.Reply
    → List Entry → Type 0
IsAnswered h moment (Ok q) body given more =
    (r : replies.Reply) × (made : Option Entry) × Answers (town h) moment q body r made
    × Settles r made given more
IsAnswered h moment (Err e) body given more = (given ≡ refused e) × (more ≡ [])

-- the reply has no body: its request asks for none (RFC 9110, section 9.3.2), as in fedi_logged
abbrev pub is_head_only : Result requests.Request Refusal → Bool
is_head_only (Ok q) = q.head_only
is_head_only (Err e) = false

-- a request that asks to close the connection, or that is refused, is the last on it (RFC 9112,
-- section 9.6)
abbrev pub ends_by : Result requests.Request Refusal → Bool
ends_by (Ok q) = not q.keep_alive
ends_by (Err e) = true

-- ---- claims

-- the server has an open attempt to deliver the activity with this id, if there is one, to this
-- recipient
abbrev pub is_attempted : List Attempt → ℕ → Option (List ℕ) → List ℕ → Bool
is_attempted attempts n None recipient = false
is_attempted attempts n (Some id) recipient = list_any (is_open_for n id recipient) attempts

-- the deliveries that a server with this history may claim at this moment: those that are due, in
-- the order of the queue, without those that it has an open attempt of
abbrev pub free_at : List Attempt → ℕ → ℕ → List Entry → List Delivery
free_at attempts n moment h =
    filter (λ (d : Delivery). not (is_attempted attempts n d.activity d.recipient))
    (due_in (town h) moment)

-- ---- events

-- Nobody or a member asks server `n` of his own accord, and never another server, since nobody else
-- has the key that the two share. The entry that the ask makes is kept, or there is no room for it.
pub record Asks (w : World) (n : ℕ) (c : Caller) (ask : Ask) (given : replies.Reply) (v : World)
    : Type 0 where
  pub server : Server
  pub there : slice_get w.servers n ≡ Some server
  pub no_peer : is_peer c ≡ false
  pub more : List Entry
  pub settles : Settles (reply (town server.history) c ask)
      (entry_of (town server.history) c ask w.moment) given more
  pub after : v ≡ record w { servers = keeping n more w.servers }

-- Server `n` claims the first delivery that it may claim, and sends the lookup of its recipient to
-- the recipient's host (ActivityPub, section 7.1). What it posts later is the activity as it is
-- now.
pub record Claims (w : World) (n : ℕ) (v : World) : Type 0 where
  pub server : Server
  pub there : slice_get w.servers n ≡ Some server
  pub id : List ℕ
  pub recipient : List ℕ
  pub first : IsFirst id recipient (free_at w.attempts n w.moment server.history)
  pub text : List ℕ
  pub sent : lookup_to (town server.history) recipient ≡ Some text
  pub after : v ≡ record w {
    requests = w.requests ++ record {
      attempt = length w.attempts;
      host = host_of recipient;
      text = text;
    } ∷ [];
    attempts = w.attempts ++ record {
      task = record {
        server = n;
        since = server.history;
        activity = id;
        recipient = recipient;
      };
      request = length w.requests;
      stage = Looking;
    } ∷ [];
  }

-- server `n` has nothing to claim
pub record Idles (w : World) (n : ℕ) (v : World) : Type 0 where
  pub server : Server
  pub there : slice_get w.servers n ≡ Some server
  pub none : free_at w.attempts n w.moment server.history ≡ []
  pub after : v ≡ w

-- A request that was sent arrives at the server that has its host, whenever, and however often it
-- has arrived before: the server sees its bytes alone. It is answered by the server's history at
-- this moment. Each arrival makes one more reply, which fits in memory.
pub record Arrives (w : World) (k : ℕ) (given : replies.Reply) (v : World) : Type 0 where
  pub request : Request
  pub sent : slice_get w.requests k ≡ Some request
  pub number : ℕ
  pub server : Server
  pub there : slice_get w.servers number ≡ Some server
  pub host : server.host ≡ request.host
  pub came : Result requests.Request Refusal
  pub body : List ℕ
  pub comes : Comes request.text came body
  pub more : List Entry
  pub answered : IsAnswered server.history w.moment came body given more
  pub short : length given.body < 2 ^ 64
  pub after : v ≡ record w {
    servers = keeping number more w.servers;
    replies = w.replies ++ record {
      request = k;
      text = reply_text w.moment (is_head_only came) (ends_by came) given;
    } ∷ [];
  }

-- The attempt ends with this result, which its server keeps; or the server has no room for the
-- entry, keeps nothing, and may claim the delivery again.
pub record Records (w : World) (number : ℕ) (a : Attempt) (came : Came) (v : World) : Type 0 where
  pub more : List Entry
  pub kept : (more ≡ Tried a.task.activity a.task.recipient came w.moment ∷ []) ⊎ (more ≡ [])
  pub after : v ≡ record w {
    servers = keeping a.task.server more w.servers;
    attempts = replaced number (ended a) w.attempts;
  }

-- The activity is posted to the inbox that was found (ActivityPub, section 7.1): as its document
-- was at the claim, whatever has become of the activity since. It fits in memory.
pub record Posts (w : World) (number : ℕ) (a : Attempt) (inbox : List ℕ) (v : World)
    : Type 0 where
  pub place : ℕ
  pub act : Act
  pub there : slice_get (town a.task.since).acts place ≡ Some act
  pub named : act.activity.id ≡ Some a.task.activity
  pub text : List ℕ
  pub short : length (body_of (town a.task.since) act) < 2 ^ 64
  pub sent : post_to (town a.task.since) a.task.recipient inbox
      (body_of (town a.task.since) act) ≡ Some text
  pub after : v ≡ record w {
    requests = w.requests ++ record {
      attempt = number;
      host = host_of inbox;
      text = text;
    } ∷ [];
    attempts = replaced number (record a { request = length w.requests; stage = Posting })
        w.attempts;
  }

-- the reply to a lookup shows the recipient's inbox, to which the activity is then posted; or it
-- shows none, which ends the attempt
abbrev pub Continues : World → ℕ → Attempt → List ℕ → World → Type 0
Continues w number a text v =
    ((inbox : List ℕ) × IsFoundIn a.task.recipient (Some text) (Inbox inbox)
    × Posts w number a inbox v)
    ⊎ ((came : Came) × IsFoundIn a.task.recipient (Some text) (Ended came)
    × Records w number a came v)

-- what a reply does to the attempt: that to the lookup continues it, that to the post ends it with
-- what the reply shows, and an attempt that is over hears nothing
abbrev pub Hears : Stage → World → ℕ → Attempt → List ℕ → World → Type 0
Hears Looking w number a text v = Continues w number a text v
Hears Posting w number a text v =
    (came : Came) × IsCameOfPost (Some text) came × Records w number a came v
Hears Over w number a text v = ⊥

-- a reply that was sent, to whichever arrival of its request, reaches the attempt whose last
-- request it answers
pub record Reaches (w : World) (j : ℕ) (v : World) : Type 0 where
  pub back : Reply
  pub sent : slice_get w.replies j ≡ Some back
  pub request : Request
  pub asked : slice_get w.requests back.request ≡ Some request
  pub attempt : Attempt
  pub known : slice_get w.attempts request.attempt ≡ Some attempt
  pub last : attempt.request ≡ back.request
  pub hears : Hears attempt.stage w request.attempt attempt back.text v

-- the request that an attempt at this stage waits for
abbrev pub step_of : Stage → Sent
step_of Looking = sent.Lookup
step_of Posting = sent.Post
step_of Over = sent.Post

-- An open attempt hears no reply to its last request, and ends as failed. The request may have
-- arrived and may still arrive.
pub record Loses (w : World) (number : ℕ) (v : World) : Type 0 where
  pub attempt : Attempt
  pub known : slice_get w.attempts number ≡ Some attempt
  pub open_yet : is_open attempt.stage ≡ true
  pub records : Records w number attempt (record { step = step_of attempt.stage; what = Failed }) v

-- server `n` forgets its attempts, and nothing that it has kept; what was sent stays sent
pub record Crashes (w : World) (n : ℕ) (v : World) : Type 0 where
  pub server : Server
  pub there : slice_get w.servers n ≡ Some server
  pub after : v ≡ record w { attempts = map (crashed_at n) w.attempts }

-- The event makes this of the world, apart from what each history allows. The clocks of all servers
-- agree, and stop at the last second of the year 9999.
abbrev pub Happens : World → Event → World → Type 0
Happens w (Asking n c ask) v = (given : replies.Reply) × Asks w n c ask given v
Happens w (Claim n) v = Claims w n v ⊎ Idles w n v
Happens w (Arrive k) v = (given : replies.Reply) × Arrives w k given v
Happens w (Reach j) v = Reaches w j v
Happens w (Lose number) v = Loses w number v
Happens w (Crash n) v = Crashes w n v
Happens w (Wait seconds) v = v ≡ record w { moment = min (w.moment + seconds) 253402300799 }

-- a history that a server may have: it is legal, and its activities are counted in 64 bits
pub record IsFit (h : List Entry) : Type 0 where
  pub legal : IsLegal h
  pub few : length (town h).acts < 2 ^ 64

-- The event makes this of the world, and each server keeps only what may come next in its history.
pub record Steps (w : World) (e : Event) (v : World) : Type 0 where
  pub happens : Happens w e v
  pub fit : (n : ℕ) (s : Server) → slice_get v.servers n ≡ Some s → IsFit s.history

-- these events, one after the other, make this of the world
abbrev pub Runs : World → List Event → World → Type 0
Runs w [] v = v ≡ w
Runs w (e ∷ es) v = (u : World) × Steps w e u × Runs u es v
