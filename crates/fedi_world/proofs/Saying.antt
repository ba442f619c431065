-- A member of a server posts.
use Rattle.std.proofs.Common.{Vec, Global, ◌≡◌, ℕ, ◌+◌, ◌<◌, true, false, List, [], ◌∷◌, ◌++◌, length, Option, Some, None, Result, Ok, Err, arith, refl, sym, ap, ◌∙◌, subst}
use Rattle.std.specs.Prelude.{map, slice_get, slice_set, is_some, IsTrue, IfSome}
use Rattle.serde_json.specs.Data.{Data}
use Rattle.fedi_logged.specs.Logs.{MachineLog}
use Rattle.fedi_model.specs.Asks.{IsRead, entry_of}
use Rattle.fedi_model.specs.Replies.{reply}
use Rattle.fedi_model.specs.Routes.{IsPostableAt, ReadsBody}
use Rattle.fedi_model.specs.declared.ask.Ask.TheVariants.{Outbox}
use Rattle.fedi_model.specs.declared.post.Post.{Post}
use Rattle.fedi_model.specs.declared.post.Read.{Read}
use Rattle.fedi_model.specs.declared.post.Read.TheVariants.{NotJson, Bad, Ready}
use Rattle.fedi_model.specs.declared.reply.Reply as answers
use Rattle.fedi_model.proofs.PostedActivity.{activity_is_posted}
use Rattle.fedi_objects.specs.declared.entry.Entry.{Entry}
use Rattle.fedi_outside.specs.declared.keepers.Keeper.{Ghosts}
use Rattle.fedi_reading.specs.Activities.{reads_activity}
use Rattle.fedi_routes.proofs.AskLemmas.{read_for}
use Rattle.fedi_seat.specs.Serving.{IsGiven, Stays}
use Rattle.fedi_town.specs.declared.caller.Caller.TheVariants.{Actor}
use Rattle.fedi_town.specs.Histories.{town}
use Rattle.fedi_town.specs.Ids.{actor_id}
use Rattle.fedi_town.specs.Legal.{IsLegal}
use Rattle.fedi_town.specs.Shapes.{is_posted}
use Rattle.fedi_town.specs.Towns.{id_of}
use Rattle.fedi_town.proofs.Naming.{members_have_ids}
use Rattle.fedi_worlds.specs.Events as events
use Rattle.fedi_worlds.specs.Steps.{Asks, IsFit, Steps}
use Rattle.fedi_worlds.specs.Worlds.{Server, World, keeping}
use Rattle.fedi_world.specs.declared.event.Event.TheVariants.{Say}
use Rattle.fedi_world.specs.declared.event.Happened.TheVariants.{Replied}
use Rattle.fedi_world.specs.declared.event.WorldFault.{WorldFault}
use Rattle.fedi_world.specs.declared.event.WorldFault.TheVariants.{NoServer, NoRequest, NoReply, NoAttempt, NoName, Full, Memory}
use Rattle.fedi_world.specs.declared.parts.Answer.{Answer}
use Rattle.fedi_world.specs.declared.parts.Packet.{Packet}
use Rattle.fedi_world.specs.declared.parts.Pending.{Pending}
use Rattle.fedi_world.specs.Happenings.{AreCaused, Happens, IsPostBy, Leaves, Limits, limits}
use Rattle.fedi_world.specs.Posting.{IsPosted}
use Rattle.fedi_world.specs.Scenes.{Scene, scene_of, world_of}
use Rattle.fedi_world.specs.Standing.{IsWhole}
use Rattle.fedi_world.proofs.Causes.{caused_memory, caused_ok, say_nobody, say_there}
use Rattle.fedi_world.proofs.Kept.{IsGrown, fits_grown, grown_servers, is_grown, seated_grown, stays_scene, untried_made, untried_settled, whole_grown, whole_stays}
use Rattle.fedi_world.proofs.Spots.{map_at}
use Rattle.fedi_world.proofs.Whole.{fit_servers, seen_at}

-- ---- what may be posted

read_posted : (author body : List ℕ) (read : Read) → ReadsBody (reads_activity author) body read → IsRead (is_posted author) read
read_posted author body NotJson h = tt
read_posted author body (Bad fault) h = tt
read_posted author body (Ready a) h = activity_is_posted h.0 a author h.2

-- a member of another legal history with this host and of this name has the same id
same_id : (h : List Entry) (host : Option (List ℕ)) (name author : List ℕ) → IsLegal h → is_some host ≡ true → (town h).host ≡ host → id_of (town h) name ≡ Some author
    → (g : List Entry) (own : List ℕ) → IsLegal g → (town g).host ≡ host → id_of (town g) name ≡ Some own → own ≡ author
same_id h None name author legal there hosted known g own legal' hosted' known' = absurd cc
same_id h (Some host) name author legal there hosted known g own legal' hosted' known' =
    (members_have_ids g host name own legal' hosted' known').1 ∙ sym (members_have_ids h host name author legal hosted known).1

pub postable : (h : List Entry) (name author body : List ℕ) (post : Post) → IsLegal h → is_some (town h).host ≡ true → id_of (town h) name ≡ Some author
    → ReadsBody (reads_activity author) body post.read → IsPostableAt (town h).host (Outbox name post)
postable h name author body post legal there known reads = λ g legal' hosted'.
    read_for author (id_of (town g) name) post.read (λ own known'. same_id h (town h).host name author legal there refl known g own legal' hosted' known')
    (read_posted author body post.read reads)

-- ---- the answer

-- what the author's post is answered with
pub record IsSaid {P : Type 0} (k : Ghosts P) (seats : List (MachineLog P)) (n : ℕ) (name body : List ℕ) (moment : ℕ) (m now : MachineLog P) (given : answers.Reply) : Type 0 where
  pub author : List ℕ
  pub post : Post
  pub known : id_of (town m.core.history) name ≡ Some author
  pub reads : IsPostBy author body post
  pub is : IsGiven k (reply (town m.core.history) (Actor name) (Outbox name post)) (entry_of (town m.core.history) (Actor name) (Outbox name post) moment) given m now
  pub grown : IsGrown seats n m now is.more

pub is_said : {P : Type 0} (k : Ghosts P) (seats : List (MachineLog P)) (n : ℕ) (name body : List ℕ) (moment : ℕ) (m now : MachineLog P) (given : answers.Reply) → slice_get seats n ≡ Some m
    → IsPosted k name body moment m now (Ok given) → IsFit now.core.history → IsSaid k seats n name body moment m now given
is_said {P} k seats n name body moment m now given at posted fit = record {
  author = posted.0;
  post = posted.1;
  known = posted.2;
  reads = posted.3;
  is = posted.4;
  grown = is_grown k seats n m now _ posted.4.more at posted.4.keeps fit
      (untried_settled (reply (town m.core.history) (Actor name) (Outbox name posted.1)) (entry_of (town m.core.history) (Actor name) (Outbox name posted.1) moment) given
      posted.4.more posted.4.settles
      (untried_made (town m.core.history) (Actor name) (Outbox name posted.1) moment (entry_of (town m.core.history) (Actor name) (Outbox name posted.1) moment) refl));
}

said_event : {P : Type 0} (k : Ghosts P) (moment : ℕ) (seats : List (MachineLog P)) (requests : List Packet) (replies : List Answer) (attempts : List Pending) (n : ℕ) (name body : List ℕ)
    (m now : MachineLog P) (given : answers.Reply) → IsWhole moment seats requests replies attempts → (s : IsSaid k seats n name body moment m now given)
    → Asks (world_of moment seats requests replies attempts) n (Actor name) (Outbox name s.post) given (world_of moment (slice_set seats n now) requests replies attempts)
said_event {P} k moment seats requests replies attempts n name body m now given i s = record {
  server = seen_at m;
  there = map_at (seen_at {P = P}) seats n m s.grown.at;
  no_peer = refl;
  more = s.is.more;
  settles = s.is.settles;
  after = ap (λ (ss : List Server). record (world_of moment seats requests replies attempts) { servers = ss }) (grown_servers {P = P} seats n m now s.is.more (i.seated n m s.grown.at) s.grown);
}

said_steps : {P : Type 0} (k : Ghosts P) (moment : ℕ) (seats : List (MachineLog P)) (requests : List Packet) (replies : List Answer) (attempts : List Pending) (n : ℕ) (name body : List ℕ)
    (m now : MachineLog P) (given : answers.Reply) → IsWhole moment seats requests replies attempts → (s : IsSaid k seats n name body moment m now given)
    → Steps (world_of moment seats requests replies attempts) (events.Asking n (Actor name) (Outbox name s.post)) (world_of moment (slice_set seats n now) requests replies attempts)
said_steps {P} k moment seats requests replies attempts n name body m now given i s = record {
  happens = (given, said_event {P = P} k moment seats requests replies attempts n name body m now given i s);
  fit = fit_servers {P = P} (slice_set seats n now) (seated_grown {P = P} moment seats requests replies attempts n m now s.is.more i s.grown);
}

pub whole_said : {P : Type 0} (k : Ghosts P) (moment : ℕ) (seats : List (MachineLog P)) (requests : List Packet) (replies : List Answer) (attempts : List Pending) (n : ℕ) (name body : List ℕ)
    (m now : MachineLog P) (given : answers.Reply) → IsWhole moment seats requests replies attempts → slice_get seats n ≡ Some m → IsPosted k name body moment m now (Ok given) → IsFit now.core.history
    → IsWhole moment (slice_set seats n now) requests replies attempts
whole_said {P} k moment seats requests replies attempts n name body m now given i at posted fit =
    let s = is_said k seats n name body moment m now given at posted fit in
    whole_grown {P = P} moment seats requests replies replies attempts n m now s.is.more (events.Asking n (Actor name) (Outbox name s.post)) i s.grown
    (said_steps {P = P} k moment seats requests replies attempts n name body m now given i s)

pub happens_said : {P : Type 0} (k : Ghosts P) (moment : ℕ) (seats : List (MachineLog P)) (requests : List Packet) (replies : List Answer) (attempts : List Pending) (n : ℕ) (name : List ℕ)
    (body : Vec ℕ Global) (m now : MachineLog P) (given : answers.Reply) (old : Scene) → scene_of k.shown moment seats requests replies attempts ≡ old
    → IsWhole moment seats requests replies attempts → slice_get seats n ≡ Some m → IsPosted k name body.items moment m now (Ok given) → IsFit now.core.history
    → Happens (limits k.growth k.room) old (Say n name body) (Replied given.status given.location) (scene_of k.shown moment (slice_set seats n now) requests replies attempts)
unfolding said_event
happens_said {P} k moment seats requests replies attempts n name body m now given old same i at posted fit =
    let s = is_said k seats n name body.items moment m now given at posted fit in
    rw (sym same) record {
      kind = events.Asking n (Actor name) (Outbox name s.post);
      means = (seen_at m, map_at (seen_at {P = P}) seats n m at, s.author, s.known, s.post, s.reads, refl);
      steps = said_steps {P = P} k moment seats requests replies attempts n name body.items m now given i s;
      tells = (
        given,
        said_event {P = P} k moment seats requests replies attempts n name body.items m now given i s,
        refl,
        refl,
        fits_grown {P = P} k seats n m now _ s.is.more at s.is.keeps,
      );
    }

pub said_causes : {P : Type 0} (k : Ghosts P) (moment : ℕ) (seats : List (MachineLog P)) (requests : List Packet) (replies : List Answer) (attempts : List Pending) (n : ℕ) (name : List ℕ)
    (body : Vec ℕ Global) (m now : MachineLog P) (given : answers.Reply) (status : ℕ) (location : Option (List ℕ)) (old : World) → world_of moment seats requests replies attempts ≡ old
    → slice_get seats n ≡ Some m → IsPosted k name body.items moment m now (Ok given) → AreCaused old (Say n name body) (Ok (Replied status location))
said_causes {P} k moment seats requests replies attempts n name body m now given status location old same at posted =
    rw (sym same) (caused_ok (world_of moment seats requests replies attempts) (Say n name body) (Replied status location)
    (say_there (world_of moment seats requests replies attempts) n name body (seen_at m) posted.0 (map_at (seen_at {P = P}) seats n m at) posted.2))

-- ---- no answer

some_of : {A : Type 0} (o : Option A) → IsTrue (is_some o) → (x : A) × (o ≡ Some x)
some_of None there = absurd (cc there)
some_of (Some x) there = (x, refl)

-- nothing has changed at the server
pub unsaid : {P : Type 0} (k : Ghosts P) (name body : List ℕ) (moment : ℕ) (m now : MachineLog P) (fault : WorldFault) → IsPosted k name body moment m now (Err fault) → Stays k m now
unsaid k name body moment m now NoServer posted = absurd posted
unsaid k name body moment m now NoRequest posted = absurd posted
unsaid k name body moment m now NoReply posted = absurd posted
unsaid k name body moment m now NoAttempt posted = absurd posted
unsaid k name body moment m now NoName posted = posted.1
unsaid k name body moment m now Full posted = absurd posted
unsaid k name body moment m now Memory posted = posted.1

pub whole_unsaid : {P : Type 0} (k : Ghosts P) (moment : ℕ) (seats : List (MachineLog P)) (requests : List Packet) (replies : List Answer) (attempts : List Pending) (n : ℕ) (name body : List ℕ)
    (m now : MachineLog P) (fault : WorldFault) → IsWhole moment seats requests replies attempts → slice_get seats n ≡ Some m → IsPosted k name body moment m now (Err fault)
    → IsWhole moment (slice_set seats n now) requests replies attempts
whole_unsaid {P} k moment seats requests replies attempts n name body m now fault i at posted =
    whole_stays {P = P} k moment seats requests replies attempts n m now i at (unsaid k name body moment m now fault posted)

pub leaves_unsaid : {P : Type 0} (k : Ghosts P) (moment : ℕ) (seats : List (MachineLog P)) (requests : List Packet) (replies : List Answer) (attempts : List Pending) (n : ℕ) (name : List ℕ)
    (body : Vec ℕ Global) (m now : MachineLog P) (fault : WorldFault) (old : Scene) → scene_of k.shown moment seats requests replies attempts ≡ old → slice_get seats n ≡ Some m
    → IsPosted k name body.items moment m now (Err fault)
    → Leaves (limits k.growth k.room) fault old (Say n name body) (scene_of k.shown moment (slice_set seats n now) requests replies attempts)
leaves_unsaid {P} k moment seats requests replies attempts n name body m now fault old same at posted =
    by fault posted (stays_scene {P = P} k moment seats requests replies attempts n m now at (unsaid k name body.items moment m now fault posted) ∙ same)
  where
    by : (f : WorldFault) → IsPosted k name body.items moment m now (Err f) → scene_of k.shown moment (slice_set seats n now) requests replies attempts ≡ old
        → Leaves (limits k.growth k.room) f old (Say n name body) (scene_of k.shown moment (slice_set seats n now) requests replies attempts)
    by NoServer posted is = absurd posted
    by NoRequest posted is = absurd posted
    by NoReply posted is = absurd posted
    by NoAttempt posted is = absurd posted
    by NoName posted is = is
    by Full posted is = absurd posted
    by Memory posted is = (ap (λ (s : Scene). s.world) is, ap (λ (s : Scene). s.ends) is)

pub unsaid_causes : {P : Type 0} (k : Ghosts P) (moment : ℕ) (seats : List (MachineLog P)) (requests : List Packet) (replies : List Answer) (attempts : List Pending) (n : ℕ) (name : List ℕ)
    (body : Vec ℕ Global) (m now : MachineLog P) (fault : WorldFault) (old : World) → world_of moment seats requests replies attempts ≡ old → slice_get seats n ≡ Some m
    → IsPosted k name body.items moment m now (Err fault) → AreCaused old (Say n name body) (Err fault)
unsaid_causes {P} k moment seats requests replies attempts n name body m now fault old same at posted = rw (sym same) (by fault posted)
  where
    by : (f : WorldFault) → IsPosted k name body.items moment m now (Err f) → AreCaused (world_of moment seats requests replies attempts) (Say n name body) (Err f)
    by NoServer posted = absurd posted
    by NoRequest posted = absurd posted
    by NoReply posted = absurd posted
    by NoAttempt posted = absurd posted
    by NoName posted = say_nobody (world_of moment seats requests replies attempts) n name body (seen_at m) (map_at (seen_at {P = P}) seats n m at) posted.0
    by Full posted = absurd posted
    by Memory posted =
        let known = some_of (id_of (town m.core.history) name) posted.0 in
        caused_memory (world_of moment seats requests replies attempts) (Say n name body)
        (say_there (world_of moment seats requests replies attempts) n name body (seen_at m) known.0 (map_at (seen_at {P = P}) seats n m at) known.1)
