-- What a request asks for, by its path and then by its method (RFC 9110, section 9.3; ActivityPub,
-- sections 3.2 and 6).
use Rattle.std.specs.Prelude.{◌≡◌, ℕ, ◌==◌, Bool, false, not, ◌&&◌, ◌||◌, ◌⊎◌, if◌then◌else◌}
use Rattle.std.specs.Prelude.{List, map, replicate, codes, bytes_eq, MatchBool, Option, Some, None}
use Rattle.std.specs.Prelude.{Result, Ok, Err}
use Rattle.std.specs.Char.{to_ascii_lowercase}
use Rattle.std.specs.List.{before_first}
use Rattle.serde_json.specs.Data.{Data}
use Rattle.sha2.specs.Sha256.{sha256}
use Rattle.fedi_model.specs.Asks.{IsPostable}
use Rattle.fedi_model.specs.declared.ask.Ask.{Ask}
use Rattle.fedi_model.specs.declared.ask.Ask.TheVariants.{Nowhere, WrongMethod, Webfinger, Actor}
use Rattle.fedi_model.specs.declared.ask.Ask.TheVariants.{Collection, Activity, Object, Outbox}
use Rattle.fedi_model.specs.declared.ask.Ask.TheVariants.{Inbox, Board}
use Rattle.fedi_model.specs.declared.post.KeyAsk.{KeyAsk}
use Rattle.fedi_model.specs.declared.post.KeyAsk.TheVariants.{Absent, Malformed, Given}
use Rattle.fedi_model.specs.declared.post.Post.{Post}
use Rattle.fedi_model.specs.declared.post.Read.{Read}
use Rattle.fedi_model.specs.declared.post.Read.TheVariants.{NotJson, Bad, Ready}
use Rattle.fedi_reading.specs.Bodies.{IsBodyOf}
use Rattle.fedi_objects.specs.Keys.{is_repeat_key}
use Rattle.fedi_objects.specs.declared.activity.Activity as activities
use Rattle.fedi_reading.specs.Activities.{reads_activity}
use Rattle.fedi_reading.specs.Deliveries.{reads_delivered}
use Rattle.fedi_reading.specs.declared.shape_fault.ShapeFault.{ShapeFault}
use Rattle.fedi_objects.specs.declared.entry.Entry.{Entry}
use Rattle.fedi_town.specs.Histories.{town}
use Rattle.fedi_town.specs.Ids.{actor_id}
use Rattle.fedi_town.specs.Legal.{IsLegal}
use Rattle.fedi_town.specs.declared.caller.Which.TheVariants as which
use Rattle.fedi_model.specs.declared.place.Place.{Place}
use Rattle.fedi_model.specs.declared.place.Place.TheVariants as place
use Rattle.fedi_model.specs.declared.request.Fields.{Fields}
use Rattle.fedi_model.specs.declared.request.Request.{Request}
use Rattle.fedi_model.specs.Posting.{is_bad_key}
use Rattle.fedi_model.specs.Reading.{is_peer, is_self}
use Rattle.fedi_town.specs.declared.caller.Caller.{Caller}
use Rattle.fedi_model.specs.Pages.{page_in}
use Rattle.fedi_model.specs.Places.{LeadsTo, allow_of}
use Rattle.fedi_model.specs.Queries.{query_of}
use Rattle.fedi_model.specs.Requests.{is_post, is_reading, trim_end}
use Rattle.fedi_model.specs.Webfinger.{resource_in}

-- the path: the target up to its first question mark (RFC 3986, section 3.3)
abbrev pub path_of : List ℕ → List ℕ
path_of target = before_first (λ b. b == 63) target

-- ---- posts

-- a media type in lower case, without its parameters (RFC 9110, section 8.3.1)
unfoldable pub media_type : List ℕ → List ℕ
media_type value = map to_ascii_lowercase (trim_end (before_first (λ b. b == 59) value))

-- the types of JSON and of ActivityStreams (ActivityPub, section 3.2; ActivityStreams 2.0 Core,
-- section 2; RFC 8259, section 11)
unfoldable pub is_read_type : List ℕ → Bool
is_read_type type =
    bytes_eq type (codes "application/activity+json")
    || (bytes_eq type (codes "application/ld+json") || bytes_eq type (codes "application/json"))

-- the declared type of the body is one of these
abbrev pub is_typed : Option (List ℕ) → Bool
is_typed None = false
is_typed (Some value) = is_read_type (media_type value)

-- what is read of a body: it is not JSON, or this reading gives an activity or a fault of shape for
-- its value
abbrev pub ReadsBody : (Data → Result activities.Activity ShapeFault) → List ℕ → Read → Type 0
ReadsBody reads body NotJson = (d : Data) → ¬ (IsBodyOf body d)
ReadsBody reads body (Bad fault) = (d : Data) × IsBodyOf body d × (reads d ≡ Err fault)
ReadsBody reads body (Ready a) = (d : Data) × IsBodyOf body d × (reads d ≡ Ok a)

-- the key that the post is repeated under (the field Idempotency-Key): 1 to 64 bytes from 33 to 126
abbrev pub repeat_key : Option (List ℕ) → KeyAsk
repeat_key None = Absent
repeat_key (Some value) = if is_repeat_key value then Given value else Malformed

-- no digest
abbrev pub no_digest : List ℕ
no_digest = replicate 32 0

-- The digest of the body under a key. Without a key the digest is not needed, and none is made.
abbrev pub digest_under : KeyAsk → List ℕ → List ℕ
digest_under Absent body = no_digest
digest_under Malformed body = no_digest
digest_under (Given key) body = sha256 body

-- Whether the body of a post by this caller to the outbox of this name is read (ActivityPub, section
-- 6): the caller is that member, the body is declared as JSON or ActivityStreams, and the key, if
-- there is one, is well formed. Otherwise the post is refused, whatever it holds.
abbrev pub is_post_read : Caller → List ℕ → Fields → Bool
is_post_read c name f =
    is_self c name
    && (is_typed f.content_type && not (is_bad_key (repeat_key f.idempotency_key)))

-- Whether the body of a delivery by this caller is read (ActivityPub, section 7): the caller is
-- another server, and the body is declared as JSON or ActivityStreams. Otherwise the delivery is
-- refused, whatever it holds.
abbrev pub is_delivery_read : Caller → Fields → Bool
is_delivery_read c f = is_peer c && is_typed f.content_type

-- what is read of the body of a post, if it is read
abbrev pub ReadsIf : Bool → (Data → Result activities.Activity ShapeFault) → List ℕ → Read → Type 0
ReadsIf read reads body found = MatchBool read (ReadsBody reads body found) (found ≡ NotJson)

-- the author's post made by this caller's request with this body to the outbox of this name
pub record IsPost (c : Caller) (name : List ℕ) (q : Request) (author body : List ℕ)
    (post : Post) : Type 0 where
  pub typed : post.is_typed ≡ is_typed q.fields.content_type
  pub key : post.key ≡ repeat_key q.fields.idempotency_key
  pub digest : post.digest
      ≡ (if is_post_read c name q.fields then digest_under post.key body else no_digest)
  pub read : ReadsIf (is_post_read c name q.fields) (reads_activity author) body post.read

-- The delivery made by this caller's request with this body (ActivityPub, section 7). It has no
-- key: the id of its activity determines whether it is a repeat.
pub record IsDelivery (c : Caller) (q : Request) (body : List ℕ) (post : Post) : Type 0 where
  pub typed : post.is_typed ≡ is_typed q.fields.content_type
  pub key : post.key ≡ Absent
  pub digest : post.digest ≡ no_digest
  pub read : ReadsIf (is_delivery_read c q.fields) reads_delivered body post.read

-- ---- asks

-- what a request to read an endpoint asks for (RFC 9110, sections 9.3.1 and 9.3.2)
abbrev pub read_at : Option (List ℕ) → List ℕ → Place → Ask
read_at host query place.Webfinger = Webfinger (resource_in host query)
read_at host query (place.Actor name) = Actor name
read_at host query (place.Collection which) = Collection which (page_in query)
read_at host query (place.Board name slug) = Board name slug (page_in query)
read_at host query (place.Activity name number) = Activity name number
read_at host query (place.Object name number) = Object name number

-- what a request asks for if its endpoint does not have its method (RFC 9110, section 15.5.6)
abbrev pub refused_at : Place → Ask
refused_at there = WrongMethod (allow_of there)

-- what a post to the outbox of this name asks for; before the server was set up, nobody has an
-- outbox
abbrev pub PostsAs : Option (List ℕ) → Caller → Request → List ℕ → List ℕ → Ask → Type 0
PostsAs None c q body name ask = ask ≡ Nowhere
PostsAs (Some host) c q body name ask =
    (post : Post) × IsPost c name q (actor_id host name) body post × (ask ≡ Outbox name post)

-- what a post to the inbox of this name asks for
abbrev pub DeliversTo : Caller → Request → List ℕ → List ℕ → Ask → Type 0
DeliversTo c q body name ask = (post : Post) × IsDelivery c q body post × (ask ≡ Inbox name post)

-- What a post to an endpoint asks for. Members post to their outboxes (ActivityPub, section 6), and
-- other servers deliver to inboxes (section 7).
abbrev pub PostsTo : Option (List ℕ) → Caller → Request → List ℕ → Place → Ask → Type 0
PostsTo host c q body (place.Collection (which.Outbox name)) ask = PostsAs host c q body name ask
PostsTo host c q body (place.Collection (which.Inbox name)) ask = DeliversTo c q body name ask
PostsTo host c q body there ask = ask ≡ refused_at there

-- what this caller's request to an endpoint asks for, by its method
abbrev pub AsksAt : Option (List ℕ) → Caller → Request → List ℕ → Place → Ask → Type 0
AsksAt host c q body there ask =
    MatchBool (is_reading q.method) (ask ≡ read_at host (query_of q.target) there)
    (MatchBool (is_post q.method) (PostsTo host c q body there ask) (ask ≡ refused_at there))

-- what this caller's request with this body asks for at the server of this host: its path leads to
-- an endpoint, or it asks for nothing
abbrev pub Asks : Option (List ℕ) → Caller → Request → List ℕ → Ask → Type 0
Asks host c q body ask =
    (((there : Place) → ¬ (LeadsTo (path_of q.target) there)) × (ask ≡ Nowhere))
    ⊎ ((there : Place) × LeadsTo (path_of q.target) there × AsksAt host c q body there ask)

-- a caller's request asks for at most one thing
abbrev pub IsAskedOnce : Option (List ℕ) → Caller → Request → List ℕ → Type 0
IsAskedOnce host c q body = (a b : Ask) → Asks host c q body a → Asks host c q body b → a ≡ b

-- it holds what the members of a legal history at this host may post, or what other servers may
-- deliver
abbrev pub IsPostableAt : Option (List ℕ) → Ask → Type 0
IsPostableAt host ask =
    (history : List Entry) → IsLegal history → (town history).host ≡ host
    → IsPostable (town history) ask
