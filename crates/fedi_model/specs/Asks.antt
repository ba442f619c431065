-- The answer to an ask, and the entry that it makes (ActivityPub, sections 3.2, 5, 6 and 7).
use Rattle.std.specs.Prelude.{◌≡◌, ℕ, Bool, true, List, Option, Some, None, option_map}
use Rattle.fedi_town.specs.declared.refusal.Refusal.TheVariants.{NotFound}
use Rattle.fedi_objects.specs.declared.activity.Activity as activities
use Rattle.fedi_objects.specs.declared.entry.Entry.{Entry}
use Rattle.fedi_town.specs.declared.caller.Caller.{Caller}
use Rattle.fedi_town.specs.Ids.{activity_id, object_id}
use Rattle.fedi_town.specs.Shapes.{is_posted, is_delivered}
use Rattle.fedi_town.specs.Towns.{Town, id_of}
use Rattle.fedi_model.specs.declared.ask.Ask.{Ask}
use Rattle.fedi_model.specs.declared.ask.Ask.TheVariants.{Nowhere, WrongMethod, Webfinger, Actor}
use Rattle.fedi_model.specs.declared.ask.Ask.TheVariants.{Collection, Activity, Object, Outbox}
use Rattle.fedi_model.specs.declared.ask.Ask.TheVariants.{Inbox, Board}
use Rattle.fedi_model.specs.declared.post.Read.{Read}
use Rattle.fedi_model.specs.declared.post.Read.TheVariants.{NotJson, Bad, Ready}
use Rattle.fedi_model.specs.AnswerKinds.{Answer, Refuse, Disallow}
use Rattle.fedi_model.specs.Posting.{post_answer, delivery_answer, entry_at, inbox_entry_at}
use Rattle.fedi_model.specs.Reading.{actor_or_missing, webfinger_answer, activity_answer}
use Rattle.fedi_model.specs.Reading.{object_answer, collection_answer, board_answer}

-- the id with this number at the host, if the server was set up
abbrev pub id_at : Option (List ℕ) → (List ℕ → List ℕ → ℕ → List ℕ) → List ℕ → ℕ → Option (List ℕ)
id_at host f name number = option_map (λ h. f h name number) host

-- the answer to the caller for the ask
abbrev pub answer_of : Town → Caller → Ask → Answer
answer_of t c Nowhere = Refuse NotFound
answer_of t c (WrongMethod allow) = Disallow allow
answer_of t c (Webfinger resource) = webfinger_answer t resource
answer_of t c (Actor name) = actor_or_missing t.host name (id_of t name)
answer_of t c (Collection which part) = collection_answer t c which part
answer_of t c (Board name slug part) = board_answer t c slug part (id_of t name)
answer_of t c (Activity name number) = activity_answer t c (id_at t.host activity_id name number)
answer_of t c (Object name number) = object_answer t c (id_at t.host object_id name number)
answer_of t c (Outbox name post) = post_answer t c name post (id_of t name)
answer_of t c (Inbox name post) = delivery_answer t c post (id_of t name)

-- the entry that the ask makes at this moment: the entry of a post or a delivery that is kept
abbrev pub entry_of : Town → Caller → Ask → ℕ → Option Entry
entry_of t c Nowhere moment = None
entry_of t c (WrongMethod allow) moment = None
entry_of t c (Webfinger resource) moment = None
entry_of t c (Actor name) moment = None
entry_of t c (Collection which part) moment = None
entry_of t c (Board name slug part) moment = None
entry_of t c (Activity name number) moment = None
entry_of t c (Object name number) moment = None
entry_of t c (Outbox name post) moment = entry_at t c name post moment (id_of t name)
entry_of t c (Inbox name post) moment = inbox_entry_at t c name post moment (id_of t name)

-- ---- the shape after reading

-- an activity, if one was read, passes the test
abbrev pub IsRead : (activities.Activity → Bool) → Read → Type 0
IsRead p NotJson = Unit {0}
IsRead p (Bad fault) = Unit {0}
IsRead p (Ready a) = p a ≡ true

-- what was read for the author's outbox, if there is one, has the shape of the author's post
abbrev pub IsReadFor : Option (List ℕ) → Read → Type 0
IsReadFor None read = Unit {0}
IsReadFor (Some author) read = IsRead (is_posted author) read

-- the contents of the ask have the shape that reading gives them
abbrev pub IsPostable : Town → Ask → Type 0
IsPostable t Nowhere = Unit {0}
IsPostable t (WrongMethod allow) = Unit {0}
IsPostable t (Webfinger resource) = Unit {0}
IsPostable t (Actor name) = Unit {0}
IsPostable t (Collection which part) = Unit {0}
IsPostable t (Board name slug part) = Unit {0}
IsPostable t (Activity name number) = Unit {0}
IsPostable t (Object name number) = Unit {0}
IsPostable t (Outbox name post) = IsReadFor (id_of t name) post.read
IsPostable t (Inbox name post) = IsRead is_delivered post.read
