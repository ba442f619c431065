-- Histories: what the entries make, one after another.
use Rattle.std.specs.Prelude.{ℕ, Bool, List, [], ◌∷◌, ◌++◌, map, Option, Some, None, if◌then◌else◌}
use Rattle.std.specs.List.{fold, list_any}
use Rattle.fedi_objects.specs.declared.activity.Activity.{Activity}
use Rattle.fedi_objects.specs.declared.entry.Entry.{Entry}
use Rattle.fedi_objects.specs.declared.entry.Entry.TheVariants.{Hosted, Made, PeerSet, Local}
use Rattle.fedi_objects.specs.declared.entry.Entry.TheVariants.{Remote, Tried}
use Rattle.fedi_town.specs.declared.act.Act.{Act}
use Rattle.fedi_town.specs.declared.addition.Addition.{Addition}
use Rattle.fedi_town.specs.declared.addition.Addition.TheVariants as additions
use Rattle.fedi_town.specs.Activities.{local_act, remote_act}
use Rattle.fedi_town.specs.Effects.{acceptance, with_acceptance}
use Rattle.fedi_town.specs.Ids.{actor_id}
use Rattle.fedi_town.specs.Relations.{has_activity_id}
use Rattle.fedi_town.specs.Towns.{Town, empty_town, id_of}

-- ---- what an entry adds: a function of the town before it, which can be prepared before the entry
-- is kept

-- the member, if the server was set up
abbrev pub member_addition : Option (List ℕ) → List ℕ → List ℕ → Bool → Addition
member_addition None name digest locked = additions.Nothing
member_addition (Some host) name digest locked =
    additions.Member
    (record { name = name; id = actor_id host name; digest = digest; locked = locked })

-- the activity that a member's post makes, if the server was set up (ActivityPub, section 6)
abbrev pub post_addition : Option (List ℕ) → Town → List ℕ → Option (List ℕ × List ℕ) → Activity
    → ℕ → Addition
post_addition None t name repeat a moment = additions.Nothing
post_addition (Some host) t name repeat a moment =
    additions.Activity (acceptance t (local_act t host name repeat a moment))

-- an activity with this id was accepted
abbrev pub is_known : Town → List ℕ → Bool
is_known t id = list_any (has_activity_id id) t.acts

-- what a delivery to this owner's inbox adds: one more inbox if the id is known, so that an
-- activity acts only once, else the activity (ActivityPub, section 7.1)
abbrev pub inbox_addition : Town → List ℕ → List ℕ → List ℕ → Activity → ℕ → Addition
inbox_addition t owner author id a moment =
    if is_known t id then additions.Inbox id owner
    else additions.Activity (acceptance t (remote_act t owner author a moment))

-- what a delivery adds if it has an id and an actor and goes to a member's inbox
abbrev pub delivery_addition : Town → Option (List ℕ) → Option (List ℕ) → Option (List ℕ) → Activity
    → ℕ → Addition
delivery_addition t None author id a moment = additions.Nothing
delivery_addition t (Some owner) None id a moment = additions.Nothing
delivery_addition t (Some owner) (Some author) None a moment = additions.Nothing
delivery_addition t (Some owner) (Some author) (Some id) a moment =
    inbox_addition t owner author id a moment

-- what an entry adds to the town
abbrev pub addition_of : Town → Entry → Addition
addition_of t (Hosted host moment) = additions.Host host
addition_of t (Made name digest locked moment) = member_addition t.host name digest locked
addition_of t (PeerSet host key address relay moment) =
    additions.Peer (record { host = host; key = key; address = address; relay = relay })
addition_of t (Local name repeat a moment) = post_addition t.host t name repeat a moment
addition_of t (Remote peer inbox a moment) =
    delivery_addition t (id_of t inbox) a.actor a.id a moment
addition_of t (Tried activity recipient came moment) =
    additions.Attempt
    (record { activity = activity; recipient = recipient; came = came; moment = moment })

-- ---- the town after it

-- the activity with this id goes to one more owner
abbrev pub with_recipient : List ℕ → List ℕ → Act → Act
with_recipient id owner y =
    if has_activity_id id y then record y { recipients = y.recipients ++ owner ∷ [] } else y

-- the town with what an entry adds
abbrev pub with_addition : Town → Addition → Town
with_addition t additions.Nothing = t
with_addition t (additions.Host host) = record t { host = Some host }
with_addition t (additions.Member member) = record t { actors = t.actors ++ member ∷ [] }
with_addition t (additions.Peer peer) = record t { peers = t.peers ++ peer ∷ [] }
with_addition t (additions.Activity a) = with_acceptance t a
with_addition t (additions.Inbox id owner) =
    record t { acts = map (with_recipient id owner) t.acts }
with_addition t (additions.Attempt attempt) = record t { attempts = t.attempts ++ attempt ∷ [] }

-- one more entry
abbrev pub step : Town → Entry → Town
step t e = with_addition t (addition_of t e)

-- what a history has made
abbrev pub town : List Entry → Town
town history = fold step empty_town history
