-- What the server makes of an activity when it accepts it: of a member's (ActivityPub, sections 6
-- and 6.2), and of one that another server delivers (section 7).
use Rattle.std.specs.Prelude.{ℕ, ◌+◌, true, false, ◌&&◌, ◌||◌, List, [], ◌∷◌, codes, Option, Some}
use Rattle.std.specs.Prelude.{None, unwrap_or, if◌then◌else◌}
use Rattle.fedi_address.specs.Recipients.{is_public, names}
use Rattle.fedi_objects.specs.declared.activity.Activity.{Activity}
use Rattle.fedi_objects.specs.declared.activity.ObjectRef.{ObjectRef}
use Rattle.fedi_objects.specs.declared.activity.ObjectRef.TheVariants.{Nothing, Id, Whole, Changed}
use Rattle.fedi_objects.specs.declared.object.Object.{Object}
use Rattle.fedi_text.specs.Dates.{moment_text}
use Rattle.fedi_objects.specs.Forms.{is_tombstone}
use Rattle.fedi_town.specs.declared.act.Act.{Act}
use Rattle.fedi_town.specs.Addressing.{complete_recipients, recipients_with, original}
use Rattle.fedi_town.specs.Addressing.{original_recipients, is_original_public}
use Rattle.fedi_town.specs.Addressing.{is_original_for_followers}
use Rattle.fedi_town.specs.declared.deed.Deed.{Deed}
use Rattle.fedi_town.specs.Deeds.{deed_of, is_create, is_done}
use Rattle.fedi_town.specs.Forwarding.{forwards_of}
use Rattle.fedi_town.specs.Ids.{actor_id, activity_id, object_id, followers_id}
use Rattle.fedi_town.specs.Objects.{emptied}
use Rattle.fedi_town.specs.Relations.{ref_id}
use Rattle.fedi_town.specs.States.{state_of}
use Rattle.fedi_town.specs.Towns.{Town, count_of}

-- ---- a member's activity

-- the object of a member's Create: it gets the id with this number, the author, and the moment
-- (ActivityPub, section 6.2)
abbrev pub complete_object : List ℕ → List ℕ → ℕ → ℕ → Object → Object
complete_object host name number moment o = record o {
  id = Some (object_id host name number);
  attributed_to = Some (actor_id host name);
  published = Some (moment_text moment);
}

-- an object that the activity carries is completed; anything else is unchanged
abbrev pub complete_ref : List ℕ → List ℕ → ℕ → ℕ → ObjectRef → ObjectRef
complete_ref host name number moment Nothing = Nothing
complete_ref host name number moment (Id iri) = Id iri
complete_ref host name number moment (Whole o) = Whole (complete_object host name number moment o)
complete_ref host name number moment (Changed change) = Changed change

-- the member's activity with this number: it gets its id, its actor, the moment, its completed
-- object, and the recipients that it implies (ActivityPub, section 6)
abbrev pub complete_activity : Town → List ℕ → List ℕ → ℕ → ℕ → Activity → Activity
complete_activity t host name number moment a =
    let object = complete_ref host name number moment a.object in
    record a {
      id = Some (activity_id host name number);
      actor = Some (actor_id host name);
      published = Some (moment_text moment);
      object = object;
      recipients = complete_recipients t (actor_id host name) (deed_of a.kind)
          (ref_id object) a.recipients;
    }

-- the author's activity as it is accepted, after it was completed; an Update or a Delete also goes
-- to the recipients of its object's Create
abbrev pub act_by : Town → List ℕ → Option (List ℕ × List ℕ) → ℕ → Activity → Act
act_by t author repeat moment a =
    let create = original t (deed_of a.kind) (ref_id a.object) in
    let state = state_of t true author (deed_of a.kind) a.object in
    record {
      author = author;
      activity = a;
      repeat = repeat;
      moment = moment;
      recipients = recipients_with t author a.recipients (original_recipients create);
      forwards = [];
      is_public = is_public a.recipients || is_original_public create;
      for_followers = names a.recipients (followers_id author)
          || (is_done state && is_original_for_followers create);
      state = state;
    }

-- the next activity of a member
abbrev pub local_act : Town → List ℕ → List ℕ → Option (List ℕ × List ℕ) → Activity → ℕ → Act
local_act t host name repeat a moment =
    let author = actor_id host name in
    act_by t author repeat moment (complete_activity t host name (count_of t author + 1) moment a)

-- ---- an activity of another server

-- a Tombstone has its former type and the time of its deletion (ActivityStreams 2.0 Vocabulary,
-- section 3.3)
abbrev pub complete_tombstone : ℕ → Object → Object
complete_tombstone moment o = record o {
  former_kind = Some (unwrap_or o.former_kind (codes "Object"));
  deleted = Some (unwrap_or o.deleted (moment_text moment));
}

-- an object that an activity of this kind brings from another server: a Tombstone is completed, and
-- one that is created keeps nothing that a deleted object loses
unfoldable pub receive_object : Deed → ℕ → Object → Object
receive_object deed moment o =
    if is_tombstone o
    then complete_tombstone moment (if is_create deed then emptied o else o) else o

-- an object is attributed to the activity's author (ActivityStreams 2.0 Vocabulary, section 4,
-- `attributedTo`)
abbrev pub attribute : List ℕ → Object → Object
attribute author o = record o { attributed_to = Some author }

-- what an activity of another server is about
abbrev pub receive_ref : Deed → List ℕ → ℕ → ObjectRef → ObjectRef
receive_ref deed author moment Nothing = Nothing
receive_ref deed author moment (Id iri) = Id iri
receive_ref deed author moment (Whole o) = Whole (attribute author (receive_object deed moment o))
receive_ref deed author moment (Changed change) = Changed change

-- a new activity of somebody elsewhere that was delivered to this member's inbox (ActivityPub,
-- section 7)
abbrev pub remote_act : Town → List ℕ → List ℕ → Activity → ℕ → Act
remote_act t owner author a moment = record {
  author = author;
  activity = record a { object = receive_ref (deed_of a.kind) author moment a.object };
  repeat = None;
  moment = moment;
  recipients = owner ∷ [];
  forwards = forwards_of t author a;
  is_public = is_public a.recipients;
  for_followers = false;
  state = state_of t false author (deed_of a.kind) a.object;
}
