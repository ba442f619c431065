-- What an accepted activity does to earlier ones (ActivityPub, sections 6 and 7), and the Accept
-- that follows a Follow. All of it is a function of the town before the activity, so it can be
-- prepared before the activity is kept.
use Rattle.std.specs.Prelude.{ℕ, ◌+◌, Bool, false, ◌&&◌, List, [], ◌∷◌, ◌++◌, map, codes, Option}
use Rattle.std.specs.Prelude.{Some, None, option_to_list, if◌then◌else◌}
use Rattle.std.specs.List.{find}
use Rattle.fedi_address.specs.declared.recipients.Recipients.{Recipients}
use Rattle.fedi_address.specs.Recipients.{is_public}
use Rattle.fedi_objects.specs.declared.activity.Activity.{Activity}
use Rattle.fedi_objects.specs.declared.kind.Kind.TheVariants as kinds
use Rattle.fedi_objects.specs.declared.kind.State.{State}
use Rattle.fedi_objects.specs.declared.kind.State.TheVariants.{Done, Accepted, Rejected, Undone}
use Rattle.fedi_text.specs.Dates.{moment_text}
use Rattle.fedi_town.specs.declared.act.Act.{Act}
use Rattle.fedi_town.specs.declared.act.Actor.{Actor}
use Rattle.fedi_town.specs.declared.addition.Acceptance.{Acceptance}
use Rattle.fedi_town.specs.declared.deed.Deed.{Deed}
use Rattle.fedi_town.specs.declared.deed.Deed.TheVariants.{Create, Update, Delete, Follow, Like}
use Rattle.fedi_town.specs.declared.deed.Deed.TheVariants.{Announce, Block, Accept, Reject, Undo}
use Rattle.fedi_town.specs.declared.deed.Deed.TheVariants.{Other}
use Rattle.fedi_town.specs.declared.effect.Effect.{Effect}
use Rattle.fedi_town.specs.declared.effect.Effect.TheVariants as effects
use Rattle.fedi_town.specs.Addressing.{act_of, recipients_with, no_recipients}
use Rattle.fedi_town.specs.Deeds.{is_follow, is_done, is_accepted, is_pending, is_standing}
use Rattle.fedi_town.specs.Ids.{activity_id}
use Rattle.fedi_town.specs.Objects.{makes, rewrite_act, update_object, tombstone_of}
use Rattle.fedi_town.specs.Relations.{ref_id, has_activity_id, is_open_follow}
use Rattle.fedi_town.specs.Showing.{ref_to}
use Rattle.fedi_town.specs.Towns.{Town, deed, has_id, count_after}

-- ---- what becomes of an earlier activity

-- an activity that passes the test is changed; others are not
abbrev pub where_passes : (Act → Bool) → (Act → Act) → Act → Act
where_passes p f y = if p y then f y else y

-- the activity in another state
abbrev pub in_state : State → Act → Act
in_state s y = record y { state = s }

-- it is the Follow with this id, and waits
unfoldable pub is_pending_follow : List ℕ → Act → Bool
is_pending_follow id y = has_activity_id id y && (is_follow (deed y) && is_pending y.state)

-- it is the activity with this id, and is in force
unfoldable pub is_standing_activity : List ℕ → Act → Bool
is_standing_activity id y = has_activity_id id y && is_standing y.state

-- a Follow of b by a that waits or was accepted ends in this state
unfoldable pub end_follow : List ℕ → List ℕ → State → Act → Act
end_follow a b s y = where_passes (is_open_follow a b) (in_state s) y

-- an earlier activity after this effect
abbrev pub affect : Effect → Act → Act
affect effects.Nothing y = y
affect (effects.Update id by stamp) y =
    where_passes (makes id) (rewrite_act (update_object by stamp)) y
affect (effects.Delete id kind stamp) y =
    where_passes (makes id) (rewrite_act (tombstone_of kind stamp)) y
affect (effects.Accept id) y = where_passes (is_pending_follow id) (in_state Accepted) y
affect (effects.EndFollows a b s) y = end_follow a b s y
affect (effects.EndBoth a b) y = end_follow a b Undone (end_follow b a Undone y)
affect (effects.Undo id) y = where_passes (is_standing_activity id) (in_state Undone) y

-- ---- the effect of an activity

-- each Follow of the same pair as this Follow ends in this state
abbrev pub pair_ends : State → Act → Option (List ℕ) → Effect
pair_ends s f None = effects.Nothing
pair_ends s f (Some b) = effects.EndFollows f.author b s

-- the same, if there is such a Follow
abbrev pub follow_ends : State → Option Act → Effect
follow_ends s None = effects.Nothing
follow_ends s (Some f) = pair_ends s f (ref_id f.activity.object)

-- the effect of undoing this: each Follow of its pair ends, or the one activity is undone
-- (ActivityPub, sections 6.10 and 7.12)
abbrev pub undo_effect : List ℕ → Option Act → Effect
undo_effect id None = effects.Nothing
undo_effect id (Some z) =
    if is_follow (deed z) then follow_ends Undone (Some z) else effects.Undo id

-- what an activity about this id does, if its side effect happens
abbrev pub effect_about : Town → Act → Deed → List ℕ → Effect
effect_about t x Update id = effects.Update id x.activity.object (moment_text x.moment)
effect_about t x Delete id = effects.Delete id (codes "Tombstone") (moment_text x.moment)
effect_about t x Block id = effects.EndBoth x.author id
effect_about t x Accept id = effects.Accept id
effect_about t x Reject id = follow_ends Rejected (act_of t (Some id))
effect_about t x Undo id = undo_effect id (act_of t (Some id))
effect_about t x Create id = effects.Nothing
effect_about t x Follow id = effects.Nothing
effect_about t x Like id = effects.Nothing
effect_about t x Announce id = effects.Nothing
effect_about t x Other id = effects.Nothing

-- an activity that is about nothing does nothing
abbrev pub effect_with : Town → Act → Option (List ℕ) → Effect
effect_with t x None = effects.Nothing
effect_with t x (Some id) = effect_about t x (deed x) id

-- the side effect happens: that of a Block if it is in force, that of any other activity if it is
-- done
abbrev pub takes_effect : Deed → State → Bool
takes_effect Block s = is_standing s
takes_effect Create s = is_done s
takes_effect Update s = is_done s
takes_effect Delete s = is_done s
takes_effect Follow s = is_done s
takes_effect Like s = is_done s
takes_effect Announce s = is_done s
takes_effect Accept s = is_done s
takes_effect Reject s = is_done s
takes_effect Undo s = is_done s
takes_effect Other s = is_done s

-- what an accepted activity does to those before it
unfoldable pub effect_of : Town → Act → Effect
effect_of t x =
    if takes_effect (deed x) x.state then effect_with t x (ref_id x.activity.object)
    else effects.Nothing

-- ---- the Accept of a member who is not locked (ActivityPub, section 7.5)

-- recipients with this one alone
abbrev pub to_one : List ℕ → Recipients
to_one id = record no_recipients { to = id ∷ [] }

-- the Accept with this id, by b, of the Follow x
abbrev pub accept_activity : List ℕ → List ℕ → Act → Activity
accept_activity id b x = record {
  id = Some id;
  kind = kinds.Accept;
  actor = Some b;
  object = ref_to x.activity.id;
  target = None;
  recipients = to_one x.author;
  in_reply_to = None;
  content = None;
  summary = None;
  name = None;
  published = Some (moment_text x.moment);
  tags = [];
}

-- the member's Accept of the Follow x, with the member's next number after it
unfoldable pub accept_by : Town → List ℕ → Act → Actor → Act
accept_by t host x member = record {
  author = member.id;
  activity =
      accept_activity
      (activity_id host member.name (count_after t x.author member.id + 1)) member.id x;
  repeat = None;
  moment = x.moment;
  recipients = recipients_with t member.id (to_one x.author) [];
  forwards = [];
  is_public = is_public (to_one x.author);
  for_followers = false;
  state = Done;
}

-- the Accept of the member who was found
abbrev pub accept_for : Option (List ℕ) → Town → Act → Option Actor → Option Act
accept_for None t x member = None
accept_for (Some host) t x None = None
accept_for (Some host) t x (Some member) = Some (accept_by t host x member)

-- the member with this id, which a Follow is about
abbrev pub followee : Town → Option (List ℕ) → Option Actor
followee t None = None
followee t (Some id) = find (has_id id) t.actors

-- the Accept that follows an accepted Follow
abbrev pub answer_to : Town → Act → Option Act
answer_to t x =
    if is_follow (deed x) && is_accepted x.state
    then accept_for t.host t x (followee t (ref_id x.activity.object)) else None

-- ---- an accepted activity

-- the activity, what it does to earlier ones, and its answer
abbrev pub acceptance : Town → Act → Acceptance
acceptance t x = record { act = x; effect = effect_of t x; answer = answer_to t x }

-- the town after it: the earlier activities in their present state, the activity, and its answer
abbrev pub with_acceptance : Town → Acceptance → Town
with_acceptance t a =
    record t { acts = map (affect a.effect) t.acts ++ a.act ∷ option_to_list a.answer }
