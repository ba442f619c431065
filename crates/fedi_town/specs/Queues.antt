-- What has to be delivered (ActivityPub, section 7.1), and when.
use Rattle.std.specs.Prelude.{ℕ, ◌+◌, ◌*◌, ◌^◌, ◌==◌, Bool, false, ◌&&◌, ◌||◌, nat_le, nat_lt, List}
use Rattle.std.specs.Prelude.{Option, map, filter, if◌then◌else◌}
use Rattle.std.specs.List.{list_any, fold, flat_map}
use Rattle.std.specs.Str.{bytes_eq}
use Rattle.fedi_address.specs.Iris.{host_of}
use Rattle.fedi_address.specs.Recipients.{is_among}
use Rattle.fedi_objects.specs.declared.entry.Came.{Came}
use Rattle.fedi_objects.specs.declared.entry.Sent.{Sent}
use Rattle.fedi_objects.specs.declared.entry.Sent.TheVariants.{Lookup, Post}
use Rattle.fedi_objects.specs.declared.entry.What.{What}
use Rattle.fedi_objects.specs.declared.entry.What.TheVariants.{Failed, NoHead, BadActor, Status}
use Rattle.fedi_town.specs.declared.act.Act.{Act}
use Rattle.fedi_town.specs.declared.act.Attempt.{Attempt}
use Rattle.fedi_town.specs.declared.outcome.Outcome.{Outcome}
use Rattle.fedi_town.specs.declared.outcome.Outcome.TheVariants.{Delivered, Again, GivenUp}
use Rattle.fedi_town.specs.Addressing.{is_of_town}
use Rattle.fedi_town.specs.Collections.{text_of}
use Rattle.fedi_town.specs.Relations.{is_id, has_activity_id}
use Rattle.fedi_town.specs.Towns.{Town, has_host}

-- ---- the outcome of an attempt

-- a successful status of the post means that the activity arrived (RFC 9110, section 15.3)
abbrev pub step_outcome : Sent → ℕ → Outcome
step_outcome Lookup status = Again
step_outcome Post status = if nat_le 200 status && nat_lt status 300 then Delivered else Again

-- a recipient that is not found or gone gets no further attempt (RFC 9110, sections 15.5.5 and
-- 15.5.11)
abbrev pub status_outcome : Sent → ℕ → Outcome
status_outcome sent status =
    if status == 404 || status == 410 then GivenUp else step_outcome sent status

-- the outcome of one request
abbrev pub request_outcome : Sent → What → Outcome
request_outcome sent Failed = Again
request_outcome sent NoHead = Again
request_outcome sent BadActor = Again
request_outcome sent (Status status) = status_outcome sent status

-- what an attempt means for the next one
abbrev pub outcome : Came → Outcome
outcome came = request_outcome came.step came.what

-- ---- the progress of a delivery

-- after so many attempts, the next one is due from some moment on, or there is no next one
pub data Progress : Type 0 where
  Due : ℕ → ℕ → Progress
  Ended : ℕ → Progress

-- The next attempt is due 60, 120, 240, 480, 960, 1920 and 3840 seconds after the previous one. The
-- eighth is the last.
abbrev pub next_attempt : ℕ → ℕ → Progress
next_attempt before moment =
    if before + 1 == 8 then Ended (before + 1) else Due (before + 1) (moment + 60 * 2 ^ before)

-- after one more attempt at this moment
abbrev pub after_outcome : ℕ → ℕ → Outcome → Progress
after_outcome before moment Delivered = Ended (before + 1)
after_outcome before moment Again = next_attempt before moment
after_outcome before moment GivenUp = Ended (before + 1)

-- after one more attempt
abbrev pub after_attempt : Progress → Attempt → Progress
after_attempt (Ended attempts) a = Ended attempts
after_attempt (Due attempts from) a = after_outcome attempts a.moment (outcome a.came)

-- the attempt was to deliver this activity to this recipient
unfoldable pub is_of_pair : List ℕ → List ℕ → Attempt → Bool
is_of_pair id recipient a = bytes_eq a.activity id && bytes_eq a.recipient recipient

-- the progress of a delivery whose activity was accepted at this moment, which is due from then on
unfoldable pub progress_of : Town → List ℕ → List ℕ → ℕ → Progress
progress_of t id recipient moment =
    fold after_attempt (Due 0 moment) (filter (is_of_pair id recipient) t.attempts)

-- ---- the queue

-- the recipients that this server sends the activity to: a member's activity goes to its
-- recipients, any other to those that it is forwarded to (ActivityPub, section 7.1.2)
unfoldable pub sends : Town → Act → List (List ℕ)
sends t x = if is_of_town t.host x.author then x.recipients else x.forwards

-- the recipient belongs to a peer
unfoldable pub is_at_peer : Town → List ℕ → Bool
is_at_peer t recipient = list_any (has_host (host_of recipient)) t.peers

-- a delivery: of the activity with this id to this recipient
pub record Delivery : Type 0 where
  pub activity : Option (List ℕ)
  pub recipient : List ℕ
  pub progress : Progress

-- the delivery of the activity to this recipient
abbrev pub delivery_to : Town → Act → List ℕ → Delivery
delivery_to t x recipient = record {
  activity = x.activity.id;
  recipient = recipient;
  progress = progress_of t (text_of x.activity.id) recipient x.moment;
}

-- the deliveries of the activity, in the order of its recipients
unfoldable pub deliveries_of : Town → Act → List Delivery
deliveries_of t x = map (delivery_to t x) (filter (is_at_peer t) (sends t x))

-- all deliveries, in the order of acceptance
abbrev pub queue : Town → List Delivery
queue t = flat_map (deliveries_of t) t.acts

-- ---- what is due

-- the delivery is due at this moment
abbrev pub is_due_at : ℕ → Progress → Bool
is_due_at moment (Due attempts from) = nat_le from moment
is_due_at moment (Ended attempts) = false

-- the delivery is of the activity with this id, to this recipient, and due at this moment
unfoldable pub is_due_delivery : List ℕ → List ℕ → ℕ → Delivery → Bool
is_due_delivery id recipient moment d =
    is_id id d.activity && (bytes_eq d.recipient recipient && is_due_at moment d.progress)

-- the activity has this id, goes to this recipient at a peer, and the delivery is due at this
-- moment
unfoldable pub is_due_in : Town → List ℕ → List ℕ → ℕ → Act → Bool
is_due_in t id recipient moment x =
    has_activity_id id x
    && (is_among recipient (sends t x)
    && (is_at_peer t recipient && is_due_at moment (progress_of t id recipient x.moment)))

-- the delivery of this activity to this recipient is due at this moment
abbrev pub is_due : Town → List ℕ → List ℕ → ℕ → Bool
is_due t id recipient moment = list_any (is_due_in t id recipient moment) t.acts
