-- The waiting deliveries, as the rows of a queue (ActivityPub, sections 7.1 and 7.1.2): the
-- activity, the recipient, the number of attempts so far, and the moment from which the next one is
-- due.
use Rattle.std.specs.Prelude.{◌≡◌, ℕ, suc, ◌+◌, ◌≤◌, Bool, true, false, ◌&&◌, ◌||◌, List, [], ◌∷◌}
use Rattle.std.specs.Prelude.{◌++◌, map, filter, length, Option, Some, None, option_and_then}
use Rattle.std.specs.Prelude.{option_to_list, slice_get, if◌then◌else◌}
use Rattle.std.specs.List.{flat_map}
use Rattle.std.specs.Str.{bytes_eq}
use Rattle.fedi_address.specs.Iris.{host_of}
use Rattle.fedi_address.specs.Names.{is_name}
use Rattle.fedi_objects.specs.declared.activity.Activity.{Activity}
use Rattle.fedi_objects.specs.declared.entry.Entry.{Entry}
use Rattle.fedi_objects.specs.declared.entry.Entry.TheVariants.{Remote}
use Rattle.fedi_queue.specs.declared.rows.QueueRow.{QueueRow}
use Rattle.fedi_register.specs.Marks.{is_there}
use Rattle.fedi_town.specs.declared.act.Act.{Act}
use Rattle.fedi_town.specs.declared.act.Attempt.{Attempt}
use Rattle.fedi_town.specs.Effects.{answer_to, acceptance, with_acceptance}
use Rattle.fedi_town.specs.Histories.{is_known, town}
use Rattle.fedi_town.specs.Ids.{activity_id, actor_id}
use Rattle.fedi_town.specs.Legal.{IsLegal}
use Rattle.fedi_town.specs.Lists.{PassesOnce}
use Rattle.fedi_town.specs.Queues.{Progress, Delivery, after_attempt, is_at_peer, is_due}
use Rattle.fedi_town.specs.Queues.{progress_of, queue, sends}
use Rattle.fedi_town.specs.Queues.{Due, Ended}
use Rattle.fedi_town.specs.Relations.{has_activity_id}
use Rattle.fedi_town.specs.Towns.{Town, count_of, has_next}

-- ---- the rows

-- the row of a delivery with this progress, if another attempt is due
abbrev pub row_of : ℕ → ℕ → List ℕ → Progress → List QueueRow
row_of number place r (Due attempts from) =
    record {
      activity = number;
      place = place;
      recipient = r;
      attempts = attempts;
      due = from;
      claimed = false;
    } ∷ []
row_of number place r (Ended attempts) = []

-- if the recipient is reached
abbrev pub row_where : Bool → ℕ → ℕ → List ℕ → Progress → List QueueRow
row_where false number place r p = []
row_where true number place r p = row_of number place r p

-- those of the activity with this number and id to these recipients, the first of which has this
-- index
abbrev pub rows_to : Town → (List ℕ → Bool) → ℕ → List ℕ → ℕ → ℕ → List (List ℕ) → List QueueRow
rows_to t reached number id moment place [] = []
rows_to t reached number id moment place (r ∷ rs) =
    row_where (reached r) number place r (progress_of t id r moment)
    ++ rows_to t reached number id moment (suc place) rs

-- those of an activity that has an id
abbrev pub rows_by : Town → (List ℕ → Bool) → ℕ → ℕ → List (List ℕ) → Option (List ℕ)
    → List QueueRow
rows_by t reached number moment rs None = []
rows_by t reached number moment rs (Some id) = rows_to t reached number id moment 0 rs

-- those of activities, the first of which has this number
abbrev pub rows_from : Town → (List ℕ → Bool) → ℕ → List Act → List QueueRow
rows_from t reached number [] = []
rows_from t reached number (x ∷ xs) =
    rows_by t reached number x.moment (sends t x) x.activity.id
    ++ rows_from t reached (suc number) xs

-- all that wait, in the order of acceptance and of recipients: those whose recipients belong to
-- peers
unfoldable pub rows_of : Town → List QueueRow
rows_of t = rows_from t (is_at_peer t) 0 t.acts

-- the recipient belongs to a peer, or to this host, which becomes one
unfoldable pub is_reached : Town → Option (List ℕ) → List ℕ → Bool
is_reached t None r = is_at_peer t r
is_reached t (Some host) r = is_at_peer t r || bytes_eq host (host_of r)

-- ---- what they mean

-- another attempt is due
abbrev pub is_waiting : Progress → Bool
is_waiting (Due attempts from) = true
is_waiting (Ended attempts) = false

-- the id of the activity with this number
abbrev pub id_at : List Act → ℕ → Option (List ℕ)
id_at acts number = option_and_then (λ x. x.activity.id) (slice_get acts number)

-- the delivery that a row represents
abbrev pub delivery_in : List Act → QueueRow → Delivery
delivery_in acts row = record {
  activity = id_at acts row.activity;
  recipient = row.recipient;
  progress = Due row.attempts row.due;
}

-- The rows are the deliveries of a legal history that have not ended.
abbrev pub RowsAreTheQueue : Type 0
RowsAreTheQueue =
    (history : List Entry) → IsLegal history
    → map (delivery_in (town history).acts) (rows_of (town history))
    ≡ filter (λ d. is_waiting d.progress) (queue (town history))

-- ---- what becomes of them

-- An activity that is accepted adds its own rows, and those of its answer, at the end.
abbrev pub AcceptedActivitiesAddRows : Type 0
AcceptedActivitiesAddRows =
    (t : Town) (x : Act)
    → rows_of (with_acceptance t (acceptance t x))
    ≡ rows_of t ++ rows_from t (is_at_peer t) (length t.acts) (x ∷ option_to_list (answer_to t x))

-- the row is that of the delivery of the activity with this id to this recipient
unfoldable pub is_row_of : List Act → List ℕ → List ℕ → QueueRow → Bool
is_row_of acts id recipient row =
    is_there (has_activity_id id) (slice_get acts row.activity) && bytes_eq row.recipient recipient

-- what an attempt makes of a row
unfoldable pub retried : List Act → Attempt → QueueRow → List QueueRow
retried acts a row =
    if is_row_of acts a.activity a.recipient row
    then row_of row.activity row.place row.recipient (after_attempt (Due row.attempts row.due) a)
    else row ∷ []

-- An activity from elsewhere that is repeated adds no row: it is not forwarded a second time
-- (ActivityPub, section 7.1.2).
abbrev pub RepeatsAddNoRows : Type 0
RepeatsAddNoRows =
    (history : List Entry) (peer inbox id : List ℕ) (a : Activity) (moment : ℕ)
    → IsLegal (history ++ Remote peer inbox a moment ∷ [])
    → a.id ≡ Some id → is_known (town history) id ≡ true
    → rows_of (town (history ++ Remote peer inbox a moment ∷ [])) ≡ rows_of (town history)

-- The delivery of an activity to a recipient has at most one row.
abbrev pub DeliveriesHaveOneRow : Type 0
DeliveriesHaveOneRow =
    (history : List Entry) (id recipient : List ℕ) → IsLegal history
    → PassesOnce (is_row_of (town history).acts id recipient) (rows_of (town history))

-- A row that is due is the row of a delivery that is due.
abbrev pub RowsAreDue : Type 0
RowsAreDue =
    (history : List Entry) (k : ℕ) (row : QueueRow) (id : List ℕ) (moment : ℕ) → IsLegal history
    → slice_get (rows_of (town history)) k ≡ Some row
    → id_at (town history).acts row.activity ≡ Some id → row.due ≤ moment
    → is_due (town history) id row.recipient moment ≡ true

-- The id of a member's next activity is not yet the id of an activity.
abbrev pub NextIdsAreNew : Type 0
NextIdsAreNew =
    (history : List Entry) (host name : List ℕ) → IsLegal history → (town history).host ≡ Some host
    → is_name name ≡ true
    → has_next (count_of (town history) (actor_id host name)) ≡ true
    → is_known (town history)
    (activity_id host name (count_of (town history) (actor_id host name) + 1)) ≡ false

-- An attempt changes only the rows of its delivery.
abbrev pub AttemptsChangeTheirRows : Type 0
AttemptsChangeTheirRows =
    (t : Town) (a : Attempt) → rows_of (record t { attempts = t.attempts ++ a ∷ [] })
    ≡ flat_map (retried t.acts a) (rows_of t)
