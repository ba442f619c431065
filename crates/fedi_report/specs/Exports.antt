-- What an operator exports from a store: its members, its activities and the deliveries that wait,
-- each as a table. None of them names a recipient.
use Rattle.std.specs.Prelude.{ℕ, suc, Bool, true, false, List, [], ◌∷◌, codes, decimal, filter}
use Rattle.std.specs.Prelude.{length, map}
use Rattle.fedi_address.specs.Iris.{host_of}
use Rattle.fedi_objects.specs.Kinds.{kind_name, state_name}
use Rattle.fedi_queue.specs.declared.rows.QueueRow.{QueueRow}
use Rattle.fedi_queue.specs.Rows.{delivery_in, is_waiting}
use Rattle.fedi_text.specs.Dates.{moment_text}
use Rattle.fedi_town.specs.declared.act.Act.{Act}
use Rattle.fedi_town.specs.declared.act.Actor.{Actor}
use Rattle.fedi_town.specs.Collections.{text_of}
use Rattle.fedi_town.specs.Queues.{Delivery, Progress, queue}
use Rattle.fedi_town.specs.Queues.{Due, Ended}
use Rattle.fedi_town.specs.Relations.{followers}
use Rattle.fedi_town.specs.Towns.{Town, count_of}
use Rattle.fedi_report.specs.Tables.{rows_text}

-- ---- members

-- a boolean as a field
abbrev pub yes_or_no : Bool → List ℕ
yes_or_no true = codes "yes"
yes_or_no false = codes "no"

-- a member: the name, whether Follows of it wait for an answer, how many activities it has, and how
-- many follow it
abbrev pub member_row : Town → Actor → List (List ℕ)
member_row t a =
    a.name ∷ yes_or_no a.locked ∷ decimal (count_of t a.id)
    ∷ decimal (length (followers t a.id)) ∷ []

-- the names of a member's fields
abbrev pub member_columns : List (List ℕ)
member_columns = codes "name" ∷ codes "locked" ∷ codes "activities" ∷ codes "followers" ∷ []

-- the members, in the order in which they were made
unfoldable pub actors_text : Town → List ℕ
actors_text t = rows_text (member_columns ∷ map (member_row t) t.actors)

-- ---- activities

-- an activity: its position, its id, its author, its type, its state, and when it was accepted
abbrev pub activity_row : ℕ → Act → List (List ℕ)
activity_row position x =
    decimal position ∷ text_of x.activity.id ∷ x.author ∷ kind_name x.activity.kind
    ∷ state_name x.state ∷ moment_text x.moment ∷ []

-- activities, the first of them at this position
abbrev pub activity_rows : ℕ → List Act → List (List (List ℕ))
activity_rows position [] = []
activity_rows position (x ∷ xs) = activity_row position x ∷ activity_rows (suc position) xs

-- the names of an activity's fields
abbrev pub activity_columns : List (List ℕ)
activity_columns =
    codes "place" ∷ codes "id" ∷ codes "actor" ∷ codes "type" ∷ codes "state" ∷ codes "moment" ∷ []

-- the activities, in the order of acceptance
unfoldable pub activities_text : Town → List ℕ
activities_text t = rows_text (activity_columns ∷ activity_rows 0 t.acts)

-- ---- deliveries

-- how many attempts there were, and from when on the next is due, in seconds since
-- 1970-01-01T00:00:00Z, if there is one
abbrev pub progress_fields : Progress → List (List ℕ)
progress_fields (Due attempts from) = decimal attempts ∷ decimal from ∷ []
progress_fields (Ended attempts) = decimal attempts ∷ [] ∷ []

-- a delivery: the id of its activity, the host of its recipient, and its progress
abbrev pub delivery_row : Delivery → List (List ℕ)
delivery_row d = text_of d.activity ∷ host_of d.recipient ∷ progress_fields d.progress

-- the names of a delivery's fields
abbrev pub delivery_columns : List (List ℕ)
delivery_columns = codes "activity" ∷ codes "host" ∷ codes "attempts" ∷ codes "due" ∷ []

-- the deliveries that have not ended, in the order of acceptance and of recipients (ActivityPub,
-- section 7.1)
unfoldable pub queue_text : Town → List ℕ
queue_text t =
    rows_text (delivery_columns
    ∷ map delivery_row (filter (λ (d : Delivery). is_waiting d.progress) (queue t)))

-- the delivery that this row of the queue is for
abbrev pub queued_row : List Act → QueueRow → List (List ℕ)
queued_row acts row = delivery_row (delivery_in acts row)
