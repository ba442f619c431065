-- The deliveries that are due at a moment, and what an attempt at that moment leaves of them
-- (ActivityPub, section 7.1).
use Rattle.std.specs.Prelude.{◌≡◌, ℕ, Bool, List, [], ◌∷◌, ◌++◌, filter, Some}
use Rattle.fedi_objects.specs.declared.entry.Came.{Came}
use Rattle.fedi_objects.specs.declared.entry.Entry.{Entry}
use Rattle.fedi_objects.specs.declared.entry.Entry.TheVariants.{Tried}
use Rattle.fedi_town.specs.Histories.{town}
use Rattle.fedi_town.specs.Legal.{IsLegal}
use Rattle.fedi_town.specs.Queues.{Delivery, is_due_at, queue}
use Rattle.fedi_town.specs.Towns.{Town}

-- the delivery is due at this moment
unfoldable pub is_due_by : ℕ → Delivery → Bool
is_due_by moment d = is_due_at moment d.progress

-- the deliveries that are due at this moment, in the order of the queue
abbrev pub due_in : Town → ℕ → List Delivery
due_in t moment = filter (is_due_by moment) (queue t)

-- the delivery is that of the activity with this id to this recipient
abbrev pub IsTo : List ℕ → List ℕ → Delivery → Type 0
IsTo id recipient d = (d.activity ≡ Some id) × (d.recipient ≡ recipient)

-- Whatever the result of an attempt of the first delivery that is due at its moment, exactly the
-- others are due then: the next attempt is due later.
abbrev pub AttemptsLeaveTheRest : Type 0
AttemptsLeaveTheRest =
    (history : List Entry) (id recipient : List ℕ) (came : Came) (moment : ℕ) (d : Delivery)
    (rest : List Delivery)
    → IsLegal (history ++ Tried id recipient came moment ∷ [])
    → due_in (town history) moment ≡ d ∷ rest → IsTo id recipient d
    → due_in (town (history ++ Tried id recipient came moment ∷ [])) moment ≡ rest
