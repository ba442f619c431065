-- What an operator reads about a store.
use Rattle.std.specs.Prelude.{List, ℕ, ◌++◌, filter, length, codes, decimal}
use Rattle.fedi_objects.specs.declared.entry.Entry.{Entry}
use Rattle.fedi_queue.specs.Rows.{is_waiting}
use Rattle.fedi_town.specs.Histories.{town}
use Rattle.fedi_town.specs.Queues.{Delivery, queue}
use Rattle.fedi_town.specs.Towns.{Town}

-- how many deliveries have not ended (ActivityPub, section 7.1)
abbrev pub waiting : Town → ℕ
waiting t = length (filter (λ (d : Delivery). is_waiting d.progress) (queue t))

-- how many entries a history has, how many members and activities they have made, and how many
-- deliveries have not ended
abbrev pub check_text : List Entry → List ℕ
check_text history =
    codes "entries " ++ decimal (length history)
    ++ codes " actors " ++ decimal (length (town history).actors)
    ++ codes " activities " ++ decimal (length (town history).acts)
    ++ codes " queue " ++ decimal (waiting (town history))
    ++ codes "\n"
