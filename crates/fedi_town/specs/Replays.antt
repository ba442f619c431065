-- An object, replayed: what the activities made and changed, one after another, each in the form in
-- which it was accepted.
use Rattle.std.specs.Prelude.{ℕ, Bool, ◌&&◌, List, [], ◌∷◌, ◌++◌, Option, Some, None}
use Rattle.std.specs.Prelude.{option_to_list, codes, if◌then◌else◌}
use Rattle.std.specs.List.{fold}
use Rattle.fedi_objects.specs.declared.entry.Entry.{Entry}
use Rattle.fedi_objects.specs.declared.object.Object.{Object}
use Rattle.fedi_text.specs.Dates.{moment_text}
use Rattle.fedi_town.specs.declared.act.Act.{Act}
use Rattle.fedi_town.specs.declared.addition.Addition.{Addition}
use Rattle.fedi_town.specs.declared.addition.Addition.TheVariants as additions
use Rattle.fedi_town.specs.Deeds.{is_update, is_delete, is_done}
use Rattle.fedi_town.specs.Histories.{addition_of, step}
use Rattle.fedi_town.specs.Objects.{makes, whole_of, update_object, tombstone_of}
use Rattle.fedi_town.specs.Relations.{is_about}
use Rattle.fedi_town.specs.Towns.{Town, empty_town, deed}

-- ---- the activities, as they were accepted

-- the activities in an addition
abbrev pub acts_in : Addition → List Act
acts_in additions.Nothing = []
acts_in (additions.Host host) = []
acts_in (additions.Member member) = []
acts_in (additions.Peer peer) = []
acts_in (additions.Activity a) = a.act ∷ option_to_list a.answer
acts_in (additions.Inbox id owner) = []
acts_in (additions.Attempt attempt) = []

-- the activities that the entries add to this town
abbrev pub acts_from : Town → List Entry → List Act
acts_from t [] = []
acts_from t (e ∷ entries) = acts_in (addition_of t e) ++ acts_from (step t e) entries

-- the activities of a history, each as it was accepted
abbrev pub acts_of : List Entry → List Act
acts_of history = acts_from empty_town history

-- ---- the object

-- the activity is an Update of this object, and is done (ActivityPub, sections 6.3 and 7.3)
unfoldable pub updates : List ℕ → Act → Bool
updates id x = (is_update (deed x) && is_done x.state) && is_about id x

-- the activity is a Delete of this object, and is done (ActivityPub, sections 6.4 and 7.4)
unfoldable pub deletes : List ℕ → Act → Bool
deletes id x = (is_delete (deed x) && is_done x.state) && is_about id x

-- the object of this id after one more activity, if there was none: a Create that is done makes it
abbrev pub first_form : List ℕ → Act → Option Object
first_form id x = if makes id x then whole_of x.activity.object else None

-- if there was one: an Update that is done changes it, and a Delete that is done replaces it with a
-- Tombstone
abbrev pub next_form : List ℕ → Act → Object → Object
next_form id x o =
    if updates id x then update_object x.activity.object (moment_text x.moment) o else (
    if deletes id x then tombstone_of (codes "Tombstone") (moment_text x.moment) o else o)

-- the object after one more activity
abbrev pub replay_act : List ℕ → Option Object → Act → Option Object
replay_act id None x = first_form id x
replay_act id (Some o) x = Some (next_form id x o)

-- the object of this id after all these activities
abbrev pub replay : List ℕ → List Act → Option Object
replay id acts = fold (replay_act id) None acts
