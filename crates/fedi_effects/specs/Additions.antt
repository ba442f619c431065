-- What was made ready of an addition.
use Rattle.std.specs.Prelude.{◌≡◌, ℕ, ⊤, IsTrue, List, [], ◌∷◌, Option, Some, None, option_to_list}
use Rattle.std.specs.List.{list_any}
use Rattle.fedi_address.specs.Recipients.{add_new, is_among}
use Rattle.fedi_town.specs.declared.act.Act.{Act}
use Rattle.fedi_town.specs.declared.addition.Addition.{Addition}
use Rattle.fedi_town.specs.declared.addition.Addition.TheVariants as additions
use Rattle.fedi_town.specs.Lists.{PassesOnce}
use Rattle.fedi_town.specs.Relations.{has_activity_id}
use Rattle.fedi_register.specs.Changes.{longer_of}
use Rattle.fedi_effects.specs.declared.ready.Ready.{Ready}
use Rattle.fedi_effects.specs.declared.ready.Ready.TheVariants as ready

-- the addition that it was made from
abbrev pub addition_in : Ready → Addition
addition_in ready.Nothing = additions.Nothing
addition_in (ready.Host host) = additions.Host host
addition_in (ready.Member member) = additions.Member member
addition_in (ready.Peer peer) = additions.Peer peer
addition_in (ready.Activity act effect spare answer) =
    additions.Activity (record { act = act; effect = effect; answer = answer })
addition_in (ready.Inbox activity owner recipients) = additions.Inbox activity owner
addition_in (ready.Attempt attempt) = additions.Attempt attempt

-- the activities that it brings
abbrev pub acts_in : Addition → List Act
acts_in additions.Nothing = []
acts_in (additions.Host host) = []
acts_in (additions.Member member) = []
acts_in (additions.Peer peer) = []
acts_in (additions.Activity a) = a.act ∷ option_to_list a.answer
acts_in (additions.Inbox id owner) = []
acts_in (additions.Attempt attempt) = []

-- the activity that goes to one more inbox, and the inbox's owner
abbrev pub inbox_in : Addition → Option (List ℕ × List ℕ)
inbox_in additions.Nothing = None
inbox_in (additions.Host host) = None
inbox_in (additions.Member member) = None
inbox_in (additions.Peer peer) = None
inbox_in (additions.Activity a) = None
inbox_in (additions.Inbox id owner) = Some (id, owner)
inbox_in (additions.Attempt attempt) = None

-- if it adds one more inbox, the activity exists exactly once
abbrev pub CanAdd : List Act → Addition → Type 0
CanAdd acts additions.Nothing = ⊤
CanAdd acts (additions.Host host) = ⊤
CanAdd acts (additions.Member member) = ⊤
CanAdd acts (additions.Peer peer) = ⊤
CanAdd acts (additions.Activity a) = ⊤
CanAdd acts (additions.Inbox id owner) =
    IsTrue (list_any (has_activity_id id) acts) × PassesOnce (has_activity_id id) acts
CanAdd acts (additions.Attempt attempt) = ⊤

-- the activity that goes to one more inbox exists exactly once, and its recipients with that inbox
-- were made ready
abbrev pub FitsActs : List Act → Ready → Type 0
FitsActs acts ready.Nothing = ⊤
FitsActs acts (ready.Host host) = ⊤
FitsActs acts (ready.Member member) = ⊤
FitsActs acts (ready.Peer peer) = ⊤
FitsActs acts (ready.Activity act effect spare answer) = ⊤
FitsActs acts (ready.Inbox id owner recipients) =
    PassesOnce (has_activity_id id) acts × (longer_of id owner acts ≡ Some recipients)
FitsActs acts (ready.Attempt attempt) = ⊤

-- the answer's author is known
abbrev pub HasAnswerer : List (List ℕ) → Option Act → Type 0
HasAnswerer known None = ⊤
HasAnswerer known (Some answer) = IsTrue (is_among answer.author known)

-- the authors of the activities are known
abbrev pub HasAuthors : List (List ℕ) → Ready → Type 0
HasAuthors known ready.Nothing = ⊤
HasAuthors known (ready.Host host) = ⊤
HasAuthors known (ready.Member member) = ⊤
HasAuthors known (ready.Peer peer) = ⊤
HasAuthors known (ready.Activity act effect spare answer) =
    IsTrue (is_among act.author known) × HasAnswerer known answer
HasAuthors known (ready.Inbox id owner recipients) = ⊤
HasAuthors known (ready.Attempt attempt) = ⊤

-- the answer's author becomes known
abbrev pub with_answerer : List (List ℕ) → Option Act → List (List ℕ)
with_answerer known None = known
with_answerer known (Some answer) = add_new known answer.author

-- the authors of the activities become known
abbrev pub with_authors : List (List ℕ) → Ready → List (List ℕ)
with_authors known ready.Nothing = known
with_authors known (ready.Host host) = known
with_authors known (ready.Member member) = known
with_authors known (ready.Peer peer) = known
with_authors known (ready.Activity act effect spare answer) =
    with_answerer (add_new known act.author) answer
with_authors known (ready.Inbox id owner recipients) = known
with_authors known (ready.Attempt attempt) = known
