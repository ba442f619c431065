-- The facts, as their callers see them.
use Rattle.std.specs.Prelude.{◌≡◌, ℕ, ◌+◌, ◌≤◌, ⊤, List, [], Option, Some, None, vec_len}
use Rattle.std.specs.Prelude.{vec_capacity}
use Rattle.fedi_objects.specs.declared.entry.Entry.{Entry}
use Rattle.fedi_town.specs.declared.act.Act.{Act}
use Rattle.fedi_town.specs.Histories.{addition_of, town}
use Rattle.fedi_town.specs.Towns.{Town}
use Rattle.fedi_effects.specs.declared.facts.Facts.TheInside.{Inside}
use Rattle.fedi_effects.specs.declared.facts.Room.{Room}
use Rattle.fedi_effects.specs.Additions.{FitsActs, HasAuthors, acts_in, addition_in, inbox_in}

-- the history that is held, the town that it has made, and the entry for which room was made
pub record Holding : Type 0 where
  pub history : List Entry
  pub town : Town
  pub room : Option Entry

-- the activities of the entry for which there is room
abbrev pub coming : Town → Option Entry → List Act
coming t None = []
coming t (Some e) = acts_in (addition_of t e)

-- the activities for which what is held has room
abbrev pub coming_in : Holding → List Act
coming_in h = coming h.town h.room

-- the activity that the entry for which there is room brings to one more inbox, and the inbox's
-- owner
abbrev pub coming_inbox : Town → Option Entry → Option (List ℕ × List ℕ)
coming_inbox t None = None
coming_inbox t (Some e) = inbox_in (addition_of t e)

-- the activity for which what is held has room in one more inbox, and the inbox's owner
abbrev pub coming_inbox_in : Holding → Option (List ℕ × List ℕ)
coming_inbox_in h = coming_inbox h.town h.room

-- ---- what is held

-- the town of what is held
abbrev pub town_in : Inside → Town
town_in f = record {
  host = f.host;
  actors = f.actors.actors;
  peers = f.peers.items;
  acts = f.register.acts;
  attempts = f.tallies.attempts;
}

-- the entry for which there is room
abbrev pub entry_in : Option Room → Option Entry
entry_in None = None
entry_in (Some r) = Some r.entry.value

-- the facts, as their callers see them
abbrev pub holding_in : Inside → Holding
holding_in f = record { history = f.history; town = town_in f; room = entry_in f.room }

-- what was made ready is what the entry adds, and there is room for it
abbrev pub IsRoom : Inside → Option Room → Type 0
IsRoom f None = ⊤
IsRoom f (Some r) =
    (addition_in r.ready ≡ addition_of (town_in f) r.entry.value)
    × (1 ≤ f.actors.room)
    × (vec_len f.peers + 1 ≤ vec_capacity f.peers)
    × (1 ≤ f.tallies.room)
    × FitsActs f.register.acts r.ready
    × (f.register.room ≡ 2)
    × HasAuthors f.register.known r.ready

-- the town is what the history has made
abbrev pub IsSound : Inside → Type 0
IsSound f = (town_in f ≡ town f.history) × IsRoom f f.room
