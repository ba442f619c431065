-- A history with the lists of its collections.
use Rattle.std.specs.Prelude.{◌≡◌, ◌<◌, ◌^◌, ⊤, IsTrue, List, Option, Some, None}
use Rattle.fedi_address.specs.Names.{is_name}
use Rattle.fedi_effects.specs.Holdings.{Holding, coming_in, coming_inbox_in}
use Rattle.fedi_index.specs.Growing.{AreCandidates, HasInboxRoom, HasRooms}
use Rattle.fedi_index.specs.Lists.{Listing}
use Rattle.fedi_objects.specs.declared.entry.Entry.{Entry}
use Rattle.fedi_town.specs.declared.caller.Which.{Which}
use Rattle.fedi_town.specs.declared.caller.Which.TheVariants.{Inbox, Outbox, Followers, Following}
use Rattle.fedi_town.specs.declared.caller.Which.TheVariants.{Liked, Likes, Shares}
use Rattle.fedi_town.specs.Histories.{town}
use Rattle.fedi_town.specs.Legal.{IsLegal, is_admissible}
use Rattle.fedi_town.specs.Towns.{Town}

-- a collection of an object has a valid member name and a 64-bit number
abbrev pub IsNamed : Which → Type 0
IsNamed (Likes name number) = IsTrue (is_name name) × (number < 2 ^ 64)
IsNamed (Shares name number) = IsTrue (is_name name) × (number < 2 ^ 64)
IsNamed (Inbox name) = ⊤
IsNamed (Outbox name) = ⊤
IsNamed (Followers name) = ⊤
IsNamed (Following name) = ⊤
IsNamed (Liked name) = ⊤

-- the entry for which there is room, if any, may come next
abbrev pub MayCome : Town → Option Entry → Type 0
MayCome t None = ⊤
MayCome t (Some e) = IsTrue (is_admissible t e)

-- The history is legal, and the town is its state; the entry for which there is room may come next;
-- the lists hold exactly the candidates of all collections of this host; and they have room for
-- what the entry will add.
pub record IsShelf (h : Holding) (lists : List Listing) : Type 0 where
  pub stands : h.town ≡ town h.history
  pub legal : IsLegal h.history
  pub next : MayCome h.town h.room
  pub candidates : AreCandidates h.town.host h.town.acts lists
  pub room : HasRooms h.town.host 2 (coming_in h) lists
  pub inbox_room : HasInboxRoom (coming_inbox_in h) lists
