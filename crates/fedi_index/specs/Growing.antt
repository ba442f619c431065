-- The lists that an activity is in, and how they change when it is added.
use Rattle.std.specs.Prelude.{◌≡◌, ℕ, ◌+◌, ◌≤◌, ⊤, IsTrue, Bool, true, false, ◌&&◌}
use Rattle.std.specs.Prelude.{nat_lt, List, [], ◌∷◌, map, Option, Some, None, if◌then◌else◌}
use Rattle.fedi_address.specs.Recipients.{is_among}
use Rattle.fedi_index.specs.declared.collection.Collection.{Collection}
use Rattle.fedi_index.specs.declared.collection.Collection.TheVariants as kinds
use Rattle.fedi_index.specs.Candidates.{belongs, is_same}
use Rattle.fedi_index.specs.Lists.{Listing, places_of, room_of}
use Rattle.fedi_objects.specs.declared.kind.Kind.{Kind}
use Rattle.fedi_objects.specs.declared.kind.Kind.TheVariants.{Add, Announce, Follow, Like, Remove}
use Rattle.fedi_town.specs.declared.act.Act.{Act}
use Rattle.fedi_town.specs.Addressing.{is_of_town}
use Rattle.fedi_town.specs.Boards.{is_pin_kind}
use Rattle.fedi_town.specs.Histories.{with_recipient}
use Rattle.fedi_town.specs.Legal.{lacks}
use Rattle.fedi_town.specs.Lists.{PassesOnce}
use Rattle.fedi_town.specs.Relations.{has_activity_id, is_id, ref_id}
use Rattle.fedi_town.specs.Towns.{Town}
use Rattle.fedi_visible.specs.Places.{places_from}

-- the activity may be in this collection of the owner, and the owner is of this host
unfoldable pub is_kept : Option (List ℕ) → Collection → List ℕ → Act → Bool
is_kept host k o x = is_of_town host o && belongs k o x

-- the lists hold exactly the candidates of all collections whose owners are of this host
pub record AreCandidates (host : Option (List ℕ)) (acts : List Act)
    (lists : List Listing) : Type 0 where
  pub places : (k : Collection) (o : List ℕ)
      → places_of k o lists ≡ places_from (is_kept host k o) 0 acts

-- ---- which lists

-- the collection of its author, besides the outbox, that an activity of this type may be in
abbrev pub list_of_author : Kind → Option Collection
list_of_author Follow = Some kinds.Following
list_of_author Like = Some kinds.Liked
list_of_author Add = Some kinds.Pins
list_of_author Remove = Some kinds.Pins
list_of_author _ = None

-- the collection of another owner that an activity of this type may be in
abbrev pub list_of_other : Kind → Option Collection
list_of_other Follow = Some kinds.Followers
list_of_other Like = Some kinds.Likes
list_of_other Announce = Some kinds.Shares
list_of_other Add = Some kinds.Board
list_of_other Remove = Some kinds.Board
list_of_other _ = None

-- that other owner: the collection that an Add or a Remove is directed to, or what another activity
-- is about
abbrev pub other_owner : Act → Option (List ℕ)
other_owner x =
    if is_pin_kind x.activity.kind then x.activity.target else ref_id x.activity.object

-- there is a kind, and it is this one
abbrev pub is_kind : Collection → Option Collection → Bool
is_kind k None = false
is_kind k (Some kind) = is_same kind k

-- it is the list of this collection of this owner, if both are given, and the owner is of this host
unfoldable pub is_one : Option (List ℕ) → Option Collection → Option (List ℕ) → Collection
    → List ℕ → Bool
is_one host kind owner k o = is_of_town host o && (is_kind k kind && is_id o owner)

-- it is the inbox of one of these owners, and the owner is of this host
unfoldable pub is_inbox : Option (List ℕ) → List (List ℕ) → Collection → List ℕ → Bool
is_inbox host owners k o = is_of_town host o && (is_same kinds.Inbox k && is_among o owners)

-- ---- room

-- there is room for this many more positions in these lists
pub record HasRoom (listed : Collection → List ℕ → Bool) (n : ℕ)
    (lists : List Listing) : Type 0 where
  pub room : (k : Collection) (o : List ℕ) → listed k o ≡ true → n ≤ room_of k o lists

-- there is room for this many more positions in each list that one of these activities may be in
abbrev pub HasRooms : Option (List ℕ) → ℕ → List Act → List Listing → Type 0
HasRooms host n [] lists = Unit {0}
HasRooms host n (x ∷ xs) lists =
    HasRoom (λ k o. is_kept host k o x) n lists × HasRooms host n xs lists

-- ---- one more inbox

-- The activity with this id may be added to this owner's inbox too: it is the only one with this
-- id, it is not in the inbox yet, and the owner is of this host.
pub record MayGo (t : Town) (id owner : List ℕ) : Type 0 where
  pub once : PassesOnce (has_activity_id id) t.acts
  pub lacking : IsTrue (lacks t (Some id) (Some owner))
  pub here : IsTrue (is_of_town t.host owner)

-- the same for the activity that is added to one more inbox, if there is one, and the inbox's owner
abbrev pub MayComeIn : Town → Option (List ℕ × List ℕ) → Type 0
MayComeIn t None = ⊤
MayComeIn t (Some pair) = MayGo t pair.0 pair.1

-- there is room for one more in the list of that inbox
abbrev pub HasInboxRoom : Option (List ℕ × List ℕ) → List Listing → Type 0
HasInboxRoom None lists = ⊤
HasInboxRoom (Some pair) lists = 1 ≤ room_of kinds.Inbox pair.1 lists

-- the activities after that one was added to one more inbox
abbrev pub sent_on : Option (List ℕ × List ℕ) → List Act → List Act
sent_on None acts = acts
sent_on (Some pair) acts = map (with_recipient pair.0 pair.1) acts

-- the ordered positions with one more inserted in order
abbrev pub in_order : ℕ → List ℕ → List ℕ
in_order place [] = place ∷ []
in_order place (p ∷ ps) = if nat_lt p place then p ∷ in_order place ps else place ∷ p ∷ ps

-- ---- what is left of the room

-- each list has room for at most one position less
pub record UsesOne (old new : List Listing) : Type 0 where
  pub room : (k : Collection) (o : List ℕ) → room_of k o old ≤ room_of k o new + 1
