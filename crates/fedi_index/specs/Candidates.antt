-- The candidates of a collection: the activities that match its rule, in any state and whoever may
-- see them.
use Rattle.std.specs.Prelude.{ℕ, Bool, true, false, ◌&&◌, List}
use Rattle.fedi_address.specs.Recipients.{is_among}
use Rattle.fedi_index.specs.declared.collection.Collection.{Collection}
use Rattle.fedi_index.specs.declared.collection.Collection.TheVariants as kinds
use Rattle.fedi_town.specs.declared.act.Act.{Act}
use Rattle.fedi_town.specs.declared.caller.Which.{Which}
use Rattle.fedi_town.specs.declared.caller.Which.TheVariants.{Inbox, Outbox, Followers, Following}
use Rattle.fedi_town.specs.declared.caller.Which.TheVariants.{Liked, Likes, Shares}
use Rattle.fedi_town.specs.Deeds.{is_announce, is_follow, is_like}
use Rattle.fedi_town.specs.Relations.{is_about}
use Rattle.fedi_town.specs.Towns.{deed, is_by}
use Rattle.fedi_visible.specs.Pins.{is_directed, is_pin_kind_by}

-- the kind of a collection
abbrev pub collection_of : Which → Collection
collection_of (Inbox name) = kinds.Inbox
collection_of (Outbox name) = kinds.Outbox
collection_of (Followers name) = kinds.Followers
collection_of (Following name) = kinds.Following
collection_of (Liked name) = kinds.Liked
collection_of (Likes name number) = kinds.Likes
collection_of (Shares name number) = kinds.Shares

-- the two are of the same kind
abbrev pub is_same : Collection → Collection → Bool
is_same kinds.Inbox kinds.Inbox = true
is_same kinds.Outbox kinds.Outbox = true
is_same kinds.Followers kinds.Followers = true
is_same kinds.Following kinds.Following = true
is_same kinds.Liked kinds.Liked = true
is_same kinds.Likes kinds.Likes = true
is_same kinds.Shares kinds.Shares = true
is_same kinds.Pins kinds.Pins = true
is_same kinds.Board kinds.Board = true
is_same _ _ = false

-- The activity may be in this collection of the owner: what the owner received or posted, the
-- Follows of and by the owner, the Likes by the owner, the Likes and Announces of the owner, in any
-- state, the Adds and Removes by the owner, and those that are directed to it.
unfoldable pub belongs : Collection → List ℕ → Act → Bool
belongs kinds.Inbox id x = is_among id x.recipients
belongs kinds.Outbox id x = is_by id x
belongs kinds.Followers id x = is_follow (deed x) && is_about id x
belongs kinds.Following id x = is_follow (deed x) && is_by id x
belongs kinds.Liked id x = is_like (deed x) && is_by id x
belongs kinds.Likes id x = is_like (deed x) && is_about id x
belongs kinds.Shares id x = is_announce (deed x) && is_about id x
belongs kinds.Pins id x = is_pin_kind_by id x
belongs kinds.Board id x = is_directed id x

-- the activity is a candidate of the owner's collection
abbrev pub is_candidate : Which → List ℕ → Act → Bool
is_candidate which id x = belongs (collection_of which) id x
