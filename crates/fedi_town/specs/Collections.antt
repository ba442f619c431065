-- Collections (ActivityPub, section 5) and their pages (ActivityStreams 2.0 Core, section 5).
use Rattle.std.specs.Prelude.{ℕ, ◌*◌, ◌-◌, ◌/◌, Bool, false, ◌&&◌, List, [], filter, take, drop}
use Rattle.std.specs.Prelude.{reverse, Option, Some, None, option_map}
use Rattle.std.specs.Str.{bytes_eq}
use Rattle.fedi_address.specs.Recipients.{is_among}
use Rattle.fedi_town.specs.declared.act.Act.{Act}
use Rattle.fedi_town.specs.declared.caller.Caller.{Caller}
use Rattle.fedi_town.specs.declared.caller.Which.{Which}
use Rattle.fedi_town.specs.declared.caller.Which.TheVariants.{Inbox, Outbox, Followers, Following}
use Rattle.fedi_town.specs.declared.caller.Which.TheVariants.{Liked, Likes, Shares}
use Rattle.fedi_town.specs.Deeds.{is_follow, is_like, is_announce, is_accepted, is_standing}
use Rattle.fedi_town.specs.Ids.{object_id}
use Rattle.fedi_town.specs.Lists.{firsts}
use Rattle.fedi_town.specs.Relations.{ref_id, is_about, is_following}
use Rattle.fedi_town.specs.Seeing.{seen}
use Rattle.fedi_town.specs.Towns.{Town, deed, id_of, is_by}

-- the text, or an empty one
abbrev pub text_of : Option (List ℕ) → List ℕ
text_of None = []
text_of (Some text) = text

-- the id of what the activity is about
abbrev pub object_key : Act → List ℕ
object_key x = text_of (ref_id x.activity.object)

-- the id of the member or the object that the collection belongs to
abbrev pub owner_of : Town → Which → Option (List ℕ)
owner_of t (Inbox name) = id_of t name
owner_of t (Outbox name) = id_of t name
owner_of t (Followers name) = id_of t name
owner_of t (Following name) = id_of t name
owner_of t (Liked name) = id_of t name
owner_of t (Likes name number) = option_map (λ host. object_id host name number) t.host
owner_of t (Shares name number) = option_map (λ host. object_id host name number) t.host

-- The activity is in this collection of the owner: what the owner received or posted, the accepted
-- Follows of and by the owner, the Likes by the owner that are in force, and the Likes and
-- Announces of the owner that are in force.
unfoldable pub is_item : Which → List ℕ → Act → Bool
is_item (Inbox name) id x = is_among id x.recipients
is_item (Outbox name) id x = is_by id x
is_item (Followers name) id x = is_following id x
is_item (Following name) id x = (is_follow (deed x) && is_accepted x.state) && is_by id x
is_item (Liked name) id x = (is_like (deed x) && is_standing x.state) && is_by id x
is_item (Likes name number) id x = (is_like (deed x) && is_standing x.state) && is_about id x
is_item (Shares name number) id x = (is_announce (deed x) && is_standing x.state) && is_about id x

-- two activities of the collection denote the same item: the same follower, or the same followed
-- actor
unfoldable pub is_same_item : Which → Act → Act → Bool
is_same_item (Inbox name) x y = false
is_same_item (Outbox name) x y = false
is_same_item (Followers name) x y = bytes_eq x.author y.author
is_same_item (Following name) x y = bytes_eq (object_key x) (object_key y)
is_same_item (Liked name) x y = false
is_same_item (Likes name number) x y = false
is_same_item (Shares name number) x y = false

-- the part of the owner's collection that the caller sees, with the first of each item, in the
-- order of acceptance
abbrev pub items : Town → Caller → Which → List ℕ → List Act
items t c which id = firsts (is_same_item which) (filter (is_item which id) (seen t c))

-- ---- pages of 20 items

-- the highest page of so many items, which has the newest ones
abbrev pub highest : ℕ → ℕ
highest total = (total - 1) / 20

-- the items of a page, the newest first (ActivityPub, section 5)
abbrev pub page_of : {A : Type 0} → ℕ → List A → List A
page_of k xs = reverse (take 20 (drop (20 * k) xs))
