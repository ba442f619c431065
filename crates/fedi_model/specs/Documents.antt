-- The JSON of actors (ActivityPub, section 4.1), of WebFinger (RFC 7033, section 4.4) and of
-- collections and their pages (ActivityPub, section 5; ActivityStreams 2.0 Core, section 5).
use Rattle.std.specs.Prelude.{ℕ, zero, suc, ◌+◌, ◌==◌, true, false, ◌||◌, nat_le, List, [], ◌∷◌}
use Rattle.std.specs.Prelude.{◌++◌, length, codes, decimal, if◌then◌else◌}
use Rattle.serde_json.specs.Data.{Data, unsigned, number, string, array, object, Members}
use Rattle.serde_json.specs.Data.{no_members, put}
use Rattle.serde_json.specs.View.{items_of}
use Rattle.fedi_address.specs.Recipients.{is_among}
use Rattle.fedi_objects.specs.Forms.{activity_form, with_context}
use Rattle.fedi_town.specs.declared.act.Act.{Act}
use Rattle.fedi_town.specs.declared.caller.Which.{Which}
use Rattle.fedi_town.specs.declared.caller.Which.TheVariants.{Inbox, Outbox, Followers, Following}
use Rattle.fedi_town.specs.declared.caller.Which.TheVariants.{Liked, Likes, Shares}
use Rattle.fedi_town.specs.Addressing.{is_of_town}
use Rattle.fedi_town.specs.Collections.{highest, object_key, text_of}
use Rattle.fedi_town.specs.Ids.{actor_id, inbox_id, outbox_id, followers_id, following_id, liked_id}
use Rattle.fedi_town.specs.Ids.{likes_id, shares_id}
use Rattle.fedi_town.specs.Showing.{shown_activity}
use Rattle.fedi_town.specs.Towns.{Town}

-- ---- members

-- the collections of the actor with this id (ActivityPub, section 4.1)
abbrev pub actor_members : List ℕ → List ℕ → Members
actor_members id name =
    put (codes "followers") (string (followers_id id))
    (put (codes "following") (string (following_id id))
    (put (codes "id") (string id)
    (put (codes "inbox") (string (inbox_id id))
    (put (codes "liked") (string (liked_id id))
    (put (codes "outbox") (string (outbox_id id))
    (put (codes "preferredUsername") (string name)
    (put (codes "type") (string (codes "Person")) no_members)))))))

-- a member's actor document (ActivityPub, section 4.1)
unfoldable pub actor_form : List ℕ → List ℕ → Data
actor_form host name = object (with_context true (actor_members (actor_id host name) name))

-- the link to the actor document (RFC 7033, section 4.4.4)
abbrev pub self_link : List ℕ → Data
self_link id =
    object (put (codes "href") (string id) (put (codes "rel") (string (codes "self"))
    (put (codes "type") (string (codes "application/activity+json")) no_members)))

-- the links for the requested relations, or all links if none is requested (RFC 7033, section 4.3)
abbrev pub links_of : List ℕ → List (List ℕ) → List Data
links_of id rels =
    if length rels == 0 || is_among (codes "self") rels then self_link id ∷ [] else []

-- a member as WebFinger describes it (RFC 7033, section 4.4)
unfoldable pub jrd_form : List ℕ → List ℕ → List (List ℕ) → Data
jrd_form host name rels =
    object (put (codes "aliases") (array (items_of (string (actor_id host name) ∷ [])))
    (put (codes "links") (array (items_of (links_of (actor_id host name) rels)))
    (put (codes "subject") (string (codes "acct:" ++ (name ++ (codes "@" ++ host)))) no_members)))

-- ---- items

-- an activity as it occurs in a page
unfoldable pub embedded_form : Town → Act → Data
embedded_form t x = activity_form (is_of_town t.host x.author) false x.author (shown_activity t x)

-- an item of this collection: the activity, its author, what it is about, or its id
abbrev pub item_form : Town → Which → Act → Data
item_form t (Inbox name) x = embedded_form t x
item_form t (Outbox name) x = embedded_form t x
item_form t (Followers name) x = string x.author
item_form t (Following name) x = string (object_key x)
item_form t (Liked name) x = string (object_key x)
item_form t (Likes name n) x = string (text_of x.activity.id)
item_form t (Shares name n) x = string (text_of x.activity.id)

-- ---- collections

-- the id of the owner's collection
abbrev pub collection_id : Which → List ℕ → List ℕ
collection_id (Inbox name) id = inbox_id id
collection_id (Outbox name) id = outbox_id id
collection_id (Followers name) id = followers_id id
collection_id (Following name) id = following_id id
collection_id (Liked name) id = liked_id id
collection_id (Likes name n) id = likes_id id
collection_id (Shares name n) id = shares_id id

-- the id of a page of the collection with this id
abbrev pub page_id : List ℕ → ℕ → List ℕ
page_id id k = id ++ (codes "?page=" ++ decimal k)

-- the members, with the newest and the oldest page of so many items, if there are any
abbrev pub with_ends : List ℕ → ℕ → Members → Members
with_ends id zero ms = ms
with_ends id (suc n) ms =
    put (codes "first") (string (page_id id (highest (suc n))))
    (put (codes "last") (string (page_id id 0)) ms)

-- a collection without its items
unfoldable pub summary_form : List ℕ → ℕ → Data
summary_form id total =
    object (with_context true (put (codes "id") (string id) (with_ends id total
    (put (codes "totalItems") (number (unsigned total))
    (put (codes "type") (string (codes "OrderedCollection")) no_members)))))

-- the members, with the page of older items
abbrev pub with_next : List ℕ → ℕ → Members → Members
with_next id zero ms = ms
with_next id (suc k) ms = put (codes "next") (string (page_id id k)) ms

-- the members, with the page of newer items
abbrev pub with_prev : List ℕ → ℕ → ℕ → Members → Members
with_prev id k top ms =
    if nat_le (k + 1) top then put (codes "prev") (string (page_id id (k + 1))) ms else ms

-- a page of a collection of so many items
unfoldable pub page_form : List ℕ → ℕ → ℕ → List Data → Data
page_form id k total ds =
    object (with_context true (put (codes "id") (string (page_id id k)) (with_next id k
    (put (codes "orderedItems") (array (items_of ds)) (put (codes "partOf") (string id)
    (with_prev id k (highest total)
    (put (codes "type") (string (codes "OrderedCollectionPage")) no_members)))))))
