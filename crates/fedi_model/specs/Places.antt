-- The paths of the server (RFC 3986, section 3.3), and the methods of each (RFC 9110, section 9.1).
-- Paths are compared byte for byte and never decoded.
use Rattle.std.specs.Prelude.{◌≡◌, ℕ, ◌≤◌, ◌<◌, ◌^◌, List, codes, IsTrue, Option, Some}
use Rattle.std.specs.Prelude.{None}
use Rattle.fedi_address.specs.Names.{is_name}
use Rattle.fedi_model.specs.declared.ask.Allow.{Allow}
use Rattle.fedi_model.specs.declared.ask.Allow.TheVariants.{GetHead, GetHeadPost}
use Rattle.fedi_model.specs.Documents.{collection_id}
use Rattle.fedi_model.specs.Reading.{name_of}
use Rattle.fedi_town.specs.Boards.{board_address}
use Rattle.fedi_town.specs.Ids.{actor_path, activity_path, object_path}
use Rattle.fedi_town.specs.declared.caller.Which.{Which}
use Rattle.fedi_town.specs.declared.caller.Which.TheVariants.{Inbox, Outbox, Likes, Shares}
use Rattle.fedi_model.specs.declared.place.Place.{Place}
use Rattle.fedi_model.specs.declared.place.Place.TheVariants.{Webfinger, Actor, Collection, Board}
use Rattle.fedi_model.specs.declared.place.Place.TheVariants.{Activity, Object}

-- a number that activities may have
abbrev pub IsNumber : ℕ → Type 0
IsNumber number = (1 ≤ number) × (number < 2 ^ 32)

-- the collection has a name that members may have, and an object's collection also such a number
abbrev pub IsWhich : Which → Type 0
IsWhich (Likes name number) = IsTrue (is_name name) × IsNumber number
IsWhich (Shares name number) = IsTrue (is_name name) × IsNumber number
IsWhich which = IsTrue (is_name (name_of which))

-- the collection that a member makes, if one is meant, has a name that it may have
abbrev pub IsSlug : Option (List ℕ) → Type 0
IsSlug None = Unit {0}
IsSlug (Some slug) = IsTrue (is_name slug)

-- the endpoint has a name that members may have, and a number that activities may have
abbrev pub IsPlace : Place → Type 0
IsPlace Webfinger = Unit {0}
IsPlace (Actor name) = IsTrue (is_name name)
IsPlace (Collection which) = IsWhich which
IsPlace (Board name slug) = IsTrue (is_name name) × IsSlug slug
IsPlace (Activity name number) = IsTrue (is_name name) × IsNumber number
IsPlace (Object name number) = IsTrue (is_name name) × IsNumber number

-- the path of the member or the object that the collection belongs to
abbrev pub owner_path : Which → List ℕ
owner_path (Likes name number) = object_path name number
owner_path (Shares name number) = object_path name number
owner_path which = actor_path (name_of which)

-- the path of the endpoint (for WebFinger RFC 7033, section 4)
abbrev pub place_path : Place → List ℕ
place_path Webfinger = codes "/.well-known/webfinger"
place_path (Actor name) = actor_path name
place_path (Collection which) = collection_id which (owner_path which)
place_path (Board name slug) = board_address (actor_path name) slug
place_path (Activity name number) = activity_path name number
place_path (Object name number) = object_path name number

-- the path leads to the endpoint
pub record LeadsTo (path : List ℕ) (place : Place) : Type 0 where
  pub there : IsPlace place
  pub spelled : path ≡ place_path place

-- the methods of the endpoint: each can be read, and an outbox and an inbox can be posted to
-- (ActivityPub, sections 3.2, 6 and 7)
abbrev pub allow_of : Place → Allow
allow_of (Collection (Outbox name)) = GetHeadPost
allow_of (Collection (Inbox name)) = GetHeadPost
allow_of place = GetHead
