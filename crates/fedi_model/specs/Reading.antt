-- The answers to a reader (ActivityPub, sections 3.2 and 5). What the reader does not see does not
-- exist for the reader.
use Rattle.std.specs.Prelude.{ℕ, Bool, true, false, nat_le, List, map, length, Option, Some, None}
use Rattle.std.specs.Prelude.{if◌then◌else◌}
use Rattle.std.specs.Str.{bytes_eq}
use Rattle.serde_json.specs.Data.{Data, string}
use Rattle.fedi_town.specs.declared.refusal.Refusal.{Refusal}
use Rattle.fedi_town.specs.declared.refusal.Refusal.TheVariants.{NotFound, BadQuery, NoKey}
use Rattle.fedi_town.specs.declared.refusal.Refusal.TheVariants.{NotOwner, Gone}
use Rattle.fedi_objects.specs.declared.object.Object.{Object}
use Rattle.fedi_objects.specs.Forms.{activity_form, object_form, is_tombstone}
use Rattle.fedi_town.specs.declared.act.Act.{Act}
use Rattle.fedi_town.specs.declared.caller.Caller.{Caller}
use Rattle.fedi_town.specs.declared.caller.Caller.TheVariants as callers
use Rattle.fedi_town.specs.declared.caller.Which.{Which}
use Rattle.fedi_town.specs.declared.caller.Which.TheVariants.{Inbox, Outbox, Followers, Following}
use Rattle.fedi_town.specs.declared.caller.Which.TheVariants.{Liked, Likes, Shares}
use Rattle.fedi_town.specs.Addressing.{is_of_town}
use Rattle.fedi_town.specs.Boards.{board_address, board_items}
use Rattle.fedi_town.specs.Collections.{items, owner_of, highest, page_of}
use Rattle.fedi_town.specs.Objects.{is_deleted, whole_of}
use Rattle.fedi_town.specs.Rules.{seen_maker, seen_act}
use Rattle.fedi_town.specs.Showing.{shown_activity}
use Rattle.fedi_town.specs.Towns.{Town, id_of}
use Rattle.fedi_model.specs.declared.ask.PageAsk.{PageAsk}
use Rattle.fedi_model.specs.declared.ask.PageAsk.TheVariants.{Summary, Page, Malformed}
use Rattle.fedi_model.specs.declared.ask.Resource.{Resource}
use Rattle.fedi_model.specs.AnswerKinds.{Answer, Refuse, Document, Profile, Tombstone}
use Rattle.fedi_model.specs.AnswerKinds.{unless_refused}
use Rattle.fedi_model.specs.Documents.{actor_form, jrd_form, item_form, collection_id, summary_form}
use Rattle.fedi_model.specs.Documents.{page_form}

-- ---- callers

-- the caller is nobody
abbrev pub is_nobody : Caller → Bool
is_nobody callers.Nobody = true
is_nobody (callers.Actor own) = false
is_nobody (callers.Peer host) = false

-- the caller is the member with this name
abbrev pub is_self : Caller → List ℕ → Bool
is_self callers.Nobody name = false
is_self (callers.Actor own) name = bytes_eq own name
is_self (callers.Peer host) name = false

-- the caller is another server
abbrev pub is_peer : Caller → Bool
is_peer callers.Nobody = false
is_peer (callers.Actor own) = false
is_peer (callers.Peer host) = true

-- ---- members

-- the document of the member with this name, given the member's id if it was found
abbrev pub actor_or_missing : Option (List ℕ) → List ℕ → Option (List ℕ) → Answer
actor_or_missing None name id = Refuse NotFound
actor_or_missing (Some host) name None = Refuse NotFound
actor_or_missing (Some host) name (Some id) = Document (actor_form host name)

-- what WebFinger says about the member with this name (RFC 7033, section 4.2)
abbrev pub profile_or_missing : Option (List ℕ) → List ℕ → List (List ℕ) → Option (List ℕ) → Answer
profile_or_missing None name rels id = Refuse NotFound
profile_or_missing (Some host) name rels None = Refuse NotFound
profile_or_missing (Some host) name rels (Some id) = Profile (jrd_form host name rels)

-- the answer for the member that a resource names, if any
abbrev pub resource_answer : Town → Option (List ℕ) → List (List ℕ) → Answer
resource_answer t None rels = Refuse NotFound
resource_answer t (Some name) rels = profile_or_missing t.host name rels (id_of t name)

-- the answer to a WebFinger query, which may be malformed
abbrev pub webfinger_answer : Town → Option Resource → Answer
webfinger_answer t None = Refuse BadQuery
webfinger_answer t (Some r) = resource_answer t r.name r.rels

-- ---- activities and objects

-- the document of an activity (ActivityPub, section 3.2)
unfoldable pub activity_document : Town → Act → Answer
activity_document t x =
    Document (activity_form (is_of_town t.host x.author) true x.author (shown_activity t x))

-- the document of the activity if it was found, else a refusal
abbrev pub activity_or_missing : Town → Option Act → Answer
activity_or_missing t None = Refuse NotFound
activity_or_missing t (Some x) = activity_document t x

-- the answer to reading the activity with this id
abbrev pub activity_answer : Town → Caller → Option (List ℕ) → Answer
activity_answer t c None = Refuse NotFound
activity_answer t c (Some id) = activity_or_missing t (seen_act t c id)

-- the document of an object, or what is left of it (ActivityPub, section 6.4)
abbrev pub object_document : Option Object → Answer
object_document None = Refuse NotFound
object_document (Some o) =
    if is_tombstone o then Tombstone (object_form true true o)
    else Document (object_form true true o)

-- the document of the object that the activity made
unfoldable pub maker_document : Town → Act → Answer
maker_document t x = object_document (whole_of (shown_activity t x).object)

-- the document of the object if its Create was found, else a refusal
abbrev pub object_or_missing : Town → Option Act → Answer
object_or_missing t None = Refuse NotFound
object_or_missing t (Some x) = maker_document t x

-- the answer to reading the object with this id
abbrev pub object_answer : Town → Caller → Option (List ℕ) → Answer
object_answer t c None = Refuse NotFound
object_answer t c (Some id) = object_or_missing t (seen_maker t c id)

-- ---- collections

-- the name of the member that the collection belongs to, or that made its object
abbrev pub name_of : Which → List ℕ
name_of (Inbox name) = name
name_of (Outbox name) = name
name_of (Followers name) = name
name_of (Following name) = name
name_of (Liked name) = name
name_of (Likes name n) = name
name_of (Shares name n) = name

-- only its owner may read an inbox (ActivityPub, section 5.2)
abbrev pub reading_rule : Caller → Which → Option Refusal
reading_rule c (Inbox name) =
    if is_nobody c then Some NoKey else (if is_self c name then None else Some NotOwner)
reading_rule c (Outbox name) = None
reading_rule c (Followers name) = None
reading_rule c (Following name) = None
reading_rule c (Liked name) = None
reading_rule c (Likes name n) = None
reading_rule c (Shares name n) = None

-- an object whose Likes or Announces are read must not have been deleted
abbrev pub marks_rule : Option Act → Option Refusal
marks_rule None = Some NotFound
marks_rule (Some m) = if is_deleted m then Some Gone else None

-- the rule for the object with this id, if the collection is an object's
abbrev pub object_rule : Town → Caller → Which → List ℕ → Option Refusal
object_rule t c (Inbox name) id = None
object_rule t c (Outbox name) id = None
object_rule t c (Followers name) id = None
object_rule t c (Following name) id = None
object_rule t c (Liked name) id = None
object_rule t c (Likes name n) id = marks_rule (seen_maker t c id)
object_rule t c (Shares name n) id = marks_rule (seen_maker t c id)

-- the requested part of the collection with this id and so many items, where `at` gives the items
-- of a page; a page above the highest is missing
abbrev pub part_answer : PageAsk → List ℕ → ℕ → (ℕ → List Data) → Answer
part_answer Summary id total at = Document (summary_form id total)
part_answer (Page k) id total at =
    if nat_le k (highest total) then Document (page_form id k total (at k)) else Refuse NotFound
part_answer Malformed id total at = Refuse BadQuery

-- the requested part of what the caller sees of the owner's collection
unfoldable pub items_answer : Town → Caller → Which → List ℕ → PageAsk → Answer
items_answer t c which id ask =
    part_answer ask (collection_id which id) (length (items t c which id))
    (λ k. map (item_form t which) (page_of k (items t c which id)))

-- the same, if there is such an owner and the rules hold
abbrev pub owner_answer : Town → Caller → Which → PageAsk → Option (List ℕ) → Answer
owner_answer t c which ask None = Refuse NotFound
owner_answer t c which ask (Some id) =
    unless_refused (reading_rule c which)
    (unless_refused (object_rule t c which id) (items_answer t c which id ask))

-- the page is not a number, so no page is asked for
abbrev pub is_malformed : PageAsk → Bool
is_malformed Malformed = true
is_malformed Summary = false
is_malformed (Page k) = false

-- the answer to reading a collection of a member, given the member's id if it was found
abbrev pub member_answer : Town → Caller → Which → PageAsk → Option (List ℕ) → Answer
member_answer t c which ask None = Refuse NotFound
member_answer t c which ask (Some id) =
    if is_malformed ask then Refuse BadQuery else owner_answer t c which ask (owner_of t which)

-- the answer to reading a collection
abbrev pub collection_answer : Town → Caller → Which → PageAsk → Answer
collection_answer t c which ask = member_answer t c which ask (id_of t (name_of which))

-- ---- collections that members make

-- The answer to reading a collection that a member makes, or without a name the list of them, given
-- the member's id if it was found. The items are the ids of what the caller sees there.
abbrev pub board_answer : Town → Caller → Option (List ℕ) → PageAsk → Option (List ℕ) → Answer
board_answer t c slug ask None = Refuse NotFound
board_answer t c slug ask (Some id) =
    part_answer ask (board_address id slug) (length (board_items t c id slug))
    (λ k. map string (page_of k (board_items t c id slug)))
