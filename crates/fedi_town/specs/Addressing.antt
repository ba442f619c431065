-- Who gets a member's activity (ActivityPub, sections 6 and 7.1), and who is everybody (5.6).
use Rattle.std.specs.Prelude.{ℕ, Bool, true, false, not, ◌&&◌, ◌||◌, List, [], ◌∷◌, ◌++◌, filter}
use Rattle.std.specs.Prelude.{Option, Some, None, option_map, option_and_then, if◌then◌else◌}
use Rattle.std.specs.List.{find, flat_map}
use Rattle.std.specs.Str.{bytes_eq}
use Rattle.fedi_address.specs.declared.recipients.Recipients.{Recipients}
use Rattle.fedi_address.specs.Iris.{public_iri}
use Rattle.fedi_address.specs.Recipients.{all_of, distinct, names}
use Rattle.fedi_town.specs.declared.act.Act.{Act}
use Rattle.fedi_town.specs.declared.deed.Deed.{Deed}
use Rattle.fedi_town.specs.declared.deed.Deed.TheVariants.{Create, Update, Delete, Follow, Like}
use Rattle.fedi_town.specs.declared.deed.Deed.TheVariants.{Announce, Block, Accept, Reject, Undo}
use Rattle.fedi_town.specs.declared.deed.Deed.TheVariants.{Other}
use Rattle.fedi_town.specs.Deeds.{is_block}
use Rattle.fedi_town.specs.Ids.{is_of_host, followers_id}
use Rattle.fedi_town.specs.Objects.{maker_of}
use Rattle.fedi_town.specs.Relations.{ref_id, has_activity_id, is_actor, has_block_between}
use Rattle.fedi_town.specs.Relations.{followers}
use Rattle.fedi_town.specs.Towns.{Town, deed}

-- ---- recipients

-- the IRI is of the host that was set up
abbrev pub is_of_town : Option (List ℕ) → List ℕ → Bool
is_of_town None iri = false
is_of_town (Some host) iri = is_of_host host iri

-- the IRI is of this host, but is not a member's id
unfoldable pub is_nobody_here : Town → List ℕ → Bool
is_nobody_here t iri = is_of_town t.host iri && not (is_actor t iri)

-- This one may get the author's activity. Public means everybody and is nobody's address
-- (ActivityPub, section 5.6). The author needs no copy. An IRI of this host that is not a member's
-- id has no inbox. A Block keeps the two sides apart (6.9).
unfoldable pub is_recipient : Town → List ℕ → List ℕ → Bool
is_recipient t author iri =
    not (bytes_eq iri public_iri)
    && (not (bytes_eq iri author)
    && (not (is_nobody_here t iri) && not (has_block_between t iri author)))

-- the recipients that a name denotes: the author's followers collection denotes the present
-- followers, any other name denotes itself (ActivityPub, section 7.1)
unfoldable pub addressees : Town → List ℕ → List ℕ → List (List ℕ)
addressees t author iri =
    if bytes_eq iri (followers_id author) then followers t author else iri ∷ []

-- the recipients in the order `to`, `cc`, `bto`, `bcc`, `audience`, and then these others, each
-- once
abbrev pub recipients_with : Town → List ℕ → Recipients → List (List ℕ) → List (List ℕ)
recipients_with t author r others =
    distinct (filter (is_recipient t author) (flat_map (addressees t author) (all_of r) ++ others))

-- ---- the recipients that an activity implies

-- the activity with this id
abbrev pub act_of : Town → Option (List ℕ) → Option Act
act_of t id = option_and_then (λ i. find (has_activity_id i) t.acts) id

-- its author
abbrev pub author_of : Option Act → Option (List ℕ)
author_of found = option_map (λ x. x.author) found

-- the recipient that a Follow, a Like or an Announce of this implies: the followed actor, or the
-- object's author
abbrev pub relation_recipient : Town → Deed → Option (List ℕ) → Option (List ℕ)
relation_recipient t Follow id = id
relation_recipient t Like id = author_of (maker_of t id)
relation_recipient t Announce id = author_of (maker_of t id)
relation_recipient t Create id = None
relation_recipient t Update id = None
relation_recipient t Delete id = None
relation_recipient t Block id = None
relation_recipient t Accept id = None
relation_recipient t Reject id = None
relation_recipient t Undo id = None
relation_recipient t Other id = None

-- the recipient that the Undo of this implies: the one that the undone activity implied
abbrev pub undo_recipient : Town → Option Act → Option (List ℕ)
undo_recipient t None = None
undo_recipient t (Some y) = relation_recipient t (deed y) (ref_id y.activity.object)

-- The recipient that an activity about this goes to even if it does not name it: the one that its
-- side effect concerns (ActivityPub, sections 6.5, 6.8, 6.10, 7.6, 7.7 and 7.11).
unfoldable pub implied_recipient : Town → Deed → Option (List ℕ) → Option (List ℕ)
implied_recipient t Follow id = relation_recipient t Follow id
implied_recipient t Like id = relation_recipient t Like id
implied_recipient t Announce id = relation_recipient t Announce id
implied_recipient t Accept id = author_of (act_of t id)
implied_recipient t Reject id = author_of (act_of t id)
implied_recipient t Undo id = undo_recipient t (act_of t id)
implied_recipient t Create id = None
implied_recipient t Update id = None
implied_recipient t Delete id = None
implied_recipient t Block id = None
implied_recipient t Other id = None

-- nobody is named
abbrev pub no_recipients : Recipients
no_recipients = record { to = []; cc = []; bto = []; bcc = []; audience = [] }

-- the activity is a Block
abbrev pub is_block_in : Option Act → Bool
is_block_in None = false
is_block_in (Some y) = is_block (deed y)

-- an activity about this goes to nobody: a Block (ActivityPub, section 6.9), or its Undo
abbrev pub is_silent : Town → Deed → Option (List ℕ) → Bool
is_silent t Block id = true
is_silent t Undo id = is_block_in (act_of t id)
is_silent t Create id = false
is_silent t Update id = false
is_silent t Delete id = false
is_silent t Follow id = false
is_silent t Like id = false
is_silent t Announce id = false
is_silent t Accept id = false
is_silent t Reject id = false
is_silent t Other id = false

-- one more in `to`, unless it is named already or is the author
abbrev pub with_implied : List ℕ → Option (List ℕ) → Recipients → Recipients
with_implied author None r = r
with_implied author (Some i) r =
    if names r i || bytes_eq i author then r else record r { to = r.to ++ i ∷ [] }

-- the recipients that a member's activity names after it is completed
unfoldable pub complete_recipients : Town → List ℕ → Deed → Option (List ℕ) → Recipients
    → Recipients
complete_recipients t author d id r =
    if is_silent t d id then no_recipients else with_implied author (implied_recipient t d id) r

-- ---- the recipients of an Update or a Delete

-- the Create of the object that an Update or a Delete is about
abbrev pub original : Town → Deed → Option (List ℕ) → Option Act
original t Update id = maker_of t id
original t Delete id = maker_of t id
original t Create id = None
original t Follow id = None
original t Like id = None
original t Announce id = None
original t Block id = None
original t Accept id = None
original t Reject id = None
original t Undo id = None
original t Other id = None

-- the recipients of the Create
abbrev pub original_recipients : Option Act → List (List ℕ)
original_recipients None = []
original_recipients (Some m) = m.recipients

-- it is public if the Create is
abbrev pub is_original_public : Option Act → Bool
is_original_public None = false
is_original_public (Some m) = m.is_public

-- it is for the author's followers if the Create is
abbrev pub is_original_for_followers : Option Act → Bool
is_original_for_followers None = false
is_original_for_followers (Some m) = m.for_followers
