-- A small club: what happens in it is computed from the definitions.
use Rattle.std.specs.Prelude.{ℕ, Bool, true, false, List, [], ◌∷◌, ◌++◌, map, length, codes, Option}
use Rattle.std.specs.Prelude.{Some, None, option_map}
use Rattle.fedi_address.specs.declared.recipients.Recipients.{Recipients}
use Rattle.fedi_objects.specs.declared.activity.Activity.{Activity}
use Rattle.fedi_objects.specs.declared.activity.ObjectRef.{ObjectRef}
use Rattle.fedi_objects.specs.declared.entry.Entry.{Entry}
use Rattle.fedi_objects.specs.declared.entry.Entry.TheVariants.{Hosted, Made, PeerSet, Local}
use Rattle.fedi_objects.specs.declared.entry.Entry.TheVariants.{Remote}
use Rattle.fedi_objects.specs.declared.kind.Kind.{Kind}
use Rattle.fedi_objects.specs.declared.kind.State.{State}
use Rattle.fedi_objects.specs.declared.object.Object.{Object}
use Rattle.fedi_town.specs.declared.caller.Caller.{Caller}
use Rattle.fedi_town.specs.declared.caller.Which.{Which}
use Rattle.fedi_town.specs.declared.deed.Deed.{Deed}
use Rattle.fedi_town.specs.declared.refusal.Refusal.{Refusal}
use Rattle.fedi_town.specs.Addressing.{no_recipients}
use Rattle.fedi_town.specs.Collections.{items, owner_of}
use Rattle.fedi_town.specs.Histories.{town}
use Rattle.fedi_town.specs.Legal.{is_legal_from}
use Rattle.fedi_town.specs.Rules.{broken}
use Rattle.fedi_town.specs.Seeing.{seen}
use Rattle.fedi_town.specs.Towns.{empty_town}
use Rattle.fedi_town.specs.declared.caller.Caller.TheVariants as callers

-- ---- the members and servers

-- the host
abbrev pub club : List ℕ
club = codes "club.example"

-- a member; the fourth is locked
abbrev pub ana : List ℕ
ana = codes "ana"

-- the second
abbrev pub ben : List ℕ
ben = codes "ben"

-- the third
abbrev pub cleo : List ℕ
cleo = codes "cleo"

-- the fourth
abbrev pub dan : List ℕ
dan = codes "dan"

-- a member's id
abbrev pub member : List ℕ → List ℕ
member name = codes "https://club.example/users/" ++ name

-- the id of the member's activity with these digits as its number
abbrev pub activity_number : List ℕ → List ℕ → List ℕ
activity_number name number = member name ++ (codes "/a/" ++ number)

-- and the id of the object that it made
abbrev pub object_number : List ℕ → List ℕ → List ℕ
object_number name number = member name ++ (codes "/o/" ++ number)

-- another server
abbrev pub hill : List ℕ
hill = codes "hill.example"

-- the other, a relay
abbrev pub lake : List ℕ
lake = codes "lake.example"

-- somebody on it
abbrev pub dora : List ℕ
dora = codes "https://hill.example/users/dora"

-- somebody on the other
abbrev pub eve : List ℕ
eve = codes "https://lake.example/users/eve"

-- the club with its members
abbrev pub start : List Entry
start =
    Hosted club 1 ∷ Made ana (codes "0") false 1 ∷ Made ben (codes "1") false 1
    ∷ Made cleo (codes "2") false 1
    ∷ Made dan (codes "3") true 1 ∷ []

-- and with its peers
abbrev pub with_peers : List Entry
with_peers =
    start ++ (PeerSet hill (codes "4") (codes "hill") false 1
    ∷ PeerSet lake (codes "5") (codes "lake") true 1 ∷ [])

-- ---- what they do

-- addressed to these
abbrev pub to : List (List ℕ) → Recipients
to names = record no_recipients { to = names }

-- an activity of this type, about this and with these recipients
abbrev pub activity : Kind → ObjectRef → Recipients → Activity
activity kind object recipients = record {
  id = None;
  kind = kind;
  actor = None;
  object = object;
  target = None;
  recipients = recipients;
  in_reply_to = None;
  content = None;
  summary = None;
  name = None;
  published = None;
  tags = [];
}

-- a Note that says `Hi`, with these recipients
abbrev pub note : Recipients → Object
note recipients = record {
  id = None;
  kind = codes "Note";
  attributed_to = None;
  recipients = recipients;
  in_reply_to = None;
  content = Some (codes "Hi");
  summary = None;
  name = None;
  url = None;
  published = None;
  updated = None;
  former_kind = None;
  deleted = None;
  tags = [];
}

-- a member posts it
abbrev pub posts : List ℕ → Activity → Entry
posts name a = Local name None a 2

-- an actor's activity with this id is delivered by a peer to a member's inbox
abbrev pub delivers : List ℕ → List ℕ → List ℕ → List ℕ → Activity → Entry
delivers peer inbox actor id a = Remote peer inbox (record a { id = Some id; actor = Some actor }) 2

-- ---- the results

-- the history is legal
abbrev pub is_legal : List Entry → Bool
is_legal history = is_legal_from empty_town history

-- the state of each activity
abbrev pub states : List Entry → List State
states history = map (λ x. x.state) (town history).acts

-- the recipients of each
abbrev pub recipients : List Entry → List (List (List ℕ))
recipients history = map (λ x. x.recipients) (town history).acts

-- the ids of what a caller sees
abbrev pub sight : List Entry → Caller → List (Option (List ℕ))
sight history c = map (λ x. x.activity.id) (seen (town history) c)

-- how many items of a collection a caller sees
abbrev pub total : List Entry → Caller → Which → Option ℕ
total history c which =
    option_map (λ id. length (items (town history) c which id)) (owner_of (town history) which)

-- the first rule that a member's activity about this would break
abbrev pub rule : List Entry → List ℕ → Deed → List ℕ → Option Refusal
rule history name d id = broken (town history) (callers.Actor name) (member name) d (Some id)
