-- How an entry of a history is written as bytes. The format is specific to this server.
use Rattle.std.specs.Prelude.{◌≡◌, ◌<◌, ◌^◌, ℕ, Bool, true, false, List, [], ◌∷◌, ◌++◌, length}
use Rattle.std.specs.Prelude.{Option, Some, None}
use Rattle.std.specs.List.{flat_map}
use Rattle.std.specs.Int.{to_be_bytes, w16, w32, w64}
use Rattle.fedi_address.specs.declared.recipients.Recipients.{Recipients}
use Rattle.fedi_objects.specs.Kinds.{kind_number}
use Rattle.fedi_objects.specs.declared.activity.Activity.{Activity}
use Rattle.fedi_objects.specs.declared.activity.ObjectRef.{ObjectRef}
use Rattle.fedi_objects.specs.declared.activity.ObjectRef.TheVariants.{Nothing, Id, Whole, Changed}
use Rattle.fedi_objects.specs.declared.entry.Came.{Came}
use Rattle.fedi_objects.specs.declared.entry.Entry.{Entry}
use Rattle.fedi_objects.specs.declared.entry.Entry.TheVariants.{Hosted, Made, PeerSet, Local}
use Rattle.fedi_objects.specs.declared.entry.Entry.TheVariants.{Remote, Tried}
use Rattle.fedi_objects.specs.declared.entry.Sent.{Sent}
use Rattle.fedi_objects.specs.declared.entry.Sent.TheVariants.{Lookup, Post}
use Rattle.fedi_objects.specs.declared.entry.What.{What}
use Rattle.fedi_objects.specs.declared.entry.What.TheVariants.{Failed, NoHead, BadActor, Status}
use Rattle.fedi_objects.specs.declared.object.Change.{Change}
use Rattle.fedi_objects.specs.declared.object.Edit.{Edit}
use Rattle.fedi_objects.specs.declared.object.Edit.TheVariants.{Keep, Remove, Give}
use Rattle.fedi_objects.specs.declared.object.Object.{Object}
use Rattle.fedi_objects.specs.declared.object.Tag.{Tag}

-- a number in two bytes, the highest first
unfoldable pub u16_code : ℕ → List ℕ
u16_code n = to_be_bytes w16 n

-- a number in four bytes
unfoldable pub u32_code : ℕ → List ℕ
u32_code n = to_be_bytes w32 n

-- a number in eight bytes
unfoldable pub u64_code : ℕ → List ℕ
u64_code n = to_be_bytes w64 n

-- yes or no
abbrev pub bool_code : Bool → List ℕ
bool_code false = 0 ∷ []
bool_code true = 1 ∷ []

-- a text or an IRI: its length and its bytes
unfoldable pub text_code : List ℕ → List ℕ
text_code text = u32_code (length text) ++ text

-- an optional value: whether it is present, and the value
unfoldable pub option_code : {X : Type 0} → (X → List ℕ) → Option X → List ℕ
option_code code None = 0 ∷ []
option_code code (Some x) = 1 ∷ code x

-- a list: the number of its items, and each item
unfoldable pub list_code : {X : Type 0} → (X → List ℕ) → List X → List ℕ
list_code code items = u32_code (length items) ++ flat_map code items

-- what is done to a property: whether it stays, is removed or is given, and the value that is given
unfoldable pub edit_code : {X : Type 0} → (X → List ℕ) → Edit X → List ℕ
edit_code code Keep = 0 ∷ []
edit_code code Remove = 1 ∷ []
edit_code code (Give x) = 2 ∷ code x

-- a mention
unfoldable pub tag_code : Tag → List ℕ
tag_code tag = text_code tag.href ++ text_code tag.name

-- the last three fields of recipients: bto, bcc, audience
unfoldable pub hidden_code : Recipients → List ℕ
hidden_code r =
    list_code text_code r.bto ++ (list_code text_code r.bcc ++ list_code text_code r.audience)

-- the five fields of recipients: to, cc, bto, bcc, audience
unfoldable pub recipients_code : Recipients → List ℕ
recipients_code r = list_code text_code r.to ++ (list_code text_code r.cc ++ hidden_code r)

-- three optional texts
unfoldable pub words_code : Option (List ℕ) → Option (List ℕ) → Option (List ℕ) → List ℕ
words_code content summary name =
    option_code text_code content ++ (option_code text_code summary ++ option_code text_code name)

-- the first part of an object: id, type, attributedTo
unfoldable pub object_head : Object → List ℕ
object_head o =
    option_code text_code o.id ++ (text_code o.kind ++ option_code text_code o.attributed_to)

-- what an object says: inReplyTo, content, summary, name, url
unfoldable pub object_words : Object → List ℕ
object_words o =
    option_code text_code o.in_reply_to
    ++ (words_code o.content o.summary o.name ++ option_code text_code o.url)

-- the former type of an object, and its times: published, updated, formerType, deleted
unfoldable pub object_times : Object → List ℕ
object_times o =
    option_code text_code o.published ++ (option_code text_code o.updated
    ++ (option_code text_code o.former_kind ++ option_code text_code o.deleted))

-- an object: its first part, the recipients, what it says, its former type and its times, tag
unfoldable pub object_code : Object → List ℕ
object_code o =
    object_head o ++ (recipients_code o.recipients
    ++ (object_words o ++ (object_times o ++ list_code tag_code o.tags)))

-- what is done to the three texts: content, summary, name
unfoldable pub edits_code : Edit (List ℕ) → Edit (List ℕ) → Edit (List ℕ) → List ℕ
edits_code content summary name =
    edit_code text_code content ++ (edit_code text_code summary ++ edit_code text_code name)

-- what changes in an object: its id, and what is done to content, summary, name, url, inReplyTo,
-- tag
unfoldable pub change_code : Change → List ℕ
change_code c =
    text_code c.id
    ++ (edits_code c.content c.summary c.name
    ++ (edit_code text_code c.url
    ++ (edit_code text_code c.in_reply_to ++ edit_code (list_code tag_code) c.tags)))

-- what an activity is about: nothing, an address, a whole object or a change
unfoldable pub object_ref_code : ObjectRef → List ℕ
object_ref_code Nothing = 0 ∷ []
object_ref_code (Id iri) = 1 ∷ text_code iri
object_ref_code (Whole object) = 2 ∷ object_code object
object_ref_code (Changed change) = 3 ∷ change_code change

-- the first part of an activity: id, type, actor
unfoldable pub activity_head : Activity → List ℕ
activity_head a = option_code text_code a.id ++ (kind_number a.kind ∷ option_code text_code a.actor)

-- what an activity says: inReplyTo, content, summary, name, published, tag
unfoldable pub activity_words : Activity → List ℕ
activity_words a =
    option_code text_code a.in_reply_to
    ++ (words_code a.content a.summary a.name
    ++ (option_code text_code a.published ++ list_code tag_code a.tags))

-- an activity: its first part, object, target, the recipients, what it says
unfoldable pub activity_code : Activity → List ℕ
activity_code a =
    activity_head a
    ++ (object_ref_code a.object
    ++ (option_code text_code a.target ++ (recipients_code a.recipients ++ activity_words a)))

-- a key for repeats, and the digest of what was posted under it
unfoldable pub repeat_code : List ℕ × List ℕ → List ℕ
repeat_code repeat = text_code repeat.0 ++ repeat.1

-- the request of a delivery at which something happened
abbrev pub sent_number : Sent → ℕ
sent_number Lookup = 0
sent_number Post = 1

-- the result
unfoldable pub what_code : What → List ℕ
what_code Failed = 0 ∷ []
what_code NoHead = 1 ∷ []
what_code BadActor = 2 ∷ []
what_code (Status status) = 3 ∷ u16_code status

-- the result of an attempt to deliver: at which request, and what
unfoldable pub came_code : Came → List ℕ
came_code came = sent_number came.step ∷ what_code came.what

-- the kind of the entry
abbrev pub entry_number : Entry → ℕ
entry_number (Hosted _ _) = 1
entry_number (Made _ _ _ _) = 2
entry_number (PeerSet _ _ _ _ _) = 3
entry_number (Local _ _ _ _) = 4
entry_number (Remote _ _ _ _) = 5
entry_number (Tried _ _ _ _) = 6

-- the fields of an entry
unfoldable pub fields_code : Entry → List ℕ
fields_code (Hosted host moment) = text_code host ++ u64_code moment
fields_code (Made name digest locked moment) =
    text_code name ++ (digest ++ (bool_code locked ++ u64_code moment))
fields_code (PeerSet host key address relay moment) =
    text_code host ++ (key ++ (text_code address ++ (bool_code relay ++ u64_code moment)))
fields_code (Local name repeat activity moment) =
    text_code name
    ++ (option_code repeat_code repeat ++ (activity_code activity ++ u64_code moment))
fields_code (Remote peer inbox activity moment) =
    text_code peer ++ (text_code inbox ++ (activity_code activity ++ u64_code moment))
fields_code (Tried activity recipient came moment) =
    text_code activity ++ (text_code recipient ++ (came_code came ++ u64_code moment))

-- an entry: its kind, and its fields
unfoldable pub code_of : Entry → List ℕ
code_of entry = entry_number entry ∷ fields_code entry

-- a status fits in 16 bits
abbrev pub HasStatus : What → Type 0
HasStatus (Status status) = status < 2 ^ 16
HasStatus _ = Unit {0}

-- a digest has 32 bytes, if there is one
abbrev pub HasDigest : Option (List ℕ × List ℕ) → Type 0
HasDigest None = Unit {0}
HasDigest (Some repeat) = length repeat.1 ≡ 32

-- digests and keys have 32 bytes, and numbers fit in the bits that they are written in
abbrev pub HasSizes : Entry → Type 0
HasSizes (Hosted host moment) = moment < 2 ^ 64
HasSizes (Made name digest locked moment) = (length digest ≡ 32) × (moment < 2 ^ 64)
HasSizes (PeerSet host key address relay moment) = (length key ≡ 32) × (moment < 2 ^ 64)
HasSizes (Local name repeat activity moment) = HasDigest repeat × (moment < 2 ^ 64)
HasSizes (Remote peer inbox activity moment) = moment < 2 ^ 64
HasSizes (Tried activity recipient came moment) = HasStatus came.what × (moment < 2 ^ 64)

-- nothing in the entry is too large for the bytes it is written in: each length and each count
-- counts bytes of the code, and there are fewer than 2 ^ 32
pub record Fits (entry : Entry) : Type 0 where
  pub sizes : HasSizes entry
  pub short : length (code_of entry) < 2 ^ 32
