-- The form of each field of an entry.
use Rattle.std.specs.Prelude.{◌≡◌, ◌<◌, ◌≤◌, ◌^◌, ℕ, Bool, false, ◌&&◌, nat_le, List, length}
use Rattle.std.specs.Prelude.{Option, Some, None, IfSome, IsTrue, codes, bytes_eq}
use Rattle.std.specs.List.{AllByRecursion}
use Rattle.std.specs.Str.{is_utf8}
use Rattle.fedi_address.specs.declared.recipients.Recipients.{Recipients}
use Rattle.fedi_address.specs.Hosts.{address, is_host_text}
use Rattle.fedi_address.specs.Iris.{normal}
use Rattle.fedi_address.specs.Names.{is_name}
use Rattle.fedi_objects.specs.Keys.{is_repeat_key}
use Rattle.fedi_objects.specs.Limits.{is_address, is_date, is_text, is_type}
use Rattle.fedi_entry.specs.declared.limits.Limit.{Limit}
use Rattle.fedi_entry.specs.declared.limits.Limit.TheVariants as limits
use Rattle.fedi_objects.specs.declared.activity.Activity.{Activity}
use Rattle.fedi_objects.specs.declared.activity.ObjectRef.{ObjectRef}
use Rattle.fedi_objects.specs.declared.activity.ObjectRef.TheVariants.{Nothing, Id, Whole, Changed}
use Rattle.fedi_objects.specs.declared.entry.Entry.{Entry}
use Rattle.fedi_objects.specs.declared.entry.Entry.TheVariants.{Hosted, Made, PeerSet, Local}
use Rattle.fedi_objects.specs.declared.entry.Entry.TheVariants.{Remote, Tried}
use Rattle.fedi_objects.specs.declared.entry.Sent.{Sent}
use Rattle.fedi_objects.specs.declared.entry.Sent.TheVariants.{Lookup, Post}
use Rattle.fedi_objects.specs.declared.entry.What.{What}
use Rattle.fedi_objects.specs.declared.entry.What.TheVariants.{Failed, NoHead, BadActor, Status}
use Rattle.fedi_objects.specs.declared.object.Change.{Change}
use Rattle.fedi_objects.specs.declared.object.Edit.{Edit}
use Rattle.fedi_objects.specs.declared.object.Edit.TheVariants.{Keep, Remove, Give}
use Rattle.fedi_objects.specs.declared.object.Object.{Object}
use Rattle.fedi_objects.specs.declared.object.Tag.{Tag}

-- ---- texts

-- the text is its own normal text
abbrev pub is_own : Option (List ℕ) → List ℕ → Bool
is_own None text = false
is_own (Some own) text = bytes_eq own text

-- an IRI: a text of at most 2,048 bytes that is its own normal text (URL Standard, 4.5)
unfoldable pub is_iri : List ℕ → Bool
is_iri text = is_own (normal text) text && nat_le (length text) 2048

-- a host: `https://HOST/` is its own normal text (URL Standard, 4.5)
unfoldable pub is_host : List ℕ → Bool
is_host text =
    is_host_text text && is_own (normal (address text (codes "/"))) (address text (codes "/"))

-- the test that a text with these limits passes
abbrev pub test_of : Limit → List ℕ → Bool
test_of limits.Content = is_text
test_of limits.Kind = is_type
test_of limits.Date = is_date
test_of limits.Address = is_address

-- a text in UTF-8 that passes the test
pub record IsText (test : List ℕ → Bool) (text : List ℕ) : Type 0 where
  pub utf8 : IsTrue (is_utf8 text)
  pub passes : IsTrue (test text)

-- ---- optional values, changes and lists

-- what is given has this form
abbrev pub IfGiven : {X : Type 0} → (X → Type 0) → Edit X → Type 0
IfGiven P Keep = Unit {0}
IfGiven P Remove = Unit {0}
IfGiven P (Give x) = P x

-- each item has this form, and their count fits in four bytes
abbrev pub IsList : {X : Type 0} → (X → Type 0) → List X → Type 0
IsList P items = (length items < 2 ^ 32) × AllByRecursion P items

-- an IRI, if there is one
abbrev pub IfIri : Option (List ℕ) → Type 0
IfIri o = IfSome o (IsText is_iri)

-- a content, if there is one
abbrev pub IfContent : Option (List ℕ) → Type 0
IfContent o = IfSome o (IsText is_text)

-- a type, if there is one
abbrev pub IfKind : Option (List ℕ) → Type 0
IfKind o = IfSome o (IsText is_type)

-- a date, if there is one
abbrev pub IfDate : Option (List ℕ) → Type 0
IfDate o = IfSome o (IsText is_date)

-- ---- objects and activities

-- a mention
abbrev pub IsTag : Tag → Type 0
IsTag tag = IsText is_iri tag.href × IsText is_text tag.name

-- each of the five fields lists IRIs
abbrev pub AreRecipients : Recipients → Type 0
AreRecipients r =
    IsList (IsText is_iri) r.to × (IsList (IsText is_iri) r.cc
    × (IsList (IsText is_iri) r.bto
    × (IsList (IsText is_iri) r.bcc × IsList (IsText is_iri) r.audience)))

-- content, summary and name
abbrev pub AreWords : Option (List ℕ) → Option (List ℕ) → Option (List ℕ) → Type 0
AreWords content summary name = IfContent content × (IfContent summary × IfContent name)

-- what an object says
abbrev pub AreObjectWords : Object → Type 0
AreObjectWords o = IfIri o.in_reply_to × (AreWords o.content o.summary o.name × IfIri o.url)

-- the former type of an object, and its times
abbrev pub AreObjectTimes : Object → Type 0
AreObjectTimes o =
    IfDate o.published × (IfDate o.updated × (IfKind o.former_kind × IfDate o.deleted))

-- an object
abbrev pub IsObject : Object → Type 0
IsObject o =
    (IfIri o.id × (IsText is_type o.kind × IfIri o.attributed_to))
    × (AreRecipients o.recipients × (AreObjectWords o × (AreObjectTimes o × IsList IsTag o.tags)))

-- a change of an object
abbrev pub IsChange : Change → Type 0
IsChange c =
    IsText is_iri c.id
    × ((IfGiven (IsText is_text) c.content
    × (IfGiven (IsText is_text) c.summary × IfGiven (IsText is_text) c.name))
    × (IfGiven (IsText is_iri) c.url
    × (IfGiven (IsText is_iri) c.in_reply_to × IfGiven (IsList IsTag) c.tags)))

-- what an activity is about
abbrev pub IsObjectRef : ObjectRef → Type 0
IsObjectRef Nothing = Unit {0}
IsObjectRef (Id iri) = IsText is_iri iri
IsObjectRef (Whole object) = IsObject object
IsObjectRef (Changed change) = IsChange change

-- what an activity itself says
abbrev pub AreActivityWords : Activity → Type 0
AreActivityWords a =
    IfIri a.in_reply_to
    × (AreWords a.content a.summary a.name × (IfDate a.published × IsList IsTag a.tags))

-- an activity
abbrev pub IsActivity : Activity → Type 0
IsActivity a =
    (IfIri a.id × IfIri a.actor)
    × (IsObjectRef a.object × (IfIri a.target × (AreRecipients a.recipients × AreActivityWords a)))

-- ---- entries

-- 32 bytes
abbrev pub IsKey : List ℕ → Type 0
IsKey key = length key ≡ 32

-- a moment up to the end of the year 9999
abbrev pub IsMoment : ℕ → Type 0
IsMoment seconds = seconds < 253402300800

-- a key for repeats, and a digest
abbrev pub IsRepeat : List ℕ × List ℕ → Type 0
IsRepeat repeat = IsText is_repeat_key repeat.0 × IsKey repeat.1

-- the possible results of a lookup or a post: only a lookup can result in a bad actor; a status is
-- 100 to 999
abbrev pub MayCome : Sent → What → Type 0
MayCome step Failed = Unit {0}
MayCome step NoHead = Unit {0}
MayCome Lookup BadActor = Unit {0}
MayCome Post BadActor = ⊥
MayCome step (Status status) = (100 ≤ status) × (status ≤ 999)

-- each field of the entry is well formed
unfoldable pub IsFormed : Entry → Type 0
IsFormed (Hosted host moment) = IsText is_host host × IsMoment moment
IsFormed (Made name digest locked moment) = IsText is_name name × (IsKey digest × IsMoment moment)
IsFormed (PeerSet host key address relay moment) =
    IsText is_host host × (IsKey key × (IsText is_address address × IsMoment moment))
IsFormed (Local name repeat activity moment) =
    IsText is_name name × (IfSome repeat IsRepeat × (IsActivity activity × IsMoment moment))
IsFormed (Remote peer inbox activity moment) =
    IsText is_host peer × (IsText is_name inbox × (IsActivity activity × IsMoment moment))
IsFormed (Tried activity recipient came moment) =
    IsText is_iri activity
    × (IsText is_iri recipient × (MayCome came.step came.what × IsMoment moment))
