-- The limits that the types of fields do not imply. The type of an address, a host, a name or a
-- moment makes it valid; a text may be too long for its field, and a status may not be a valid
-- status.
use Rattle.std.specs.Prelude.{ℕ, Bool, List, Option, IfSome, IsTrue}
use Rattle.std.specs.List.{AllByRecursion}
use Rattle.fedi_objects.specs.Limits.{is_address, is_date, is_text, is_type}
use Rattle.fedi_objects.specs.declared.activity.Activity.{Activity}
use Rattle.fedi_objects.specs.declared.activity.ObjectRef.{ObjectRef}
use Rattle.fedi_objects.specs.declared.activity.ObjectRef.TheVariants.{Nothing, Id, Whole, Changed}
use Rattle.fedi_objects.specs.declared.entry.Entry.{Entry}
use Rattle.fedi_objects.specs.declared.entry.Entry.TheVariants.{Hosted, Made, PeerSet, Local}
use Rattle.fedi_objects.specs.declared.entry.Entry.TheVariants.{Remote, Tried}
use Rattle.fedi_objects.specs.declared.object.Change.{Change}
use Rattle.fedi_objects.specs.declared.object.Object.{Object}
use Rattle.fedi_objects.specs.declared.object.Tag.{Tag}
use Rattle.fedi_entry.specs.Fields.{IfGiven, MayCome}

-- the text passes the test
abbrev pub Passes : (List ℕ → Bool) → List ℕ → Type 0
Passes test text = IsTrue (test text)

-- the text passes the test, if there is one
abbrev pub IfPasses : (List ℕ → Bool) → Option (List ℕ) → Type 0
IfPasses test o = IfSome o (Passes test)

-- the name of a mention
abbrev pub IsTagWithin : Tag → Type 0
IsTagWithin tag = Passes is_text tag.name

-- the names of mentions
abbrev pub AreTagsWithin : List Tag → Type 0
AreTagsWithin tags = AllByRecursion IsTagWithin tags

-- content, summary and name
abbrev pub AreWordsWithin : Option (List ℕ) → Option (List ℕ) → Option (List ℕ) → Type 0
AreWordsWithin content summary name =
    IfPasses is_text content × (IfPasses is_text summary × IfPasses is_text name)

-- the former type of an object, and its times
abbrev pub AreTimesWithin : Object → Type 0
AreTimesWithin o =
    IfPasses is_date o.published
    × (IfPasses is_date o.updated × (IfPasses is_type o.former_kind × IfPasses is_date o.deleted))

-- an object
abbrev pub IsObjectWithin : Object → Type 0
IsObjectWithin o =
    Passes is_type o.kind
    × (AreWordsWithin o.content o.summary o.name × (AreTimesWithin o × AreTagsWithin o.tags))

-- a change of an object
abbrev pub IsChangeWithin : Change → Type 0
IsChangeWithin c =
    IfGiven (Passes is_text) c.content
    × (IfGiven (Passes is_text) c.summary
    × (IfGiven (Passes is_text) c.name × IfGiven AreTagsWithin c.tags))

-- what an activity is about
abbrev pub IsObjectRefWithin : ObjectRef → Type 0
IsObjectRefWithin Nothing = Unit {0}
IsObjectRefWithin (Id iri) = Unit {0}
IsObjectRefWithin (Whole object) = IsObjectWithin object
IsObjectRefWithin (Changed change) = IsChangeWithin change

-- what an activity itself says
abbrev pub IsSaidWithin : Activity → Type 0
IsSaidWithin a =
    AreWordsWithin a.content a.summary a.name
    × (IfPasses is_date a.published × AreTagsWithin a.tags)

-- an activity
abbrev pub IsActivityWithin : Activity → Type 0
IsActivityWithin a = IsObjectRefWithin a.object × IsSaidWithin a

-- the result of an attempt, if the entry is one
abbrev pub IsAttemptWithin : Entry → Type 0
IsAttemptWithin (Hosted host moment) = Unit {0}
IsAttemptWithin (Made name digest locked moment) = Unit {0}
IsAttemptWithin (PeerSet host key address relay moment) = Unit {0}
IsAttemptWithin (Local name repeat activity moment) = Unit {0}
IsAttemptWithin (Remote peer inbox activity moment) = Unit {0}
IsAttemptWithin (Tried activity recipient came moment) = MayCome came.step came.what

-- each field of the entry keeps its limit
unfoldable pub KeepsLimits : Entry → Type 0
KeepsLimits (Hosted host moment) = Unit {0}
KeepsLimits (Made name digest locked moment) = Unit {0}
KeepsLimits (PeerSet host key address relay moment) = Passes is_address address
KeepsLimits (Local name repeat activity moment) = IsActivityWithin activity
KeepsLimits (Remote peer inbox activity moment) = IsActivityWithin activity
KeepsLimits (Tried activity recipient came moment) = MayCome came.step came.what
