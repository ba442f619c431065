-- If each field is well formed, digests and keys have 32 bytes, numbers fit in the bits that they
-- are written in, and each field keeps its limit.
use Rattle.std.proofs.Common.{ℕ, ◌<◌, ◌^◌, Bool, List, [], ◌∷◌, Option, Some, None, arith}
use Rattle.std.specs.List.{AllByRecursion}
use Rattle.std.specs.Prelude.{IfSome}
use Rattle.fedi_objects.specs.declared.activity.Activity.{Activity}
use Rattle.fedi_objects.specs.declared.activity.ObjectRef.{ObjectRef}
use Rattle.fedi_objects.specs.declared.activity.ObjectRef.TheVariants.{Nothing, Id, Whole, Changed}
use Rattle.fedi_objects.specs.declared.entry.Entry.{Entry}
use Rattle.fedi_objects.specs.declared.entry.Entry.TheVariants.{Hosted, Made, PeerSet, Local, Remote, Tried}
use Rattle.fedi_objects.specs.declared.entry.Sent.{Sent}
use Rattle.fedi_objects.specs.declared.entry.Sent.TheVariants.{Lookup, Post}
use Rattle.fedi_objects.specs.declared.entry.What.{What}
use Rattle.fedi_objects.specs.declared.entry.What.TheVariants.{Failed, NoHead, BadActor, Status}
use Rattle.fedi_objects.specs.declared.object.Change.{Change}
use Rattle.fedi_objects.specs.declared.object.Edit.{Edit}
use Rattle.fedi_objects.specs.declared.object.Edit.TheVariants.{Keep, Remove, Give}
use Rattle.fedi_objects.specs.declared.object.Object.{Object}
use Rattle.fedi_objects.specs.declared.object.Tag.{Tag}
use Rattle.fedi_objects.specs.Limits.{is_date, is_text, is_type}
use Rattle.fedi_entry.specs.Codes.{HasDigest, HasSizes, HasStatus}
use Rattle.fedi_entry.specs.Fields.{AreWords, IfGiven, IsActivity, IsChange, IsFormed, IsMoment, IsObject, IsObjectRef, IsRepeat, IsTag, IsText, MayCome}
use Rattle.fedi_entry.specs.Limits.{AreTagsWithin, AreWordsWithin, IfPasses, IsActivityWithin, IsChangeWithin, IsObjectRefWithin, IsObjectWithin, KeepsLimits, Passes}

-- ---- sizes

moment_fits : (moment : ℕ) → IsMoment moment → moment < 2 ^ 64
moment_fits moment is = omega (arith, is)

digest_fits : (repeat : Option (List ℕ × List ℕ)) → IfSome repeat IsRepeat → HasDigest repeat
digest_fits None is = tt
digest_fits (Some repeat) is = is.1

status_fits : (step : Sent) (what : What) → MayCome step what → HasStatus what
status_fits step Failed is = tt
status_fits step NoHead is = tt
status_fits Lookup BadActor is = tt
status_fits Post BadActor is = tt
status_fits step (Status n) is = omega (arith, is.1)

pub sizes_fit : (entry : Entry) → IsFormed entry → HasSizes entry
unfolding IsFormed
sizes_fit (Hosted host moment) is = moment_fits moment is.1
sizes_fit (Made name digest locked moment) is = (is.1.0, moment_fits moment is.1.1)
sizes_fit (PeerSet host key address relay moment) is = (is.1.0, moment_fits moment is.1.1.1)
sizes_fit (Local name repeat activity moment) is = (digest_fits repeat is.1.0, moment_fits moment is.1.1.1)
sizes_fit (Remote peer inbox activity moment) is = moment_fits moment is.1.1.1
sizes_fit (Tried activity recipient came moment) is = (status_fits came.step came.what is.1.1.0, moment_fits moment is.1.1.1)

-- ---- limits

if_passes : (test : List ℕ → Bool) (o : Option (List ℕ)) → IfSome o (IsText test) → IfPasses test o
if_passes test None is = tt
if_passes test (Some text) is = is.passes

tags_within : (tags : List Tag) → AllByRecursion IsTag tags → AreTagsWithin tags
tags_within [] all = tt
tags_within (tag ∷ tags) all = (all.0.1.passes, tags_within tags all.1)

words_within : (content summary name : Option (List ℕ)) → AreWords content summary name → AreWordsWithin content summary name
words_within content summary name is = (if_passes is_text content is.0, (if_passes is_text summary is.1.0, if_passes is_text name is.1.1))

object_within : (o : Object) → IsObject o → IsObjectWithin o
object_within o is =
    let times = is.1.1.1.0 in (
      is.0.1.0.passes,
      (
        words_within o.content o.summary o.name is.1.1.0.1.0,
        (
          (if_passes is_date o.published times.0, (if_passes is_date o.updated times.1.0, (if_passes is_type o.former_kind times.1.1.0, if_passes is_date o.deleted times.1.1.1))),
          tags_within o.tags is.1.1.1.1.1,
        ),
      ),
    )

if_given : {X : Type 0} {P Q : X → Type 0} → ((x : X) → P x → Q x) → (e : Edit X) → IfGiven P e → IfGiven Q e
if_given each Keep is = tt
if_given each Remove is = tt
if_given each (Give x) is = each x is

text_given : (e : Edit (List ℕ)) → IfGiven (IsText is_text) e → IfGiven (Passes is_text) e
text_given e is = if_given (λ text has. has.passes) e is

change_within : (c : Change) → IsChange c → IsChangeWithin c
change_within c is = (
  text_given c.content is.1.0.0,
  (
    text_given c.summary is.1.0.1.0,
    (
      text_given c.name is.1.0.1.1,
      if_given (λ tags has. tags_within tags has.1) c.tags is.1.1.1.1,
    ),
  ),
)

ref_within : (r : ObjectRef) → IsObjectRef r → IsObjectRefWithin r
ref_within Nothing is = tt
ref_within (Id iri) is = tt
ref_within (Whole object) is = object_within object is
ref_within (Changed change) is = change_within change is

activity_within : (a : Activity) → IsActivity a → IsActivityWithin a
activity_within a is =
    let words = is.1.1.1.1.1 in (
      ref_within a.object is.1.0,
      (words_within a.content a.summary a.name words.0, (if_passes is_date a.published words.1.0, tags_within a.tags words.1.1.1)),
    )

pub formed_keeps : (entry : Entry) → IsFormed entry → KeepsLimits entry
unfolding IsFormed KeepsLimits
formed_keeps (Hosted host moment) is = tt
formed_keeps (Made name digest locked moment) is = tt
formed_keeps (PeerSet host key address relay moment) is = is.1.1.0.passes
formed_keeps (Local name repeat activity moment) is = activity_within activity is.1.1.0
formed_keeps (Remote peer inbox activity moment) is = activity_within activity is.1.1.0
formed_keeps (Tried activity recipient came moment) is = is.1.1.0
