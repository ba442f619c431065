-- Entries that may come next keep the limits of their fields.
use Rattle.std.proofs.Common.{◌≡◌, ℕ, Bool, true, false, List, [], ◌∷◌, Option, Some, None, refl}
use Rattle.std.specs.Prelude.{◌&&◌, if◌then◌else◌, is_none}
use Rattle.std.proofs.lemmas.Bool.{and_parts}
use Rattle.fedi_address.specs.declared.recipients.Recipients.{Recipients}
use Rattle.fedi_entry.specs.Limits.{AreTagsWithin, AreWordsWithin, IfPasses, IsActivityWithin, IsAttemptWithin, IsChangeWithin, IsObjectRefWithin, IsObjectWithin, IsSaidWithin, KeepsLimits, Passes}
use Rattle.fedi_entry.specs.Fields.{IfGiven}
use Rattle.fedi_objects.specs.declared.activity.Activity.{Activity}
use Rattle.fedi_objects.specs.declared.activity.ObjectRef.{ObjectRef}
use Rattle.fedi_objects.specs.declared.activity.ObjectRef.TheVariants.{Nothing, Id, Whole, Changed}
use Rattle.fedi_objects.specs.declared.entry.Entry.{Entry}
use Rattle.fedi_objects.specs.declared.entry.Entry.TheVariants.{Hosted, Made, PeerSet, Local, Remote, Tried}
use Rattle.fedi_objects.specs.declared.object.Change.{Change}
use Rattle.fedi_objects.specs.declared.object.Edit.{Edit}
use Rattle.fedi_objects.specs.declared.object.Edit.TheVariants.{Keep, Remove, Give}
use Rattle.fedi_objects.specs.declared.object.Object.{Object}
use Rattle.fedi_objects.specs.declared.object.Tag.{Tag}
use Rattle.fedi_objects.specs.Limits.{is_address, is_date, is_text, is_type}
use Rattle.fedi_town.specs.declared.command_fault.CommandFault.TheVariants.{HostTaken, BadAddress}
use Rattle.fedi_town.specs.declared.deed.Deed.{Deed}
use Rattle.fedi_town.specs.Deeds.{deed_of}
use Rattle.fedi_town.specs.Legal.{is_admissible, is_taken_host, may_post}
use Rattle.fedi_town.specs.Shapes.{are_tags, is_activity_within, is_change_within, is_delivered, is_delivered_ref, is_none_or, is_object_within, is_posted, is_posted_ref, is_tags_edit, is_text_edit}
use Rattle.fedi_town.specs.Towns.{Town, id_of}

both : {a b : Bool} → (a && b) ≡ true → (a ≡ true) × (b ≡ true)
both {a} {b} is = and_parts a b is

-- ---- texts and mentions

if_passes : (test : List ℕ → Bool) (o : Option (List ℕ)) → is_none_or test o ≡ true → IfPasses test o
if_passes test None is = tt
if_passes test (Some text) is = is

words_within : (content summary name : Option (List ℕ)) → (is_none_or is_text content && (is_none_or is_text summary && is_none_or is_text name)) ≡ true
    → AreWordsWithin content summary name
words_within content summary name is =
    let parts = both is in
    let others = both parts.1 in
    (if_passes is_text content parts.0, (if_passes is_text summary others.0, if_passes is_text name others.1))

tags_within : (tags : List Tag) → are_tags tags ≡ true → AreTagsWithin tags
tags_within [] is = tt
tags_within (tag ∷ tags) is = let parts = both is in (parts.0, tags_within tags parts.1)

-- ---- objects, changes and activities

object_within : (limit : ℕ) (o : Object) → is_object_within limit o ≡ true → IsObjectWithin o
object_within limit o is =
    let parts = both is in
    let head = both parts.0 in
    let rest = both parts.1 in
    let dates = both rest.0 in
    let later = both dates.1 in
    let others = both rest.1 in (
      head.0,
      (
        words_within o.content o.summary o.name head.1,
        (
          (if_passes is_date o.published dates.0, (if_passes is_date o.updated later.0, (if_passes is_type o.former_kind others.0, if_passes is_date o.deleted later.1))),
          tags_within o.tags (both others.1).0,
        ),
      ),
    )

text_within : (e : Edit (List ℕ)) → is_text_edit e ≡ true → IfGiven (Passes is_text) e
text_within Keep is = tt
text_within Remove is = tt
text_within (Give text) is = is

tags_given : (e : Edit (List Tag)) → is_tags_edit e ≡ true → IfGiven AreTagsWithin e
tags_given Keep is = tt
tags_given Remove is = tt
tags_given (Give tags) is = tags_within tags is

change_within : (c : Change) → is_change_within c ≡ true → IsChangeWithin c
change_within c is =
    let parts = both is in
    let others = both parts.1 in
    let last = both others.1 in
    (text_within c.content parts.0, (text_within c.summary others.0, (text_within c.name last.0, tags_given c.tags last.1)))

said_within : (limit : ℕ) (a : Activity) → is_activity_within limit a ≡ true → IsSaidWithin a
said_within limit a is =
    let parts = both is in
    let texts = both parts.0 in
    (words_within a.content a.summary a.name texts.0, (if_passes is_date a.published texts.1, tags_within a.tags (both parts.1).0))

posted_ref : (d : Deed) (r : Recipients) (ref : ObjectRef) → is_posted_ref d r ref ≡ true → IsObjectRefWithin ref
posted_ref d r Nothing is = tt
posted_ref d r (Id iri) is = tt
posted_ref d r (Whole o) is = object_within 500 o (both (both (both is).1).1).0
posted_ref d r (Changed c) is = change_within c (both is).1

delivered_ref : (d : Deed) (ref : ObjectRef) → is_delivered_ref d ref ≡ true → IsObjectRefWithin ref
delivered_ref d Nothing is = tt
delivered_ref d (Id iri) is = tt
delivered_ref d (Whole o) is = object_within 501 o (both (both is).1).1
delivered_ref d (Changed c) is = absurd cc

posted : (author : List ℕ) (a : Activity) → is_posted author a ≡ true → IsActivityWithin a
posted author a is =
    let within = both (both is).1 in
    (posted_ref (deed_of a.kind) a.recipients a.object (both within.1).0, said_within 500 a within.0)

delivered : (a : Activity) → is_delivered a ≡ true → IsActivityWithin a
delivered a is =
    let within = both (both is).1 in
    (delivered_ref (deed_of a.kind) a.object (both within.1).0, said_within 501 a within.0)

-- ---- entries

may_posted : (t : Town) (name : List ℕ) (repeat : Option (List ℕ × List ℕ)) (a : Activity) (author : Option (List ℕ)) → may_post t name repeat a author ≡ true
    → IsActivityWithin a
may_posted t name repeat a None is = absurd cc
may_posted t name repeat a (Some author) is = posted author a (both is).0

-- the rule on addresses is the last
last_rule : (taken reached : Bool) → is_none (if taken then Some HostTaken else (if reached then None else Some BadAddress)) ≡ true → reached ≡ true
last_rule true reached is = absurd cc
last_rule false true is = refl
last_rule false false is = absurd cc

pub admissible_keeps : (t : Town) (e : Entry) → is_admissible t e ≡ true → IsAttemptWithin e → KeepsLimits e
unfolding KeepsLimits
admissible_keeps t (Hosted host moment) is attempt = tt
admissible_keeps t (Made name digest locked moment) is attempt = tt
admissible_keeps t (PeerSet host key address relay moment) is attempt = last_rule (is_taken_host t host) (is_address address) (both is).1
admissible_keeps t (Local name repeat a moment) is attempt = may_posted t name repeat a (id_of t name) is
admissible_keeps t (Remote peer inbox a moment) is attempt = delivered a (both is).0
admissible_keeps t (Tried activity recipient came moment) is attempt = attempt
