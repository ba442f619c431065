-- The forms of activities and objects are plain values, and not deep.
use Rattle.std.proofs.Common.{◌≡◌, ℕ, suc, ◌≤◌, Bool, true, false, List, [], ◌∷◌, length, Option}
use Rattle.std.proofs.Common.{Some, None, Ordering, Less, Equal, Greater, nat_cmp, arith}
use Rattle.std.specs.Prelude.{codes, map, if◌then◌else◌, ◌==◌}
use Rattle.std.specs.Cmp.Lexicographic.{slice_cmp}
use Rattle.std.specs.Ordering.{match_ordering}
use Rattle.serde_json.specs.Data.{Data, string, array, object, Items, Members, no_members, member}
use Rattle.serde_json.specs.Data.{put, depth, items_depth, members_depth}
use Rattle.serde_json.specs.View.{items_of}
use Rattle.fedi_objects.specs.Forms.{activity_form, with_context, with_activity_links, with_text}
use Rattle.fedi_objects.specs.Forms.{with_list, with_object, with_audience, with_words}
use Rattle.fedi_objects.specs.Forms.{activity_kind_members, object_form, object_members}
use Rattle.fedi_objects.specs.Forms.{live_members, tombstone_members, with_links, with_id}
use Rattle.fedi_objects.specs.Forms.{with_collections, kind_members, tag_form, is_tombstone}
use Rattle.fedi_objects.specs.declared.activity.Activity.{Activity}
use Rattle.fedi_objects.specs.declared.activity.ObjectRef.{ObjectRef}
use Rattle.fedi_objects.specs.declared.activity.ObjectRef.TheVariants as refs
use Rattle.fedi_objects.specs.declared.object.Object.{Object}
use Rattle.fedi_objects.specs.declared.object.Tag.{Tag}
use Rattle.fedi_reading.specs.Plain.{IsPlain, ArePlain, AreOrdered}
use Rattle.fedi_reading.proofs.OrderedMembers.{ordered_put}

-- members in order, with plain values of at most this depth
pub record Good (n : ℕ) (ms : Members) : Type 0 where
  pub ordered : AreOrdered ms
  pub low : members_depth ms ≤ n

pub record GoodItems (n : ℕ) (ds : Items) : Type 0 where
  pub plain : ArePlain ds
  pub low : items_depth ds ≤ n

low_at : (o : Ordering) (k l : List ℕ) (d e : Data) (ms more : Members) (n : ℕ) → depth d ≤ n
    → members_depth (member l e ms) ≤ n → members_depth more ≤ n
    → members_depth
    (match_ordering o (member k d (member l e ms)) (member l d ms) (member l e more)) ≤ n
low_at Less k l d e ms more n p q r = omega arith
low_at Equal k l d e ms more n p q r = omega arith
low_at Greater k l d e ms more n p q r = omega arith

low_put : (k : List ℕ) (d : Data) (ms : Members) (n : ℕ) → depth d ≤ n → members_depth ms ≤ n
    → members_depth (put k d ms) ≤ n
low_put k d no_members n p q = omega arith
low_put k d (member l e ms) n p q =
    low_at (slice_cmp nat_cmp k l) k l d e ms (put k d ms) n p q (low_put k d ms n p (omega arith))

pub good_put : (n : ℕ) (k : List ℕ) (d : Data) (ms : Members) → IsPlain d → depth d ≤ n → Good n ms
    → Good n (put k d ms)
good_put n k d ms p low g =
    record { ordered = ordered_put k d ms p g.ordered; low = low_put k d ms n low g.low }

pub good_none : (n : ℕ) → Good n no_members
good_none n = record { ordered = tt; low = omega arith }

pub good_string : (n : ℕ) (k t : List ℕ) (ms : Members) → Good n ms → Good n (put k (string t) ms)
good_string n k t ms g = good_put n k (string t) ms tt (omega arith) g

pub good_text : (n : ℕ) (k : List ℕ) (t : Option (List ℕ)) (ms : Members) → Good n ms
    → Good n (with_text k t ms)
unfolding with_text
good_text n k None ms g = g
good_text n k (Some t) ms g = good_string n k t ms g

-- plain values of at most this depth
abbrev pub AreLow : ℕ → List Data → Type 0
AreLow n [] = Unit {0}
AreLow n (d ∷ ds) = IsPlain d × (depth d ≤ n) × AreLow n ds

pub items_good : (n : ℕ) (ds : List Data) → AreLow n ds → GoodItems n (items_of ds)
items_good n [] h = record { plain = tt; low = omega arith }
items_good n (d ∷ ds) h =
    let r =
    items_good n ds h.2 in record { plain = (h.0, r.plain); low = omega (arith, h.1, r.low) }

pub good_list : (n : ℕ) (k : List ℕ) (ds : List Data) (ms : Members) → AreLow n ds → Good (suc n) ms
    → Good (suc n) (with_list k ds ms)
unfolding with_list
good_list n k ds ms h g =
    let r = items_good n ds h in
    elim (length ds == 0) as (λ b.
    Good (suc n) (if b then ms else put k (array (items_of ds)) ms)) [
      | true ↦ g
      | false ↦ good_put (suc n) k (array (items_of ds)) ms r.plain (omega (arith, r.low)) g
    ]

pub strings_low : (n : ℕ) (ts : List (List ℕ)) → AreLow n (map string ts)
strings_low n [] = tt
strings_low n (t ∷ ts) = (tt, omega arith, strings_low n ts)

tag_good : (t : Tag)
    → Good 0
    (put (codes "href") (string t.href)
    (put (codes "name") (string t.name) (put (codes "type") (string (codes "Mention")) no_members)))
tag_good t =
    good_string 0 (codes "href") t.href _
    (good_string 0 (codes "name") t.name _
    (good_string 0 (codes "type") (codes "Mention") no_members (good_none 0)))

tags_low : (ts : List Tag) → AreLow 1 (map tag_form ts)
unfolding tag_form
tags_low [] = tt
tags_low (t ∷ ts) = let g = tag_good t in (g.ordered, omega (arith, g.low), tags_low ts)

good_audience : (to cc audience : List (List ℕ)) (ms : Members) → Good 2 ms
    → Good 2 (with_audience to cc audience ms)
unfolding with_audience
good_audience to cc audience ms g =
    good_list 1 (codes "audience") (map string audience) _ (strings_low 1 audience)
    (good_list 1 (codes "cc") (map string cc) _ (strings_low 1 cc)
    (good_list 1 (codes "to") (map string to) ms (strings_low 1 to) g))

good_words : (content summary name : Option (List ℕ)) (tags : List Tag) (ms : Members) → Good 2 ms
    → Good 2 (with_words content summary name tags ms)
unfolding with_words
good_words content summary name tags ms g =
    good_text 2 (codes "content") content _
    (good_text 2 (codes "name") name _
    (good_text 2 (codes "summary") summary _
    (good_list 1 (codes "tag") (map tag_form tags) ms (tags_low tags) g)))

good_collections : (local : Bool) (id : Option (List ℕ)) (ms : Members) → Good 2 ms
    → Good 2 (with_collections local id ms)
unfolding with_collections
good_collections true (Some id) ms g =
    good_string 2 (codes "likes") _ _ (good_string 2 (codes "shares") _ ms g)
good_collections true None ms g = g
good_collections false id ms g = g

good_kind : (o : Object) → Good 2 (kind_members o)
unfolding kind_members
good_kind o =
    good_text 2 (codes "published") o.published _
    (good_string 2 (codes "type") o.kind _
    (good_text 2 (codes "updated") o.updated no_members (good_none 2)))

good_live : (local : Bool) (o : Object) → Good 2 (live_members local o)
unfolding with_links with_id
good_live local o =
    good_text 2 (codes "attributedTo") o.attributed_to _
    (good_text 2 (codes "inReplyTo") o.in_reply_to _ (good_text 2 (codes "url") o.url _
    (good_text 2 (codes "id") o.id _ (good_collections local o.id _
    (good_audience o.recipients.to o.recipients.cc o.recipients.audience _
    (good_words o.content o.summary o.name o.tags _ (good_kind o)))))))

good_tombstone : (o : Object) → Good 2 (tombstone_members o)
unfolding tombstone_members
good_tombstone o =
    good_text 2 (codes "deleted") o.deleted _
    (good_text 2 (codes "formerType") o.former_kind _
    (good_text 2 (codes "id") o.id _
    (good_string 2 (codes "type") o.kind no_members (good_none 2))))

pub good_context : (n : ℕ) (b : Bool) (ms : Members) → Good n ms → Good n (with_context b ms)
unfolding with_context
good_context n true ms g = good_string n (codes "@context") _ ms g
good_context n false ms g = g

-- an object is plain, and not deep
pub record IsLow (n : ℕ) (d : Data) : Type 0 where
  pub plain : IsPlain d
  pub low : depth d ≤ n

pub low_members : (n : ℕ) (ms : Members) → Good n ms → IsLow (suc n) (object ms)
low_members n ms g = record { plain = g.ordered; low = omega (arith, g.low) }

pub object_low : (local context : Bool) (o : Object) → IsLow 3 (object_form local context o)
unfolding object_form
object_low local context o =
    low_members 2 (with_context context (object_members local o))
    (good_context 2 context (object_members local o)
    (elim (is_tombstone o) as (λ b.
    Good 2 (if b then tombstone_members o else live_members local o)) [
      | true ↦ good_tombstone o
      | false ↦ good_live local o
    ]))

wider : (ms : Members) → Good 2 ms → Good 3 ms
wider ms g = record { ordered = g.ordered; low = omega (arith, g.low) }

good_object : (local : Bool) (r : ObjectRef) (ms : Members) → Good 3 ms
    → Good 3 (with_object local r ms)
unfolding with_object
good_object local refs.Nothing ms g = g
good_object local (refs.Id id) ms g = good_string 3 (codes "object") id ms g
good_object local (refs.Whole o) ms g =
    let l = object_low local false o in
    good_put 3 (codes "object") (object_form local false o) ms l.plain l.low g
good_object local (refs.Changed change) ms g = g

pub activity_low : (local context : Bool) (author : List ℕ) (a : Activity)
    → IsLow 4 (activity_form local context author a)
unfolding activity_form with_activity_links activity_kind_members
activity_low local context author a =
    low_members 3 _
    (good_context 3 context _
    (good_string 3 (codes "actor") author _
    (good_text 3 (codes "id") a.id _
    (good_text 3 (codes "inReplyTo") a.in_reply_to _ (good_text 3 (codes "target") a.target _
    (good_object local a.object _
    (wider _ (good_audience a.recipients.to a.recipients.cc a.recipients.audience _
    (good_words a.content a.summary a.name a.tags _
    (good_text 2 (codes "published") a.published _
    (good_string 2 (codes "type") _ no_members (good_none 2))))))))))))
