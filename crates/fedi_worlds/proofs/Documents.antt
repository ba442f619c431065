-- What is read of the document of an activity.
use Rattle.std.proofs.Common.{◌≡◌, ℕ, ◌^◌, ◌<◌, Bool, true, false, List, ◌++◌, length, Option, Some}
use Rattle.std.proofs.Common.{None, refl, sym, ap, ◌∙◌, subst, ⊎_elim, arith}
use Rattle.std.specs.Prelude.{◌&&◌, ◌||◌, ◌==◌, not, codes, map, is_some, is_none, option_and_then}
use Rattle.std.specs.Prelude.{bytes_eq, Ok, Err, Result, if◌then◌else◌}
use Rattle.std.specs.Option.{option_map_or}
use Rattle.std.proofs.lemmas.Bool.{le-leb}
use Rattle.serde_json.specs.Data.{Data, string, array, object, Members, no_members, put}
use Rattle.serde_json.specs.Find.{get, get_member, as_object}
use Rattle.serde_json.specs.View.{items_of}
use Rattle.serde_json.proofs.Views.{get_member-put, get_member-put_other}
use Rattle.fedi_address.specs.Iris.{IsIri}
use Rattle.fedi_address.specs.Names.{is_name}
use Rattle.fedi_address.proofs.Urls.{address_is_iri, normal-IsIri}
use Rattle.fedi_objects.specs.Forms.{activity_form, with_context, with_activity_links, with_text}
use Rattle.fedi_objects.specs.Forms.{with_object, with_audience, with_words, with_list, tag_form}
use Rattle.fedi_objects.specs.Forms.{activity_kind_members}
use Rattle.fedi_objects.specs.Kinds.{kind_name}
use Rattle.fedi_objects.specs.Objects.{activity_of_kind, object_of_kind}
use Rattle.fedi_objects.specs.declared.activity.Activity.{Activity}
use Rattle.fedi_objects.specs.declared.kind.Kind.{Kind}
use Rattle.fedi_objects.specs.declared.kind.Kind.TheVariants as knd
use Rattle.fedi_objects.specs.declared.activity.ObjectRef.{ObjectRef}
use Rattle.fedi_objects.specs.declared.activity.ObjectRef.TheVariants as refs
use Rattle.fedi_objects.specs.Limits.{is_type}
use Rattle.fedi_reading.specs.Activities.{kind_of, kind_named, carried, need_of, needs_id}
use Rattle.fedi_reading.specs.Activities.{object_id}
use Rattle.fedi_reading.specs.Deliveries.{reads_delivered, reads_sent, reads_carried, reads_without}
use Rattle.fedi_reading.specs.Deliveries.{reads_with, has_no}
use Rattle.fedi_reading.specs.Properties.{property, reference_at, first_of, named, type_of, iri}
use Rattle.fedi_reading.specs.Properties.{has_context, formed}
use Rattle.fedi_reading.specs.Reading.{reads_iri}
use Rattle.fedi_reading.specs.declared.shape_fault.ShapeFault.{ShapeFault}
use Rattle.fedi_reading.specs.declared.shape_fault.ShapeFault.TheVariants.{NotObject, BadContext}
use Rattle.fedi_reading.specs.declared.shape_fault.ShapeFault.TheVariants.{NoType, NoId, NoActor}
use Rattle.fedi_reading.specs.declared.shape_fault.ShapeFault.TheVariants.{NoObject}
use Rattle.fedi_reading.proofs.DeliveryKept.{delivery_parts, HasNoObject, HasObject}
use Rattle.fedi_reading.proofs.DeliveryKept.{addressed_parts, IsAddressed, bare_parts, full_parts}
use Rattle.fedi_town.proofs.Paths.{actor_path_is_plain, activity_path_is_plain}
use Rattle.fedi_town.proofs.Texts.{bytes_eq-same, not_both}
use Rattle.fedi_town.specs.Addressing.{is_of_town}
use Rattle.fedi_worlds.proofs.Sites.{IsSite}
use Rattle.fedi_worlds.proofs.Shown.{document_of}
use Rattle.fedi_worlds.proofs.Simple.{inbox_is, inbox_path_is_plain}
use Rattle.fedi_town.specs.Ids.{inbox_id, actor_id, activity_id, actor_path, activity_path}
use Rattle.fedi_town.specs.Showing.{shown_activity}
use Rattle.fedi_town.specs.Towns.{Town}
use Rattle.fedi_town.specs.declared.act.Act.{Act}
use Rattle.fedi_worlds.proofs.Local.{DocumentsAreRead}

-- ---- addresses

pub iri_is : (text : List ℕ) → IsIri text → iri text ≡ Some text
unfolding iri
iri_is text h = rw (normal-IsIri text h, le-leb (length text) 2048 h.short) refl

-- what is read of an address
reads_address : (text : List ℕ) → IsIri text → reads_iri (Some text) ≡ Ok (Some text)
reads_address text h = rw (iri_is text h) refl

pub actor_is_iri : (host name : List ℕ) → IsSite host → is_name name ≡ true
    → IsIri (actor_id host name)
unfolding actor_id
actor_is_iri host name h named =
    address_is_iri host (actor_path name) h.shape h.root (actor_path_is_plain name named)

pub inbox_is_iri : (host name : List ℕ) → IsSite host → is_name name ≡ true
    → IsIri (inbox_id (actor_id host name))
inbox_is_iri host name h named =
    subst IsIri (sym (inbox_is host name))
    (address_is_iri host (codes "/users/" ++ (name ++ codes "/inbox")) h.shape h.root
    (inbox_path_is_plain name named))

pub activity_is_iri : (host name : List ℕ) (n : ℕ) → IsSite host → is_name name ≡ true → n < 2 ^ 32
    → IsIri (activity_id host name n)
unfolding activity_id
activity_is_iri host name n h named small =
    address_is_iri host (activity_path name n) h.shape h.root
    (activity_path_is_plain name n (omega arith) named)

-- ---- members

pub apart : (a b : List ℕ) → bytes_eq a b ≡ false → a ≡ b → ⊥
apart a b other e = not_both (bytes_eq a b) (rw e (bytes_eq-same b)) other

text_there : (key text : List ℕ) (ms : Members)
    → get_member key (with_text key (Some text) ms) ≡ Some (string text)
unfolding with_text
text_there key text ms = get_member-put key (string text) ms

pub text_other : (q key : List ℕ) (text : Option (List ℕ)) (ms : Members) → bytes_eq q key ≡ false
    → get_member q (with_text key text ms) ≡ get_member q ms
unfolding with_text
text_other q key None ms other = refl
text_other q key (Some text) ms other =
    get_member-put_other q key (string text) ms (apart q key other)

pub context_other : (q : List ℕ) (b : Bool) (ms : Members) → bytes_eq q (codes "@context") ≡ false
    → get_member q (with_context b ms) ≡ get_member q ms
unfolding with_context
context_other q true ms other =
    get_member-put_other q (codes "@context") _ ms (apart q (codes "@context") other)
context_other q false ms other = refl

pub reference_is : (key text : List ℕ) (d : Data) → get key d ≡ Some (string text)
    → reference_at key d ≡ Some text
unfolding reference_at property first_of named
reference_is key text d e = rw e refl

-- ---- an activity's id, actor and type

pub list_other : (q key : List ℕ) (ds : List Data) (ms : Members) → bytes_eq q key ≡ false
    → get_member q (with_list key ds ms) ≡ get_member q ms
unfolding with_list
list_other q key ds ms other =
    elim (length ds == 0) as (λ b.
    get_member q (if b then ms else put key (array (items_of ds)) ms) ≡ get_member q ms) [
      | true ↦ refl
      | false ↦ get_member-put_other q key (array (items_of ds)) ms (apart q key other)
    ]

pub object_other : (q : List ℕ) (local : Bool) (r : ObjectRef) (ms : Members)
    → bytes_eq q (codes "object") ≡ false → get_member q (with_object local r ms) ≡ get_member q ms
unfolding with_object
object_other q local refs.Nothing ms other = refl
object_other q local (refs.Id id) ms other =
    get_member-put_other q (codes "object") (string id) ms (apart q (codes "object") other)
object_other q local (refs.Whole o) ms other =
    get_member-put_other q (codes "object") _ ms (apart q (codes "object") other)
object_other q local (refs.Changed c) ms other = refl

-- the members, from the last on
abbrev pub typed : Activity → Members
typed a = put (codes "type") (string (kind_name a.kind)) no_members

abbrev pub worded : Activity → Members
worded a =
    with_text (codes "content") a.content
    (with_text (codes "name") a.name
    (with_text (codes "summary") a.summary
    (with_list (codes "tag") (map tag_form a.tags)
    (with_text (codes "published") a.published (typed a)))))

abbrev pub heard : Activity → Members
heard a =
    with_list (codes "audience") (map string a.recipients.audience)
    (with_list (codes "cc") (map string a.recipients.cc)
    (with_list (codes "to") (map string a.recipients.to) (worded a)))

abbrev pub aimed : Bool → Activity → Members
aimed local a =
    with_text (codes "inReplyTo") a.in_reply_to
    (with_text (codes "target") a.target (with_object local a.object (heard a)))

abbrev pub told : Bool → Activity → Members
told local a = with_text (codes "id") a.id (aimed local a)

-- they are those of the document
form_is : (local : Bool) (author : List ℕ) (a : Activity)
    → activity_form local true author a
    ≡ object (with_context true (put (codes "actor") (string author) (told local a)))
unfolding activity_form with_activity_links with_audience with_words activity_kind_members
form_is local author a = refl

member_is : (q : List ℕ) (local : Bool) (author : List ℕ) (a : Activity)
    → bytes_eq q (codes "@context") ≡ false
    → get q (activity_form local true author a)
    ≡ get_member q (put (codes "actor") (string author) (told local a))
member_is q local author a other =
    ap (get q) (form_is local author a)
    ∙ context_other q true (put (codes "actor") (string author) (told local a)) other

actor_at : (local : Bool) (author : List ℕ) (a : Activity)
    → reference_at (codes "actor") (activity_form local true author a) ≡ Some author
actor_at local author a =
    reference_is (codes "actor") author (activity_form local true author a)
    (member_is (codes "actor") local author a refl
    ∙ get_member-put (codes "actor") (string author) (told local a))

pub behind_actor : (q : List ℕ) (local : Bool) (author : List ℕ) (a : Activity)
    → bytes_eq q (codes "actor") ≡ false → bytes_eq q (codes "@context") ≡ false
    → get q (activity_form local true author a) ≡ get_member q (told local a)
behind_actor q local author a other context =
    member_is q local author a context
    ∙ get_member-put_other q (codes "actor") (string author) (told local a)
    (apart q (codes "actor") other)

id_at : (local : Bool) (author id : List ℕ) (a : Activity) → a.id ≡ Some id
    → reference_at (codes "id") (activity_form local true author a) ≡ Some id
id_at local author id a own =
    reference_is (codes "id") id (activity_form local true author a)
    (behind_actor (codes "id") local author a refl refl
    ∙ (ap (λ (o : Option (List ℕ)).
    get_member (codes "id") (with_text (codes "id") o (aimed local a))) own
    ∙ text_there (codes "id") id (aimed local a)))

type_at : (local : Bool) (author : List ℕ) (a : Activity)
    → get (codes "type") (activity_form local true author a) ≡ Some (string (kind_name a.kind))
type_at local author a =
    let q : List ℕ = codes "type" in
    behind_actor q local author a refl refl
    ∙ (text_other q (codes "id") a.id (aimed local a) refl
    ∙ (text_other q (codes "inReplyTo") a.in_reply_to _ refl
    ∙ (text_other q (codes "target") a.target _ refl
    ∙ (object_other q local a.object (heard a) refl
    ∙ (list_other q (codes "audience") (map string a.recipients.audience) _ refl
    ∙ (list_other q (codes "cc") (map string a.recipients.cc) _ refl
    ∙ (list_other q (codes "to") (map string a.recipients.to) (worded a) refl
    ∙ (text_other q (codes "content") a.content _ refl
    ∙ (text_other q (codes "name") a.name _ refl
    ∙ (text_other q (codes "summary") a.summary _ refl
    ∙ (list_other q (codes "tag") (map tag_form a.tags) _ refl
    ∙ (text_other q (codes "published") a.published (typed a) refl
    ∙ get_member-put q (string (kind_name a.kind)) no_members))))))))))))

-- ---- what was read

if_ok : {A : Type 0} (b : Bool) (e : ShapeFault) (x : Result A ShapeFault) (a : A)
    → (if b then Err e else x) ≡ Ok a → x ≡ Ok a
if_ok true e x a h = absurd cc
if_ok false e x a h = h

-- the addresses and the type
record AreRead (d : Data) (a : Activity) : Type 0 where
  id : reads_iri (reference_at (codes "id") d) ≡ Ok a.id
  actor : reads_iri (reference_at (codes "actor") d) ≡ Ok a.actor

of_addressed : (k : Kind) (d : Data) (b a : Activity) → IsAddressed (activity_of_kind k) d b
    → a.id ≡ b.id → a.actor ≡ b.actor → AreRead d a
of_addressed k d b a p id actor = record {
  id = p.id_read
      ∙ ap (λ (o : Option (List ℕ)). Ok o) (sym (id ∙ ap (λ (x : Activity). x.id) p.whole));
  actor =
      p.actor_read
      ∙ ap (λ (o : Option (List ℕ)). Ok o) (sym (actor ∙ ap (λ (x : Activity). x.actor) p.whole));
}

are_read : (d : Data) (a : Activity) → reads_delivered d ≡ Ok a → AreRead d a
are_read d a h =
    let parts = delivery_parts d a h in
    ⊎_elim
    (λ (n : HasNoObject parts.kind d a).
    of_addressed parts.kind d n.bare.addressed a
    (addressed_parts (activity_of_kind parts.kind) d n.bare.addressed n.bare.addresses_read)
    (ap (λ (x : Activity). x.id) n.bare.whole) (ap (λ (x : Activity). x.actor) n.bare.whole))
    (λ (o : (e : Data) × (carried (need_of parts.kind) d ≡ Some e) × HasObject parts.kind d e a).
    of_addressed parts.kind d o.2.full.addressed a
    (addressed_parts (activity_of_kind parts.kind) d o.2.full.addressed o.2.full.addresses_read)
    (ap (λ (x : Activity). x.id) o.2.full.whole) (ap (λ (x : Activity). x.actor) o.2.full.whole))
    parts.said

-- the type of what is read
without_kind : (k : Kind) (d : Data) (a : Activity) → reads_without k d ≡ Ok a → a.kind ≡ k
unfolding reads_without
without_kind k d a h =
    let one = if_ok (has_no (codes "id") d) NoId _ a h in
    let two = if_ok (has_no (codes "actor") d) NoActor _ a one in
    let three = if_ok (needs_id (need_of k) && is_none (object_id d)) NoObject _ a two in
    let b = bare_parts (activity_of_kind k) (need_of k) d a three in
    let p = addressed_parts (activity_of_kind k) d b.addressed b.addresses_read in
    ap (λ (x : Activity). x.kind) b.whole ∙ ap (λ (x : Activity). x.kind) p.whole

with_kind : (k : Kind) (d o : Data) (type : Option (List ℕ)) (a : Activity)
    → reads_with k d o type ≡ Ok a → a.kind ≡ k
with_kind k d o None a h = absurd cc
with_kind k d o (Some type) a h =
    let one = if_ok (has_no (codes "id") d || has_no (codes "id") o) NoId _ a h in
    let two = if_ok (has_no (codes "actor") d) NoActor _ a one in
    let b = full_parts (activity_of_kind k) (object_of_kind type) d o a two in
    let p = addressed_parts (activity_of_kind k) d b.addressed b.addresses_read in
    ap (λ (x : Activity). x.kind) b.whole ∙ ap (λ (x : Activity). x.kind) p.whole

carried_kind : (k : Kind) (d : Data) (o : Option Data) (a : Activity) → reads_carried k d o ≡ Ok a
    → a.kind ≡ k
carried_kind k d None a h = without_kind k d a h
carried_kind k d (Some o) a h = with_kind k d o (type_of o) a h

of_kind : (d : Data) (a : Activity) (k : Option Kind)
    → option_map_or (reads_sent d) k (Err NoType) ≡ Ok a → k ≡ Some a.kind
unfolding reads_sent
of_kind d a None h = absurd cc
of_kind d a (Some k) h =
    ap (λ (x : Kind). Some x) (sym (carried_kind k d (carried (need_of k) d) a h))

kind_read : (d : Data) (a : Activity) → reads_delivered d ≡ Ok a → kind_of d ≡ Some a.kind
unfolding reads_delivered
kind_read d a h =
    let one = if_ok (not (is_some (as_object d))) NotObject _ a h in
    let two = if_ok (not (has_context d)) BadContext _ a one in
    of_kind d a (kind_of d) two

named_kind : (k : Kind) → option_and_then kind_named (formed is_type (Some (kind_name k))) ≡ Some k
unfolding kind_named is_type
named_kind knd.Accept = refl
named_kind knd.Add = refl
named_kind knd.Announce = refl
named_kind knd.Arrive = refl
named_kind knd.Block = refl
named_kind knd.Create = refl
named_kind knd.Delete = refl
named_kind knd.Dislike = refl
named_kind knd.Flag = refl
named_kind knd.Follow = refl
named_kind knd.Ignore = refl
named_kind knd.Invite = refl
named_kind knd.Join = refl
named_kind knd.Leave = refl
named_kind knd.Like = refl
named_kind knd.Listen = refl
named_kind knd.Move = refl
named_kind knd.Offer = refl
named_kind knd.Question = refl
named_kind knd.Read = refl
named_kind knd.Reject = refl
named_kind knd.Remove = refl
named_kind knd.TentativeAccept = refl
named_kind knd.TentativeReject = refl
named_kind knd.Travel = refl
named_kind knd.Undo = refl
named_kind knd.Update = refl
named_kind knd.View = refl

kind_at : (local : Bool) (author : List ℕ) (a : Activity)
    → kind_of (activity_form local true author a) ≡ Some a.kind
unfolding kind_of type_of property first_of
kind_at local author a = rw (type_at local author a) (named_kind a.kind)

ok_is : (r : Result (Option (List ℕ)) ShapeFault) (x y : Option (List ℕ)) → r ≡ Ok x → r ≡ Ok y
    → x ≡ y
ok_is r x y e f = cc

shown_id : (t : Town) (x : Act) → (shown_activity t x).id ≡ x.activity.id
unfolding shown_activity
shown_id t x = refl

shown_kind : (t : Town) (x : Act) → (shown_activity t x).kind ≡ x.activity.kind
unfolding shown_activity
shown_kind t x = refl

pub reads : DocumentsAreRead
reads t host x a shape own h =
    let shown : Activity = shown_activity t x in
    let r = are_read (document_of t x) a h in
    let id_iri : IsIri (activity_id host own.name own.number) =
    activity_is_iri host own.name own.number shape own.named own.small in
    let author_iri : IsIri x.author =
    subst IsIri (sym own.author) (actor_is_iri host own.name shape own.named) in
    let id : reads_iri (reference_at (codes "id") (document_of t x))
    ≡ Ok (Some (activity_id host own.name own.number)) =
    ap (λ (o : Option (List ℕ)). reads_iri o)
    (id_at (is_of_town t.host x.author) x.author (activity_id host own.name own.number) shown
    (shown_id t x ∙ own.id))
    ∙ reads_address (activity_id host own.name own.number) id_iri in
    let actor : reads_iri (reference_at (codes "actor") (document_of t x)) ≡ Ok (Some x.author) =
    ap (λ (o : Option (List ℕ)). reads_iri o) (actor_at (is_of_town t.host x.author) x.author shown)
    ∙ reads_address x.author author_iri in
    let same : Some a.kind ≡ Some x.activity.kind =
    sym (kind_read (document_of t x) a h)
    ∙ (kind_at (is_of_town t.host x.author) x.author shown
    ∙ ap (λ (k : Kind). Some k) (shown_kind t x)) in
    record {
      id = sym
          (ok_is (reads_iri (reference_at (codes "id") (document_of t x)))
          (Some (activity_id host own.name own.number)) a.id id r.id) ∙ sym own.id;
      actor =
          sym (ok_is (reads_iri (reference_at (codes "actor") (document_of t x))) (Some x.author)
          a.actor actor r.actor);
      kind = let k : a.kind ≡ x.activity.kind = cc in k;
    }
