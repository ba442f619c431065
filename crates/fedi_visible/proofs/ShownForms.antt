-- What is shown of an activity and of an object has the form of what is kept.
use Rattle.std.proofs.Common.{◌≡◌, ℕ, Bool, true, false, List, Option, Some, None, refl, ap, ◌∙◌}
use Rattle.std.specs.Prelude.{if◌then◌else◌, option_map}
use Rattle.std.specs.Option.{option_copied}
use Rattle.fedi_objects.specs.declared.activity.Activity.{Activity}
use Rattle.fedi_objects.specs.declared.activity.ObjectRef.{ObjectRef}
use Rattle.fedi_objects.specs.declared.object.Object.{Object}
use Rattle.fedi_objects.specs.declared.shown.Shown.{Shown}
use Rattle.fedi_objects.specs.Forms.{activity_form, activity_kind_members, is_tombstone, object_form, object_in, shown_in, with_activity_links}
use Rattle.fedi_town.specs.declared.act.Act.{Act}
use Rattle.fedi_town.specs.Addressing.{is_of_town}
use Rattle.fedi_town.specs.Objects.{whole_of}
use Rattle.fedi_town.specs.Relations.{ref_id}
use Rattle.fedi_town.specs.Showing.{object_or_id, present_object, shown_activity, shown_object, shown_ref}
use Rattle.fedi_town.specs.Towns.{Town}
use Rattle.serde_json.specs.Data.{Data}
use Rattle.fedi_visible.specs.Drafts.{sight_document}
use Rattle.fedi_visible.specs.Excerpts.{shown_with, sight_at}
use Rattle.fedi_model.specs.AnswerKinds.{Document, Tombstone}
use Rattle.fedi_model.specs.Reading.{activity_document, maker_document, object_document}
use Rattle.fedi_model.specs.declared.reply.Form.TheVariants as forms
use Rattle.fedi_model.specs.Replies.{reply_of, showing}

-- this is shown of the activity, with this object
pub record Shows (o : ObjectRef) (s : Shown) (x : Act) : Type 0 where
  pub id : option_copied s.id ≡ x.activity.id
  pub author : s.author.now ≡ x.author
  pub kind : s.kind ≡ x.activity.kind
  pub object : object_in s.object ≡ o
  pub target : option_copied s.target ≡ x.activity.target
  pub to : s.to.now ≡ x.activity.recipients.to
  pub cc : s.cc.now ≡ x.activity.recipients.cc
  pub audience : s.audience.now ≡ x.activity.recipients.audience
  pub in_reply_to : option_copied s.in_reply_to ≡ x.activity.in_reply_to
  pub content : option_copied s.content ≡ x.activity.content
  pub summary : option_copied s.summary ≡ x.activity.summary
  pub name : option_copied s.name ≡ x.activity.name
  pub published : option_copied s.published ≡ x.activity.published
  pub tags : s.tags.now ≡ x.activity.tags

-- it is what is shown, with the author as its actor
pub shown_whole : (o : ObjectRef) (x : Act) (s : Shown) → Shows o s x → shown_in s ≡ shown_with x o
shown_whole o x s h =
    rw (h.id, h.author, h.kind, h.target, h.to, h.cc, h.audience, h.in_reply_to, h.content, h.summary, h.name, h.published, h.tags, h.object) refl

-- the form of an activity says nothing of its actor
pub actor_unseen : (local context : Bool) (by : List ℕ) (a : Activity) (actor : Option (List ℕ))
    → activity_form local context by (record a { actor = actor }) ≡ activity_form local context by a
unfolding activity_form activity_kind_members with_activity_links
actor_unseen local context by a actor = refl

-- it has the form of what is shown
pub shown_form : (t : Town) (x : Act) (s : Shown) → shown_in s ≡ record (shown_activity t x) { actor = Some x.author }
    → s.author.now ≡ x.author
    → (local context : Bool) → activity_form local context s.author.now (shown_in s) ≡ activity_form local context x.author (shown_activity t x)
shown_form t x s is by local context =
    ap (λ (a : Activity). activity_form local context s.author.now a) is
    ∙ ap (λ (own : List ℕ). activity_form local context own (record (shown_activity t x) { actor = Some x.author })) by
    ∙ actor_unseen local context x.author (shown_activity t x) (Some x.author)

-- an object is shown as it is, and as gone if it was deleted
pub object_shown : (o : Object) → showing (if is_tombstone o then 410 else 200) forms.Activity (object_form true true o) ≡ reply_of (object_document (Some o))
object_shown o =
    elim (is_tombstone o) as (λ b. showing (if b then 410 else 200) forms.Activity (object_form true true o)
    ≡ reply_of (if b then Tombstone (object_form true true o) else Document (object_form true true o))) [
      | true ↦ refl
      | false ↦ refl
    ]

whole_or_id : (o : Option Object) (id : Option (List ℕ)) → option_map shown_object o ≡ whole_of (object_or_id o id)
whole_or_id None None = refl
whole_or_id None (Some id) = refl
whole_or_id (Some o) id = refl

-- the document of the object that an activity made is that of the object as it is now
pub object_document_shown : (t : Town) (x : Act) → object_document (option_map shown_object (present_object t x)) ≡ maker_document t x
unfolding maker_document shown_activity shown_ref
object_document_shown t x = ap object_document (whole_or_id (present_object t x) (ref_id x.activity.object))

-- the document of what is shown of an activity is the activity's
pub sight_shown : (t : Town) (x : Act) → sight_document (sight_at t x) ≡ activity_document t x
unfolding sight_document activity_document
sight_shown t x =
    ap (λ (d : Data). Document d) (actor_unseen (is_of_town t.host x.author) true x.author (shown_activity t x) (Some x.author))

-- so is the document of what is shown of it in this town
pub shown_document : (t : Town) (x : Act) (s : Shown) → s.local ≡ is_of_town t.host x.author
    → ((local context : Bool) → activity_form local context s.author.now (shown_in s) ≡ activity_form local context x.author (shown_activity t x))
    → showing 200 forms.Activity (activity_form s.local true s.author.now (shown_in s)) ≡ reply_of (activity_document t x)
unfolding activity_document
shown_document t x s local form =
    ap (showing 200 forms.Activity)
    (ap (λ (local : Bool). activity_form local true s.author.now (shown_in s)) local ∙ form (is_of_town t.host x.author) true)
