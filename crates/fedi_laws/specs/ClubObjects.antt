-- Objects in the club: who sees them, and what becomes of them.
use Rattle.std.specs.Prelude.{◌≡◌, ℕ, true, List, [], ◌∷◌, ◌++◌, map, codes, Some, None, option_map}
use Rattle.fedi_town.specs.declared.refusal.Refusal.TheVariants.{Gone, NotFound, NotOwner}
use Rattle.fedi_town.specs.declared.refusal.Refusal.TheVariants.{NotPublic}
use Rattle.fedi_address.specs.declared.recipients.Recipients.{Recipients}
use Rattle.fedi_address.specs.Iris.{public_iri}
use Rattle.fedi_objects.specs.declared.activity.ObjectRef.TheVariants.{Id, Whole, Changed}
use Rattle.fedi_objects.specs.declared.entry.Entry.{Entry}
use Rattle.fedi_objects.specs.declared.kind.Kind.TheVariants as kinds
use Rattle.fedi_objects.specs.declared.kind.State.TheVariants.{Done}
use Rattle.fedi_objects.specs.declared.object.Change.{Change}
use Rattle.fedi_objects.specs.declared.object.Edit.TheVariants.{Keep, Remove, Give}
use Rattle.fedi_objects.specs.declared.object.Object.{Object}
use Rattle.fedi_text.specs.Dates.{moment_text}
use Rattle.fedi_town.specs.declared.caller.Caller.TheVariants.{Nobody, Actor}
use Rattle.fedi_town.specs.declared.caller.Which.TheVariants.{Inbox}
use Rattle.fedi_town.specs.declared.deed.Deed.TheVariants.{Update, Delete, Like, Announce}
use Rattle.fedi_town.specs.Addressing.{no_recipients}
use Rattle.fedi_town.specs.Histories.{town}
use Rattle.fedi_town.specs.Objects.{object_at}
use Rattle.fedi_town.specs.Showing.{view}
use Rattle.fedi_laws.specs.Fixture.{ana, ben, cleo, dan, member, activity_number, object_number}
use Rattle.fedi_laws.specs.Fixture.{start, to, activity, note, posts, is_legal, states, recipients}
use Rattle.fedi_laws.specs.Fixture.{sight, total, rule}

-- addressed to one member in secret
abbrev pub whisper : List ℕ → Recipients
whisper name = record no_recipients { bcc = name ∷ [] }

-- a member posts a Note with these recipients
abbrev pub notes : List ℕ → Recipients → Entry
notes name r = posts name (activity kinds.Create (Whole (note r)) r)

-- ---- ana writes to ben in secret

-- the club after it
abbrev pub after_secret : List Entry
after_secret = start ++ notes ana (whisper (member ben)) ∷ []

-- only ben sees it; and nobody is shown its recipients
pub record SecretNote : Type 0 where
  pub legal : is_legal after_secret ≡ true
  pub sent : recipients after_secret ≡ (member ben ∷ []) ∷ []
  pub seen_by_ben : sight after_secret (Actor ben) ≡ Some (activity_number ana (codes "1")) ∷ []
  pub unseen_by_cleo : sight after_secret (Actor cleo) ≡ []
  pub unseen : sight after_secret Nobody ≡ []
  pub in_inbox : total after_secret (Actor ben) (Inbox ben) ≡ Some 1
  pub shown_to_ben :
      map (λ x. x.activity.recipients) (view (town after_secret) (Actor ben)) ≡ no_recipients ∷ []
  pub shown_to_ana :
      map (λ x. x.activity.recipients) (view (town after_secret) (Actor ana)) ≡ no_recipients ∷ []

-- ---- ana writes to everybody and ben, and to cleo in secret

-- its recipients
abbrev pub open_names : Recipients
open_names = record no_recipients { to = public_iri ∷ member ben ∷ []; bcc = member cleo ∷ [] }

-- the club after it
abbrev pub after_open_note : List Entry
after_open_note = start ++ notes ana open_names ∷ []

-- everybody sees it; it goes to ben and cleo; and cleo is not shown
pub record OpenNote : Type 0 where
  pub legal : is_legal after_open_note ≡ true
  pub sent : recipients after_open_note ≡ (member ben ∷ member cleo ∷ []) ∷ []
  pub seen_by_all : sight after_open_note Nobody ≡ Some (activity_number ana (codes "1")) ∷ []
  pub shown_to_all : map (λ x. x.activity.recipients) (view (town after_open_note) Nobody)
      ≡ to (public_iri ∷ member ben ∷ []) ∷ []
  pub in_inbox_of_ben : total after_open_note (Actor ben) (Inbox ben) ≡ Some 1
  pub in_inbox_of_cleo : total after_open_note (Actor cleo) (Inbox cleo) ≡ Some 1
  pub in_inbox_of_dan : total after_open_note (Actor dan) (Inbox dan) ≡ Some 0

-- ---- ana writes to ben, and deletes the Note

-- the club after both
abbrev pub after_delete : List Entry
after_delete =
    start ++ (notes ana (to (member ben ∷ []))
    ∷ posts ana (activity kinds.Delete (Id (object_number ana (codes "1"))) no_recipients) ∷ [])

-- a Tombstone is left, for ben alone; the Delete goes to the recipients of the Note; and nobody can
-- do anything more to it
pub record DeletedNote : Type 0 where
  pub legal : is_legal after_delete ≡ true
  pub done : states after_delete ≡ Done ∷ Done ∷ []
  pub sent : recipients after_delete ≡ (member ben ∷ []) ∷ (member ben ∷ []) ∷ []
  pub kind :
      option_map (λ o. o.kind) (object_at (town after_delete) (object_number ana (codes "1")))
      ≡ Some (codes "Tombstone")
  pub former : option_map (λ o. o.former_kind)
      (object_at (town after_delete) (object_number ana (codes "1"))) ≡ Some (Some (codes "Note"))
  pub deleted :
      option_map (λ o. o.deleted) (object_at (town after_delete) (object_number ana (codes "1")))
      ≡ Some (Some (moment_text 2))
  pub unseen_by_cleo : sight after_delete (Actor cleo) ≡ []
  pub unseen : sight after_delete Nobody ≡ []
  pub deleted_once : rule after_delete ana Delete (object_number ana (codes "1")) ≡ Some Gone
  pub not_liked : rule after_delete ben Like (object_number ana (codes "1")) ≡ Some Gone
  pub not_found : rule after_delete cleo Like (object_number ana (codes "1")) ≡ Some NotFound

-- ---- ana changes a public Note, and writes to ben alone

-- a new content, and no summary
abbrev pub revision : Change
revision = record {
  id = object_number ana (codes "1");
  content = Give (codes "New");
  summary = Remove;
  name = Keep;
  url = Keep;
  in_reply_to = Keep;
  tags = Keep;
}

-- a Note with a summary
abbrev pub headed : Object
headed = record (note (to (public_iri ∷ []))) { summary = Some (codes "Old") }

-- the club after all three
abbrev pub after_update : List Entry
after_update = start ++ (posts ana (activity kinds.Create (Whole headed) (to (public_iri ∷ [])))
    ∷ posts ana (activity kinds.Update (Changed revision) no_recipients)
    ∷ notes ana (to (member ben ∷ [])) ∷ [])

-- the Update sets the content, removes the summary and gives the time; it is public as the Note is;
-- others may not change what they see, do not find what they do not see, and may not share what is
-- not public
pub record ChangedNote : Type 0 where
  pub legal : is_legal after_update ≡ true
  pub content :
      option_map (λ o. o.content) (object_at (town after_update) (object_number ana (codes "1")))
      ≡ Some (Some (codes "New"))
  pub summary : option_map (λ o. o.summary)
      (object_at (town after_update) (object_number ana (codes "1"))) ≡ Some None
  pub updated :
      option_map (λ o. o.updated) (object_at (town after_update) (object_number ana (codes "1")))
      ≡ Some (Some (moment_text 2))
  pub public : sight after_update Nobody
      ≡ Some (activity_number ana (codes "1")) ∷ Some (activity_number ana (codes "2")) ∷ []
  pub not_owner : rule after_update ben Update (object_number ana (codes "1")) ≡ Some NotOwner
  pub not_found : rule after_update cleo Update (object_number ana (codes "3")) ≡ Some NotFound
  pub not_public : rule after_update ben Announce (object_number ana (codes "3")) ≡ Some NotPublic
