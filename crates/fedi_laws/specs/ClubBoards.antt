-- Collections that a member of the club makes.
use Rattle.std.specs.Prelude.{◌≡◌, ℕ, true, List, [], ◌∷◌, ◌++◌, length, codes, Some, None}
use Rattle.fedi_address.specs.declared.recipients.Recipients.{Recipients}
use Rattle.fedi_address.specs.Iris.{public_iri}
use Rattle.fedi_objects.specs.declared.activity.ObjectRef.TheVariants.{Id, Whole}
use Rattle.fedi_objects.specs.declared.entry.Entry.{Entry}
use Rattle.fedi_objects.specs.declared.kind.Kind.{Kind}
use Rattle.fedi_objects.specs.declared.kind.Kind.TheVariants as kinds
use Rattle.fedi_objects.specs.declared.kind.State.TheVariants.{Done, Plain}
use Rattle.fedi_town.specs.declared.caller.Caller.TheVariants.{Nobody, Actor}
use Rattle.fedi_town.specs.Addressing.{no_recipients}
use Rattle.fedi_town.specs.Collections.{page_of}
use Rattle.fedi_town.specs.Histories.{town}
use Rattle.fedi_laws.specs.ClubObjects.{notes, whisper}
use Rattle.fedi_laws.specs.Fixture.{ana, ben, cleo, member, object_number, start, to, activity}
use Rattle.fedi_laws.specs.Fixture.{posts, is_legal, states}
use Rattle.fedi_town.specs.Boards.{board_id, boards, pinned}

-- ana's collection
abbrev pub best : List ℕ
best = codes "https://club.example/users/ana/c/best"

-- a member's Add or Remove of one of ana's objects, to or from it
abbrev pub pins : List ℕ → Kind → List ℕ → Recipients → Entry
pins name kind object r =
    posts name (record (activity kind (Id (object_number ana object)) r) { target = Some best })

-- ---- ana puts two Notes into it, the second for ben alone

-- the club after that
abbrev pub after_adds : List Entry
after_adds =
    start ++ (notes ana (to (public_iri ∷ [])) ∷ notes ana (to (public_iri ∷ []))
    ∷ pins ana kinds.Add (codes "1") (to (public_iri ∷ []))
    ∷ pins ana kinds.Add (codes "2") (whisper (member ben)) ∷ [])

-- ---- ana takes the first one out, for nobody to see

-- the club after that
abbrev pub after_remove : List Entry
after_remove = after_adds ++ pins ana kinds.Remove (codes "1") no_recipients ∷ []

-- Everybody sees what the Adds and Removes that they see leave: nobody the first Note, ben both,
-- newest first, and ana the second alone. Only ana has a collection.
pub record OwnBoards : Type 0 where
  pub legal : is_legal after_remove ≡ true
  pub plain : states after_remove ≡ Done ∷ Done ∷ Plain ∷ Plain ∷ Plain ∷ []
  pub spelled : board_id (member ana) (codes "best") ≡ best
  pub added : pinned (town after_adds) Nobody (member ana) (codes "best")
      ≡ object_number ana (codes "1") ∷ []
  pub added_for_ben : pinned (town after_adds) (Actor ben) (member ana) (codes "best")
      ≡ object_number ana (codes "1") ∷ object_number ana (codes "2") ∷ []
  pub page_for_ben : page_of 0 (pinned (town after_adds) (Actor ben) (member ana) (codes "best"))
      ≡ object_number ana (codes "2") ∷ object_number ana (codes "1") ∷ []
  pub left : length (pinned (town after_remove) Nobody (member ana) (codes "best")) ≡ 1
  pub left_for_ben : length (pinned (town after_remove) (Actor ben) (member ana) (codes "best")) ≡ 2
  pub left_for_ana : pinned (town after_remove) (Actor ana) (member ana) (codes "best")
      ≡ object_number ana (codes "2") ∷ []
  pub listed : boards (town after_remove) Nobody (member ana) ≡ best ∷ []
  pub none_of_ben : pinned (town after_remove) Nobody (member ben) (codes "best") ≡ []
  pub none_listed : boards (town after_remove) Nobody (member ben) ≡ []

-- ---- and what changes nothing

-- ben puts a Note into ana's collection; ana puts the first in again; and takes it out, for all
abbrev pub after_all : List Entry
after_all =
    after_adds ++ (pins ben kinds.Add (codes "3") (to (public_iri ∷ []))
    ∷ pins ana kinds.Add (codes "1") (to (public_iri ∷ []))
    ∷ pins ana kinds.Remove (codes "1") (to (public_iri ∷ [])) ∷ [])

-- ben's Add is not for ana's collection; the second Add changes nothing; and nobody has anything
-- left to see, not even that there is a collection, while ben has one
pub record EmptyBoards : Type 0 where
  pub legal : is_legal after_all ≡ true
  pub none : pinned (town after_all) Nobody (member ana) (codes "best") ≡ []
  pub none_listed : boards (town after_all) Nobody (member ana) ≡ []
  pub one : pinned (town after_all) (Actor ben) (member ana) (codes "best")
      ≡ object_number ana (codes "2") ∷ []
  pub one_listed : boards (town after_all) (Actor ben) (member ana) ≡ best ∷ []
