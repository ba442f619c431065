-- Follows and Blocks in the club.
use Rattle.std.specs.Prelude.{◌≡◌, ℕ, true, false, List, [], ◌∷◌, ◌++◌, codes, Some}
use Rattle.std.specs.Str.{bytes_eq}
use Rattle.fedi_town.specs.declared.refusal.Refusal.TheVariants.{NotStanding, Blocked}
use Rattle.fedi_address.specs.Iris.{public_iri}
use Rattle.fedi_objects.specs.declared.activity.ObjectRef.TheVariants.{Id, Whole}
use Rattle.fedi_objects.specs.declared.entry.Entry.{Entry}
use Rattle.fedi_objects.specs.declared.kind.Kind.TheVariants as kinds
use Rattle.fedi_objects.specs.declared.kind.State.TheVariants.{Done, Pending, Accepted, Standing}
use Rattle.fedi_objects.specs.declared.kind.State.TheVariants.{Undone}
use Rattle.fedi_town.specs.declared.caller.Caller.TheVariants.{Nobody, Actor}
use Rattle.fedi_town.specs.declared.caller.Which.TheVariants.{Inbox, Outbox, Followers, Following}
use Rattle.fedi_town.specs.declared.deed.Deed.TheVariants.{Follow, Accept, Undo}
use Rattle.fedi_town.specs.Addressing.{no_recipients}
use Rattle.fedi_town.specs.Histories.{town}
use Rattle.fedi_town.specs.Relations.{followers, follows}
use Rattle.fedi_town.specs.States.{has_room}
use Rattle.fedi_town.specs.Towns.{Town, count_of}
use Rattle.fedi_laws.specs.Fixture.{ana, ben, cleo, dan, member, activity_number, object_number}
use Rattle.fedi_laws.specs.Fixture.{start, to, activity, note, posts, is_legal, states, recipients}
use Rattle.fedi_laws.specs.Fixture.{sight, total, rule}

-- ---- ana follows dan, who is locked and accepts; she undoes it, and follows ben, who is not
-- locked

-- ana asked to follow dan
abbrev pub after_follow : List Entry
after_follow = start ++ posts ana (activity kinds.Follow (Id (member dan)) no_recipients) ∷ []

-- dan accepted
abbrev pub after_accept : List Entry
after_accept =
    after_follow
    ++ posts dan (activity kinds.Accept (Id (activity_number ana (codes "1"))) no_recipients) ∷ []

-- ana undid it
abbrev pub after_undo : List Entry
after_undo =
    after_accept
    ++ posts ana (activity kinds.Undo (Id (activity_number ana (codes "1"))) no_recipients) ∷ []

-- ana followed ben
abbrev pub after_second_follow : List Entry
after_second_follow =
    after_undo ++ posts ana (activity kinds.Follow (Id (member ben)) no_recipients) ∷ []

-- the Follow waits, is accepted once, and is undone once; ben's Accept follows at once
pub record LockedFollow : Type 0 where
  pub legal : is_legal after_second_follow ≡ true
  pub waits : states after_follow ≡ Pending ∷ []
  pub accepted : states after_accept ≡ Accepted ∷ Done ∷ []
  pub follows_not_yet : follows (town after_follow) (member ana) (member dan) ≡ false
  pub follows_now : follows (town after_accept) (member ana) (member dan) ≡ true
  pub follows_no_more : follows (town after_undo) (member ana) (member dan) ≡ false
  pub accepted_once :
      rule after_accept dan Accept (activity_number ana (codes "1")) ≡ Some NotStanding
  pub following : total after_accept (Actor ana) (Following ana) ≡ Some 1
  pub hidden : total after_accept (Actor cleo) (Following ana) ≡ Some 0
  pub ended : states after_undo ≡ Undone ∷ Done ∷ Done ∷ []
  pub following_none : total after_undo (Actor ana) (Following ana) ≡ Some 0
  pub ended_once : rule after_undo ana Undo (activity_number ana (codes "1")) ≡ Some NotStanding
  pub sent : recipients after_undo ≡ (member dan ∷ []) ∷ (member ana ∷ []) ∷ (member dan ∷ []) ∷ []
  pub answered : states after_second_follow ≡ Undone ∷ Done ∷ Done ∷ Accepted ∷ Done ∷ []
  pub answer : sight after_second_follow (Actor ben)
      ≡ Some (activity_number ana (codes "3")) ∷ Some (activity_number ben (codes "1")) ∷ []
  pub in_outbox : total after_second_follow (Actor ben) (Outbox ben) ≡ Some 1

-- ---- ben follows ana; she posts a public Note, blocks ben, and undoes the Block

-- ben followed ana, and she posted a public Note
abbrev pub before_block : List Entry
before_block = start ++ (posts ben (activity kinds.Follow (Id (member ana)) no_recipients)
    ∷ posts ana (activity kinds.Create (Whole (note (to (public_iri ∷ [])))) (to (public_iri ∷ [])))
    ∷ [])

-- she blocked him
abbrev pub after_block : List Entry
after_block = before_block ++ posts ana (activity kinds.Block (Id (member ben)) no_recipients) ∷ []

-- she undid the Block
abbrev pub after_unblock : List Entry
after_unblock =
    after_block
    ++ posts ana (activity kinds.Undo (Id (activity_number ana (codes "3"))) no_recipients) ∷ []

-- the Block ends the Follow and hides the Note from ben, and only from ben; its Undo shows the Note
-- again, but does not restore the Follow; neither goes to anybody
pub record BlockAndUndo : Type 0 where
  pub legal : is_legal after_unblock ≡ true
  pub before : states before_block ≡ Accepted ∷ Done ∷ Done ∷ []
  pub after : states after_block ≡ Undone ∷ Done ∷ Done ∷ Standing ∷ []
  pub none_follow : total after_block (Actor ana) (Followers ana) ≡ Some 0
  pub refused : rule after_block ben Follow (member ana) ≡ Some Blocked
  pub hidden : sight after_block (Actor ben) ≡ Some (activity_number ben (codes "1")) ∷ []
  pub public : sight after_block Nobody ≡ Some (activity_number ana (codes "2")) ∷ []
  pub silent : recipients after_unblock ≡ (member ana ∷ []) ∷ (member ben ∷ []) ∷ [] ∷ [] ∷ [] ∷ []
  pub again : sight after_unblock (Actor ben)
      ≡ Some (activity_number ben (codes "1")) ∷ Some (activity_number ana (codes "1"))
      ∷ Some (activity_number ana (codes "2")) ∷ []
  pub still_none : total after_unblock (Actor ana) (Followers ana) ≡ Some 0

-- ---- ben follows ana, who posts to her followers; cleo follows her later

-- ana's followers collection
abbrev pub fans : List (List ℕ)
fans = (member ana ++ codes "/followers") ∷ []

-- ben followed ana, and she posted a Note to her followers
abbrev pub after_note : List Entry
after_note = start ++ (posts ben (activity kinds.Follow (Id (member ana)) no_recipients)
    ∷ posts ana (activity kinds.Create (Whole (note (to fans))) (to fans)) ∷ [])

-- cleo followed her later
abbrev pub after_late_follow : List Entry
after_late_follow =
    after_note ++ posts cleo (activity kinds.Follow (Id (member ana)) no_recipients) ∷ []

-- the Note goes to those who follow when it is accepted, and those who follow later see it too
pub record PostToFollowers : Type 0 where
  pub legal : is_legal after_late_follow ≡ true
  pub sent : recipients after_note ≡ (member ana ∷ []) ∷ (member ben ∷ []) ∷ (member ben ∷ []) ∷ []
  pub follower : sight after_note (Actor ben)
      ≡ Some (activity_number ben (codes "1")) ∷ Some (activity_number ana (codes "1"))
      ∷ Some (activity_number ana (codes "2")) ∷ []
  pub stranger : sight after_note (Actor cleo) ≡ []
  pub both : followers (town after_late_follow) (member ana) ≡ member ben ∷ member cleo ∷ []
  pub later : sight after_late_follow (Actor cleo)
      ≡ Some (activity_number ana (codes "2")) ∷ Some (activity_number cleo (codes "1"))
      ∷ Some (activity_number ana (codes "3")) ∷ []

-- ---- ana posts to her followers before there is one; ben follows her later

-- she posted the Note
abbrev pub before_first_follow : List Entry
before_first_follow =
    start ++ posts ana (activity kinds.Create (Whole (note (to fans))) (to fans)) ∷ []

-- ben followed her
abbrev pub after_first_follow : List Entry
after_first_follow =
    before_first_follow ++ posts ben (activity kinds.Follow (Id (member ana)) no_recipients) ∷ []

-- he undid it
abbrev pub after_unfollow : List Entry
after_unfollow =
    after_first_follow
    ++ posts ben (activity kinds.Undo (Id (activity_number ben (codes "1"))) no_recipients) ∷ []

-- she ended it
abbrev pub after_reject : List Entry
after_reject =
    after_first_follow
    ++ posts ana (activity kinds.Reject (Id (activity_number ben (codes "1"))) no_recipients) ∷ []

-- she blocked him
abbrev pub after_parting : List Entry
after_parting =
    after_first_follow ++ posts ana (activity kinds.Block (Id (member ben)) no_recipients) ∷ []

-- ana deleted the object, and ben learns of it as he follows her
abbrev pub after_delete : List Entry
after_delete =
    after_first_follow
    ++ posts ana (activity kinds.Delete (Id (object_number ana (codes "1"))) no_recipients) ∷ []

-- The Note went to nobody. Ben sees it from his Follow on, in ana's outbox but not in his inbox,
-- until the Follow ends by his Undo, by ana's Reject or by a Block. He sees its Delete in the same
-- way. Nobody else sees it.
pub record LateFollower : Type 0 where
  pub legal : is_legal after_unfollow ≡ true
  pub sent : recipients after_first_follow ≡ [] ∷ (member ana ∷ []) ∷ (member ben ∷ []) ∷ []
  pub before : sight before_first_follow (Actor ben) ≡ []
  pub after : sight after_first_follow (Actor ben)
      ≡ Some (activity_number ana (codes "1")) ∷ Some (activity_number ben (codes "1"))
      ∷ Some (activity_number ana (codes "2")) ∷ []
  pub in_outbox : total after_first_follow (Actor ben) (Outbox ana) ≡ Some 2
  pub in_inbox : total after_first_follow (Actor ben) (Inbox ben) ≡ Some 1
  pub stranger : sight after_first_follow (Actor cleo) ≡ []
  pub nobody : sight after_first_follow Nobody ≡ []
  pub undone : sight after_unfollow (Actor ben)
      ≡ Some (activity_number ben (codes "1")) ∷ Some (activity_number ana (codes "2"))
      ∷ Some (activity_number ben (codes "2")) ∷ []
  pub legal_reject : is_legal after_reject ≡ true
  pub rejected : sight after_reject (Actor ben)
      ≡ Some (activity_number ben (codes "1")) ∷ Some (activity_number ana (codes "2"))
      ∷ Some (activity_number ana (codes "3")) ∷ []
  pub legal_block : is_legal after_parting ≡ true
  pub blocked : sight after_parting (Actor ben) ≡ Some (activity_number ben (codes "1")) ∷ []
  pub legal_delete : is_legal after_delete ≡ true
  pub deleted : sight after_delete (Actor ben)
      ≡ Some (activity_number ana (codes "1")) ∷ Some (activity_number ben (codes "1"))
      ∷ Some (activity_number ana (codes "2"))
      ∷ Some (activity_number ana (codes "3")) ∷ []

-- ---- the last number

-- a member with the last number but one can answer the Follow of another, and a member with the
-- last number cannot
pub record LastNumber : Type 0 where
  pub last : (t : Town) (a b : List ℕ) → count_of t b ≡ 4294967294 → bytes_eq a b ≡ false
      → has_room t a b ≡ true
  pub full : (t : Town) (a b : List ℕ) → count_of t b ≡ 4294967295 → has_room t a b ≡ false
