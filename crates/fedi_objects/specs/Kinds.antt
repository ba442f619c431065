-- The types of activities (ActivityStreams 2.0 Vocabulary, section 3.1), and the names of the
-- states.
use Rattle.std.specs.Prelude.{ℕ, List, [], ◌∷◌, codes, Bool, true, false}
use Rattle.fedi_objects.specs.declared.kind.Kind.{Kind}
use Rattle.fedi_objects.specs.declared.kind.Kind.TheVariants.{
  Accept,
  Add,
  Announce,
  Arrive,
  Block,
  Create,
  Delete,
  Dislike,
  Flag,
  Follow,
  Ignore,
  Invite,
  Join,
  Leave,
  Like,
  Listen,
  Move,
  Offer,
  Question,
  Read,
  Reject,
  Remove,
  TentativeAccept,
  TentativeReject,
  Travel,
  Undo,
  Update,
  View,
}
use Rattle.fedi_objects.specs.declared.kind.State.{State}
use Rattle.fedi_objects.specs.declared.kind.State.TheVariants.{Plain, Done, Pending, Accepted}
use Rattle.fedi_objects.specs.declared.kind.State.TheVariants.{Rejected, Standing, Undone}

-- the types, in alphabetical order
abbrev pub kinds : List Kind
kinds =
    Accept ∷ Add ∷ Announce ∷ Arrive ∷ Block ∷ Create ∷ Delete ∷ Dislike ∷ Flag ∷ Follow ∷ Ignore
    ∷ Invite ∷ Join ∷ Leave ∷ Like ∷ Listen ∷ Move ∷ Offer ∷ Question ∷ Read ∷ Reject ∷ Remove
    ∷ TentativeAccept ∷ TentativeReject ∷ Travel ∷ Undo ∷ Update ∷ View ∷ []

-- the position of a type among the 28, in alphabetical order
abbrev pub kind_number : Kind → ℕ
kind_number Accept = 1
kind_number Add = 2
kind_number Announce = 3
kind_number Arrive = 4
kind_number Block = 5
kind_number Create = 6
kind_number Delete = 7
kind_number Dislike = 8
kind_number Flag = 9
kind_number Follow = 10
kind_number Ignore = 11
kind_number Invite = 12
kind_number Join = 13
kind_number Leave = 14
kind_number Like = 15
kind_number Listen = 16
kind_number Move = 17
kind_number Offer = 18
kind_number Question = 19
kind_number Read = 20
kind_number Reject = 21
kind_number Remove = 22
kind_number TentativeAccept = 23
kind_number TentativeReject = 24
kind_number Travel = 25
kind_number Undo = 26
kind_number Update = 27
kind_number View = 28

-- the name of the type, as spelled in the vocabulary
abbrev pub kind_name : Kind → List ℕ
kind_name Accept = codes "Accept"
kind_name Add = codes "Add"
kind_name Announce = codes "Announce"
kind_name Arrive = codes "Arrive"
kind_name Block = codes "Block"
kind_name Create = codes "Create"
kind_name Delete = codes "Delete"
kind_name Dislike = codes "Dislike"
kind_name Flag = codes "Flag"
kind_name Follow = codes "Follow"
kind_name Ignore = codes "Ignore"
kind_name Invite = codes "Invite"
kind_name Join = codes "Join"
kind_name Leave = codes "Leave"
kind_name Like = codes "Like"
kind_name Listen = codes "Listen"
kind_name Move = codes "Move"
kind_name Offer = codes "Offer"
kind_name Question = codes "Question"
kind_name Read = codes "Read"
kind_name Reject = codes "Reject"
kind_name Remove = codes "Remove"
kind_name TentativeAccept = codes "TentativeAccept"
kind_name TentativeReject = codes "TentativeReject"
kind_name Travel = codes "Travel"
kind_name Undo = codes "Undo"
kind_name Update = codes "Update"
kind_name View = codes "View"

-- the type of an activity that makes an object
abbrev pub is_create : Kind → Bool
is_create Create = true
is_create _ = false

-- a state's name, in lower case
abbrev pub state_name : State → List ℕ
state_name Plain = codes "plain"
state_name Done = codes "done"
state_name Pending = codes "pending"
state_name Accepted = codes "accepted"
state_name Rejected = codes "rejected"
state_name Standing = codes "standing"
state_name Undone = codes "undone"
