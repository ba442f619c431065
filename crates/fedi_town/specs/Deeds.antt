-- What an activity does, by its type (ActivityStreams 2.0 Vocabulary, section 3.1; ActivityPub,
-- sections 6 and 7), and what its state says.
use Rattle.std.specs.Prelude.{Bool, true, false}
use Rattle.fedi_objects.specs.declared.kind.Kind.{Kind}
use Rattle.fedi_objects.specs.declared.kind.Kind.TheVariants as kinds
use Rattle.fedi_objects.specs.declared.kind.State.{State}
use Rattle.fedi_objects.specs.declared.kind.State.TheVariants.{Done, Pending, Accepted, Standing}
use Rattle.fedi_town.specs.declared.deed.Deed.{Deed}
use Rattle.fedi_town.specs.declared.deed.Deed.TheVariants.{Create, Update, Delete, Follow, Like}
use Rattle.fedi_town.specs.declared.deed.Deed.TheVariants.{Announce, Block, Accept, Reject, Undo}
use Rattle.fedi_town.specs.declared.deed.Deed.TheVariants.{Other}

-- what an activity of this type does
abbrev pub deed_of : Kind → Deed
deed_of kinds.Create = Create
deed_of kinds.Update = Update
deed_of kinds.Delete = Delete
deed_of kinds.Follow = Follow
deed_of kinds.Like = Like
deed_of kinds.Announce = Announce
deed_of kinds.Block = Block
deed_of kinds.Accept = Accept
deed_of kinds.Reject = Reject
deed_of kinds.Undo = Undo
deed_of _ = Other

-- it makes an object (ActivityPub, section 6.2)
abbrev pub is_create : Deed → Bool
is_create Create = true
is_create _ = false

-- it changes an object (ActivityPub, section 6.3)
abbrev pub is_update : Deed → Bool
is_update Update = true
is_update _ = false

-- it leaves a Tombstone (ActivityPub, section 6.4)
abbrev pub is_delete : Deed → Bool
is_delete Delete = true
is_delete _ = false

-- it asks to follow (ActivityPub, section 6.5)
abbrev pub is_follow : Deed → Bool
is_follow Follow = true
is_follow _ = false

-- it likes an object (ActivityPub, section 6.8)
abbrev pub is_like : Deed → Bool
is_like Like = true
is_like _ = false

-- it shares an object (ActivityPub, section 7.11)
abbrev pub is_announce : Deed → Bool
is_announce Announce = true
is_announce _ = false

-- it keeps an actor away (ActivityPub, section 6.9)
abbrev pub is_block : Deed → Bool
is_block Block = true
is_block _ = false

-- it has no side effect here
abbrev pub is_other : Deed → Bool
is_other Other = true
is_other _ = false

-- whatever becomes of it, an activity that does this changes no earlier one
abbrev pub changes_nothing : Deed → Bool
changes_nothing Create = true
changes_nothing Follow = true
changes_nothing Like = true
changes_nothing Announce = true
changes_nothing Other = true
changes_nothing Update = false
changes_nothing Delete = false
changes_nothing Block = false
changes_nothing Accept = false
changes_nothing Reject = false
changes_nothing Undo = false

-- ---- states

-- its effect has happened
abbrev pub is_done : State → Bool
is_done Done = true
is_done _ = false

-- it is a Follow that waits for an answer
abbrev pub is_pending : State → Bool
is_pending Pending = true
is_pending _ = false

-- it is a Follow that was accepted
abbrev pub is_accepted : State → Bool
is_accepted Accepted = true
is_accepted _ = false

-- it is a Follow that waits or was accepted
abbrev pub is_open : State → Bool
is_open Pending = true
is_open Accepted = true
is_open _ = false

-- it is a Like, an Announce or a Block that is in force
abbrev pub is_standing : State → Bool
is_standing Standing = true
is_standing _ = false
