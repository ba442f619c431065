-- The state in which an activity is accepted: whether its side effect happens (ActivityPub,
-- sections 6 and 7).
use Rattle.std.specs.Prelude.{ℕ, Bool, true, false, not, ◌&&◌, ◌||◌, List, Option, Some, None}
use Rattle.std.specs.Prelude.{if◌then◌else◌}
use Rattle.std.specs.List.{list_any}
use Rattle.std.specs.Str.{bytes_eq}
use Rattle.fedi_objects.specs.declared.activity.ObjectRef.{ObjectRef}
use Rattle.fedi_objects.specs.declared.kind.State.{State}
use Rattle.fedi_objects.specs.declared.kind.State.TheVariants.{Plain, Done, Pending, Accepted}
use Rattle.fedi_objects.specs.declared.kind.State.TheVariants.{Rejected, Standing}
use Rattle.fedi_town.specs.declared.act.Act.{Act}
use Rattle.fedi_town.specs.declared.deed.Deed.{Deed}
use Rattle.fedi_town.specs.declared.deed.Deed.TheVariants.{Create, Update, Delete, Follow, Like}
use Rattle.fedi_town.specs.declared.deed.Deed.TheVariants.{Announce, Block, Accept, Reject, Undo}
use Rattle.fedi_town.specs.declared.deed.Deed.TheVariants.{Other}
use Rattle.fedi_town.specs.Addressing.{act_of}
use Rattle.fedi_town.specs.Deeds.{is_follow, is_like, is_announce, is_block, is_open, is_pending}
use Rattle.fedi_town.specs.Deeds.{is_standing}
use Rattle.fedi_town.specs.Objects.{makes, maker, is_deleted, is_whole}
use Rattle.fedi_town.specs.Relations.{ref_id, is_about, has_block_between, is_actor, blocks}
use Rattle.fedi_town.specs.Seeing.{sees_as}
use Rattle.fedi_town.specs.Towns.{Town, deed, is_by, has_id, has_next, count_after}

-- the state if the condition holds, else Plain
abbrev pub only_where : Bool → State → State
only_where true s = s
only_where false s = Plain

-- ---- objects

-- the object was made by this author, and was not deleted
abbrev pub is_own_live : List ℕ → Option Act → Bool
is_own_live author None = false
is_own_live author (Some m) = is_by author m && not (is_deleted m)

-- the object was not deleted, and the author sees its Create
abbrev pub is_live_to : Town → List ℕ → Option Act → Bool
is_live_to t author None = false
is_live_to t author (Some m) = sees_as t author m && not (is_deleted m)

-- the object's Create is public
abbrev pub is_public_act : Option Act → Bool
is_public_act None = false
is_public_act (Some m) = m.is_public

-- a Like of this by a that is in force
unfoldable pub is_like_of : List ℕ → List ℕ → Act → Bool
is_like_of a id x = (is_like (deed x) && is_standing x.state) && (is_by a x && is_about id x)

-- an Announce of this by a that is in force
unfoldable pub is_announce_of : List ℕ → List ℕ → Act → Bool
is_announce_of a id x =
    (is_announce (deed x) && is_standing x.state) && (is_by a x && is_about id x)

-- ---- Follows

-- b has room for one more activity after this one by the author
unfoldable pub has_room : Town → List ℕ → List ℕ → Bool
has_room t author b = has_next (count_after t author b)

-- Follows of this member wait for an answer
unfoldable pub is_locked : Town → List ℕ → Bool
is_locked t b = list_any (λ a. has_id b a && a.locked) t.actors

-- What becomes of a Follow of this member. A Block rejects it. Otherwise it is accepted at once if
-- the member is not locked and has room for the Accept (ActivityPub, section 7.5).
unfoldable pub follow_state : Town → List ℕ → List ℕ → State
follow_state t author b =
    if has_block_between t author b then Rejected else (
    if not (is_locked t b) && has_room t author b then Accepted else Pending)

-- it is a Follow of this author, in such a state
abbrev pub is_follow_for : (State → Bool) → List ℕ → Option Act → Bool
is_follow_for p author None = false
is_follow_for p author (Some f) = (is_follow (deed f) && p f.state) && is_about author f

-- ---- what can be undone

-- a Follow that waits or was accepted, or a Like, an Announce or a Block that is in force
-- (ActivityPub, section 6.10)
unfoldable pub can_be_undone : Act → Bool
can_be_undone x =
    (is_follow (deed x) && is_open x.state)
    || ((is_like (deed x) || (is_announce (deed x) || is_block (deed x))) && is_standing x.state)

-- it is the author's, and can be undone
abbrev pub is_own_undoable : List ℕ → Option Act → Bool
is_own_undoable author None = false
is_own_undoable author (Some x) = is_by author x && can_be_undone x

-- ---- the table

-- The state of the author's activity about this id. `local` says that the author is a member, and
-- `full` that the activity carries the object.
abbrev pub state_about : Town → Bool → List ℕ → Deed → Bool → List ℕ → State
state_about t local author Create full id =
    only_where (full && not (list_any (makes id) t.acts)) Done
state_about t local author Update full id =
    only_where ((local || full) && is_own_live author (maker t id)) Done
state_about t local author Delete full id = only_where (is_own_live author (maker t id)) Done
state_about t local author Follow full id =
    if is_actor t id then follow_state t author id else only_where local Pending
state_about t local author Like full id =
    only_where
    (is_live_to t author (maker t id) && not (list_any (is_like_of author id) t.acts)) Standing
state_about t local author Announce full id =
    only_where (is_live_to t author (maker t id)
    && (is_public_act (maker t id) && not (list_any (is_announce_of author id) t.acts))) Standing
state_about t local author Block full id =
    only_where (not (blocks t author id) && not (bytes_eq id author)) Standing
state_about t local author Accept full id =
    only_where (is_follow_for is_pending author (act_of t (Some id))) Done
state_about t local author Reject full id =
    only_where (is_follow_for is_open author (act_of t (Some id))) Done
state_about t local author Undo full id =
    only_where (is_own_undoable author (act_of t (Some id))) Done
state_about t local author Other full id = Plain

-- an activity that is about nothing has no side effect
abbrev pub state_with : Town → Bool → List ℕ → Deed → Bool → Option (List ℕ) → State
state_with t local author d full None = Plain
state_with t local author d full (Some id) = state_about t local author d full id

-- the state of the author's activity that does this and is about this
unfoldable pub state_of : Town → Bool → List ℕ → Deed → ObjectRef → State
state_of t local author d object = state_with t local author d (is_whole object) (ref_id object)
