-- The rules that a member's post may break (ActivityPub, section 6). They depend on what the author
-- sees: anything else does not exist for the author (section 3.2).
use Rattle.std.specs.Prelude.{ℕ, Bool, true, false, not, ◌&&◌, List, Option, Some, None}
use Rattle.std.specs.List.{find}
use Rattle.fedi_town.specs.declared.refusal.Refusal.{Refusal}
use Rattle.fedi_town.specs.declared.refusal.Refusal.TheVariants.{NotFound, NotOwner, Gone, Blocked}
use Rattle.fedi_town.specs.declared.refusal.Refusal.TheVariants.{NotPublic, NotStanding, ActorFull}
use Rattle.fedi_objects.specs.declared.activity.Activity.{Activity}
use Rattle.fedi_objects.specs.declared.kind.State.{State}
use Rattle.fedi_town.specs.declared.act.Act.{Act}
use Rattle.fedi_town.specs.declared.caller.Caller.{Caller}
use Rattle.fedi_town.specs.declared.deed.Deed.{Deed}
use Rattle.fedi_town.specs.declared.deed.Deed.TheVariants.{Create, Update, Delete, Follow, Like}
use Rattle.fedi_town.specs.declared.deed.Deed.TheVariants.{Announce, Block, Accept, Reject, Undo}
use Rattle.fedi_town.specs.declared.deed.Deed.TheVariants.{Other}
use Rattle.fedi_town.specs.Addressing.{is_nobody_here}
use Rattle.fedi_town.specs.Deeds.{deed_of, is_follow, is_open, is_pending}
use Rattle.fedi_town.specs.Objects.{makes, is_deleted}
use Rattle.fedi_town.specs.Relations.{ref_id, has_activity_id, is_about, has_block_between}
use Rattle.fedi_town.specs.Seeing.{seen}
use Rattle.fedi_town.specs.States.{can_be_undone}
use Rattle.fedi_town.specs.Towns.{Town, deed, is_by, has_next, count_of}

-- this refusal if the condition holds, else the result of the further rules
abbrev pub refuse_if : Bool → Refusal → Option Refusal → Option Refusal
refuse_if true r rest = Some r
refuse_if false r rest = rest

-- an Update or a Delete: of the author's own object, which was not deleted
abbrev pub change_rule : List ℕ → Option Act → Option Refusal
change_rule author None = Some NotFound
change_rule author (Some m) =
    refuse_if (not (is_by author m)) NotOwner (refuse_if (is_deleted m) Gone None)

-- a Like: of an object that was not deleted
abbrev pub like_rule : Option Act → Option Refusal
like_rule None = Some NotFound
like_rule (Some m) = refuse_if (is_deleted m) Gone None

-- an Announce: of an object that was not deleted and is public
abbrev pub announce_rule : Option Act → Option Refusal
announce_rule None = Some NotFound
announce_rule (Some m) = refuse_if (is_deleted m) Gone (refuse_if (not m.is_public) NotPublic None)

-- an Accept or a Reject: of a Follow of the author that is in such a state
abbrev pub answer_rule : (State → Bool) → List ℕ → Option Act → Option Refusal
answer_rule p author None = Some NotFound
answer_rule p author (Some f) =
    refuse_if (not (is_follow (deed f) && is_about author f)) NotFound
    (refuse_if (not (p f.state)) NotStanding None)

-- an Undo: of the author's own activity, which can be undone
abbrev pub undo_rule : List ℕ → Option Act → Option Refusal
undo_rule author None = Some NotFound
undo_rule author (Some y) =
    refuse_if (not (is_by author y)) NotOwner (refuse_if (not (can_be_undone y)) NotStanding None)

-- the activity that made the object with this id, if the caller sees it
abbrev pub seen_maker : Town → Caller → List ℕ → Option Act
seen_maker t c id = find (makes id) (seen t c)

-- the activity with this id, if the caller sees it
abbrev pub seen_act : Town → Caller → List ℕ → Option Act
seen_act t c id = find (has_activity_id id) (seen t c)

-- the first rule that the author's activity about this id breaks
unfoldable pub broken_about : Town → Caller → List ℕ → Deed → List ℕ → Option Refusal
broken_about t c author Create id = None
broken_about t c author Update id = change_rule author (seen_maker t c id)
broken_about t c author Delete id = change_rule author (seen_maker t c id)
broken_about t c author Follow id =
    refuse_if (is_nobody_here t id) NotFound
    (refuse_if (has_block_between t author id) Blocked None)
broken_about t c author Like id = like_rule (seen_maker t c id)
broken_about t c author Announce id = announce_rule (seen_maker t c id)
broken_about t c author Block id = refuse_if (is_nobody_here t id) NotFound None
broken_about t c author Accept id = answer_rule is_pending author (seen_act t c id)
broken_about t c author Reject id = answer_rule is_open author (seen_act t c id)
broken_about t c author Undo id = undo_rule author (seen_act t c id)
broken_about t c author Other id = None

-- the first rule that the author's activity breaks
abbrev pub broken : Town → Caller → List ℕ → Deed → Option (List ℕ) → Option Refusal
broken t c author d None = None
broken t c author d (Some id) = broken_about t c author d id

-- ---- a post

-- the author has as many activities as there are numbers
abbrev pub number_rule : Town → List ℕ → Option Refusal
number_rule t author = refuse_if (not (has_next (count_of t author))) ActorFull None

-- the first of two rules that is broken
abbrev pub first_broken : Option Refusal → Option Refusal → Option Refusal
first_broken None second = second
first_broken (Some r) second = Some r

-- the first rule that the author's post breaks; the last rule is that there is a number for it
abbrev pub broken_post : Town → Caller → List ℕ → Activity → Option Refusal
broken_post t c author a =
    first_broken (broken t c author (deed_of a.kind) (ref_id a.object)) (number_rule t author)
