-- What each effect does to one earlier activity.
use Rattle.std.specs.Prelude.{ℕ, Bool, true, false, not, ◌&&◌, nat_lt, List, [], ◌∷◌, ◌++◌, length}
use Rattle.std.specs.Prelude.{Option, Some, None, option_map, if◌then◌else◌}
use Rattle.std.specs.List.{find, position_or_len}
use Rattle.fedi_objects.specs.declared.kind.State.{State}
use Rattle.fedi_objects.specs.declared.kind.State.TheVariants.{Plain, Done, Pending, Accepted}
use Rattle.fedi_objects.specs.declared.kind.State.TheVariants.{Rejected, Standing, Undone}
use Rattle.fedi_town.specs.declared.act.Act.{Act}
use Rattle.fedi_town.specs.declared.effect.Effect.TheVariants as effects
use Rattle.fedi_town.specs.Effects.{affect}
use Rattle.fedi_town.specs.Lists.{PassesOnce}
use Rattle.fedi_town.specs.Objects.{makes}
use Rattle.fedi_town.specs.Relations.{has_activity_id, is_open_follow}

-- the activity after a Block
unfoldable pub end_both : List ℕ → List ℕ → Act → Act
end_both a b y = affect (effects.EndBoth a b) y

-- the activity after an Accept
unfoldable pub accept_one : List ℕ → Act → Act
accept_one id y = affect (effects.Accept id) y

-- the activity after the Undo of anything but a Follow
unfoldable pub undo_one : List ℕ → Act → Act
undo_one id y = affect (effects.Undo id) y

-- no object was created twice
abbrev pub AreMadeOnce : List Act → Type 0
AreMadeOnce acts = (id : List ℕ) → PassesOnce (makes id) acts

-- ---- one change after the other

-- the position of the first item that passes, if there is one
abbrev pub place_where : {A : Type 0} → (A → Bool) → List A → Option ℕ
place_where p xs =
    if nat_lt (position_or_len p xs) (length xs) then Some (position_or_len p xs) else None

-- two states are the same
abbrev pub is_state : State → State → Bool
is_state Plain Plain = true
is_state Done Done = true
is_state Pending Pending = true
is_state Accepted Accepted = true
is_state Rejected Rejected = true
is_state Standing Standing = true
is_state Undone Undone = true
is_state _ _ = false

-- it is a Follow of b by a that is pending or was accepted and is not in this state
unfoldable pub is_unended : List ℕ → List ℕ → State → Act → Bool
is_unended a b s y = is_open_follow a b y && not (is_state y.state s)

-- ---- inboxes

-- the recipients of the activity with this id, with one more added
abbrev pub longer_of : List ℕ → List ℕ → List Act → Option (List (List ℕ))
longer_of id owner acts =
    option_map (λ x. x.recipients ++ owner ∷ []) (find (has_activity_id id) acts)
