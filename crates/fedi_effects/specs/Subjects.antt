-- The earlier activity that an activity acts on.
use Rattle.std.specs.Prelude.{ℕ, List, Option, None}
use Rattle.fedi_town.specs.declared.act.Act.{Act}
use Rattle.fedi_town.specs.declared.deed.Deed.{Deed}
use Rattle.fedi_town.specs.declared.deed.Deed.TheVariants.{Create, Update, Delete, Follow, Like}
use Rattle.fedi_town.specs.declared.deed.Deed.TheVariants.{Announce, Block, Accept, Reject, Undo}
use Rattle.fedi_town.specs.declared.deed.Deed.TheVariants.{Other}
use Rattle.fedi_town.specs.Addressing.{act_of}
use Rattle.fedi_town.specs.Objects.{maker_of}
use Rattle.fedi_town.specs.Towns.{Town}

-- The Create of the object that an activity about this changes, deletes, likes or shares, or the
-- activity with this id, which it accepts, rejects or undoes. State, effect and recipients of an
-- activity depend on it.
abbrev pub subject_of : Town → Deed → Option (List ℕ) → Option Act
subject_of t Update id = maker_of t id
subject_of t Delete id = maker_of t id
subject_of t Like id = maker_of t id
subject_of t Announce id = maker_of t id
subject_of t Accept id = act_of t id
subject_of t Reject id = act_of t id
subject_of t Undo id = act_of t id
subject_of t Create id = None
subject_of t Follow id = None
subject_of t Block id = None
subject_of t Other id = None

-- of this, the Create that an Update or a Delete goes back to
abbrev pub original_among : Deed → Option Act → Option Act
original_among Update subject = subject
original_among Delete subject = subject
original_among Create subject = None
original_among Follow subject = None
original_among Like subject = None
original_among Announce subject = None
original_among Block subject = None
original_among Accept subject = None
original_among Reject subject = None
original_among Undo subject = None
original_among Other subject = None
