use Rattle.std.proofs.Common.{◌∙◌, ap, refl, Some, subst}
use Rattle.fedi_outside.specs.Doors.{coming_by}
use Rattle.fedi_outside.specs.MemoryDoors.{IsNewTurn, MemoryDoorState, line_left, line_sent}
use Rattle.fedi_outside.proofs.MemoryDoorSteps.{none_out, owed_as_before, owed_idle, owed_by_turn, turn_new, turns_left}
use Rattle.fedi_outside.proofs.memory_doors.MemoryDoorDoor.next.Goals as goal

pub invariant_of-self : goal.invariant_of-self
invariant_of-self c = (
  turns_left _ _ _ c.next.ensures.items c.self.invariant.0,
  owed_by_turn _ _ _ _ _ _ c.in-Some-Line.ensures.items c.self.invariant.1,
)

pub invariant_of-self-in-Idle-1 : goal.invariant_of-self-in-Idle-1
invariant_of-self-in-Idle-1 c = (
  turns_left _ _ _ c.next.ensures.items c.self.invariant.0,
  owed_idle (λ s. coming_by line_left line_sent s.value) _ _ _ _ _ _ _ (none_out _ _ (ap (λ (d : MemoryDoorState). d.out) c.self.view_is) c.requires.out) c.in-Some-Idle.ensures.items c.self.invariant.1,
)

pub invariant_of-self-in-Failed-1 : goal.invariant_of-self-in-Failed-1
invariant_of-self-in-Failed-1 c = (
  turns_left _ _ _ c.next.ensures.items c.self.invariant.0,
  owed_as_before _ _ _ _ _ _ c.next.ensures.items c.self.invariant.1,
)

pub invariant_of-self-in-Some-Closed : goal.invariant_of-self-in-Some-Closed
invariant_of-self-in-Some-Closed c = (
  turns_left _ _ _ c.next.ensures.items c.self.invariant.0,
  owed_as_before _ _ _ _ _ _ c.next.ensures.items c.self.invariant.1,
)

pub returns-in-Some-Line-clause-gives : goal.returns-in-Some-Line-clause-gives
returns-in-Some-Line-clause-gives c = (
  ap (λ l. Some (coming_by line_left line_sent l)) c.of.ensures,
  ap (λ (d : MemoryDoorState). d.idle) c.self.view_is ∙ c.requires.idle,
  refl,
  subst IsNewTurn c.in-Some-Line.field-0-is (turn_new _ _ _ c.in-Some-Line.ensures.items c.self.invariant.0),
)
