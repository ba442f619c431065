use Rattle.std.proofs.Common.{◌≡◌, ◌≤◌, length, vec_capacity}
use Rattle.fedi_world.proofs.Started.{AreOpened}
use Rattle.fedi_world.proofs.world.World.start.Given as goal

abbrev pub invariant-servers : goal.invariant-servers
invariant-servers g l = record {
  opened : AreOpened l.seats.items l.yielded;
  room : length l.fn.cores.items ≤ vec_capacity l.seats;
}
