use Rattle.std.proofs.Common.{Some}
use Rattle.std.proofs.lemmas.List.Elements.{All-pop}
use Rattle.fedi_turn.specs.Turn.{IsIdle}
use Rattle.fedi_hall_tests.specs.contracts.tally.TallyGrows.TheImpl.{ghosts}
use Rattle.fedi_hall_tests.proofs.turns.too_few_passes_come_back_and_then_all_close.Goals as goal

pub close-requires : goal.close-requires
close-requires g c =
    (All-pop (IsIdle ghosts c.in-Some.lock) c.all_turns-passes.result.items c.pop.new.self.items (Some c.in-Some-pop.last) c.in-Some-pop.ensures.items
    c.all_turns-passes.ensures.idle).0
