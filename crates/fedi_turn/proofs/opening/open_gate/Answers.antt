use Rattle.std.proofs.Common.{◌≡◌, ◌∷◌, [], Some, arith}
use Rattle.std.proofs.lemmas.Grind.{common_steps}
use Rattle.fedi_turn.proofs.GateSteps.{open_asks}
use Rattle.fedi_turn.proofs.opening.open_gate.Goals as goal

pub new-requires : goal.new-requires
new-requires g c =
    let e : c.push.new.self.items ≡ Some c.args.content ∷ [] = grind (arith, common_steps) in
    open_asks g.V.Grows.list g.V.Grows.base c.of-key.result.value c.args.content c.push.new.self.items c.of-key.ensures e c.requires
