use Rattle.fedi_program.proofs.FillLemmas.{moves_out}
use Rattle.fedi_program.proofs.filling.move_out.Goals as goal

pub returns : goal.returns
returns g c = moves_out g.D.Disk _ _ _ _ _ _ _ (g.met.P.Keeper.told_held c.args.from) c.move_records.ensures.moved c.move_records.ensures.kept
