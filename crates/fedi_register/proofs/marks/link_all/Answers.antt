use Rattle.std.proofs.Common.{refl}
use Rattle.fedi_register.proofs.Chains.{none_chained, none_headed}
use Rattle.fedi_register.proofs.marks.link_all.Goals as goal

pub loop-place-init : goal.loop-place-init
loop-place-init c = (refl, refl, none_chained _ _, none_headed _ _ _ c.requires.empty)
