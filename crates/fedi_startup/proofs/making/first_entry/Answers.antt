use Rattle.std.proofs.Common.{◌<◌, subst, List, ℕ}
use Rattle.std.specs.Prelude.{IsUtf8}
use Rattle.fedi_startup.proofs.MakingSteps.{first_sound}
use Rattle.fedi_startup.proofs.making.first_entry.Goals as goal

pub returns-clause-sound : goal.returns-clause-sound
returns-clause-sound c =
    first_sound c.args.host c.args.moment (subst (λ (text : List ℕ). IsUtf8 text) c.text.ensures.value c.text.utf8) c.text.ensures.host
    (subst (λ (n : ℕ). n < 253402300800) c.seconds.ensures.value c.seconds.ensures.bound)
