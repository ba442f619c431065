use Rattle.std.proofs.Common.{List, ℕ, lit<, subst}
use Rattle.std.specs.Prelude.{IsUtf8}
use Rattle.fedi_servers.specs.Founding.{moment}
use Rattle.fedi_servers.proofs.NewMachines.{first_next}
use Rattle.fedi_servers.proofs.making.first_entry.Goals as goal

pub returns-clause-next : goal.returns-clause-next
returns-clause-next c =
    first_next c.args.host moment (subst (λ (text : List ℕ). IsUtf8 text) c.text.ensures.value c.text.utf8)
    c.text.ensures.host (lit< tt)
