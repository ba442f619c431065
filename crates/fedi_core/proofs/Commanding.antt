-- A command that breaks no rule is an entry that may be kept.
use Rattle.std.proofs.Common.{◌≡◌, None, refl}
use Rattle.fedi_objects.specs.declared.entry.Entry.{Entry}
use Rattle.fedi_objects.specs.declared.entry.Entry.TheVariants.{Hosted, Made, PeerSet, Local, Remote, Tried}
use Rattle.fedi_town.specs.Legal.{broken_command}
use Rattle.fedi_town.specs.Towns.{Town}
use Rattle.fedi_core.specs.Commands.{IsCommand}
use Rattle.fedi_core.specs.Keeping.{MayAdd}

pub command_may : (t : Town) (e : Entry) → IsCommand t e → broken_command t e ≡ None → MayAdd t e
command_may t (Hosted host moment) c whole = absurd c
command_may t (Made name digest locked moment) c whole = record { admissible = rw (c.0, c.1, whole) refl; attempt = tt }
command_may t (PeerSet host key address relay moment) c whole = record { admissible = rw (c.0, c.1, whole) refl; attempt = tt }
command_may t (Local name repeat a moment) c whole = absurd c
command_may t (Remote peer inbox a moment) c whole = absurd c
command_may t (Tried activity recipient came moment) c whole = absurd c
