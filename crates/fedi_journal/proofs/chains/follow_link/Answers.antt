use Rattle.std.proofs.Common.{ap, ◌∙◌, sym}
use Rattle.fedi_outside.specs.Disks.{DiskState}
use Rattle.fedi_journal.proofs.chains.follow_link.Goals as goal

pub returns-then-there-clause-found : goal.returns-then-there-clause-found
returns-then-there-clause-found g c = λ bytes is.
    (c.in_ok-next.ensures.next bytes is, c.in_ok-there.ensures.yes bytes (ap (λ (d : DiskState). d.reads) c.in_ok-next.ensures.shown ∙ is) c.if-there.true)

pub returns-else-there-clause-found : goal.returns-else-there-clause-found
returns-else-there-clause-found g c = λ bytes is here.
    absurd (cc (c.if-there.false, c.in_ok-there.ensures.no bytes (ap (λ (d : DiskState). d.reads) c.in_ok-next.ensures.shown ∙ is) (here ∙ sym (c.in_ok-next.ensures.next bytes is))))
