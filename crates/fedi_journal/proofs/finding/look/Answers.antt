use Rattle.std.proofs.Common.{◌≡◌, drop, length, arith, length-drop}
use Rattle.fedi_outside.proofs.ImageSteps.{of_some}
use Rattle.fedi_journal.proofs.FindingSteps.{size_spelled}
use Rattle.fedi_journal.proofs.finding.look.Goals as goal
use Rattle.fedi_journal.proofs.finding.look.Goals.{then-byte-ne1-via-then-byte-ne1, then-byte-ne1-via-else-byte-ne1+then-length-behind}

pub returns-then-byte-ne1-clause-found : goal.returns-then-byte-ne1-clause-found
returns-then-byte-ne1-clause-found g c = λ bytes is.
    let disk = c.args.disk.now in
    let here = drop c.args.gate bytes in
    let size = of_some (g.D.Disk.shown disk).reads (λ all. (g.D.Disk.shown disk).size ≡ length all) (g.met.D.Disk.told_size disk) bytes is in
    let long = length-drop c.args.gate bytes in
    let byte = c.in_ok-byte.ensures.byte bytes is in
    let number = size_spelled here c.in_ok-byte.length (omega arith) (c.in_ok-byte.ensures.number bytes is) in (
      omega (arith, c.requires.size, c.requires.inside, size, long),
      λ zero. omega (arith, byte, zero, c.if-byte-eq0.false),
      λ one. elim c.then-byte-ne1.branch [
        | then-byte-ne1-via-then-byte-ne1 w ↦ absurd (omega (arith, byte, one, w.if-byte-ne1.true))
        | then-byte-ne1-via-else-byte-ne1+then-length-behind w ↦ omega (arith, c.requires.size, size, long, number, w.if-length-behind.true, c.if-behind-width.false)
      ],
    )
