use Rattle.std.proofs.Common.{length}
use Rattle.fedi_journal.proofs.AheadSteps.{part_ahead}
use Rattle.fedi_journal.proofs.ahead.ReadAhead.copy.Goals as goal

pub returns : goal.returns
returns g c = λ all is.
    part_ahead all c.args.self.now.bytes.items c.deref.result.now c.copy_from_slice.new.self c.args.self.now.start c.args.at (length c.args.into.now)
    (c.args.self.now.ahead all is) c.requires.start c.requires.end c.deref.ensures.value c.copy_from_slice.ensures.after
