use Rattle.fedi_journal.proofs.Rewriting.{rewritten, still_synced}
use Rattle.fedi_journal.proofs.finding.rewrite.Goals as goal

pub returns-clause-same : goal.returns-clause-same
returns-clause-same g c =
    let disk = c.args.disk.now in
    rewritten c.write_at.result c.args.at c.read_at.new.into (g.D.Disk.shown disk) (g.D.Disk.shown c.read_at.new.self) (g.D.Disk.shown c.write_at.new.self)
    (g.D.Disk.crashes disk) (g.D.Disk.crashes c.read_at.new.self) (g.D.Disk.crashes c.write_at.new.self)
    c.in_ok-read_at.ensures.shown c.read_at.ensures.time c.requires.synced (g.met.D.Disk.told_size disk) c.requires.inside c.in_ok-read_at.ensures.bytes
    c.write_at.ensures.written c.write_at.ensures.refused c.write_at.ensures.time

pub returns-clause-synced : goal.returns-clause-synced
returns-clause-synced g c =
    let disk = c.args.disk.now in
    still_synced (g.D.Disk.shown disk) (g.D.Disk.shown c.write_at.new.self) (g.D.Disk.crashes disk) (g.D.Disk.crashes c.write_at.new.self) (
    rewritten c.write_at.result c.args.at c.read_at.new.into (g.D.Disk.shown disk) (g.D.Disk.shown c.read_at.new.self) (g.D.Disk.shown c.write_at.new.self)
    (g.D.Disk.crashes disk) (g.D.Disk.crashes c.read_at.new.self) (g.D.Disk.crashes c.write_at.new.self)
    c.in_ok-read_at.ensures.shown c.read_at.ensures.time c.requires.synced (g.met.D.Disk.told_size disk) c.requires.inside c.in_ok-read_at.ensures.bytes
    c.write_at.ensures.written c.write_at.ensures.refused c.write_at.ensures.time) c.requires.synced
