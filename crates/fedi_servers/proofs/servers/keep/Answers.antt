use Rattle.fedi_core.proofs.Commanding.{command_may}
use Rattle.fedi_town.specs.Histories.{town}
use Rattle.fedi_servers.proofs.Setting.{founded_more}
use Rattle.fedi_servers.proofs.servers.keep.Goals as goal

pub keep-requires : goal.keep-requires
keep-requires c =
    command_may (town c.args.core.now.history) c.args.entry c.requires.command c.requires.unbroken

pub returns-clause-founded : goal.returns-clause-founded
returns-clause-founded c =
    founded_more c.args.core.now c.keep.new.self c.args.entry c.requires.founded c.requires.command
    c.in-Ok.ensures.keeps.kept.history c.in-Ok.ensures.keeps.kept.keeper.end c.keep.ensures.queue
