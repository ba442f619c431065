use Rattle.fedi_play.proofs.Ending.{entries_kept}
use Rattle.fedi_play.proofs.playing.put_all_entries.Goals as goal

pub servers-preserved : goal.servers-preserved
servers-preserved c =
    entries_kept c.args.hosts.now c.args.world.now.world.servers c.servers.index c.index-hosts-index.result _ c.text.result.now
    c.entries.result c.args.text.now.items c.servers.text.items c.put_entries.new.text.items c.requires c.servers-test.true
    c.index-hosts-index.is c.text.ensures.value c.entries.ensures c.servers.invariant c.in_ok-put_entries.ensures
