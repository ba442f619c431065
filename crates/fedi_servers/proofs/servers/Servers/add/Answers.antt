use Rattle.fedi_servers.proofs.servers.Servers.add.Goals as goal

pub returns-in-Actor-clause-added : goal.returns-in-Actor-clause-added
returns-in-Actor-clause-added c = rw c.in-Actor.is c.add_actor.ensures.added

pub returns-in-Peers-clause-added : goal.returns-in-Peers-clause-added
returns-in-Peers-clause-added c = rw c.in-Peers.is c.add_peers.ensures.added
