-- Several servers, as the callers of a world see them.
use Rattle.std.specs.Prelude.{ℕ, List, map}
use Rattle.fedi_address.specs.Iris.{host_of}
use Rattle.fedi_core.specs.Machines.{Machine}
use Rattle.fedi_logged.specs.Logs.{MachineLog}
use Rattle.fedi_outside.specs.Keepers.{KeeperState}
use Rattle.fedi_queue.specs.declared.rows.Claim.{Claim}
use Rattle.fedi_town.specs.Collections.{text_of}
use Rattle.fedi_town.specs.Histories.{town}
use Rattle.fedi_worlds.specs.Worlds as worlds
use Rattle.fedi_worlds.specs.Worlds.{Server, Request, Reply, Attempt, World}
use Rattle.fedi_world.specs.declared.parts.Packet.{Packet}
use Rattle.fedi_world.specs.declared.parts.Answer.{Answer}
use Rattle.fedi_world.specs.declared.parts.Pending.{Pending}
use Rattle.fedi_world.specs.declared.parts.Stage.{Stage}
use Rattle.fedi_world.specs.declared.parts.Stage.TheVariants.{Looking, Posting, Over}

-- the servers with all that they have sent to each other, and where the records of each server end
pub record Scene : Type 0 where
  pub world : World
  pub ends : List ℕ

-- ---- what is seen of the parts

-- the host and the history of a machine that has been set up
abbrev pub server_of : {P : Type 0} → Machine P → Server
server_of m = record { host = text_of (town m.history).host; history = m.history }

-- the request that these bytes are
abbrev pub request_of : Packet → Request
request_of p = record { attempt = p.attempt; host = host_of p.to; text = p.text.items }

-- the reply that these bytes are
abbrev pub reply_of : Answer → Reply
reply_of a = record { request = a.request; text = a.text.items }

-- what an attempt waits for
abbrev pub stage_of : Stage → worlds.Stage
stage_of Looking = worlds.Looking
stage_of Posting = worlds.Posting
stage_of Over = worlds.Over

-- the attempt, with the history at which its delivery was claimed
abbrev pub attempt_of : Pending → Attempt
attempt_of a = record {
  task = record {
    server = a.server;
    since = a.since.value.history;
    activity = a.activity.value;
    recipient = a.recipient;
  };
  request = a.request;
  stage = stage_of a.stage;
}

-- the claim of the attempt
abbrev pub claim_in : Pending → Claim
claim_in a = record {
  activity = a.place.activity;
  recipient = a.place.recipient;
  moment = a.claimed;
}

-- the world of these machines and of what they have sent, at this moment
abbrev pub world_of : {P : Type 0} → ℕ → List (MachineLog P) → List Packet → List Answer
    → List Pending → World
world_of moment seats requests replies attempts = record {
  moment = moment;
  servers = map (λ m. server_of m.core) seats;
  requests = map request_of requests;
  replies = map reply_of replies;
  attempts = map attempt_of attempts;
}

-- where the records of each server end
abbrev pub ends_of : {P : Type 0} → (P → KeeperState) → List (MachineLog P) → List ℕ
ends_of shown seats = map (λ m. (shown m.core.keeper).end) seats

-- that world, with where the records of each machine end
abbrev pub scene_of : {P : Type 0} → (P → KeeperState) → ℕ → List (MachineLog P) → List Packet
    → List Answer → List Pending → Scene
scene_of shown moment seats requests replies attempts = record {
  world = world_of moment seats requests replies attempts;
  ends = ends_of shown seats;
}
