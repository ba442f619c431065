-- The world with which the events of a script begin.
use Rattle.std.proofs.Common.{◌≡◌, ◌∙◌, ℕ, suc, List, [], ◌∷◌, map, Some, refl, sym, ap, subst}
use Rattle.std.specs.Prelude.{slice_get}
use Rattle.fedi_log.specs.Keeping.{growth_of}
use Rattle.fedi_servers.specs.Founding.{moment}
use Rattle.fedi_servers.specs.Machines.{AreFounded, IsFounded, ServerMachine, end_of, growth, server_of}
use Rattle.fedi_servers.proofs.Positions.{map_at}
use Rattle.fedi_servers.proofs.Setting.{rows_idle}
use Rattle.fedi_town.specs.Collections.{text_of}
use Rattle.fedi_town.specs.Histories.{town}
use Rattle.fedi_world.specs.Scenes.{Scene}
use Rattle.fedi_world.specs.Starting.{AreNew, IsNew}
use Rattle.fedi_worlds.specs.Worlds.{Attempt, Reply, Request, Server}
use Rattle.fedi_play.specs.Playing.{beginning}

-- ---- the machines are new

is_new : (m : ServerMachine) → IsFounded m → IsNew m
is_new m founded = record {
  hosted = founded.hosted;
  set_up = founded.set_up;
  unclaimed = rows_idle (town m.history) m.rows founded.quiet founded.idle;
}

host_at : (hosts : List (List ℕ)) (machines : List ServerMachine) → AreFounded hosts machines
    → (k : ℕ) (m : ServerMachine) → slice_get machines k ≡ Some m
    → slice_get hosts k ≡ Some (text_of (town m.history).host)
host_at hosts machines order k m there =
    subst (λ (l : List (List ℕ)). slice_get l k ≡ Some (text_of (town m.history).host)) (sym order.hosts)
    (map_at (λ (s : Server). s.host) (map server_of machines) k (server_of m) (map_at server_of machines k m there))

pub are_new : (hosts : List (List ℕ)) (machines : List ServerMachine) → AreFounded hosts machines
    → AreNew machines
are_new hosts machines order = record {
  each = λ n m there. is_new m (order.each n m there);
  hosts = λ j k m o first second same.
      order.apart j k (text_of (town m.history).host) (host_at hosts machines order j m first)
      (subst (λ (h : List ℕ). slice_get hosts k ≡ Some h) (ap text_of (sym same))
      (host_at hosts machines order k o second));
}

-- ---- the world

ends_are : (machines : List ServerMachine)
    → ((k : ℕ) (m : ServerMachine) → slice_get machines k ≡ Some m → IsFounded m)
    → map end_of machines ≡ map (λ (s : Server). growth_of growth s.history) (map server_of machines)
ends_are [] each = refl
ends_are (m ∷ machines) each =
    let first : end_of m ≡ growth_of growth m.history = (each 0 m refl).end in
    let more = ends_are machines (λ k o there. each (suc k) o there) in cc (first, more)

abbrev made : ℕ → List Server → List Request → List Reply → List Attempt → List ℕ → Scene
made now servers requests replies attempts ends = record {
  world = record {
    moment = now;
    servers = servers;
    requests = requests;
    replies = replies;
    attempts = attempts;
  };
  ends = ends;
}

pub begins : (hosts : List (List ℕ)) (machines : List ServerMachine) (w : Scene)
    → AreFounded hosts machines → w.world.moment ≡ moment
    → w.world.servers ≡ map server_of machines → w.world.requests ≡ [] → w.world.replies ≡ []
    → w.world.attempts ≡ [] → w.ends ≡ map end_of machines → w ≡ beginning (map server_of machines)
begins hosts machines w order now servers requests replies attempts ends =
    let last : w.ends ≡ map (λ (s : Server). growth_of growth s.history) (map server_of machines) =
    ends ∙ ends_are machines order.each in
    ap (λ (n : ℕ). made n w.world.servers w.world.requests w.world.replies w.world.attempts w.ends) now
    ∙ (ap (λ (l : List Server). made moment l w.world.requests w.world.replies w.world.attempts w.ends) servers
    ∙ (ap (λ (l : List Request). made moment (map server_of machines) l w.world.replies w.world.attempts w.ends) requests
    ∙ (ap (λ (l : List Reply). made moment (map server_of machines) [] l w.world.attempts w.ends) replies
    ∙ (ap (λ (l : List Attempt). made moment (map server_of machines) [] [] l w.ends) attempts
    ∙ ap (λ (l : List ℕ). made moment (map server_of machines) [] [] [] l) last))))
