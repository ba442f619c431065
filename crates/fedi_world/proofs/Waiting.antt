-- Time passes in a world.
use Rattle.std.proofs.Common.{◌≡◌, ℕ, ◌+◌, ◌<◌, ◌≤◌, List, min, arith, refl, sym, ap, ◌∙◌, subst}
use Rattle.std.specs.Prelude.{map, slice_get}
use Rattle.fedi_logged.specs.Logs.{MachineLog}
use Rattle.fedi_outside.specs.Keepers.{KeeperState}
use Rattle.fedi_worlds.specs.Events as events
use Rattle.fedi_worlds.specs.Steps.{Steps}
use Rattle.fedi_worlds.specs.Worlds.{World}
use Rattle.fedi_world.specs.declared.event.Event.TheVariants.{Wait}
use Rattle.fedi_world.specs.declared.event.Happened.TheVariants.{Waited}
use Rattle.fedi_world.specs.declared.parts.Answer.{Answer}
use Rattle.fedi_world.specs.declared.parts.Packet.{Packet}
use Rattle.fedi_world.specs.declared.parts.Pending.{Pending}
use Rattle.fedi_world.specs.Happenings.{Happens, Limits}
use Rattle.fedi_world.specs.Scenes.{Scene, scene_of, world_of}
use Rattle.fedi_world.specs.Standing.{IsWhole}
use Rattle.fedi_world.proofs.Whole.{fit_servers, reached_on, ready_later}

waited_steps : {P : Type 0} (before after seconds : ℕ) (seats : List (MachineLog P)) (requests : List Packet) (replies : List Answer) (attempts : List Pending)
    → after ≡ min (before + seconds) 253402300799 → IsWhole before seats requests replies attempts
    → Steps (world_of before seats requests replies attempts) (events.Wait seconds) (world_of after seats requests replies attempts)
waited_steps {P} before after seconds seats requests replies attempts is i = record {
  happens = ap (λ (m : ℕ). record (world_of before seats requests replies attempts) { moment = m }) is;
  fit = fit_servers {P = P} seats i.seated;
}

not_before : (before after seconds : ℕ) → before < 253402300800 → after ≡ min (before + seconds) 253402300799 → before ≤ after
not_before before after seconds bound is = omega (arith, bound, is)

pub whole_waited : {P : Type 0} (before after seconds : ℕ) (seats : List (MachineLog P)) (requests : List Packet) (replies : List Answer) (attempts : List Pending)
    → before < 253402300800 → after ≡ min (before + seconds) 253402300799 → IsWhole before seats requests replies attempts → IsWhole after seats requests replies attempts
whole_waited {P} before after seconds seats requests replies attempts bound is i = record {
  reached = reached_on _ _ (events.Wait seconds) i.reached (waited_steps {P = P} before after seconds seats requests replies attempts is i);
  tied = i.tied;
  seated = i.seated;
  ready = λ k a at open_yet. ready_later before after seats a (not_before before after seconds bound is) (i.ready k a at open_yet);
}

pub happens_waited : {P : Type 0} (l : Limits) (shown : P → KeeperState) (before after seconds : ℕ) (seats : List (MachineLog P)) (requests : List Packet) (replies : List Answer) (attempts : List Pending)
    (old : Scene) → scene_of shown before seats requests replies attempts ≡ old → after ≡ min (before + seconds) 253402300799 → IsWhole before seats requests replies attempts
    → Happens l old (Wait seconds) Waited (scene_of shown after seats requests replies attempts)
happens_waited {P} l shown before after seconds seats requests replies attempts old same is i =
    subst (λ (w : Scene). Happens l w (Wait seconds) Waited (scene_of shown after seats requests replies attempts)) same (record {
      kind = events.Wait seconds;
      means = refl;
      steps = waited_steps {P = P} before after seconds seats requests replies attempts is i;
      tells = refl;
    })
