-- What a server makes of the result of an attempt.
use Rattle.std.proofs.Common.{◌≡◌, ◌≢◌, ℕ, ◌+◌, List, [], ◌∷◌, ◌++◌, Option, Some, None, Result, Ok, Err, refl, sym, ap, ◌∙◌, subst}
use Rattle.fedi_core.specs.Delivering.{keep_fault}
use Rattle.fedi_core.specs.Keeping.{Keeps, fault_by}
use Rattle.fedi_core.specs.declared.delivering.RecordFault.{RecordFault}
use Rattle.fedi_core.specs.declared.delivering.RecordFault.TheVariants as records
use Rattle.fedi_log.specs.Log.{made_by}
use Rattle.fedi_log.specs.declared.items.Pair.{Pair}
use Rattle.fedi_logged.specs.Claiming.{tried, what_after}
use Rattle.fedi_logged.specs.Logs.{MachineLog}
use Rattle.fedi_objects.specs.declared.entry.Came.{Came}
use Rattle.fedi_outside.specs.declared.keepers.Keeper.{Ghosts}
use Rattle.fedi_world.specs.Ending.{EndsAt, unkept}
use Rattle.fedi_world.specs.Happenings.{limits}

-- it is kept
pub ends_ok : {P : Type 0} (k : Ghosts P) (number : ℕ) (p : Pair) (came : Came) (moment : ℕ) (before after : MachineLog P) (done : Unit {0})
    → Keeps k before.core after.core (tried p came moment) (fault_by keep_fault (Ok done)) → after.log ≡ before.log ++ made_by (Some number) (what_after p came moment (Ok done)) ∷ []
    → EndsAt (limits k.growth k.room) k.shown number p came moment before after (Ok done)
ends_ok {P} k number p came moment before after done e log = (e.kept.history, log, e.kept.fits, e.kept.keeper.end)

-- it is not
pub ends_err : {P : Type 0} (k : Ghosts P) (number : ℕ) (p : Pair) (came : Came) (moment : ℕ) (before after : MachineLog P) (fault : RecordFault) → fault ≢ records.KeeperFault
    → Keeps k before.core after.core (tried p came moment) (fault_by keep_fault (Err fault)) → after.log ≡ before.log ++ made_by (Some number) (what_after p came moment (Err fault)) ∷ []
    → EndsAt (limits k.growth k.room) k.shown number p came moment before after (Err (unkept fault))
ends_err {P} k number p came moment before after records.Full calm e log = (e.same, log, e.refused.0, e.refused.1.end)
ends_err {P} k number p came moment before after records.Memory calm e log = (e.same, log, e.refused.end)
ends_err {P} k number p came moment before after records.KeeperFault calm e log = absurd (calm refl)
