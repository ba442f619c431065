-- What keeping an entry does to a machine, by what its steps do.
use Rattle.std.proofs.Common.{◌≡◌, List, Result, Ok, Err, refl, ap, subst}
use Rattle.std.specs.Prelude.{IsErrOf, OnErr, OnOk}
use Rattle.fedi_core.proofs.Growing.{comes_next}
use Rattle.fedi_core.specs.Keeping.{Keeps, MayAdd, Stores}
use Rattle.fedi_core.specs.Machines.{IsGrown, IsMachine, IsQueueGrown, IsSame, KeepsClaims, Machine}
use Rattle.fedi_core.specs.declared.keeping.KeepFault.{KeepFault}
use Rattle.fedi_core.specs.declared.keeping.KeepFault.TheVariants.{Failed, Memory}
use Rattle.fedi_effects.specs.Holdings.{Holding}
use Rattle.fedi_entry.specs.Codes.{code_of}
use Rattle.fedi_entry.specs.Fields.{IsFormed}
use Rattle.fedi_objects.specs.declared.entry.Entry.{Entry}
use Rattle.fedi_opening.proofs.Times.{no_time}
use Rattle.fedi_outside.specs.Keepers.{LeavesRecords}
use Rattle.fedi_outside.specs.declared.keepers.Keeper.{Ghosts}
use Rattle.fedi_queue.specs.Queues.{Queued}
use Rattle.fedi_town.specs.Histories.{town}
use Rattle.fedi_town.specs.Legal.{IsLegal}

-- the machine of these facts, this keeper and this queue
abbrev pub machine_of : {P : Type 0} → Holding → P → Queued → Machine P
machine_of f p q = record { history = f.history; keeper = p; rows = q.rows }

-- the entry was stored or refused, and the facts and the queue have what it adds
pub keeps_stored : {P : Type 0} (k : Ghosts P) (f f' : Holding) (p p' : P) (q q' : Queued)
    (e : Entry) (r : Result (Unit {0}) KeepFault)
    → IsMachine f (k.shown p) q → IsMachine f' (k.shown p') q' → MayAdd (town f.history) e
    → (IsErrOf r Failed → IsFormed e) → OnOk r (IsGrown f e f') → OnErr r (IsSame f f')
    → OnOk r (IsQueueGrown q e q') → Stores k p p' (code_of e) r
    → Keeps k (machine_of f p q) (machine_of f' p' q') e r
keeps_stored k f f' p p' q q' e (Ok done) old new may formed more same grown s = record {
  kept = record { history = more.held; fits = s.fits; keeper = s.added };
  refused = tt;
  next = tt;
  same = tt;
  claims = subst (λ (h : List Entry). KeepsClaims (town h).acts e q.rows q'.rows) old.queued
      grown.claims;
  legal = new.stands.legal;
  time = s.time;
  time_refused = tt;
}
keeps_stored k f f' p p' q q' e (Err fault) old new may formed more same grown s = record {
  kept = tt;
  refused = s.refused;
  next = λ is. comes_next (town f.history) e may (formed (ap (λ (x : KeepFault). Err x) is));
  same = same.held;
  claims = tt;
  legal = new.stands.legal;
  time = tt;
  time_refused = s.time_refused;
}

-- nothing was tried
pub keeps_nothing : {P : Type 0} (k : Ghosts P) (m : Machine P) (e : Entry) → IsLegal m.history
    → LeavesRecords (k.shown m.keeper) (k.crashes m.keeper) → Keeps k m m e (Err Memory)
keeps_nothing k m e legal now = record {
  kept = tt;
  refused = record { records = refl; held = refl; doubt = refl; end = refl; faults = refl };
  next = λ is. absurd (cc is);
  same = refl;
  claims = tt;
  legal = legal;
  time = tt;
  time_refused = no_time (k.shown m.keeper) (k.crashes m.keeper) now;
}

-- the same with an equal error
pub keeps_by : {P : Type 0} (k : Ghosts P) (before after : Machine P) (e : Entry)
    (fault other : KeepFault) → fault ≡ other → Keeps k before after e (Err fault)
    → Keeps k before after e (Err other)
keeps_by k before after e fault other is keeps =
    subst (λ (x : KeepFault). Keeps k before after e (Err x)) is keeps
