use Rattle.std.proofs.Common.{ℕ, ◌≡◌, ◌-◌, ◌≤◌, List, length, take}
use Rattle.std.specs.Prelude.{None, Some, option_map}
use Rattle.fedi_outside.specs.Disks.{Elapses}
use Rattle.fedi_outside.specs.Known.{records_told}
use Rattle.fedi_journal.specs.Blocks.{doubt_in}
use Rattle.fedi_journal.specs.Chains.{IsHidden, hidden}
use Rattle.fedi_journal.proofs.hidden.Hidden.fill.Given as goal

abbrev pub invariant-records : goal.invariant-records
invariant-records g l = record {
  inside : l.place ≤ l.count;
  held : l.count ≡ (g.P.Keeper.shown l.initial.from).held;
  same : g.P.Keeper.shown l.from ≡ g.P.Keeper.shown l.initial.from;
  settled : doubt_in hidden.width l.journal.in_doubt l.journal.block.items ≡ None;
  begun : 8 ≤ l.journal.end;
  outside : g.P.Keeper.only_read l.initial.from l.from;
  faults : (g.D.Disk.shown l.journal.disk).faults ≡ (g.D.Disk.shown l.initial.journal.disk).faults;
  copied : (kept : List (List ℕ)) → (g.P.Keeper.shown l.initial.from).records ≡ Some kept
      → records_told hidden (length l.journal.gates.items) (g.D.Disk.shown l.journal.disk) ≡ option_map (λ _. take l.place kept) (g.D.Disk.shown l.initial.journal.disk).reads;
  images : (kept : List (List ℕ)) → (g.P.Keeper.shown l.initial.from).records ≡ Some kept → (bytes : List ℕ) → (g.D.Disk.shown l.initial.journal.disk).reads ≡ Some bytes
      → Elapses (g.D.Disk.crashes l.initial.journal.disk) (g.D.Disk.crashes l.journal.disk) IsHidden;
}

abbrev pub decreases-records : goal.decreases-records
decreases-records g l = l.count - l.place
