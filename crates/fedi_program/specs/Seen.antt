-- How a run sees what lies outside: by what the contract of each trait lets one see of a value.
use Rattle.std.specs.Prelude.{ℕ, List, Option}
use Rattle.fedi_delivery.specs.Exchanges.{Told}
use Rattle.fedi_logged.specs.Attempts.{told_by}
use Rattle.fedi_logged.specs.Endings.{Faults, Output, Scene, faults_by, output_by, scene_by}
use Rattle.fedi_outside.specs.Disks.{DiskCrashes, DiskState}
use Rattle.fedi_outside.specs.declared.disks.Disk.{Ghosts as DiskGhosts}
use Rattle.fedi_outside.specs.declared.entropies.Entropy.{Ghosts as EntropyGhosts}
use Rattle.fedi_outside.specs.declared.links.Link.{Ghosts as LinkGhosts}
use Rattle.fedi_outside.specs.declared.sinks.Sink.{Ghosts as SinkGhosts}
use Rattle.fedi_outside.specs.declared.sources.Source.{Ghosts as SourceGhosts}

-- a disk, and what a crash may leave of it
pub record Medium : Type 1 where
  pub shown : DiskState
  pub crashes : DiskCrashes

-- what is seen of this disk
abbrev pub medium : {D : Type 0} → DiskGhosts D → D → Medium
medium disks disk = record { shown = disks.shown disk; crashes = disks.crashes disk }

-- what keys are drawn from: the bytes to come, if they are known, and how many draws failed
pub record Chance : Type 0 where
  pub next : Option (List ℕ)
  pub faults : ℕ

-- what is seen of this source of keys
abbrev pub chance : {E : Type 0} → EntropyGhosts E → E → Chance
chance sources entropy = record { next = sources.next entropy; faults = sources.faults entropy }

-- what is seen of this output
abbrev pub output : {O : Type 0} → SinkGhosts O → O → Output
output sinks out = output_by sinks.sent sinks.write_faults out

-- what is seen of this input and this output
abbrev pub scene : {S O : Type 0} → SourceGhosts S → SinkGhosts O → S → O → Scene
scene sources sinks input out = scene_by sources.left sinks.sent sinks.write_faults input out

-- how many of their calls failed
abbrev pub faults : {S O : Type 0} → SourceGhosts S → SinkGhosts O → S → O → Faults
faults sources sinks input out = faults_by sources.read_faults sinks.write_faults input out

-- what this link was asked, and what was heard
abbrev pub tells : {K : Type 0} → LinkGhosts K → K → Told
tells links = told_by links.asked links.heard links.link_faults
