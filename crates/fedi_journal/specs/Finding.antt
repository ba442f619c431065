-- What is found at the gates of a disk that is opened.
use Rattle.std.specs.Prelude.{ℕ, ◌≡◌, ◌≢◌, ◌<◌, ◌≤◌, ◌+◌, List, length, get_or, take, drop, Result}
use Rattle.std.specs.Prelude.{Ok, Err}
use Rattle.fedi_outside.specs.Causes.{next_count}
use Rattle.fedi_outside.specs.Images.{Format, gates_of, kept_in, size_at, size_code}
use Rattle.fedi_outside.specs.Opening.{Begins, IsNoStore, IsOlder}
use Rattle.fedi_journal.specs.declared.faults.JournalFault.{JournalFault}
use Rattle.fedi_journal.specs.declared.faults.JournalFault.TheVariants.{NotAStore, Damaged, Failed}
use Rattle.fedi_journal.specs.declared.faults.JournalFault.TheVariants.{Memory, OldFormat}
use Rattle.fedi_journal.specs.declared.finding.Gate.{Gate}
use Rattle.fedi_journal.specs.declared.finding.Gate.TheVariants.{Closed, Open, Bad}
use Rattle.fedi_journal.specs.declared.finding.Start.{Start}
use Rattle.fedi_journal.specs.declared.finding.Start.TheVariants.{Ours, Older, Other}

-- how the file begins
abbrev pub IsStart : Format → List ℕ → Start → Type 0
IsStart f bytes Ours = take 8 bytes ≡ f.magic
IsStart f bytes Older = IsOlder f bytes
IsStart f bytes Other = IsNoStore f bytes

-- the gate at the start of these bytes is of this kind, if seals have this width
abbrev pub IsGate : ℕ → List ℕ → Gate → Type 0
IsGate width bytes Closed = (0 < length bytes) × (get_or bytes 0 0 ≡ 0)
IsGate width bytes (Open size) =
    (get_or bytes 0 0 ≡ 1) × (take 8 (drop 1 bytes) ≡ size_code size)
    × (10 + width + size ≤ length bytes)
IsGate width bytes Bad =
    (0 < length bytes) × (get_or bytes 0 0 ≢ 0)
    × (get_or bytes 0 0 ≡ 1 → length bytes < 10 + width + size_at bytes)

-- the record after an open gate, its seal and the gate after that do not extend past this end
abbrev pub IsInside : ℕ → ℕ → ℕ → Gate → Type 0
IsInside width gate size Closed = Unit {0}
IsInside width gate size (Open length) = gate + (9 + width + length) < size
IsInside width gate size Bad = Unit {0}

-- so far: the file begins with records that have these gates, this is remembered of them, and the
-- next gate is at this offset
abbrev pub IsScanned : {S : Type 0} → Format → (List (List ℕ) → S) → List ℕ → ℕ → S → List ℕ
    → Type 0
IsScanned f after gates gate seal bytes =
    (rs : List (List ℕ)) × Begins f rs gate bytes × (gates ≡ gates_of f 8 rs) × (seal ≡ after rs)

-- this is remembered of this many records of the file
abbrev pub IsSealed : {S : Type 0} → Format → (List (List ℕ) → S) → ℕ → S → List ℕ → Type 0
IsSealed f after count seal bytes = seal ≡ after (kept_in f count bytes)

-- how many faults are counted after this fault
abbrev pub count_after : JournalFault → ℕ → ℕ
count_after NotAStore n = n
count_after OldFormat n = n
count_after (Damaged place) n = n
count_after Failed n = next_count n
count_after Memory n = n

-- how many faults are counted after gates were found, or were not
abbrev pub faults_found : {T : Type 0} → Result T JournalFault → ℕ → ℕ
faults_found (Ok found) n = n
faults_found (Err fault) n = count_after fault n

-- how many faults are counted after a journal was opened, or the disk was handed back
abbrev pub faults_after : {T D : Type 0} → Result T (JournalFault × D) → ℕ → ℕ
faults_after (Ok journal) n = n
faults_after (Err back) n = count_after back.0 n
