-- The effects of reading, apart from its result.
use Rattle.std.specs.Prelude.{ℕ, zero, suc, ◌≡◌, ◌⊎◌, List, [], ◌++◌, Bool, true, false, Option}
use Rattle.std.specs.Prelude.{Result, Ok, Err, if◌then◌else◌}
use Rattle.std.specs.Io.KnownBytes.{Consumes}
use Rattle.fedi_outside.specs.Causes.{next_count}
use Rattle.fedi_town.specs.declared.refusal.Refusal.{Refusal}
use Rattle.fedi_town.specs.declared.refusal.Refusal.TheVariants as refusals
use Rattle.fedi_http.specs.declared.read_error.ReadError.{ReadError}
use Rattle.fedi_http.specs.declared.read_error.ReadError.TheVariants.{End, CutShort, Refused}
use Rattle.fedi_http.specs.declared.read_error.ReadError.TheVariants.{ReadFault, Memory}

-- what a buffer holds: a body, and the bytes after it that were read and are not used yet
pub record Held : Type 0 where
  pub body : List ℕ
  pub pending : List ℕ

-- the bytes that now follow the pending ones were taken from the known bytes
abbrev pub ReadsBehind : Option (List ℕ) → Option (List ℕ) → List ℕ → List ℕ → Type 0
ReadsBehind old new pending now = (more : List ℕ) × Consumes old new more × (now ≡ pending ++ more)

-- bytes were taken from a source, a fact holds of them, and a failed read was counted
pub record Reads {T : Type 0}
    (left_of : T → Option (List ℕ)) (faults_of : T → ℕ) (beside_of : T → Option (List ℕ) × ℕ)
    (before after : T) (failed : Bool) (Lacks : Type 0) (P : List ℕ → Type 0) : Type 0 where
  pub more : List ℕ  -- the bytes that were taken
  pub taken : Consumes (left_of before) (left_of after) more
  pub holds : P more
  -- nothing is read if the bytes at hand were enough
  pub idle : Lacks ⊎ ((after ≡ before) × (more ≡ []))
  pub beside : beside_of after ≡ beside_of before
  pub faults :
      faults_of after ≡ (if failed then next_count (faults_of before) else faults_of before)

-- the error is that a read failed
abbrev pub is_fault : ReadError → Bool
is_fault End = false
is_fault CutShort = false
is_fault (Refused refusal) = false
is_fault ReadFault = true
is_fault Memory = false

-- the answer is that a read failed
abbrev pub has_fault : {T : Type 0} → Result T ReadError → Bool
has_fault (Ok value) = false
has_fault (Err error) = is_fault error

-- a fact for the errors that occur at the end of the input
abbrev pub OnEnd : ReadError → Type 0 → Type 0
OnEnd End P = P
OnEnd CutShort P = P
OnEnd (Refused refusal) P = Unit {0}
OnEnd ReadFault P = Unit {0}
OnEnd Memory P = Unit {0}

-- the error occurred inside a request
abbrev pub StopsReading : ReadError → Type 0
StopsReading End = ⊥
StopsReading CutShort = Unit {0}
StopsReading (Refused refusal) = ⊥
StopsReading ReadFault = Unit {0}
StopsReading Memory = Unit {0}

-- the error for a refusal
abbrev pub error_by : Refusal → ReadError
error_by refusals.Memory = Memory
error_by refusal = Refused refusal

-- the same error, after this many bytes of a request
abbrev pub error_after : ReadError → ℕ → ReadError
error_after End count = End
error_after CutShort zero = End
error_after CutShort (suc n) = CutShort
error_after (Refused refusal) count = Refused refusal
error_after ReadFault count = ReadFault
error_after Memory count = Memory
