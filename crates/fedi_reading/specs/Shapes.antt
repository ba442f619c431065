-- What is wrong with a posted thing, and what a reader returns.
use Rattle.std.specs.Prelude.{◌≡◌, ◌≢◌, ℕ, List, codes, Option, Some, None, Result, Ok, Err}
use Rattle.fedi_reading.specs.declared.shape_fault.ShapeFault.{ShapeFault}
use Rattle.fedi_reading.specs.declared.shape_fault.ShapeFault.TheVariants.{
  NotObject,
  BadContext,
  NoType,
  NoId,
  NoActor,
  NoObject,
  BadIri,
  TooManyRecipients,
  BadText,
  SelfTarget,
  Memory,
}

-- the number of a fault in the order in which faults are checked; `Memory` has none
abbrev pub fault_number : ShapeFault → Option ℕ
fault_number NotObject = Some 1
fault_number BadContext = Some 2
fault_number NoType = Some 3
fault_number NoId = Some 4
fault_number NoActor = Some 5
fault_number NoObject = Some 6
fault_number BadIri = Some 7
fault_number TooManyRecipients = Some 8
fault_number BadText = Some 9
fault_number SelfTarget = Some 10
fault_number Memory = None

-- the name of a fault
abbrev pub fault_name : ShapeFault → List ℕ
fault_name NotObject = codes "NotObject"
fault_name BadContext = codes "BadContext"
fault_name NoType = codes "NoType"
fault_name NoId = codes "NoId"
fault_name NoActor = codes "NoActor"
fault_name NoObject = codes "NoObject"
fault_name BadIri = codes "BadIri"
fault_name TooManyRecipients = codes "TooManyRecipients"
fault_name BadText = codes "BadText"
fault_name SelfTarget = codes "SelfTarget"
fault_name Memory = codes "Memory"

-- what is read next, unless a fault occurred before
infixl 10 ◌>>=◌
abbrev pub ◌>>=◌ : {A B : Type 0} → Result A ShapeFault → (A → Result B ShapeFault)
    → Result B ShapeFault
(Ok x) >>= f = f x
(Err e) >>= f = Err e

-- A function returned what is read, or ran out of memory.
abbrev pub Gives : {X : Type 0} → Result X ShapeFault → Result X ShapeFault → Type 0
Gives (Ok x) read = read ≡ Ok x
Gives (Err e) read = e ≢ Memory → read ≡ Err e

-- A function left what is read in a value, or ran out of memory.
abbrev pub Fills : {X : Type 0} → Result (Unit {0}) ShapeFault → X → Result X ShapeFault → Type 0
Fills (Ok done) x read = read ≡ Ok x
Fills (Err e) x read = e ≢ Memory → read ≡ Err e
