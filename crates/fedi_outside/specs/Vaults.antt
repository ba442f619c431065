-- What a call does to a place where the records of a keeper are between two runs.
use Rattle.std.specs.Prelude.{ℕ, ◌≡◌, ◌≢◌, Bool, true, false, List, [], Option, None, Some}
use Rattle.std.specs.Prelude.{option_map, Result, Ok, Err, IfErr, IfSome, IsErrOf, OnErr, OnOk}
use Rattle.fedi_outside.specs.Causes.{next_count}
use Rattle.fedi_outside.specs.Keepers.{KeeperState, after_fault}
use Rattle.fedi_outside.specs.declared.keepers.LoadFault.{LoadFault}
use Rattle.fedi_outside.specs.declared.keepers.LoadFault.TheVariants as loads
use Rattle.fedi_outside.specs.declared.vaults.FillFault.{FillFault}
use Rattle.fedi_outside.specs.declared.vaults.FillFault.TheVariants as fills
use Rattle.fedi_outside.specs.declared.vaults.FillFault.TheVariants.{Source}
use Rattle.fedi_outside.specs.declared.vaults.VaultFault.{VaultFault}
use Rattle.fedi_outside.specs.declared.vaults.VaultFault.TheVariants.{Exists, Failed, Gap, Memory}

-- a vault, as its callers see it
pub record VaultState : Type 0 where
  pub kept : Option (List (List ℕ))  -- the records that it keeps, if it reports them
  pub out : Bool  -- whether a keeper is out; nothing is said of the records meanwhile
  pub faults : ℕ  -- how many calls failed; it saturates at 2^64 - 1

-- ---- handing out a keeper

-- the count after a call: a call that failed is counted, and no other
abbrev pub counted : {T : Type 0} → Result T VaultFault → ℕ → ℕ
counted (Ok keeper) n = n
counted (Err Exists) n = n
counted (Err (Gap place)) n = n
counted (Err Failed) n = next_count n
counted (Err Memory) n = n

-- a keeper of these records, if they are reported, which counts on from here
pub record IsHanded (kept : Option (List (List ℕ))) (count : ℕ) (k : KeeperState) : Type 0 where
  pub records : k.records ≡ kept
  pub settled : k.doubt ≡ None
  pub faults : k.faults ≡ count

-- no record at all, if the records are reported
abbrev pub none_of : Option (List (List ℕ)) → Option (List (List ℕ))
none_of kept = option_map (λ _. []) kept

-- after a call that hands out a keeper, or is refused
pub record IsAsked {T : Type 0} (before after : VaultState) (result : Result T VaultFault)
    : Type 0 where
  pub handed : OnOk result (after.out ≡ true)
  pub refused : IfErr result (λ _. (after.out ≡ false) × (after.kept ≡ before.kept))
  pub cause : after.faults ≡ counted result before.faults

-- a keeper without records was made only if no record is kept, and there is said to be one only if
-- there is, if the records are reported
pub record MayRefuseToMake {T : Type 0} (kept : Option (List (List ℕ)))
    (result : Result T VaultFault) : Type 0 where
  pub exists : IfSome kept (λ records. IsErrOf result Exists → records ≢ [])
  pub none : IfSome kept (λ records. OnOk result (records ≡ []))
  pub no_gap : (place : ℕ) → IsErrOf result (Gap place) → ⊥

-- records that are reported have no gap
pub record MayRefuseToOpen {T : Type 0} (kept : Option (List (List ℕ)))
    (result : Result T VaultFault) : Type 0 where
  pub gap : (place : ℕ) → IsErrOf result (Gap place) → kept ≡ None
  pub no_exists : IsErrOf result Exists → ⊥

-- ---- filling

-- why a vault is not filled if a record of the keeper is not loaded
abbrev pub unfilled : LoadFault → FillFault
unfilled loads.Failed = Source
unfilled loads.Memory = fills.Memory

-- the count after a filling
abbrev pub counted_fill : {T : Type 0} → Result T FillFault → ℕ → ℕ
counted_fill (Ok x) n = n
counted_fill (Err fills.Exists) n = n
counted_fill (Err Source) n = n
counted_fill (Err fills.Failed) n = next_count n
counted_fill (Err fills.Memory) n = n

-- the keeper whose records are copied, after that: all is as before, and a fault of it is counted
abbrev pub after_fill : {T : Type 0} → Result T FillFault → KeeperState → KeeperState
after_fill (Ok x) k = k
after_fill (Err fills.Exists) k = k
after_fill (Err Source) k = after_fault k
after_fill (Err fills.Failed) k = k
after_fill (Err fills.Memory) k = k

-- what a filling does to the records that are kept, if they are reported after it: they are those
-- of the keeper, or after an error what they were
pub record IsFilled {T : Type 0} (from : Option (List (List ℕ))) (before after : VaultState)
    (result : Result T FillFault) : Type 0 where
  pub all : OnOk result (IfSome after.kept (λ now. IfSome from (λ records. now ≡ records)))
  pub unchanged : OnErr result (IfSome after.kept (λ now. before.kept ≡ Some now))
  pub exists : IfSome before.kept (λ records. IsErrOf result fills.Exists → records ≢ [])
  pub none : IfSome before.kept (λ records. OnOk result (records ≡ []))
  pub home : after.out ≡ false
  pub cause : after.faults ≡ counted_fill result before.faults
