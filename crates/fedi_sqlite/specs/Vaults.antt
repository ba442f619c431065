-- What a vault over a table knows of its database, and what callers see of it.
use Rattle.std.specs.Prelude.{◌≡◌, ◌≢◌, ℕ, Bool, true, false, List, [], length, Option, Some}
use Rattle.std.specs.Prelude.{None, IsTrue, IfOk, IfSome, IsErrOf, OnOk, Result, refl}
use Rattle.std.specs.Coded.{Coded, code_by, coded×, coded_ℕ, coded_bool, coded_option}
use Rattle.sqlite.specs.Held.{Held, held_code, state}
use Rattle.sqlite.specs.State.{State}
use Rattle.sqlite.specs.Store.{Ghosts}
use Rattle.fedi_outside.specs.Causes.{next_count}
use Rattle.fedi_outside.specs.declared.vaults.FillFault.{FillFault}
use Rattle.fedi_outside.specs.declared.vaults.FillFault.TheVariants as fills
use Rattle.fedi_outside.specs.declared.vaults.FillFault.TheVariants.{Source}
use Rattle.fedi_outside.specs.declared.vaults.VaultFault.{VaultFault}
use Rattle.fedi_outside.specs.declared.vaults.VaultFault.TheVariants.{Exists, Failed, Gap, Memory}
use Rattle.fedi_outside.specs.Vaults.{VaultState}
use Rattle.fedi_sqlite.specs.Kept.{Keeps}
use Rattle.fedi_sqlite.specs.Tables.{Knows, records_in, reported}
use Rattle.fedi_sqlite.specs.declared.places.Places.{Places}
use Rattle.fedi_sqlite.specs.declared.places.Places.TheVariants.{Whole}

-- finding which places have a record
pub record Counts {E : Type 0} (old new : State) (r : Result Places E) : Type 0 where
  pub stays : (records : List (List ℕ)) → Keeps records old → Keeps records new
  pub finds : (records : List (List ℕ)) → Keeps records old
      → IfOk r (λ places. places ≡ Whole (length records))

-- finding whether a keeper may be made: only if there is no record
pub record Begins {T : Type 0} (old new : State) (r : Result T VaultFault) : Type 0 where
  pub stays : (records : List (List ℕ)) → Keeps records old → Keeps records new
  pub none : (records : List (List ℕ)) → Keeps records old → OnOk r (records ≡ [])
  pub some : (records : List (List ℕ)) → Keeps records old → IsErrOf r Exists → records ≢ []

-- finding how many records a keeper is opened with
pub record Resumes (old new : State) (r : Result ℕ VaultFault) : Type 0 where
  pub stays : (records : List (List ℕ)) → Keeps records old → Keeps records new
  pub all : (records : List (List ℕ)) → Keeps records old → IfOk r (λ count. count ≡ length records)
  pub whole : (records : List (List ℕ)) → Keeps records old → (place : ℕ)
      → IsErrOf r (Gap place) → ⊥

-- ---- causes

-- the count of faults after a call that ended with this one
abbrev pub counted_fault : VaultFault → ℕ → ℕ
counted_fault Exists n = n
counted_fault (Gap place) n = n
counted_fault Failed n = next_count n
counted_fault Memory n = n

-- the same of a filling
abbrev pub counted_unfilled : FillFault → ℕ → ℕ
counted_unfilled fills.Exists n = n
counted_unfilled Source n = n
counted_unfilled fills.Failed n = next_count n
counted_unfilled fills.Memory n = n

-- ---- what callers see

-- if a vault reports its records, it knows what its database has
abbrev pub IsAtHome : {S : Type 0} → Ghosts S → Option (Held S) → Bool → Type 0
IsAtHome g conn reports =
    IfSome conn (λ it. IsTrue reports → Knows g it (length (records_in (state g it))))

-- the records in the vault, if it reports them and no keeper is out
abbrev pub kept_in : {S : Type 0} → Ghosts S → Bool → Option (Held S) → Option (List (List ℕ))
kept_in g reports None = None
kept_in g reports (Some conn) = reported reports (state g conn)

-- the keeper that is out has the connection
abbrev pub is_out : {A : Type 0} → Option A → Bool
is_out None = true
is_out (Some conn) = false

-- the fields of a vault over a table
pub record TableVaultState (S : Type 0) : Type 0 where
  pub conn : Option (Held S)
  pub faults : ℕ
  pub reports : Bool  -- whether it reports its records

-- such fields can be compared, as those of a value that contracts see have to
abbrev pub vault_code : {S : Type 0} → Coded S → Coded (TableVaultState S)
vault_code {S} store =
    code_by (Option (Held S) × (ℕ × Bool))
    (coded× (coded_option (held_code store)) (coded× coded_ℕ coded_bool))
    (λ v. (v.conn, (v.faults, v.reports)))
    (λ p. record { conn = p.0; faults = p.1.0; reports = p.1.1 }) (λ _. refl)

-- a vault over a table, as its callers see it
abbrev pub vault_shown : {S : Type 0} → Ghosts S → TableVaultState S → VaultState
vault_shown g v = record {
  kept = kept_in g v.reports v.conn;
  out = is_out v.conn;
  faults = v.faults;
}
