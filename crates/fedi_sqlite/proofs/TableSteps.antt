-- What the statements leave of what a keeper knows.
use Rattle.std.proofs.Common.{◌≡◌, ℕ, ◌+◌, ◌^◌, ◌≤◌, zero, suc, Bool, true, false, List, [], ◌∷◌, ◌++◌, length, map, slice_get, option_map, Some, None, Result, Ok, IfSome, refl, sym, ap, subst, ◌∙◌, arith, length-append}
use Rattle.sqlite.specs.Held.{Held, state}
use Rattle.sqlite.specs.State.{State}
use Rattle.sqlite.specs.Store.{Ghosts}
use Rattle.sqlite.specs.Steps.{IsEmpty, over_memory}
use Rattle.sqlite.proofs.Callers.{memory_is_clean}
use Rattle.fedi_outside.specs.Keepers.{HasAdded}
use Rattle.std.proofs.Common.{◌≢◌, Err}
use Rattle.fedi_outside.specs.Vaults.{MayRefuseToMake, counted, none_of}
use Rattle.fedi_outside.specs.declared.vaults.VaultFault.{VaultFault}
use Rattle.fedi_outside.specs.declared.vaults.VaultFault.TheVariants.{Exists, Failed, Gap, Memory}
use Rattle.fedi_sqlite.specs.Kept.{IsAtRest, IsCalm, Keeps, no_schema, rows_from}
use Rattle.fedi_sqlite.specs.Tables.{IsKnown, IsSteady, Knows, held_in, payload_in, records_in, table_shown, reported}
use Rattle.fedi_sqlite.specs.Vaults.{Begins, IsAtHome, Resumes, counted_fault, kept_in}

payloads : (records : List (List ℕ)) (from : ℕ) → map payload_in (rows_from from records) ≡ records
payloads [] from = refl
payloads (first ∷ more) from = ap (λ rest. first ∷ rest) (payloads more (from + 1))

pub kept_is : (s : State) (records : List (List ℕ)) → Keeps records s → records_in s ≡ records
kept_is s records keeps = ap (map payload_in) keeps.rows ∙ payloads records 0

pub whole : (s : State) (records : List (List ℕ)) → Keeps records s → Keeps (records_in s) s
whole s records keeps = subst (λ rs. Keeps rs s) (sym (kept_is s records keeps)) keeps

past_end : (records : List (List ℕ)) (place : ℕ) → length records ≤ place → None ≡ slice_get records place
past_end [] place past = refl
past_end (first ∷ more) zero past = absurd (omega (arith, past))
past_end (first ∷ more) (suc place) past = past_end more place (omega (arith, past))

module _ {S : Type 0} (g : Ghosts S) where
  pub knows_of : (conn : Held S) (records : List (List ℕ)) (held : ℕ) → IsSteady g → Keeps records (state g conn) → held ≡ length records → Knows g conn held
  knows_of conn records held steady keeps long = record { steady = steady; keeps = whole (state g conn) records keeps; held_is = long ∙ ap length (sym (kept_is (state g conn) records keeps)) }

  module _ (old new : Held S) (held : ℕ) where
    pub knows_still : Knows g old held → ((records : List (List ℕ)) → IsCalm (state g old) (state g new) → Keeps records (state g old) → held ≡ length records → Keeps records (state g new))
        → Knows g new held × (records_in (state g new) ≡ records_in (state g old))
    knows_still k stay =
        let records = records_in (state g old) in
        let keeps = stay records (k.steady old new) k.keeps k.held_is in
        (knows_of new records held k.steady keeps k.held_is, kept_is (state g new) records keeps)

    pub known_still : (reports : Bool) → IsKnown g old held reports → ((records : List (List ℕ)) → IsCalm (state g old) (state g new) → Keeps records (state g old) → held ≡ length records → Keeps records (state g new))
        → IsKnown g new held reports × (reported reports (state g new) ≡ reported reports (state g old))
    known_still false k stay = (record { bound = k.bound; knows = λ no. absurd cc }, refl)
    known_still true k stay = let it = knows_still (k.knows refl) stay in (record { bound = k.bound; knows = λ yes. it.0 }, ap Some it.1)

    pub known_longer : (reports : Bool) (payload : List ℕ) → held + 1 ≤ 2 ^ 62 → IsKnown g old held reports
        → ((records : List (List ℕ)) → IsCalm (state g old) (state g new) → Keeps records (state g old) → held ≡ length records → Keeps (records ++ payload ∷ []) (state g new))
        → IsKnown g new (held + 1) reports × (reported reports (state g new) ≡ option_map (λ records. records ++ payload ∷ []) (reported reports (state g old)))
    known_longer false payload room k more = (record { bound = room; knows = λ no. absurd cc }, refl)
    known_longer true payload room k more =
        let was = k.knows refl in
        let records = records_in (state g old) in
        let keeps = more records (was.steady old new) was.keeps was.held_is in (
          record { bound = room; knows = λ yes. knows_of new (records ++ payload ∷ []) (held + 1) was.steady keeps (omega (arith, length-append records (payload ∷ []), was.held_is)) },
          ap Some (kept_is (state g new) (records ++ payload ∷ []) keeps),
        )

    pub finds_bytes : (reports : Bool) (place : ℕ) (bytes : List ℕ) → IsKnown g old held reports
        → ((records : List (List ℕ)) → IsCalm (state g old) (state g new) → Keeps records (state g old) → slice_get records place ≡ Some bytes)
        → IfSome (reported reports (state g old)) (λ records. Some bytes ≡ slice_get records place)
    finds_bytes false place bytes k there = tt
    finds_bytes true place bytes k there = let was = k.knows refl in sym (there (records_in (state g old)) (was.steady old new) was.keeps)

  module _ (conn : Held S) (held : ℕ) where
    pub finds_none : (reports : Bool) (place : ℕ) → IsKnown g conn held reports → held ≤ place → IfSome (reported reports (state g conn)) (λ records. None ≡ slice_get records place)
    finds_none false place k past = tt
    finds_none true place k past = past_end (records_in (state g conn)) place (omega (arith, (k.knows refl).held_is, past))

    pub held_is : (reports : Bool) → IsKnown g conn held reports → held ≡ held_in reports (state g conn) held
    held_is false k = refl
    held_is true k = (k.knows refl).held_is

  -- ---- what callers see

  module _ (old new : Held S) (held faults : ℕ) (reports : Bool) (payload : List ℕ) (room : held + 1 ≤ 2 ^ 62) (known : IsKnown g old held reports)
      (more : (records : List (List ℕ)) → IsCalm (state g old) (state g new) → Keeps records (state g old) → held ≡ length records → Keeps (records ++ payload ∷ []) (state g new)) where
    pub added : HasAdded (λ _. 1) payload (table_shown g (record { conn = old; held = held; faults = faults; reports = reports })) (table_shown g (record { conn = new; held = held + 1; faults = faults; reports = reports }))
    added =
        let it = known_longer old new held reports payload room known more in
        let longer : held_in reports (state g new) (held + 1) ≡ held_in reports (state g old) held + 1 = sym (held_is new (held + 1) reports it.0) ∙ ap (λ n. n + 1) (held_is old held reports known) in
        record { records = it.1; held = longer; doubt = refl; end = longer; faults = refl }

  -- ---- vaults

  pub own : (conn : Held S) (held : ℕ) → Knows g conn held → Knows g conn (length (records_in (state g conn)))
  own conn held k = record { steady = k.steady; keeps = k.keeps; held_is = refl }

  module _ (old new : Held S) where
    pub at_home : (reports : Bool) → IsAtHome g (Some old) reports → (IsSteady g → (records : List (List ℕ)) → Keeps records (state g old) → Keeps records (state g new))
        → IsAtHome g (Some new) reports × (kept_in g reports (Some new) ≡ kept_in g reports (Some old))
    at_home false home stay = (λ no. absurd cc, refl)
    at_home true home stay =
        let was = home refl in
        let it = knows_still old new (length (records_in (state g old))) was (λ records calm keeps at. stay was.steady records keeps) in
        (λ reports. own new (length (records_in (state g old))) it.0, ap Some it.1)

    pub handed : (reports : Bool) (count : ℕ) → IsAtHome g (Some old) reports → count ≤ 2 ^ 62
        → (IsSteady g → (records : List (List ℕ)) → Keeps records (state g old) → Keeps records (state g new) × (count ≡ length records))
        → IsKnown g new count reports × (reported reports (state g new) ≡ kept_in g reports (Some old))
    handed false count home fits find = (record { bound = fits; knows = λ no. absurd cc }, refl)
    handed true count home fits find =
        let was = home refl in
        let it = find was.steady (records_in (state g old)) was.keeps in
        (record { bound = fits; knows = λ reports. knows_of new (records_in (state g old)) count was.steady it.0 it.1 }, ap Some (kept_is (state g new) (records_in (state g old)) it.0))

    pub counted_held : (reports : Bool) (count : ℕ) → IsAtHome g (Some old) reports
        → (IsSteady g → (records : List (List ℕ)) → Keeps records (state g old) → count ≡ length records)
        → IfSome (kept_in g reports (Some old)) (λ records. count ≡ length records)
    counted_held false count home find = tt
    counted_held true count home find = let was = home refl in find was.steady (records_in (state g old)) was.keeps

  -- what callers see of a vault
  module _ (old new : Held S) (reports : Bool) (faults : ℕ) (home : IsAtHome g (Some old) reports) where
    begins_stay : {T : Type 0} {r : Result T VaultFault} → (IsSteady g → Begins (state g old) (state g new) r) → IsSteady g → (records : List (List ℕ)) → Keeps records (state g old) → Keeps records (state g new)
    begins_stay h steady records keeps = (h steady).stays records keeps

    pub still_home : {T : Type 0} (r : Result T VaultFault) → (IsSteady g → Begins (state g old) (state g new) r) → IsAtHome g (Some new) reports × (kept_in g reports (Some new) ≡ kept_in g reports (Some old))
    still_home r h = at_home old new reports home (begins_stay h)

    pub resumed_home : (r : Result ℕ VaultFault) → (IsSteady g → Resumes (state g old) (state g new) r) → IsAtHome g (Some new) reports × (kept_in g reports (Some new) ≡ kept_in g reports (Some old))
    resumed_home r h = at_home old new reports home (λ steady records keeps. (h steady).stays records keeps)

    pub begun : {T : Type 0} (x : T) → (IsSteady g → Begins (state g old) (state g new) (Ok x)) → IsKnown g new 0 reports × (reported reports (state g new) ≡ kept_in g reports (Some old))
    begun x h = handed old new reports 0 home (omega arith) (λ steady records keeps. ((h steady).stays records keeps, ap length (sym ((h steady).none records keeps))))

    pub resumed : (count : ℕ) → count ≤ 2 ^ 62 → (IsSteady g → Resumes (state g old) (state g new) (Ok count)) → IsKnown g new count reports × (reported reports (state g new) ≡ kept_in g reports (Some old))
    resumed count fits h = handed old new reports count home fits (λ steady records keeps. ((h steady).stays records keeps, (h steady).all records keeps))

  pub none_kept : (reports : Bool) (old : Held S) → IsAtHome g (Some old) reports → (IsSteady g → (records : List (List ℕ)) → Keeps records (state g old) → records ≡ [])
      → kept_in g reports (Some old) ≡ none_of (kept_in g reports (Some old))
  none_kept false old home h = refl
  none_kept true old home h = let was = home refl in ap Some (h was.steady (records_in (state g old)) was.keeps)

  pub make_ok : (reports : Bool) (old : Held S) → IsAtHome g (Some old) reports → (IsSteady g → (records : List (List ℕ)) → Keeps records (state g old) → records ≡ [])
      → {U : Type 0} (y : U) → MayRefuseToMake (kept_in g reports (Some old)) (Ok y)
  make_ok false old home h y = record { exists = tt; none = tt; no_gap = λ place no. absurd cc }
  make_ok true old home h y = let was = home refl in record { exists = λ no. absurd cc; none = h was.steady (records_in (state g old)) was.keeps; no_gap = λ place no. absurd cc }

  pub make_err : (reports : Bool) (old : Held S) → IsAtHome g (Some old) reports → (fault : VaultFault) → (IsSteady g → (records : List (List ℕ)) → Keeps records (state g old) → fault ≡ Exists → records ≢ [])
      → ((place : ℕ) → fault ≡ Gap place → ⊥) → {U : Type 0} → MayRefuseToMake {T = U} (kept_in g reports (Some old)) (Err fault)
  make_err false old home fault h never = record { exists = tt; none = tt; no_gap = λ place is. never place cc }
  make_err true old home fault h never = let was = home refl in record { exists = λ is. h was.steady (records_in (state g old)) was.keeps cc; none = tt; no_gap = λ place is. never place cc }

  pub open_err : (reports : Bool) (old : Held S) → IsAtHome g (Some old) reports → (fault : VaultFault) → (IsSteady g → (records : List (List ℕ)) → Keeps records (state g old) → (place : ℕ) → fault ≡ Gap place → ⊥)
      → (place : ℕ) → fault ≡ Gap place → kept_in g reports (Some old) ≡ None
  open_err false old home fault h place is = refl
  open_err true old home fault h place is = let was = home refl in absurd (h was.steady (records_in (state g old)) was.keeps place is)

pub counted_same : (T : Type 0) (fault : VaultFault) (n : ℕ) → counted_fault fault n ≡ counted {T = T} (Err fault) n
counted_same T Exists n = refl
counted_same T (Gap place) n = refl
counted_same T Failed n = refl
counted_same T Memory n = refl

pub empty_of : (records : List (List ℕ)) → length records ≡ 0 → records ≡ []
empty_of [] none = refl
empty_of (first ∷ more) none = absurd (omega (arith, none))

pub memory_is_steady : IsSteady over_memory
memory_is_steady old new = record { clean = memory_is_clean new; calm = λ more. absurd (omega (arith, more)) }

pub empty_is_at_rest : (s : State) → IsEmpty s → IsAtRest no_schema s
empty_is_at_rest s empty = record { is_open = empty.0.is_open; autocommit = empty.0.autocommit; settled = sym empty.0.clean; schema_is = empty.2 }
