-- Filling a table from a keeper.
use Rattle.std.proofs.Common.{◌≡◌, ◌≢◌, inl, inr, ◌≤◌, ◌+◌, ℕ, Bool, List, [], ◌∷◌, ◌++◌, length, take, slice_get, Option, None, Some, Result, Ok, Err, Vec, IfOk, IfSome, IsErr, IsErrOf, IsTrue, MatchResult, OnOk, true, false, refl, sym, ap, subst, ◌∙◌, length-append}
use Rattle.sqlite.specs.declared.error.Error.{Error}
use Rattle.sqlite.specs.Effect.{Database}
use Rattle.sqlite.specs.Held.{Held, state}
use Rattle.sqlite.specs.State.{State, IsRolledBack, Shows, Survives}
use Rattle.sqlite.specs.Steps.{FailsToCommit}
use Rattle.sqlite.specs.Store.{Ghosts}
use Rattle.sqlite.specs.Tree.{Trees}
use Rattle.fedi_outside.proofs.Copying.{copied_all, copied_more}
use Rattle.fedi_outside.specs.Keepers.{Finds}
use Rattle.fedi_outside.specs.Vaults.{counted_fill}
use Rattle.fedi_outside.specs.declared.keepers.LoadFault.{LoadFault}
use Rattle.fedi_outside.specs.declared.vaults.FillFault.{FillFault}
use Rattle.fedi_outside.specs.declared.vaults.FillFault.TheVariants.{Exists, Failed, Memory, Source}
use Rattle.fedi_sqlite.specs.Filling.{Fills, FillsEmpty, IsRetained}
use Rattle.fedi_sqlite.specs.Kept.{IsAdding, IsCalm, Keeps}
use Rattle.fedi_sqlite.specs.Tables.{IsSteady, records_in}
use Rattle.fedi_sqlite.specs.Vaults.{IsAtHome, counted_unfilled, kept_in}
use Rattle.fedi_sqlite.proofs.Steps.{keeps_on, rolled_back, stays_open}
use Rattle.fedi_sqlite.proofs.TableSteps.{kept_is, knows_of, own}

-- ---- one record

-- what a load found is at this index, if the records are reported
pub found_in : {A : Type 0} (from : Option (List (List ℕ))) (r : Result (Option (Vec ℕ A)) LoadFault) (bytes : Vec ℕ A) (place : ℕ) → r ≡ Ok (Some bytes)
    → IfSome from (λ rs. IfOk r (Finds rs place)) → IfSome from (λ rs. slice_get rs place ≡ Some bytes.items)
found_in None r bytes place ok found = tt
found_in (Some all) r bytes place ok found = sym (subst (λ r. IfOk r (Finds all place)) ok found)

-- ---- the records so far

abbrev pub HasCopied : Option (List (List ℕ)) → List (List ℕ) → State → ℕ → Type 0
HasCopied from kept s place = (records : List (List ℕ)) × IsAdding kept records s × (length records ≡ place) × IfSome from (λ all. records ≡ take place all)

prefix_more : (from : Option (List (List ℕ))) (records : List (List ℕ)) (payload : List ℕ) (place : ℕ) → IfSome from (λ all. records ≡ take place all) → IfSome from (λ all. slice_get all place ≡ Some payload)
    → IfSome from (λ all. records ++ payload ∷ [] ≡ take (place + 1) all)
prefix_more None records payload place so_far here = tt
prefix_more (Some all) records payload place so_far here = ap (λ rs. rs ++ payload ∷ []) so_far ∙ copied_more all place payload here

pub copied_next : (from : Option (List (List ℕ))) (kept : List (List ℕ)) (old new : State) (place : ℕ) → HasCopied from kept old place
    → ((records : List (List ℕ)) → IsAdding kept records old → place ≡ length records → (payload : List ℕ) × IsAdding kept (records ++ payload ∷ []) new × IfSome from (λ all. slice_get all place ≡ Some payload))
    → HasCopied from kept new (place + 1)
copied_next from kept old new place so_far one =
    let it = one so_far.0 so_far.1 (sym so_far.2) in
    (so_far.0 ++ it.0 ∷ [], it.1, length-append so_far.0 (it.0 ∷ []) ∙ ap (λ n. n + 1) so_far.2, prefix_more from so_far.0 it.0 place so_far.3 it.2)

prefix_whole : (from : Option (List (List ℕ))) (copy : List (List ℕ)) (place held : ℕ) → held ≤ place → IfSome from (λ rs. held ≡ length rs) → IfSome from (λ all. copy ≡ take place all) → IfSome from (λ all. copy ≡ all)
prefix_whole None copy place held past count so_far = tt
prefix_whole (Some all) copy place held past count so_far = copied_all (Some all) copy place held past count (λ kept is. let same : all ≡ kept = cc in subst (λ k. copy ≡ take place k) same so_far)

pub copied_whole : (from : Option (List (List ℕ))) (kept : List (List ℕ)) (s : State) (place held : ℕ) → held ≤ place → IfSome from (λ rs. held ≡ length rs) → HasCopied from kept s place
    → (records : List (List ℕ)) × IsAdding kept records s × IfSome from (λ all. records ≡ all)
copied_whole from kept s place held past count so_far = (so_far.0, so_far.1, prefix_whole from so_far.0 place held past count so_far.3)

pub copied_none : (from : Option (List (List ℕ))) (kept : List (List ℕ)) (s : State) → IsAdding kept [] s → HasCopied from kept s 0
copied_none None kept s adding = ([], adding, refl, tt)
copied_none (Some all) kept s adding = ([], adding, refl, refl)

-- ---- a transaction

pub begins : {S : Type 0} (g : Ghosts S) (conn : Held S) (records : List (List ℕ)) → Keeps records (state g conn) → IsAdding records records (state g (record conn { in_transaction = true }))
begins g conn records keeps = record {
  is_open = keeps.rest.is_open;
  within = refl;
  before = record { schema_is = ap (λ (d : Database). d.schema) keeps.rest.settled ∙ keeps.rest.schema_is; rows = ap (λ (d : Database). d.trees 0) keeps.rest.settled ∙ keeps.rows };
  now = record { schema_is = keeps.rest.schema_is; rows = keeps.rows };
}

pub committed : (kept records : List (List ℕ)) (old new : State) → IsAdding kept records old → Shows old new old.now old.now false → Keeps records new
committed kept records old new adding shown = record {
  rest = record { is_open = shown.is_open; autocommit = shown.mode; settled = shown.committed_is ∙ sym shown.now_is; schema_is = ap (λ (d : Database). d.schema) shown.now_is ∙ adding.now.schema_is };
  rows = ap (λ (d : Database). d.trees 0) shown.now_is ∙ adding.now.rows;
}

pub not_committed : (kept records : List (List ℕ)) (old new : State) (e : Error) → IsAdding kept records old → IsTrue new.is_open → FailsToCommit old new e → Keeps kept new
not_committed kept records old new e adding opened (inl fails) = rolled_back kept records old new adding opened fails.3
not_committed kept records old new e adding opened (inr ended) = absurd (let never : true ≡ false = sym adding.within ∙ ended.1 in cc)

-- what is dropped keeps what was kept before the transaction
pub dropped : (kept : List (List ℕ)) (old new : State) (Commits : Trees → Type 0) → IsCalm old new → Survives old new Commits → IsRetained kept old → IsRolledBack old new → Keeps kept new
dropped kept old new Commits calm kept_on (inl still) back = rolled_back kept still.0 old new still.1 (stays_open old new Commits calm kept_on still.1.is_open) back
dropped kept old new Commits calm kept_on (inr was) back = keeps_on kept old new was (stays_open old new Commits calm kept_on was.rest.is_open) (inr back)

pub carried : {S : Type 0} (g : Ghosts S) (kept : List (List ℕ)) (end conn : Held S) → end ≡ conn → Keeps kept (state g end) → Keeps kept (state g conn)
carried g kept end conn same keeps = subst (λ h. Keeps kept (state g h)) same keeps

pub carried_all : {S : Type 0} (g : Ghosts S) (from : Option (List (List ℕ))) (end conn : Held S) → end ≡ conn → (records : List (List ℕ)) → Keeps records (state g end) → IfSome from (λ all. records ≡ all)
    → (records : List (List ℕ)) × Keeps records (state g conn) × IfSome from (λ all. records ≡ all)
carried_all g from end conn same records keeps all = (records, carried g records end conn same keeps, all)

pub refused : {T E : Type 0} (r : Result T E) (P : T → Type 0) (Q : Type 0) → IsErr r → Q → MatchResult r P (λ _. Q)
refused (Ok x) P Q err q = absurd (cc err)
refused (Err e) P Q err q = q

-- ---- the table

on_ok : {T : Type 0} (r : Result T FillFault) (Q : Type 0) → Q → OnOk r Q
on_ok (Ok x) Q q = q
on_ok (Err e) Q q = tt

pub fills : {T : Type 0} (from : Option (List (List ℕ))) (old mid new : State) (r : Result T FillFault) → ((kept : List (List ℕ)) → Keeps kept old → Keeps kept mid) → ((kept : List (List ℕ)) → Keeps kept old → kept ≡ [])
    → FillsEmpty from mid new r → (IsErrOf r Exists → ⊥) → Fills from old new r
fills from old mid new r stays none filled free = record {
  filled = λ kept keeps.
      let nil = none kept keeps in
      subst (λ k. MatchResult r (λ _. (records : List (List ℕ)) × Keeps records new × IfSome from (λ all. records ≡ all)) (λ _. Keeps k new)) (sym nil) (filled (subst (λ k. Keeps k mid) nil (stays kept keeps)));
  none = λ kept keeps. on_ok r (kept ≡ []) (none kept keeps);
  some = λ kept keeps is. absurd (free is);
}

-- ---- what callers see

module _ {S : Type 0} (g : Ghosts S) (old new : Held S) where
  pub filled_home : {T : Type 0} (reports : Bool) (from : Option (List (List ℕ))) (x : T) → IsAtHome g (Some old) reports → (IsSteady g → Fills from (state g old) (state g new) (Ok x))
      → IsAtHome g (Some new) reports × IfSome (kept_in g reports (Some new)) (λ now. IfSome from (λ records. now ≡ records)) × IfSome (kept_in g reports (Some old)) (λ records. records ≡ [])
  filled_home false from x home h = (λ no. absurd cc, tt, tt)
  filled_home true from x home h =
      let was = home refl in
      let all = h was.steady in
      let it = all.filled (records_in (state g old)) was.keeps in
      let is = kept_is (state g new) it.0 it.1 in (
        λ reports. own g new (length it.0) (knows_of g new it.0 (length it.0) was.steady it.1 refl),
        subst (λ rs. IfSome from (λ all. rs ≡ all)) (sym is) it.2,
        all.none (records_in (state g old)) was.keeps,
      )

  pub unfilled_home : {T : Type 0} (reports : Bool) (from : Option (List (List ℕ))) (fault : FillFault) → IsAtHome g (Some old) reports → (IsSteady g → Fills {T = T} from (state g old) (state g new) (Err fault))
      → IsAtHome g (Some new) reports × IfSome (kept_in g reports (Some new)) (λ now. kept_in g reports (Some old) ≡ Some now) × IfSome (kept_in g reports (Some old)) (λ records. IsErrOf {T = T} (Err fault) Exists → records ≢ [])
  unfilled_home false from fault home h = (λ no. absurd cc, tt, tt)
  unfilled_home true from fault home h =
      let was = home refl in
      let all = h was.steady in
      let records = records_in (state g old) in
      let it = all.filled records was.keeps in (
        λ reports. own g new (length records) (knows_of g new records (length records) was.steady it refl),
        ap Some (sym (kept_is (state g new) records it)),
        all.some records was.keeps,
      )

pub never_exists : {T : Type 0} (kept : Option (List (List ℕ))) (x : T) → IfSome kept (λ records. IsErrOf {E = FillFault} (Ok x) Exists → records ≢ [])
never_exists None x = tt
never_exists (Some records) x = λ never. absurd cc

pub never_none : (T : Type 0) (kept : Option (List (List ℕ))) (fault : FillFault) → IfSome kept (λ records. OnOk {T = T} (Err fault) (records ≡ []))
never_none T None fault = tt
never_none T (Some records) fault = tt

pub counted_unfilled_same : (T : Type 0) (fault : FillFault) (n : ℕ) → counted_unfilled fault n ≡ counted_fill {T = T} (Err fault) n
counted_unfilled_same T Exists n = refl
counted_unfilled_same T Source n = refl
counted_unfilled_same T Failed n = refl
counted_unfilled_same T Memory n = refl
