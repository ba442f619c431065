-- What a selection over a table keeps knowing of it.
use Rattle.std.proofs.Common.{◌≡◌, ℕ, Bool, true, false, List, [], ◌∷◌, map, Option, Some, None, option_map, Result, Ok, Err, MatchResult, IfSome, refl, sym, ap, subst, ◌∙◌, arith}
use Rattle.sqlite.specs.Held.{Held, state}
use Rattle.sqlite.specs.State.{State}
use Rattle.sqlite.specs.Store.{Ghosts}
use Rattle.sqlite.specs.Steps.{IsEmpty, over_memory}
use Rattle.sqlite.proofs.Callers.{memory_is_clean}
use Rattle.fedi_selection.specs.ActRows.{ActFields, AreInOrder, picked}
use Rattle.fedi_selection.specs.Acts.{act_row, act_schema, no_schema}
use Rattle.fedi_selection.specs.Databases.{IsAtRest, IsSteady, Rests}
use Rattle.fedi_selection.specs.Tables.{IsKnown, Knows, Lies, act_in, acts_in, reported}

acts_back : (acts : List ActFields) → map act_in (map act_row acts) ≡ acts
acts_back [] = refl
acts_back (x ∷ acts) = ap (λ rest. x ∷ rest) (acts_back acts)

pub acts_are : (s : State) (acts : List ActFields) → Lies acts s → acts_in s ≡ acts
acts_are s acts lies = ap (map act_in) lies.rests.rows_are ∙ acts_back acts

pub memory_is_steady : IsSteady over_memory
memory_is_steady old new = record { clean = memory_is_clean new; calm = λ more. absurd (omega (arith, more)) }

pub empty_is_at_rest : (s : State) → IsEmpty s → IsAtRest no_schema s
empty_is_at_rest s empty = record { is_open = empty.0.is_open; autocommit = empty.0.autocommit; settled = sym empty.0.clean; schema_is = empty.2 }

module _ {S : Type 0} (g : Ghosts S) where
  pub knows_of : (conn : Held S) (acts : List ActFields) → IsSteady g → Lies acts (state g conn) → Knows g conn
  knows_of conn acts steady lies = record { steady = steady; lies = subst (λ a. Lies a (state g conn)) (sym (acts_are (state g conn) acts lies)) lies }

  module _ (old new : Held S) where
    -- the rows are others, or the same
    pub lies_now : (reports : Bool) (rows : List ActFields) → IsKnown g old reports → (IsSteady g → (acts : List ActFields) → Lies acts (state g old) → Lies rows (state g new))
        → IsKnown g new reports × (reported reports (state g new) ≡ option_map (λ _. rows) (reported reports (state g old)))
    lies_now false rows known lay = (λ no. absurd cc, refl)
    lies_now true rows known lay =
        let was = known refl in
        let lies = lay was.steady (acts_in (state g old)) was.lies in
        (λ reports. knows_of new rows was.steady lies, ap Some (acts_are (state g new) rows lies))

    pub lies_still : (reports : Bool) → IsKnown g old reports → (IsSteady g → (acts : List ActFields) → Lies acts (state g old) → Lies acts (state g new))
        → IsKnown g new reports × (reported reports (state g new) ≡ reported reports (state g old))
    lies_still false known stay = (λ no. absurd cc, refl)
    lies_still true known stay =
        let was = known refl in
        let acts = acts_in (state g old) in
        let lies = stay was.steady acts was.lies in
        (λ reports. knows_of new acts was.steady lies, ap Some (acts_are (state g new) acts lies))

  -- what was picked is picked of what is reported
  pub picked_reported : (reports : Bool) (old : Held S) (actor kind : List ℕ) (rows : List ActFields) → IsKnown g old reports → (IsSteady g → (acts : List ActFields) → Lies acts (state g old) → rows ≡ picked actor kind acts)
      → IfSome (reported reports (state g old)) (λ laid. rows ≡ picked actor kind laid)
  picked_reported false old actor kind rows known find = tt
  picked_reported true old actor kind rows known find = let was = known refl in find was.steady (acts_in (state g old)) was.lies

-- rows that are laid in order lie there in order
pub lies_by : {T E : Type 0} (r : Result T E) (rows acts : List ActFields) (s : State) → AreInOrder rows → AreInOrder acts
    → MatchResult r (λ _. Rests act_schema (map act_row rows) s) (λ _. Rests act_schema (map act_row acts) s) → MatchResult r (λ _. Lies rows s) (λ _. Lies acts s)
lies_by (Ok x) rows acts s order_rows order_acts rests = record { rests = rests; order = order_rows }
lies_by (Err e) rows acts s order_rows order_acts rests = record { rests = rests; order = order_acts }

pub nothing_said : {A : Type 0} (o : Option A) → IfSome o (λ _. Unit {0})
nothing_said None = tt
nothing_said (Some x) = tt
