-- What a link to other servers reports.
use Rattle.std.specs.Prelude.{◌≡◌, ℕ, ⊤, Bool, true, false, List, [], ◌∷◌, ◌++◌, take, Option, Some}
use Rattle.std.specs.Prelude.{None, Result, Ok, Err}
use Rattle.fedi_outside.specs.declared.failure.Failed.{Failed}
use Rattle.fedi_outside.specs.declared.memory_links.Asked.{Asked}
use Rattle.fedi_outside.specs.declared.memory_links.Heard.{Heard}
use Rattle.fedi_outside.specs.declared.memory_links.Heard.TheVariants as heards

-- a request that was sent to an address
pub record Asking : Type 0 where
  pub address : List ℕ
  pub request : List ℕ

-- There is one more row, if rows are still reported: if memory for a row runs out, a link reports
-- none from then on.
abbrev pub AddsRow : {A : Type 0} → Option (List A) → Option (List A) → A → Type 0
AddsRow before None row = ⊤
AddsRow None (Some rows) row = ⊥
AddsRow (Some before) (Some rows) row = rows ≡ before ++ row ∷ []

-- what was heard: the bytes of the reply at the front of the buffer, or none
abbrev pub heard_by : Result ℕ Failed → List ℕ → Option (List ℕ)
heard_by (Ok count) into = Some (take count into)
heard_by (Err failed) into = None

-- ---- a link in memory

-- the request that one of its rows reports
abbrev pub asking_in : Asked → Asking
asking_in a = record { address = a.address.items; request = a.request.items }

-- the reply that one of its rows reports
abbrev pub reply_in : Heard → Option (List ℕ)
reply_in heards.Nothing = None
reply_in (heards.Reply bytes) = Some bytes.items

-- the rows, if they are reported
abbrev pub told_if : {A : Type 0} → Bool → List A → Option (List A)
told_if true rows = Some rows
told_if false rows = None
