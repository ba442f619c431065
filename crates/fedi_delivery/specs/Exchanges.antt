-- One exchange over a link to other servers.
use Rattle.std.specs.Prelude.{◌≡◌, ℕ, List, Option, Some, None, Result}
use Rattle.std.specs.declared.alloc.AllocError.{AllocError}
use Rattle.fedi_outside.specs.Causes.{next_count}
use Rattle.fedi_outside.specs.Links.{AddsRow, Asking}
use Rattle.fedi_objects.specs.declared.entry.Came.{Came}
use Rattle.fedi_delivery.specs.declared.replies.Found.{Found}
use Rattle.fedi_delivery.specs.Replies.{IsCameOfPost, IsLookedUp}

-- the count of faults after an exchange: one more if no reply was heard, up to the last value of a
-- u64, and otherwise unchanged
abbrev pub count_after : Option (List ℕ) → ℕ → ℕ
count_after None before = next_count before
count_after (Some reply) before = before

-- what a link reports: the requests that were sent over it and what was heard of each, if it
-- reports these, and its count of faults
pub record Told : Type 0 where
  pub asked : Option (List Asking)
  pub heard : Option (List (Option (List ℕ)))
  pub faults : ℕ

-- the report that consists of these
abbrev pub told : Option (List Asking) → Option (List (Option (List ℕ))) → ℕ → Told
told asked heard faults = record { asked = asked; heard = heard; faults = faults }

-- One request was sent, and the row is what was heard of it: a reply, or none.
pub record Exchanges (before after : Told) (asking : Asking) (row : Option (List ℕ)) : Type 0 where
  pub asked : AddsRow before.asked after.asked asking
  pub heard : AddsRow before.heard after.heard row
  pub faults : after.faults ≡ count_after row before.faults

-- the request to an address
abbrev pub asking_for : (address request : List ℕ) → Asking
asking_for address request = record { address = address; request = request }

-- A lookup is one exchange, and its result is what was heard.
pub record LooksUp
    (before after : Told) (asking : Asking) (recipient : List ℕ)
    (result : Result Found AllocError) : Type 0 where
  pub row : Option (List ℕ)
  pub exchange : Exchanges before after asking row
  pub shows : IsLookedUp recipient row result

-- A post is one exchange, and its outcome is what was heard.
pub record Posts (before after : Told) (asking : Asking) (came : Came) : Type 0 where
  pub row : Option (List ℕ)
  pub exchange : Exchanges before after asking row
  pub shows : IsCameOfPost row came
