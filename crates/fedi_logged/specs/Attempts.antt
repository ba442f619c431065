-- An attempt to deliver an activity to a recipient (ActivityPub, section 7.1): what is asked of a
-- link, what is heard, and the outcome.
use Rattle.std.specs.Prelude.{◌≡◌, ℕ, List, [], ◌∷◌, ◌++◌, map, Option, Some, None, Result, Ok, Err}
use Rattle.std.specs.Prelude.{slice_get}
use Rattle.std.specs.List.{fold}
use Rattle.std.specs.declared.alloc.AllocError.{AllocError}
use Rattle.fedi_delivery.specs.Deliveries.{address_to, body_of, lookup_to, post_to}
use Rattle.fedi_delivery.specs.Exchanges.{Told, count_after}
use Rattle.fedi_delivery.specs.Replies.{IsCameOfPost, IsFoundIn}
use Rattle.fedi_delivery.specs.declared.replies.Found.TheVariants.{Inbox, Ended}
use Rattle.fedi_objects.specs.declared.entry.Came.{Came}
use Rattle.fedi_outside.specs.Links.{Asking}
use Rattle.fedi_town.specs.declared.act.Act.{Act}
use Rattle.fedi_town.specs.Towns.{Town}

-- ---- exchanges

-- a request that was sent, and what was heard of it: a reply, or none
pub record Exchange : Type 0 where
  pub asking : Asking
  pub heard : Option (List ℕ)

-- if the rows are known now, they are those known before, followed by these
abbrev pub AddsRows : {A : Type 0} → Option (List A) → Option (List A) → List A → Type 0
AddsRows before None rows = Unit {0}
AddsRows None (Some told) rows = ⊥
AddsRows (Some before) (Some told) rows = told ≡ before ++ rows

-- the count of faults after these exchanges: one more for each exchange without a reply
abbrev pub count_after_each : ℕ → List Exchange → ℕ
count_after_each count exchanges =
    fold (λ (n : ℕ) (x : Exchange). count_after x.heard n) count exchanges

-- the link had exactly these exchanges, in this order
pub record HasExchanged (before now : Told) (exchanges : List Exchange) : Type 0 where
  pub asked : AddsRows before.asked now.asked (map (λ (x : Exchange). x.asking) exchanges)
  pub heard : AddsRows before.heard now.heard (map (λ (x : Exchange). x.heard) exchanges)
  pub faults : now.faults ≡ count_after_each before.faults exchanges

-- what this link reports, by the functions that give it for links of its kind
abbrev pub told_by : {K : Type 0} → (K → Option (List Asking))
    → (K → Option (List (Option (List ℕ)))) → (K → ℕ) → K → Told
told_by asked heard faults link =
    record { asked = asked link; heard = heard link; faults = faults link }

-- ---- one attempt

-- the recipient was looked up at its server
abbrev pub IsLookup : Town → List ℕ → Exchange → Type 0
IsLookup t recipient x =
    (address_to t recipient ≡ Some x.asking.address)
    × (lookup_to t recipient ≡ Some x.asking.request)

-- the activity of this id was posted to the inbox, at the server of the recipient
abbrev pub IsPost : Town → List ℕ → List ℕ → List ℕ → Exchange → Type 0
IsPost t id recipient inbox x =
    (k : ℕ) × (a : Act) × (slice_get t.acts k ≡ Some a) × (a.activity.id ≡ Some id)
    × (address_to t recipient ≡ Some x.asking.address)
    × (post_to t recipient inbox (body_of t a) ≡ Some x.asking.request)

-- The exchanges of an attempt, whose outcome is what the last of them shows: the lookup alone, if
-- it ended the attempt; or the lookup, which found the inbox, and the post to it.
abbrev pub ShowsCame : Town → (id recipient : List ℕ) → List Exchange → Came → Type 0
ShowsCame t id recipient [] came = ⊥
ShowsCame t id recipient (l ∷ []) came =
    IsLookup t recipient l × IsFoundIn recipient l.heard (Ended came)
ShowsCame t id recipient (l ∷ p ∷ []) came =
    (inbox : List ℕ) × IsLookup t recipient l × IsFoundIn recipient l.heard (Inbox inbox)
    × IsPost t id recipient inbox p × IsCameOfPost p.heard came
ShowsCame t id recipient (l ∷ p ∷ x ∷ xs) came = ⊥

-- the exchanges of an attempt that may have been abandoned: none, the lookup, or both
abbrev pub IsBegun : Town → (id recipient : List ℕ) → List Exchange → Type 0
IsBegun t id recipient [] = Unit {0}
IsBegun t id recipient (l ∷ []) = IsLookup t recipient l
IsBegun t id recipient (l ∷ p ∷ []) =
    (inbox : List ℕ) × IsLookup t recipient l × IsFoundIn recipient l.heard (Inbox inbox)
    × IsPost t id recipient inbox p
IsBegun t id recipient (l ∷ p ∷ x ∷ xs) = ⊥

-- the outcome of the attempt is what its exchanges show, or there was no memory to finish it
abbrev pub EndsAttempt : Town → (id recipient : List ℕ) → (asked heard : Told)
    → Result Came AllocError → Type 0
EndsAttempt t id recipient asked heard (Ok came) =
    (exchanges : List Exchange) × ShowsCame t id recipient exchanges came
    × HasExchanged asked heard exchanges
EndsAttempt t id recipient asked heard (Err e) =
    (exchanges : List Exchange) × IsBegun t id recipient exchanges
    × HasExchanged asked heard exchanges
