-- A delivery that a server claims for an attempt, and the lookup of its recipient (ActivityPub,
-- section 7.1).
use Rattle.std.specs.Prelude.{◌≡◌, ◌⊎◌, ℕ, List, [], ◌∷◌, ◌++◌, Option, Some, None, Result, Ok, Err}
use Rattle.std.specs.Prelude.{slice_get}
use Rattle.std.specs.declared.alloc.AllocError.{AllocError}
use Rattle.fedi_delivery.specs.Deliveries.{body_of, lookup_to}
use Rattle.fedi_log.specs.Claims.{HasClaimed, IsFirst, claimed_by, free_in}
use Rattle.fedi_log.specs.Log.{history_of, made_by}
use Rattle.fedi_log.specs.declared.items.Pair.{Pair}
use Rattle.fedi_log.specs.declared.items.What.TheVariants.{Released}
use Rattle.fedi_logged.specs.Claiming.{ChangesClaims}
use Rattle.fedi_logged.specs.Logs.{MachineLog}
use Rattle.fedi_queue.specs.declared.rows.Claim.{Claim}
use Rattle.fedi_town.specs.declared.act.Act.{Act}
use Rattle.fedi_town.specs.Histories.{town}
use Rattle.fedi_world.specs.declared.parts.Packet.{Packet}
use Rattle.fedi_world.specs.declared.parts.Pending.{Pending}
use Rattle.fedi_world.specs.declared.parts.Stage.TheVariants.{Looking}
use Rattle.fedi_world.specs.Scenes.{attempt_of, claim_in}
use Rattle.fedi_world.specs.Standing.{pair_at}

-- The attempt of this number is that of a delivery that the server has claimed for it, as the
-- activity is now; and the request is the lookup of the recipient.
pub record IsMade {P : Type 0} (server attempt request : ℕ) (seat : MachineLog P) (c : Claim)
    (a : Pending) (q : Packet) : Type 0 where
  pub of : a.server ≡ server
  pub claim : claim_in a ≡ c
  pub held : HasClaimed (Some attempt) seat.log (pair_at (attempt_of a)) c
  pub since : a.since.value.history ≡ seat.core.history
  pub number : a.request ≡ request
  pub stage : a.stage ≡ Looking
  pub act : Act
  pub kept : slice_get (town seat.core.history).acts c.activity ≡ Some act
  pub named : act.activity.id ≡ Some a.activity.value
  pub body : a.body.items ≡ body_of (town seat.core.history) act
  pub mine : q.attempt ≡ attempt
  pub addressed : q.to ≡ a.recipient
  pub lookup : lookup_to (town seat.core.history) a.recipient ≡ Some q.text.items

-- the first delivery of the server that is due at this moment and was not claimed is claimed for
-- the attempt of this number, which begins with the lookup
pub record IsTaken {P : Type 0} (server attempt request moment : ℕ) (before after : MachineLog P)
    (a : Pending) (q : Packet) : Type 0 where
  pub changes : ChangesClaims before.core after.core
  pub first : IsFirst a.activity.value a.recipient (free_in before.log moment)
  pub claimed : a.claimed ≡ moment
  pub log : after.log
      ≡ before.log ++ made_by (Some attempt) (claimed_by (pair_at (attempt_of a)) (claim_in a)) ∷ []
  pub made : IsMade server attempt request after (claim_in a) a q

-- nothing was free
pub record IsIdle {P : Type 0} (moment : ℕ) (before after : MachineLog P) : Type 0 where
  pub changes : ChangesClaims before.core after.core
  pub free : free_in before.log moment ≡ []
  pub log : after.log ≡ before.log

-- what was claimed was released again
pub record IsReleased {P : Type 0} (attempt moment : ℕ) (before after : MachineLog P)
    : Type 0 where
  pub changes : ChangesClaims before.core after.core
  pub pair : Pair
  pub claim : Claim
  pub first : IsFirst pair.activity pair.recipient (free_in before.log moment)
  pub log : after.log ≡ (before.log ++ made_by (Some attempt) (claimed_by pair claim) ∷ [])
      ++ made_by (Some attempt) (Released pair) ∷ []

-- what is made of the first delivery that is due: nothing if there is none, an attempt with its
-- request, or nothing if memory runs out
abbrev pub TakesUp : {P : Type 0} → (server attempt request moment : ℕ) → MachineLog P
    → MachineLog P → Result (Option (Pending × Packet)) AllocError → Type 0
TakesUp server attempt request moment before after (Ok None) = IsIdle moment before after
TakesUp server attempt request moment before after (Ok (Some made)) =
    IsTaken server attempt request moment before after made.0 made.1
TakesUp server attempt request moment before after (Err e) =
    IsReleased attempt moment before after
