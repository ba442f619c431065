-- The activity of a claim.
use Rattle.std.proofs.Common.{◌≡◌, ℕ, List, Option, Some, ap, subst}
use Rattle.std.specs.Prelude.{option_and_then, slice_get}
use Rattle.fedi_core.specs.Delivering.{IsClaimOf}
use Rattle.fedi_queue.specs.declared.rows.Claim.{Claim}
use Rattle.fedi_town.specs.declared.act.Act.{Act}
use Rattle.fedi_town.specs.Towns.{Town}

-- the activity of a claim has its id
pub claimed_act : (t : Town) (c : Claim) (id recipient : List ℕ) (a : Act) → IsClaimOf t c id recipient → slice_get t.acts c.activity ≡ Some a → a.activity.id ≡ Some id
claimed_act t c id recipient a of got =
    let same = ap (λ (x : Claim). x.activity) of.claim in
    let at = subst (λ (k : ℕ). option_and_then (λ (x : Act). x.activity.id) (slice_get t.acts k) ≡ Some id) same of.named in
    subst (λ (o : Option Act). option_and_then (λ (x : Act). x.activity.id) o ≡ Some id) got at
