-- Reading an actor document stops at the fault with the least number.
use Rattle.std.proofs.Common.{◌≡◌, ℕ, List, Bool, true, false, not, cond, ◌||◌, Option, Some, None, codes, refl, ◌∙◌}
use Rattle.std.specs.Prelude.{is_some, is_none}
use Rattle.std.specs.Result.{result_err}
use Rattle.serde_json.specs.Data.{Data}
use Rattle.serde_json.specs.Find.{as_object}
use Rattle.fedi_reading.specs.Activities.{reads_address}
use Rattle.fedi_reading.specs.Actors.{first_actor_fault, reads_actor, reads_id, reads_inbox, reads_members, reads_names}
use Rattle.fedi_reading.specs.Deliveries.{has_no}
use Rattle.fedi_reading.specs.DeliveryFaults.{is_bad_at}
use Rattle.fedi_reading.specs.Faults.{is_bad_reference}
use Rattle.fedi_reading.specs.Properties.{reference_at}
use Rattle.fedi_reading.specs.declared.shape_fault.ShapeFault.{ShapeFault}
use Rattle.fedi_reading.specs.declared.shape_fault.ShapeFault.TheVariants.{NotObject, NoId, NoObject, BadIri}
use Rattle.fedi_reading.proofs.ActivityFaultLemmas.{address_fault}
use Rattle.fedi_reading.proofs.FaultLemmas.{only, then_fault, or_none, or_both}

names_fault : (id inbox : List ℕ) (d : Data) → result_err (reads_names id inbox d) ≡ only (is_bad_reference (Some id) || is_bad_reference (Some inbox)) BadIri
unfolding reads_names
names_fault id inbox d =
    then_fault (reads_address id) _ _ _ (address_fault id)
    (λ own. then_fault (reads_address inbox) _ _ None (address_fault inbox) (λ there. refl) ∙ or_none _)
    ∙ or_both _ _ BadIri

inbox_fault : (id : List ℕ) (d : Data) (found : Option (List ℕ)) → result_err (reads_inbox id d found)
    ≡ cond (is_none found) (Some NoObject) (only (is_bad_reference (Some id) || is_bad_reference found) BadIri)
inbox_fault id d None = refl
inbox_fault id d (Some inbox) = names_fault id inbox d

id_fault : (d : Data) (found : Option (List ℕ)) → result_err (reads_id d found)
    ≡ cond (is_none found) (Some NoId) (cond (has_no (codes "inbox") d) (Some NoObject) (only (is_bad_reference found || is_bad_at (codes "inbox") d) BadIri))
id_fault d None = refl
id_fault d (Some id) = inbox_fault id d (reference_at (codes "inbox") d)

members_fault : (d : Data) (is : Bool) → result_err (reads_members d is)
    ≡ cond (not is) (Some NotObject) (cond (has_no (codes "id") d) (Some NoId) (cond (has_no (codes "inbox") d) (Some NoObject)
    (only (is_bad_at (codes "id") d || is_bad_at (codes "inbox") d) BadIri)))
members_fault d false = refl
members_fault d true = id_fault d (reference_at (codes "id") d)

-- reading returns the first fault that holds
pub actor_fault : (d : Data) → result_err (reads_actor d) ≡ first_actor_fault d
unfolding reads_actor first_actor_fault
actor_fault d = members_fault d (is_some (as_object d))
