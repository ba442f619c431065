-- Whether a delivery is due is found by the activity's id.
use Rattle.std.proofs.Common.{◌≡◌, ℕ, Bool, true, false, List, refl}
use Rattle.std.specs.Prelude.{◌&&◌}
use Rattle.std.specs.List.{list_any}
use Rattle.fedi_town.proofs.Lists.{list_any-agree}
use Rattle.fedi_town.specs.Queues.{is_due, is_due_in}
use Rattle.fedi_town.specs.Relations.{has_activity_id}
use Rattle.fedi_town.specs.Towns.{Town}

and_twice : (a b : Bool) → (a && (a && b)) ≡ (a && b)
and_twice true b = refl
and_twice false b = refl

-- what is due among those of the id is what is due
pub due_of_id : (t : Town) (id r : List ℕ) (m : ℕ) → list_any (λ x. has_activity_id id x && is_due_in t id r m x) t.acts ≡ is_due t id r m
unfolding is_due_in
due_of_id t id r m = list_any-agree _ (is_due_in t id r m) (λ x. and_twice (has_activity_id id x) _) t.acts
