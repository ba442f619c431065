-- The steps of a history, by what each entry adds.
use Rattle.std.proofs.Common.{◌≡◌, ℕ, List, [], ◌∷◌, ◌++◌, Option, append_assoc}
use Rattle.std.specs.Prelude.{map, option_to_list}
use Rattle.fedi_objects.specs.declared.activity.Activity.{Activity}
use Rattle.fedi_town.specs.declared.act.Act.{Act}
use Rattle.fedi_town.specs.declared.act.Actor.{Actor}
use Rattle.fedi_town.specs.Effects.{affect, effect_of, accept_for, answer_to, acceptance, with_acceptance}
use Rattle.fedi_town.specs.Histories.{post_addition, inbox_addition, delivery_addition, with_addition}
use Rattle.fedi_town.specs.Towns.{Town}

-- the town after an activity is accepted
abbrev pub accept : Town → Act → Town
accept t x = with_acceptance t (acceptance t x)

-- the town after a member's post
abbrev pub after_post : Option (List ℕ) → Town → List ℕ → Option (List ℕ × List ℕ) → Activity → ℕ → Town
after_post host t name repeat a moment = with_addition t (post_addition host t name repeat a moment)

-- the town after a delivery to an owner's inbox
abbrev pub after_inbox : Town → List ℕ → List ℕ → List ℕ → Activity → ℕ → Town
after_inbox t owner author id a moment = with_addition t (inbox_addition t owner author id a moment)

-- the town after a delivery
abbrev pub after_delivery : Town → Option (List ℕ) → Option (List ℕ) → Option (List ℕ) → Activity → ℕ → Town
after_delivery t owner author id a moment = with_addition t (delivery_addition t owner author id a moment)

-- the town with an activity and its effect, before its answer
abbrev pub with_act : Town → Act → Town
with_act t x = record t { acts = map (affect (effect_of t x)) t.acts ++ x ∷ [] }

-- the answer, as a list
abbrev pub answers : Town → Act → List Act
answers t x = option_to_list (answer_to t x)

-- the Accept of the member who was found, as a list
abbrev pub accepts_for : Option (List ℕ) → Town → Act → Option Actor → List Act
accepts_for host t x member = option_to_list (accept_for host t x member)

-- accepting an activity applies its effect, then appends the activity, then its answer
pub accept_in_steps : (t : Town) (x : Act) → (with_act t x).acts ++ answers t x ≡ (accept t x).acts
accept_in_steps t x = append_assoc (map (affect (effect_of t x)) t.acts) (x ∷ []) (answers t x)
