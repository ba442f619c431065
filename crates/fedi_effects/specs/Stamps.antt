-- What the server sets in a member's activity.
use Rattle.std.specs.Prelude.{ℕ, List, Some}
use Rattle.fedi_objects.specs.declared.activity.Activity.{Activity}
use Rattle.fedi_text.specs.Dates.{moment_text}
use Rattle.fedi_town.specs.Activities.{complete_ref}
use Rattle.fedi_town.specs.Ids.{activity_id, actor_id}

-- the author's activity of this number, with all that the server sets except those it implies
-- (ActivityPub, sections 6 and 6.2)
abbrev pub stamped : List ℕ → List ℕ → ℕ → ℕ → Activity → Activity
stamped host name number moment a = record a {
  id = Some (activity_id host name number);
  actor = Some (actor_id host name);
  published = Some (moment_text moment);
  object = complete_ref host name number moment a.object;
}
