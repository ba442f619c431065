-- The followers of an actor, and how they are found from the positions of Follows.
use Rattle.std.specs.Prelude.{ℕ, Bool, not, ◌&&◌, List, [], ◌∷◌, ◌++◌, map, filter, take, Option}
use Rattle.std.specs.Prelude.{Some, None, slice_get, if◌then◌else◌}
use Rattle.std.specs.List.{list_any}
use Rattle.fedi_address.specs.Recipients.{distinct}
use Rattle.fedi_town.specs.declared.act.Act.{Act}
use Rattle.fedi_town.specs.Relations.{is_follow_of, is_following}

-- the followers of b according to these activities, in the order of their Follows (ActivityPub,
-- section 5.3)
unfoldable pub followers_in : List ℕ → List Act → List (List ℕ)
followers_in b acts = distinct (map (λ x. x.author) (filter (is_following b) acts))

-- the activity at this position is a Follow of b that was accepted, and no earlier one is by the
-- same author
unfoldable pub is_first_follow : List Act → List ℕ → ℕ → Act → Bool
is_first_follow acts b place x =
    is_following b x && not (list_any (is_follow_of x.author b) (take place acts))

-- one more follower, if there is such a Follow
abbrev pub with_first_follow : List Act → List ℕ → ℕ → List (List ℕ) → Option Act → List (List ℕ)
with_first_follow acts b place found None = found
with_first_follow acts b place found (Some x) =
    if is_first_follow acts b place x then found ++ x.author ∷ [] else found

-- one more follower, if there is such a Follow at this position
unfoldable pub with_follower_at : List Act → List ℕ → List (List ℕ) → ℕ → List (List ℕ)
with_follower_at acts b found place = with_first_follow acts b place found (slice_get acts place)
