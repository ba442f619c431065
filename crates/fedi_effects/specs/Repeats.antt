-- What is known of a post when it is repeated.
use Rattle.std.specs.Prelude.{ℕ, List, Option, option_map}
use Rattle.fedi_town.specs.declared.act.Act.{Act}

-- what is known of the activity: the key with the digest of the posted body, and its id
abbrev pub repeat_in : Act → Option ((List ℕ × List ℕ) × Option (List ℕ))
repeat_in x = option_map (λ r. (r, x.activity.id)) x.repeat
