-- The attempts to deliver, as they are held: what has become of each delivery that was tried.
use Rattle.std.specs.Prelude.{◌≡◌, ℕ, ◌+◌, ◌<◌, ◌≤◌, ◌^◌, Bool, true, ◌&&◌, nat_lt, IsTrue, List}
use Rattle.std.specs.Prelude.{Option, Some, None, vec_len, vec_capacity}
use Rattle.std.specs.List.{find, list_all}
use Rattle.std.specs.Str.{bytes_eq}
use Rattle.fedi_effects.specs.declared.progress.Standing.{Standing}
use Rattle.fedi_effects.specs.declared.progress.Standing.TheVariants as standings
use Rattle.fedi_effects.specs.declared.tallies.Tallies.TheInside.{Inside}
use Rattle.fedi_effects.specs.declared.tallies.Tally.{Tally}
use Rattle.fedi_effects.specs.Standings.{progress_at, progress_in}
use Rattle.fedi_register.specs.declared.seeds.Seed.{Seed}
use Rattle.fedi_register.specs.Marks.{every, marks_from}
use Rattle.fedi_register.specs.Seeds.{mark_of_pair}
use Rattle.fedi_town.specs.declared.act.Attempt.{Attempt}
use Rattle.fedi_town.specs.Queues.{Progress}
use Rattle.fedi_town.specs.Queues.{Due}

-- the attempts in order, and how many more there is room for
pub record Tallied : Type 0 where
  pub attempts : List Attempt
  pub room : ℕ

-- the tally is for the delivery of the activity with this id to this recipient
unfoldable pub is_tally_of : List ℕ → List ℕ → Tally → Bool
is_tally_of id recipient y = bytes_eq y.activity id && bytes_eq y.recipient recipient

-- the number for the delivery
unfoldable pub tally_mark : Seed → Tally → ℕ
tally_mark seed y = mark_of_pair seed y.activity y.recipient

-- if another attempt is due, there were fewer than eight
abbrev pub is_few_so : Standing → Bool
is_few_so (standings.Due attempts from) = nat_lt attempts 8
is_few_so (standings.Ended attempts) = true

-- the same of the tally's delivery
unfoldable pub is_few : Tally → Bool
is_few y = is_few_so y.standing

-- what the tally says, or that the delivery was not tried
abbrev pub standing_or : ℕ → Option Tally → Progress
standing_or moment None = Due 0 moment
standing_or moment (Some y) = progress_in y.standing

-- the tallies say what has become of every delivery
pub record AreTallied (list : List Tally) (attempts : List Attempt) : Type 0 where
  pub so : (id recipient : List ℕ) (moment : ℕ) → progress_at attempts id recipient moment
      ≡ standing_or moment (find (is_tally_of id recipient) list)

-- the attempts, as look-ups see them
abbrev pub tallied_in : Inside → Tallied
tallied_in t = record { attempts = t.attempts; room = t.room }

-- each tally is looked up by its delivery, there is room in each list, and an index fits its field
abbrev pub AreTallies : Inside → Type 0
AreTallies t =
    (t.marks.marks ≡ marks_from every (tally_mark t.seed) 0 t.list.items)
    × AreTallied t.list.items t.attempts
    × IsTrue (list_all is_few t.list.items)
    × (vec_len t.list + t.room ≤ vec_capacity t.list)
    × (vec_len t.list + t.room < 2 ^ 32)
    × (t.room ≤ t.marks.room)
