-- The members, with what they are looked up by.
use Rattle.std.specs.Prelude.{◌≡◌, ℕ, ◌+◌, ◌<◌, ◌≤◌, ◌^◌, List, vec_len, vec_capacity}
use Rattle.fedi_register.specs.Marks.{every, marks_from}
use Rattle.fedi_register.specs.Seeds.{mark_of}
use Rattle.fedi_register.specs.declared.seeds.Seed.{Seed}
use Rattle.fedi_town.specs.declared.act.Actor.{Actor}
use Rattle.fedi_effects.specs.declared.members.Members.TheInside.{Inside}

-- the members, and how many more there is room for
pub record Peopled : Type 0 where
  pub actors : List Actor
  pub room : ℕ

-- the number for the member's name
unfoldable pub name_mark : Seed → Actor → ℕ
name_mark seed a = mark_of seed a.name

-- the number for the member's id
unfoldable pub id_mark : Seed → Actor → ℕ
id_mark seed a = mark_of seed a.id

-- the number for the digest of the member's key
unfoldable pub digest_mark : Seed → Actor → ℕ
digest_mark seed a = mark_of seed a.digest

-- the members, as look-ups see them
abbrev pub members_in : Inside → Peopled
members_in m = record { actors = m.list.items; room = m.room }

-- each member is looked up by name, id and digest, there is room in each list, and an index fits
-- its field
abbrev pub AreMembers : Inside → Type 0
AreMembers m =
    (m.names.marks ≡ marks_from every (name_mark m.seed) 0 m.list.items)
    × (m.ids.marks ≡ marks_from every (id_mark m.seed) 0 m.list.items)
    × (m.digests.marks ≡ marks_from every (digest_mark m.seed) 0 m.list.items)
    × (vec_len m.list + m.room ≤ vec_capacity m.list)
    × (vec_len m.list + m.room < 2 ^ 32)
    × (m.room ≤ m.names.room)
    × (m.room ≤ m.ids.room)
    × (m.room ≤ m.digests.room)
