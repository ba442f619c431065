-- Members are marked so that they are found.
use Rattle.std.proofs.Common.{◌≡◌, ℕ, true, List, refl, ap}
use Rattle.std.specs.Prelude.{◌&&◌}
use Rattle.std.specs.Str.{bytes_eq}
use Rattle.std.proofs.lemmas.Bool.{and_parts}
use Rattle.std.proofs.lemmas.Slice.Eq.{bytes_eq-Decides}
use Rattle.fedi_register.specs.Marks.{every}
use Rattle.fedi_register.specs.Seeds.{mark_of}
use Rattle.fedi_register.specs.declared.seeds.Seed.{Seed}
use Rattle.fedi_register.proofs.Found.{IsMarkedSo}
use Rattle.fedi_town.specs.Towns.{has_digest, has_id, has_name}
use Rattle.fedi_effects.specs.Members.{digest_mark, id_mark, name_mark}

same_mark : (seed : Seed) (own text : List ℕ) → bytes_eq own text ≡ true → mark_of seed own ≡ mark_of seed text
same_mark seed own text is = ap (mark_of seed) ((bytes_eq-Decides own text).0 is)

pub name_marked : (seed : Seed) (name : List ℕ) → IsMarkedSo every (name_mark seed) (mark_of seed name) (has_name name)
unfolding has_name name_mark
name_marked seed name a is = (refl, same_mark seed a.name name is)

pub id_marked : (seed : Seed) (id : List ℕ) → IsMarkedSo every (id_mark seed) (mark_of seed id) (has_id id)
unfolding has_id id_mark
id_marked seed id a is = (refl, same_mark seed a.id id is)

pub digest_marked : (seed : Seed) (digest : List ℕ) → IsMarkedSo every (digest_mark seed) (mark_of seed digest) (has_digest digest)
unfolding has_digest digest_mark
digest_marked seed digest a is = (refl, same_mark seed a.digest digest is)

pub locked_marked : (seed : Seed) (id : List ℕ) → IsMarkedSo every (id_mark seed) (mark_of seed id) (λ a. has_id id a && a.locked)
locked_marked seed id a is = id_marked seed id a (and_parts (has_id id a) a.locked is).0
