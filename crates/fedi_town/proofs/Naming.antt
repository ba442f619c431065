-- In a legal history a member's id is the one that the member's name gives.
use Rattle.std.proofs.Common.{◌≡◌, ℕ, true, List, Option, Some, subst}
use Rattle.std.specs.List.{list_all}
use Rattle.fedi_address.specs.Names.{is_name}
use Rattle.fedi_objects.specs.declared.entry.Entry.{Entry}
use Rattle.fedi_town.specs.Histories.{town}
use Rattle.fedi_town.specs.Ids.{actor_id}
use Rattle.fedi_town.specs.Legal.{IsLegal}
use Rattle.fedi_town.specs.Towns.{Town, has_name, id_of}
use Rattle.fedi_town.proofs.IdsTown.{found_any}
use Rattle.fedi_town.proofs.Members.{is_member}
use Rattle.fedi_town.proofs.People.{id_of-is, named_is}
use Rattle.fedi_town.proofs.Sound.{town_sound}

pub members_have_ids : (history : List Entry) (host name id : List ℕ) → IsLegal history → (town history).host ≡ Some host
    → id_of (town history) name ≡ Some id → (is_name name ≡ true) × (id ≡ actor_id host name)
members_have_ids history host name id legal hosted known =
    let t : Town = town history in
    let all : list_all (is_member (Some host)) t.actors ≡ true =
    subst (λ (k : Option (List ℕ)). list_all (is_member k) t.actors ≡ true) hosted (town_sound history legal).sound.members in
    (named_is name (Some host) t.actors all (found_any (has_name name) t.actors id known), id_of-is t host name id all known)
