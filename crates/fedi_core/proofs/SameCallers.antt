-- Entries that add no member and no peer change the caller of no request.
use Rattle.std.proofs.Common.{◌≡◌, false, List, [], ◌∷◌, ◌++◌, ap}
use Rattle.std.specs.List.{list_any}
use Rattle.fedi_objects.specs.declared.entry.Entry.{Entry}
use Rattle.fedi_town.specs.Histories.{town}
use Rattle.fedi_town.specs.Towns.{Town}
use Rattle.fedi_effects.proofs.SameCallers.{same_callers, same_callers_after}
use Rattle.fedi_effects.specs.Rosters.{Callers, callers_in, changes_callers}
use Rattle.fedi_model.proofs.SameCallers.{same_caller}
use Rattle.fedi_model.specs.Callers.{caller_among, caller_by}
use Rattle.fedi_model.specs.Credentials.{Shows}

-- the caller among the members and the peers of a town is that of the town
pub caller_known : (c : Callers) (t : Town) (s : Shows) → c ≡ callers_in t → caller_among c.actors c.peers s ≡ caller_by t s
unfolding caller_by
caller_known c t s is = ap (λ (k : Callers). caller_among k.actors k.peers s) is

pub same_caller_for : (history : List Entry) (e : Entry) (s : Shows) → changes_callers e ≡ false → caller_by (town (history ++ e ∷ [])) s ≡ caller_by (town history) s
same_caller_for history e s same =
    let callers = same_callers history e same in
    same_caller (town (history ++ e ∷ [])) (town history) s (ap (λ (c : Callers). c.actors) callers) (ap (λ (c : Callers). c.peers) callers)

pub same_caller_after : (history more : List Entry) (s : Shows) → list_any changes_callers more ≡ false → caller_by (town (history ++ more)) s ≡ caller_by (town history) s
same_caller_after history more s same =
    let callers = same_callers_after history more same in
    same_caller (town (history ++ more)) (town history) s (ap (λ (c : Callers). c.actors) callers) (ap (λ (c : Callers). c.peers) callers)
