-- A legal history that is not empty has a host.
use Rattle.std.proofs.Common.{◌≡◌, Bool, true, false, List, [], ◌∷◌, is_some, refl}
use Rattle.std.specs.Prelude.{◌≢◌, IsTrue, ◌&&◌}
use Rattle.std.specs.List.{fold}
use Rattle.fedi_objects.specs.declared.entry.Entry.{Entry}
use Rattle.fedi_objects.specs.declared.entry.Entry.TheVariants.{Hosted, Made, PeerSet, Local, Remote, Tried}
use Rattle.fedi_town.specs.declared.addition.Addition.{Addition}
use Rattle.fedi_town.specs.declared.addition.Addition.TheVariants as additions
use Rattle.fedi_town.specs.Histories.{step, town, with_addition, addition_of}
use Rattle.fedi_town.specs.Legal.{IsLegal, is_admissible}
use Rattle.fedi_town.specs.Shapes.{is_delivered}
use Rattle.fedi_town.specs.Towns.{Town, empty_town}
use Rattle.fedi_town.proofs.Quiet.{first_true}

-- an addition leaves the host unchanged, or sets one
stays : (t : Town) (a : Addition) → is_some t.host ≡ true → is_some (with_addition t a).host ≡ true
stays t additions.Nothing there = there
stays t (additions.Host host) there = refl
stays t (additions.Member member) there = there
stays t (additions.Peer peer) there = there
stays t (additions.Activity a) there = there
stays t (additions.Inbox id owner) there = there
stays t (additions.Attempt attempt) there = there

all_stay : (t : Town) (entries : List Entry) → is_some t.host ≡ true → is_some (fold step t entries).host ≡ true
all_stay t [] there = there
all_stay t (e ∷ entries) there = all_stay (step t e) entries (stays t (addition_of t e) there)

not_delivered : (delivered : Bool) → (delivered && false) ≡ true → false ≡ true
not_delivered true may = may
not_delivered false may = may

-- the first entry sets it
first : (e : Entry) → is_admissible empty_town e ≡ true → is_some (step empty_town e).host ≡ true
first (Hosted host moment) may = refl
first (Made name digest locked moment) may = let clash : false ≡ true = may in absurd cc
first (PeerSet host key address relay moment) may = let clash : false ≡ true = may in absurd cc
first (Local name repeat a moment) may = let clash : false ≡ true = may in absurd cc
first (Remote peer inbox a moment) may = let clash : false ≡ true = not_delivered (is_delivered a) may in absurd cc
first (Tried activity recipient came moment) may = let clash : false ≡ true = may in absurd cc

pub hosted : (history : List Entry) → history ≢ [] → IsLegal history → IsTrue (is_some (town history).host)
hosted [] some legal = absurd (some refl)
hosted (e ∷ entries) some legal = all_stay (step empty_town e) entries (first e (first_true _ _ legal.admissible))
