-- The host of a history does not change.
use Rattle.std.proofs.Common.{◌≡◌, Bool, true, List, [], ◌∷◌, ◌++◌, Option, Some, None, is_some, refl, ap, ◌∙◌}
use Rattle.std.specs.Prelude.{◌&&◌, is_none}
use Rattle.std.specs.List.{fold}
use Rattle.std.proofs.lemmas.Bool.{and_parts}
use Rattle.fedi_objects.specs.declared.entry.Entry.{Entry}
use Rattle.fedi_objects.specs.declared.entry.Entry.TheVariants.{Hosted, Made, PeerSet, Local, Remote, Tried}
use Rattle.fedi_town.specs.Histories.{step, town}
use Rattle.fedi_town.specs.Legal.{IsLegal, is_admissible, is_legal_from}
use Rattle.fedi_town.specs.Towns.{Town, empty_town}
use Rattle.fedi_town.specs.declared.command_fault.CommandFault.TheVariants.{HostTaken}
use Rattle.std.specs.Prelude.{ℕ, if◌then◌else◌}
use Rattle.std.proofs.lemmas.List.Sums.{fold-append}
use Rattle.fedi_town.specs.Towns.{id_of}
use Rattle.fedi_queue.proofs.Addressed.{made_host, posted_host, delivered_host}

-- ---- an entry that may come after the host was set does not change it

clash : (host : Option (List ℕ)) (ok : Bool) → is_some host ≡ true → (is_none (if is_none host then None else Some HostTaken) && ok) ≡ true → ⊥
clash None ok there may = absurd cc
clash (Some x) ok there may = absurd cc

pub step_keeps : (t : Town) (e : Entry) → is_admissible t e ≡ true → is_some t.host ≡ true → (step t e).host ≡ t.host
step_keeps t (Hosted host moment) may there = absurd (clash t.host _ there may)
step_keeps t (Made name digest locked moment) may there = made_host t t.host name digest locked
step_keeps t (PeerSet host key address relay moment) may there = refl
step_keeps t (Local name repeat a moment) may there = posted_host t t.host name repeat a moment
step_keeps t (Remote peer inbox a moment) may there = delivered_host t (id_of t inbox) a.actor a.id a moment
step_keeps t (Tried activity recipient came moment) may there = refl

fold_keeps : (t : Town) (h : List Entry) → is_legal_from t h ≡ true → is_some t.host ≡ true → (fold step t h).host ≡ t.host
fold_keeps t [] legal there = refl
fold_keeps t (e ∷ h) legal there =
    let parts = and_parts (is_admissible t e) (is_legal_from (step t e) h) legal in
    let same = step_keeps t e parts.0 there in
    fold_keeps (step t e) h parts.1 (ap is_some same ∙ there) ∙ same

legal_after : (t : Town) (a b : List Entry) → is_legal_from t (a ++ b) ≡ true → is_legal_from (fold step t a) b ≡ true
legal_after t [] b legal = legal
legal_after t (e ∷ a) b legal = legal_after (step t e) a b (and_parts (is_admissible t e) (is_legal_from (step t e) (a ++ b)) legal).1

-- the host of a legal history is that of its beginning, if it was set there
pub host_stays : (a b : List Entry) → IsLegal (a ++ b) → is_some (town a).host ≡ true → (town (a ++ b)).host ≡ (town a).host
host_stays a b legal there =
    ap (λ (t : Town). t.host) (fold-append step empty_town a b)
    ∙ fold_keeps (town a) b (legal_after empty_town a b legal.admissible) there
