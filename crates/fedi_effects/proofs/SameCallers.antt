-- Only an entry that makes a member or sets a peer changes the members and the peers of a town.
use Rattle.std.proofs.Common.{◌≡◌, ℕ, true, false, List, [], ◌∷◌, ◌++◌, Option, Some, None, refl, sym, ap, ◌∙◌, append_assoc}
use Rattle.std.specs.Prelude.{if◌then◌else◌}
use Rattle.std.specs.List.{list_any}
use Rattle.std.proofs.lemmas.List.{append-nil}
use Rattle.std.proofs.lemmas.List.Sums.{fold_push}
use Rattle.fedi_objects.specs.declared.activity.Activity.{Activity}
use Rattle.fedi_objects.specs.declared.entry.Entry.{Entry}
use Rattle.fedi_objects.specs.declared.entry.Entry.TheVariants.{Hosted, Made, PeerSet, Local, Remote, Tried}
use Rattle.fedi_town.specs.declared.addition.Addition.TheVariants as additions
use Rattle.fedi_town.specs.Activities.{remote_act}
use Rattle.fedi_town.specs.Effects.{acceptance}
use Rattle.fedi_town.specs.Histories.{delivery_addition, inbox_addition, is_known, post_addition, step, town, with_addition}
use Rattle.fedi_town.specs.Towns.{Town, empty_town, id_of}
use Rattle.fedi_town.proofs.Lists.{first_none, other_none}
use Rattle.fedi_effects.specs.Rosters.{callers_in, changes_callers}

-- ---- one entry

posted_same : (host : Option (List ℕ)) (t : Town) (name : List ℕ) (repeat : Option (List ℕ × List ℕ)) (a : Activity) (moment : ℕ)
    → callers_in (with_addition t (post_addition host t name repeat a moment)) ≡ callers_in t
posted_same None t name repeat a moment = refl
posted_same (Some host) t name repeat a moment = refl

inbox_same : (t : Town) (owner author id : List ℕ) (a : Activity) (moment : ℕ) → callers_in (with_addition t (inbox_addition t owner author id a moment)) ≡ callers_in t
inbox_same t owner author id a moment =
    elim (is_known t id) as (λ b. callers_in (with_addition t (if b then additions.Inbox id owner else additions.Activity (acceptance t (remote_act t owner author a moment)))) ≡ callers_in t) [
      | true ↦ refl
      | false ↦ refl
    ]

delivered_same : (t : Town) (owner author id : Option (List ℕ)) (a : Activity) (moment : ℕ)
    → callers_in (with_addition t (delivery_addition t owner author id a moment)) ≡ callers_in t
delivered_same t None author id a moment = refl
delivered_same t (Some owner) None id a moment = refl
delivered_same t (Some owner) (Some author) None a moment = refl
delivered_same t (Some owner) (Some author) (Some id) a moment = inbox_same t owner author id a moment

step_same : (t : Town) (e : Entry) → changes_callers e ≡ false → callers_in (step t e) ≡ callers_in t
step_same t (Hosted host moment) same = refl
step_same t (Made name digest locked moment) same = absurd cc
step_same t (PeerSet host key address relay moment) same = absurd cc
step_same t (Local name repeat a moment) same = posted_same t.host t name repeat a moment
step_same t (Remote peer inbox a moment) same = delivered_same t (id_of t inbox) a.actor a.id a moment
step_same t (Tried activity recipient came moment) same = refl

-- an entry that changes no callers leaves those of the history before it
pub same_callers : (history : List Entry) (e : Entry) → changes_callers e ≡ false → callers_in (town (history ++ e ∷ [])) ≡ callers_in (town history)
same_callers history e same = ap callers_in (fold_push step empty_town history e) ∙ step_same (town history) e same

-- ---- several entries

-- entries that change no callers leave those of the history before them
pub same_callers_after : (history more : List Entry) → list_any changes_callers more ≡ false → callers_in (town (history ++ more)) ≡ callers_in (town history)
same_callers_after history [] same = ap (λ (all : List Entry). callers_in (town all)) (append-nil history)
same_callers_after history (e ∷ more) same =
    let first : changes_callers e ≡ false = first_none (changes_callers e) (list_any changes_callers more) same in
    let others : list_any changes_callers more ≡ false = other_none (changes_callers e) (list_any changes_callers more) same in
    ap (λ (all : List Entry). callers_in (town all)) (sym (append_assoc history (e ∷ []) more))
    ∙ same_callers_after (history ++ e ∷ []) more others
    ∙ same_callers history e first
