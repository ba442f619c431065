-- What an entry adds, and what the history has made then.
use Rattle.std.proofs.Common.{◌≡◌, ℕ, Bool, true, false, List, [], ◌∷◌, ◌++◌, Option, Some, None, refl, sym, ap, subst, ◌∙◌}
use Rattle.std.specs.Prelude.{if◌then◌else◌}
use Rattle.std.proofs.lemmas.List.Sums.{fold_push}
use Rattle.fedi_address.specs.Recipients.{add_new}
use Rattle.fedi_address.proofs.Unions.{now_among, among_added}
use Rattle.fedi_objects.specs.declared.entry.Entry.{Entry}
use Rattle.fedi_objects.specs.declared.entry.Entry.TheVariants.{Hosted, Made, PeerSet, Local, Remote, Tried}
use Rattle.fedi_objects.specs.declared.activity.Activity.{Activity}
use Rattle.fedi_town.proofs.IdsTown.{town_ids}
use Rattle.fedi_town.specs.declared.act.Act.{Act}
use Rattle.fedi_town.specs.declared.addition.Addition.{Addition}
use Rattle.fedi_town.specs.declared.addition.Addition.TheVariants as additions
use Rattle.fedi_town.specs.Activities.{remote_act}
use Rattle.fedi_town.specs.Effects.{acceptance}
use Rattle.fedi_town.specs.Histories.{addition_of, delivery_addition, inbox_addition, is_known, member_addition, post_addition, step, town, with_addition}
use Rattle.fedi_town.specs.Legal.{IsLegal}
use Rattle.fedi_town.specs.Lists.{PassesOnce}
use Rattle.fedi_town.specs.Relations.{has_activity_id}
use Rattle.fedi_town.specs.Towns.{Town, empty_town, id_of}
use Rattle.fedi_town.proofs.MadeOnce.{made_once}
use Rattle.fedi_effects.specs.declared.ready.Ready.{Ready}
use Rattle.fedi_effects.specs.declared.ready.Ready.TheVariants as ready
use Rattle.fedi_effects.specs.Additions.{CanAdd, HasAuthors, with_authors}
use Rattle.fedi_register.specs.Changes.{AreMadeOnce}

-- ---- histories

-- one more entry
pub town_pushed : (old new : Town) (history : List Entry) (e : Entry) (a : Addition) → old ≡ town history → a ≡ addition_of old e → new ≡ with_addition old a
    → new ≡ town (history ++ e ∷ [])
town_pushed old new history e a stands adds after =
    after ∙ ap (λ (b : Addition). with_addition old b) adds ∙ ap (λ (t : Town). step t e) stands ∙ sym (fold_push step empty_town history e)

-- no object was made twice in what a history has made
pub town_made_once : (t : Town) (history : List Entry) → t ≡ town history → AreMadeOnce t.acts
town_made_once t history stands = subst (λ (u : Town). AreMadeOnce u.acts) (sym stands) (made_once history)

-- ---- what can be added

can_member : (acts : List Act) (host : Option (List ℕ)) (name digest : List ℕ) (locked : Bool) → CanAdd acts (member_addition host name digest locked)
can_member acts None name digest locked = tt
can_member acts (Some host) name digest locked = tt

can_post : (acts : List Act) (h : Option (List ℕ)) (t : Town) (name : List ℕ) (repeat : Option (List ℕ × List ℕ)) (a : Activity) (moment : ℕ)
    → CanAdd acts (post_addition h t name repeat a moment)
can_post acts None t name repeat a moment = tt
can_post acts (Some host) t name repeat a moment = tt

can_inbox : (t : Town) (owner author id : List ℕ) (a : Activity) (moment : ℕ) → PassesOnce (has_activity_id id) t.acts → CanAdd t.acts (inbox_addition t owner author id a moment)
can_inbox t owner author id a moment once =
    elim (is_known t id) as (λ b. is_known t id ≡ b → CanAdd t.acts (if b then additions.Inbox id owner else additions.Activity (acceptance t (remote_act t owner author a moment)))) [
      | true ↦ λ e. (e, once)
      | false ↦ λ e. tt
    ] refl

can_deliver : (t : Town) (owner author id : Option (List ℕ)) (a : Activity) (moment : ℕ) → ((i : List ℕ) → PassesOnce (has_activity_id i) t.acts)
    → CanAdd t.acts (delivery_addition t owner author id a moment)
can_deliver t None author id a moment once = tt
can_deliver t (Some owner) None id a moment once = tt
can_deliver t (Some owner) (Some author) None a moment once = tt
can_deliver t (Some owner) (Some author) (Some id) a moment once = can_inbox t owner author id a moment (once id)

can_step : (t : Town) (e : Entry) → ((i : List ℕ) → PassesOnce (has_activity_id i) t.acts) → CanAdd t.acts (addition_of t e)
can_step t (Hosted host moment) once = tt
can_step t (Made name digest locked moment) once = can_member t.acts t.host name digest locked
can_step t (PeerSet host key address relay moment) once = tt
can_step t (Local name repeat a moment) once = can_post t.acts t.host t name repeat a moment
can_step t (Remote peer inbox a moment) once = can_deliver t (id_of t inbox) a.actor a.id a moment once
can_step t (Tried activity recipient came moment) once = tt

-- what an entry adds to a legal history can be added, since no two activities have the same id
-- there
pub can_add : (t : Town) (history : List Entry) (e : Entry) (a : Addition) → t ≡ town history → IsLegal history → a ≡ addition_of t e → CanAdd t.acts a
can_add t history e a stands legal is =
    let once : (i : List ℕ) → PassesOnce (has_activity_id i) t.acts = subst (λ (u : Town). (i : List ℕ) → PassesOnce (has_activity_id i) u.acts) (sym stands) (town_ids history legal) in
    subst (λ (b : Addition). CanAdd t.acts b) (sym is) (can_step t e once)

-- ---- authors who are known

authors_with : (known : List (List ℕ)) (r : Ready) → HasAuthors (with_authors known r) r
authors_with known ready.Nothing = tt
authors_with known (ready.Host host) = tt
authors_with known (ready.Member member) = tt
authors_with known (ready.Peer peer) = tt
authors_with known (ready.Inbox id owner recipients) = tt
authors_with known (ready.Attempt attempt) = tt
authors_with known (ready.Activity act effect spare None) = (now_among known act.author, tt)
authors_with known (ready.Activity act effect spare (Some answer)) =
    (among_added (add_new known act.author) act.author answer.author (now_among known act.author), now_among (add_new known act.author) answer.author)

pub authors_known : (before known : List (List ℕ)) (r : Ready) → known ≡ with_authors before r → HasAuthors known r
authors_known before known r is = subst (λ (ids : List (List ℕ)). HasAuthors ids r) (sym is) (authors_with before r)
