-- No object is made twice.
use Rattle.std.proofs.Common.{◌≡◌, ℕ, Bool, true, false, List, [], ◌∷◌, ◌++◌, Option, Some, None, refl, subst, ◌∙◌}
use Rattle.std.specs.Prelude.{◌&&◌, not, map, if◌then◌else◌, option_to_list}
use Rattle.std.specs.List.{fold, list_any}
use Rattle.std.proofs.lemmas.Bool.{and_parts}
use Rattle.std.proofs.lemmas.List.{append-nil}
use Rattle.fedi_objects.specs.declared.activity.Activity.{Activity}
use Rattle.fedi_objects.specs.declared.activity.ObjectRef.{ObjectRef}
use Rattle.fedi_objects.specs.declared.entry.Entry.{Entry}
use Rattle.fedi_objects.specs.declared.entry.Entry.TheVariants.{Hosted, Made, PeerSet, Local, Remote, Tried}
use Rattle.fedi_objects.specs.declared.kind.State.TheVariants.{Done}
use Rattle.fedi_town.proofs.Finding.{PassesOnce-push, PassesOnce-map}
use Rattle.fedi_town.specs.Lists.{PassesOnce}
use Rattle.fedi_town.proofs.Kept.{changed-kept, made-inbox, made-kept, ref_received}
use Rattle.fedi_town.proofs.Lists.{list_any-through}
use Rattle.fedi_town.proofs.Steps.{accept, accept_in_steps, with_act, accepts_for, after_delivery, after_inbox, after_post}
use Rattle.fedi_town.specs.Activities.{local_act, remote_act}
use Rattle.fedi_town.specs.Deeds.{is_create, is_done, is_follow, is_accepted, deed_of}
use Rattle.fedi_town.specs.Effects.{acceptance, accept_for, affect, effect_of, accept_by, followee}
use Rattle.fedi_town.specs.declared.addition.Addition.TheVariants as additions
use Rattle.fedi_town.specs.Histories.{with_addition, member_addition, with_recipient, is_known, step, town}
use Rattle.fedi_town.specs.Objects.{makes, is_whole}
use Rattle.fedi_town.specs.Relations.{ref_id, is_id, is_about}
use Rattle.fedi_town.specs.States.{state_of, state_with, only_where}
use Rattle.fedi_town.specs.Towns.{Town, deed, empty_town, id_of}
use Rattle.fedi_town.specs.declared.act.Act.{Act}
use Rattle.fedi_town.specs.declared.act.Actor.{Actor}
use Rattle.fedi_town.specs.declared.deed.Deed.{Deed}
use Rattle.fedi_town.specs.declared.deed.Deed.TheVariants.{Create, Update, Delete, Follow, Like, Announce, Block, Accept, Reject, Undo, Other}
use Rattle.fedi_town.proofs.Texts.{bytes_eq-is}

pub record MadeOnce (acts : List Act) : Type 0 where
  pub once : (id : List ℕ) → PassesOnce (makes id) acts

where_new : (full new : Bool) → is_done (only_where (full && not new) Done) ≡ true → new ≡ false
where_new true true e = absurd cc
where_new false new e = absurd cc
where_new true false e = refl

new_by : (t : Town) (local : Bool) (author : List ℕ) (d : Deed) (full : Bool) (own : Option (List ℕ)) (id : List ℕ)
    → is_create d ≡ true → is_done (state_with t local author d full own) ≡ true → is_id id own ≡ true → list_any (makes id) t.acts ≡ false
new_by t local author d full None id makes_it done it = absurd cc
new_by t local author Create full (Some own) id makes_it done it =
    subst (λ (i : List ℕ). list_any (makes i) t.acts ≡ false) (bytes_eq-is own id it) (where_new full (list_any (makes own) t.acts) done)
new_by t local author Update full (Some own) id makes_it done it = absurd cc
new_by t local author Delete full (Some own) id makes_it done it = absurd cc
new_by t local author Follow full (Some own) id makes_it done it = absurd cc
new_by t local author Like full (Some own) id makes_it done it = absurd cc
new_by t local author Announce full (Some own) id makes_it done it = absurd cc
new_by t local author Block full (Some own) id makes_it done it = absurd cc
new_by t local author Accept full (Some own) id makes_it done it = absurd cc
new_by t local author Reject full (Some own) id makes_it done it = absurd cc
new_by t local author Undo full (Some own) id makes_it done it = absurd cc
new_by t local author Other full (Some own) id makes_it done it = absurd cc

new_made : (t : Town) (local : Bool) (author : List ℕ) (d : Deed) (r : ObjectRef) (id : List ℕ)
    → ((is_create d && is_done (state_of t local author d r)) && is_id id (ref_id r)) ≡ true → list_any (makes id) t.acts ≡ false
unfolding state_of
new_made t local author d r id made =
    let parts = and_parts (is_create d && is_done (state_with t local author d (is_whole r) (ref_id r))) (is_id id (ref_id r)) made in
    let inner = and_parts (is_create d) (is_done (state_with t local author d (is_whole r) (ref_id r))) parts.0 in
    new_by t local author d (is_whole r) (ref_id r) id inner.0 inner.1 parts.1

pub local_new : (t : Town) (host name : List ℕ) (repeat : Option (List ℕ × List ℕ)) (a : Activity) (moment : ℕ) (id : List ℕ)
    → makes id (local_act t host name repeat a moment) ≡ true → list_any (makes id) t.acts ≡ false
unfolding makes is_about
local_new t host name repeat a moment id made = new_made t true _ (deed_of a.kind) _ id made

pub remote_new : (t : Town) (owner author : List ℕ) (a : Activity) (moment : ℕ) (id : List ℕ)
    → makes id (remote_act t owner author a moment) ≡ true → list_any (makes id) t.acts ≡ false
unfolding makes is_about
remote_new t owner author a moment id made = new_made t false author (deed_of a.kind) a.object id (rw (ref_received (deed_of a.kind) author moment a.object) at made)

-- ---- steps

pub accept_makes_none : (t : Town) (host : List ℕ) (x : Act) (member : Actor) (id : List ℕ) → makes id (accept_by t host x member) ≡ false
unfolding makes accept_by
accept_makes_none t host x member id = refl

answered-once : (host : Option (List ℕ)) (t : Town) (acts : List Act) (x : Act) (member : Option Actor) → MadeOnce acts → MadeOnce (acts ++ accepts_for host t x member)
answered-once None t acts x member h = rw append-nil h
answered-once (Some host) t acts x None h = rw append-nil h
answered-once (Some host) t acts x (Some member) h = record {
  once = λ id.
      PassesOnce-push (makes id) acts (accept_by t host x member) (h.once id)
      (λ e. absurd (let f : makes id (accept_by t host x member) ≡ false = accept_makes_none t host x member id in cc));
}

choice-once : (b : Bool) (acts : List Act) (z : Option Act) → MadeOnce acts → MadeOnce (acts ++ option_to_list z) → MadeOnce (acts ++ option_to_list (if b then z else None))
choice-once true acts z h k = k
choice-once false acts z h k = rw append-nil h

mapped-once : (f : Act → Act) → ((y : Act) (id : List ℕ) → makes id (f y) ≡ makes id y) → (acts : List Act) → MadeOnce acts → MadeOnce (map f acts)
mapped-once f same acts h = record { once = λ id. PassesOnce-map f (makes id) (λ y. same y id) acts (h.once id) }

appended-once : (t : Town) (x : Act) → ((id : List ℕ) → makes id x ≡ true → list_any (makes id) t.acts ≡ false) → MadeOnce t.acts → MadeOnce (with_act t x).acts
appended-once t x new h =
    let f : Act → Act = affect (effect_of t x) in
    let same : (y : Act) (id : List ℕ) → makes id (f y) ≡ makes id y = λ y id. made-kept y (f y) (changed-kept t x y) id in
    record {
      once = λ id.
          PassesOnce-push (makes id) (map f t.acts) x ((mapped-once f same t.acts h).once id)
          (λ e. list_any-through f (makes id) (makes id) (λ y. same y id) t.acts ∙ new id e);
    }

accepted-once : (t : Town) (x : Act) → ((id : List ℕ) → makes id x ≡ true → list_any (makes id) t.acts ≡ false) → MadeOnce t.acts → MadeOnce (accept t x).acts
accepted-once t x new h =
    let u : Town = with_act t x in
    let k : MadeOnce u.acts = appended-once t x new h in
    subst MadeOnce (accept_in_steps t x)
    (choice-once (is_follow (deed x) && is_accepted x.state) u.acts (accept_for t.host t x (followee t (ref_id x.activity.object))) k
    (answered-once t.host t u.acts x (followee t (ref_id x.activity.object)) k))

as-once : (t : Town) (owner author id : List ℕ) (a : Activity) (moment : ℕ) → MadeOnce t.acts → MadeOnce (after_inbox t owner author id a moment).acts
as-once t owner author id a moment h =
    elim (is_known t id) as (λ b. MadeOnce (with_addition t (if b then additions.Inbox id owner else additions.Activity (acceptance t (remote_act t owner author a moment)))).acts) [
      | true ↦ mapped-once (with_recipient id owner) (λ y i. made-inbox i id owner y) t.acts h
      | false ↦ accepted-once t (remote_act t owner author a moment) (remote_new t owner author a moment) h
    ]

delivered-once : (t : Town) (owner author id : Option (List ℕ)) (a : Activity) (moment : ℕ) → MadeOnce t.acts → MadeOnce (after_delivery t owner author id a moment).acts
delivered-once t None author id a moment h = h
delivered-once t (Some owner) None id a moment h = h
delivered-once t (Some owner) (Some author) None a moment h = h
delivered-once t (Some owner) (Some author) (Some id) a moment h = as-once t owner author id a moment h

posted-once : (host : Option (List ℕ)) (t : Town) (name : List ℕ) (repeat : Option (List ℕ × List ℕ)) (a : Activity) (moment : ℕ) → MadeOnce t.acts → MadeOnce (after_post host t name repeat a moment).acts
posted-once None t name repeat a moment h = h
posted-once (Some host) t name repeat a moment h = accepted-once t (local_act t host name repeat a moment) (local_new t host name repeat a moment) h

made-once : (host : Option (List ℕ)) (t : Town) (name digest : List ℕ) (locked : Bool) → MadeOnce t.acts → MadeOnce (with_addition t (member_addition host name digest locked)).acts
made-once None t name digest locked h = h
made-once (Some host) t name digest locked h = h

step-once : (t : Town) (e : Entry) → MadeOnce t.acts → MadeOnce (step t e).acts
step-once t (Hosted host moment) h = h
step-once t (Made name digest locked moment) h = made-once t.host t name digest locked h
step-once t (PeerSet host key address relay moment) h = h
step-once t (Local name repeat a moment) h = posted-once t.host t name repeat a moment h
step-once t (Remote peer inbox a moment) h = delivered-once t (id_of t inbox) a.actor a.id a moment h
step-once t (Tried activity recipient came moment) h = h

fold-once : (history : List Entry) (t : Town) → MadeOnce t.acts → MadeOnce (fold step t history).acts
fold-once [] t h = h
fold-once (e ∷ history) t h = fold-once history (step t e) (step-once t e h)

pub town_once : (history : List Entry) → MadeOnce (town history).acts
town_once history = fold-once history empty_town (record { once = λ id. tt })

-- No object is made twice.
pub made_once : (history : List Entry) (id : List ℕ) → PassesOnce (makes id) (town history).acts
made_once history id = (town_once history).once id
