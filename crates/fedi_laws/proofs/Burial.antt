-- A Tombstone does not change.
use Rattle.std.proofs.Common.{◌≡◌, ℕ, Bool, true, false, List, [], ◌∷◌, ◌++◌, Option, Some, None, refl, sym, ap, subst, ◌∙◌}
use Rattle.std.specs.Prelude.{◌&&◌, ◌||◌, if◌then◌else◌}
use Rattle.std.specs.List.{fold}
use Rattle.std.specs.Str.{bytes_eq}
use Rattle.std.proofs.lemmas.Bool.{and_parts}
use Rattle.std.proofs.lemmas.List.Sums.{fold-append}
use Rattle.fedi_objects.specs.declared.activity.Activity.{Activity}
use Rattle.fedi_objects.specs.declared.entry.Entry.{Entry}
use Rattle.fedi_objects.specs.declared.entry.Entry.TheVariants.{Hosted, Made, PeerSet, Local, Remote, Tried}
use Rattle.fedi_objects.specs.declared.kind.State.TheVariants.{Done}
use Rattle.fedi_objects.specs.declared.object.Object.{Object}
use Rattle.fedi_objects.specs.Forms.{is_tombstone}
use Rattle.fedi_town.proofs.Kept.{ref_received}
use Rattle.fedi_town.specs.declared.act.Act.{Act}
use Rattle.fedi_town.specs.declared.addition.Addition.TheVariants as additions
use Rattle.fedi_town.specs.declared.deed.Deed.{Deed}
use Rattle.fedi_town.specs.declared.deed.Deed.TheVariants.{Create, Update, Delete, Follow, Like, Announce, Block, Accept, Reject, Undo, Other}
use Rattle.fedi_town.specs.Activities.{local_act, remote_act}
use Rattle.fedi_town.specs.Deeds.{is_create, is_update, is_delete, is_done, deed_of}
use Rattle.fedi_town.specs.Effects.{acceptance}
use Rattle.fedi_town.specs.Histories.{addition_of, member_addition, post_addition, inbox_addition, delivery_addition, is_known, step, town}
use Rattle.fedi_town.specs.Ids.{actor_id}
use Rattle.fedi_town.specs.Objects.{makes, maker, object_of, object_at, whole_of, is_whole, is_deleted}
use Rattle.fedi_town.specs.Relations.{ref_id, is_id, is_about}
use Rattle.fedi_town.specs.Replays.{acts_in, updates, deletes, next_form, replay_act}
use Rattle.fedi_town.specs.States.{state_of, state_with, only_where, is_own_live}
use Rattle.fedi_town.specs.Towns.{Town, deed, empty_town, id_of, is_by}
use Rattle.fedi_town.proofs.Finding.{found_passes}
use Rattle.fedi_laws.proofs.Replaying.{answers_forms, step_replays}
use Rattle.fedi_town.proofs.Steps.{answers}
use Rattle.fedi_town.proofs.Texts.{bytes_eq-is, and_none}

-- the object with this id was deleted
pub record IsBuried (t : Town) (id : List ℕ) (o : Object) : Type 0 where
  pub stands : object_at t id ≡ Some o
  pub buried : is_tombstone o ≡ true

is_buried_by : (id : List ℕ) (m : Act) (o : Object) → makes id m ≡ true → whole_of m.activity.object ≡ Some o → is_tombstone o ≡ true → is_deleted m ≡ true
unfolding is_deleted makes
is_buried_by id m o made e buried =
    let first = (and_parts (is_create (deed m) && is_done m.state) (is_about id m) made).0 in rw (first, e) buried

not_live : (author id : List ℕ) (found : Option Act) (o : Object) → ((m : Act) → found ≡ Some m → makes id m ≡ true) → object_of found ≡ Some o → is_tombstone o ≡ true
    → is_own_live author found ≡ false
not_live author id None o h e buried = absurd cc
not_live author id (Some m) o h e buried = rw (is_buried_by id m o (h m refl) e buried) (and_none (is_by author m))

-- nobody can change or delete it any more
not_own : (t : Town) (author id : List ℕ) (o : Object) → IsBuried t id o → is_own_live author (maker t id) ≡ false
not_own t author id o b = not_live author id (maker t id) o (found_passes (makes id) t.acts) b.stands b.buried

plain_of : (a b : Bool) → b ≡ false → is_done (only_where (a && b) Done) ≡ false
plain_of true b e = rw e refl
plain_of false b e = refl

not_updated : (t : Town) (local : Bool) (author : List ℕ) (d : Deed) (full : Bool) (i : Option (List ℕ)) (id : List ℕ) → is_own_live author (maker t id) ≡ false
    → ((is_update d && is_done (state_with t local author d full i)) && is_id id i) ≡ false
not_updated t local author Create full i id dead = refl
not_updated t local author Update full None id dead = refl
not_updated t local author Update full (Some own) id dead =
    elim (bytes_eq own id) as (λ b. bytes_eq own id ≡ b → (is_done (state_with t local author Update full (Some own)) && b) ≡ false) [
      | true ↦ λ e.
          let same : own ≡ id = bytes_eq-is own id e in
          let plain : is_done (state_with t local author Update full (Some own)) ≡ false =
          subst (λ (j : List ℕ). is_done (state_with t local author Update full (Some j)) ≡ false) (sym same) (plain_of (local || full) (is_own_live author (maker t id)) dead) in
          rw plain refl
      | false ↦ λ e. and_none (is_done (state_with t local author Update full (Some own)))
    ] refl
not_updated t local author Delete full i id dead = refl
not_updated t local author Follow full i id dead = refl
not_updated t local author Like full i id dead = refl
not_updated t local author Announce full i id dead = refl
not_updated t local author Block full i id dead = refl
not_updated t local author Accept full i id dead = refl
not_updated t local author Reject full i id dead = refl
not_updated t local author Undo full i id dead = refl
not_updated t local author Other full i id dead = refl

not_deleted : (t : Town) (local : Bool) (author : List ℕ) (d : Deed) (full : Bool) (i : Option (List ℕ)) (id : List ℕ) → is_own_live author (maker t id) ≡ false
    → ((is_delete d && is_done (state_with t local author d full i)) && is_id id i) ≡ false
not_deleted t local author Create full i id dead = refl
not_deleted t local author Update full i id dead = refl
not_deleted t local author Delete full None id dead = refl
not_deleted t local author Delete full (Some own) id dead =
    elim (bytes_eq own id) as (λ b. bytes_eq own id ≡ b → (is_done (state_with t local author Delete full (Some own)) && b) ≡ false) [
      | true ↦ λ e.
          let same : own ≡ id = bytes_eq-is own id e in
          let plain : is_done (state_with t local author Delete full (Some own)) ≡ false =
          subst (λ (j : List ℕ). is_done (state_with t local author Delete full (Some j)) ≡ false) (sym same) (rw dead refl) in
          rw plain refl
      | false ↦ λ e. and_none (is_done (state_with t local author Delete full (Some own)))
    ] refl
not_deleted t local author Follow full i id dead = refl
not_deleted t local author Like full i id dead = refl
not_deleted t local author Announce full i id dead = refl
not_deleted t local author Block full i id dead = refl
not_deleted t local author Accept full i id dead = refl
not_deleted t local author Reject full i id dead = refl
not_deleted t local author Undo full i id dead = refl
not_deleted t local author Other full i id dead = refl

-- ---- one more activity

-- it neither updates nor deletes the object
record IsApart (id : List ℕ) (x : Act) : Type 0 where
  updates : updates id x ≡ false
  deletes : deletes id x ≡ false

local_apart : (t : Town) (host name : List ℕ) (repeat : Option (List ℕ × List ℕ)) (a : Activity) (moment : ℕ) (id : List ℕ) (o : Object) → IsBuried t id o
    → IsApart id (local_act t host name repeat a moment)
unfolding updates deletes is_about state_of
local_apart t host name repeat a moment id o b =
    let author : List ℕ = actor_id host name in
    let dead : is_own_live author (maker t id) ≡ false = not_own t author id o b in record {
      updates = not_updated t true author (deed_of a.kind) _ _ id dead;
      deletes = not_deleted t true author (deed_of a.kind) _ _ id dead;
    }

remote_apart : (t : Town) (owner author : List ℕ) (a : Activity) (moment : ℕ) (id : List ℕ) (o : Object) → IsBuried t id o → IsApart id (remote_act t owner author a moment)
unfolding updates deletes is_about state_of
remote_apart t owner author a moment id o b =
    let dead : is_own_live author (maker t id) ≡ false = not_own t author id o b in record {
      updates = rw (ref_received (deed_of a.kind) author moment a.object) (not_updated t false author (deed_of a.kind) (is_whole a.object) (ref_id a.object) id dead);
      deletes = rw (ref_received (deed_of a.kind) author moment a.object) (not_deleted t false author (deed_of a.kind) (is_whole a.object) (ref_id a.object) id dead);
    }

same_form : (x : Act) (id : List ℕ) (o : Object) → IsApart id x → next_form id x o ≡ o
same_form x id o h = rw (h.updates, h.deletes) refl

still_by : (t : Town) (x : Act) (id : List ℕ) (o : Object) → IsApart id x → fold (replay_act id) (Some o) (x ∷ answers t x) ≡ Some o
still_by t x id o h =
    ap (λ (p : Option Object). fold (replay_act id) p (answers t x)) (ap (λ (z : Object). Some z) (same_form x id o h)) ∙ answers_forms t x id (Some o)

-- ---- one more entry

post_still : (host : Option (List ℕ)) (t : Town) (name : List ℕ) (repeat : Option (List ℕ × List ℕ)) (a : Activity) (moment : ℕ) (id : List ℕ) (o : Object) → IsBuried t id o
    → fold (replay_act id) (Some o) (acts_in (post_addition host t name repeat a moment)) ≡ Some o
post_still None t name repeat a moment id o b = refl
post_still (Some host) t name repeat a moment id o b = still_by t (local_act t host name repeat a moment) id o (local_apart t host name repeat a moment id o b)

inbox_still : (t : Town) (owner author i : List ℕ) (a : Activity) (moment : ℕ) (id : List ℕ) (o : Object) → IsBuried t id o
    → fold (replay_act id) (Some o) (acts_in (inbox_addition t owner author i a moment)) ≡ Some o
inbox_still t owner author i a moment id o b =
    elim (is_known t i) as (λ k. fold (replay_act id) (Some o) (acts_in (if k then additions.Inbox i owner else additions.Activity (acceptance t (remote_act t owner author a moment)))) ≡ Some o) [
      | true ↦ refl
      | false ↦ still_by t (remote_act t owner author a moment) id o (remote_apart t owner author a moment id o b)
    ]

delivery_still : (t : Town) (owner author i : Option (List ℕ)) (a : Activity) (moment : ℕ) (id : List ℕ) (o : Object) → IsBuried t id o
    → fold (replay_act id) (Some o) (acts_in (delivery_addition t owner author i a moment)) ≡ Some o
delivery_still t None author i a moment id o b = refl
delivery_still t (Some owner) None i a moment id o b = refl
delivery_still t (Some owner) (Some author) None a moment id o b = refl
delivery_still t (Some owner) (Some author) (Some i) a moment id o b = inbox_still t owner author i a moment id o b

member_still : (host : Option (List ℕ)) (name digest : List ℕ) (locked : Bool) (id : List ℕ) (o : Object)
    → fold (replay_act id) (Some o) (acts_in (member_addition host name digest locked)) ≡ Some o
member_still None name digest locked id o = refl
member_still (Some host) name digest locked id o = refl

entry_still : (t : Town) (e : Entry) (id : List ℕ) (o : Object) → IsBuried t id o → fold (replay_act id) (Some o) (acts_in (addition_of t e)) ≡ Some o
entry_still t (Hosted host moment) id o b = refl
entry_still t (Made name digest locked moment) id o b = member_still t.host name digest locked id o
entry_still t (PeerSet host key address relay moment) id o b = refl
entry_still t (Local name repeat a moment) id o b = post_still t.host t name repeat a moment id o b
entry_still t (Remote peer inbox a moment) id o b = delivery_still t (id_of t inbox) a.actor a.id a moment id o b
entry_still t (Tried activity recipient came moment) id o b = refl

step_still : (t : Town) (e : Entry) (id : List ℕ) (o : Object) → IsBuried t id o → IsBuried (step t e) id o
step_still t e id o b = record {
  stands = step_replays t e id ∙ ap (λ (p : Option Object). fold (replay_act id) p (acts_in (addition_of t e))) b.stands ∙ entry_still t e id o b;
  buried = b.buried;
}

fold_still : (history : List Entry) (t : Town) (id : List ℕ) (o : Object) → IsBuried t id o → IsBuried (fold step t history) id o
fold_still [] t id o b = b
fold_still (e ∷ history) t id o b = fold_still history (step t e) id o (step_still t e id o b)

-- A Tombstone does not change, whatever comes after it.
pub tombstone_stays : (history later : List Entry) (id : List ℕ) (o : Object) → object_at (town history) id ≡ Some o → is_tombstone o ≡ true
    → object_at (town (history ++ later)) id ≡ Some o
tombstone_stays history later id o stands buried =
    subst (λ (u : Town). object_at u id ≡ Some o) (sym (fold-append step empty_town history later))
    (fold_still later (town history) id o (record { stands = stands; buried = buried })).stands
