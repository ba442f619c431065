-- The lists of candidates after one more entry.
use Rattle.std.proofs.Common.{◌≡◌, ℕ, ◌+◌, Bool, true, false, List, [], ◌∷◌, ◌++◌, Option, Some, None, length, refl, sym, ap, subst, ◌∙◌}
use Rattle.std.specs.Prelude.{is_none, map, option_to_list, if◌then◌else◌}
use Rattle.std.specs.List.{find, fold}
use Rattle.std.proofs.lemmas.Bool.{and_parts}
use Rattle.std.proofs.lemmas.List.{append-nil, length-map}
use Rattle.fedi_address.specs.Hosts.{is_host_text}
use Rattle.fedi_index.specs.declared.collection.Collection.{Collection}
use Rattle.fedi_index.specs.declared.collection.Collection.TheVariants as kinds
use Rattle.fedi_index.specs.Candidates.{belongs}
use Rattle.fedi_visible.specs.Pins.{is_directed, is_pin_kind_by}
use Rattle.fedi_visible.specs.Places.{places_from}
use Rattle.fedi_index.specs.Growing.{AreCandidates, MayComeIn, is_kept, sent_on}
use Rattle.fedi_index.specs.Lists.{Listing}
use Rattle.fedi_index.proofs.Owners.{member_here}
use Rattle.fedi_index.proofs.Positions.{places-mapped}
use Rattle.fedi_visible.proofs.Scanned.{places-more}
use Rattle.fedi_effects.specs.Additions.{acts_in, inbox_in}
use Rattle.fedi_town.proofs.Due.{affected_on}
use Rattle.fedi_town.proofs.IdsTown.{HasIds, step_by, town_ids}
use Rattle.fedi_town.proofs.Sound.{IsHosted, not_hosted, step_sound}
use Rattle.fedi_objects.specs.declared.activity.Activity.{Activity}
use Rattle.fedi_objects.specs.declared.entry.Entry.{Entry}
use Rattle.fedi_objects.specs.declared.entry.Entry.TheVariants.{Hosted, Made, PeerSet, Local, Remote, Tried}
use Rattle.fedi_objects.specs.declared.kind.State.{State}
use Rattle.fedi_objects.specs.declared.kind.State.TheVariants.{Accepted, Undone}
use Rattle.fedi_town.specs.Activities.{local_act, remote_act}
use Rattle.fedi_town.specs.declared.act.Act.{Act}
use Rattle.fedi_town.specs.declared.addition.Addition.{Addition}
use Rattle.fedi_town.specs.declared.addition.Addition.TheVariants as additions
use Rattle.fedi_town.specs.declared.effect.Effect.{Effect}
use Rattle.fedi_town.specs.declared.effect.Effect.TheVariants as effects
use Rattle.fedi_town.specs.Effects.{acceptance, affect, answer_to, effect_of, end_follow, in_state, is_pending_follow, is_standing_activity, where_passes}
use Rattle.fedi_town.specs.Histories.{addition_of, delivery_addition, inbox_addition, is_known, member_addition, post_addition, step, town, with_addition, with_recipient}
use Rattle.fedi_town.specs.Legal.{broken_command, is_admissible, is_legal_from, lacks, may_deliver, IsLegal}
use Rattle.fedi_town.specs.Objects.{makes, rewrite_act, tombstone_of, update_object}
use Rattle.fedi_town.specs.Relations.{is_about, is_open_follow}
use Rattle.fedi_town.specs.Shapes.{is_delivered}
use Rattle.fedi_town.specs.Towns.{Town, empty_town, has_host, id_of, is_by}
use Rattle.fedi_town.proofs.Kept.{IsKept, changed-kept}
use Rattle.fedi_town.proofs.Growing.{legal_push}

-- ---- an effect on an activity leaves it in its lists

where-directed : (p : Act → Bool) (f : Act → Act) (y : Act) → (f y).activity.target ≡ y.activity.target → (where_passes p f y).activity.target ≡ y.activity.target
where-directed p f y same = elim (p y) as (λ b. (if b then f y else y).activity.target ≡ y.activity.target) [ true ↦ same | false ↦ refl ]

ended-directed : (a b : List ℕ) (s : State) (y : Act) → (end_follow a b s y).activity.target ≡ y.activity.target
unfolding end_follow
ended-directed a b s y = where-directed (is_open_follow a b) (in_state s) y refl

-- what it is directed to stays the same
affected-directed : (e : Effect) (y : Act) → (affect e y).activity.target ≡ y.activity.target
unfolding rewrite_act
affected-directed effects.Nothing y = refl
affected-directed (effects.Update id by stamp) y = where-directed (makes id) (rewrite_act (update_object by stamp)) y refl
affected-directed (effects.Delete id kind stamp) y = where-directed (makes id) (rewrite_act (tombstone_of kind stamp)) y refl
affected-directed (effects.Accept id) y = where-directed (is_pending_follow id) (in_state Accepted) y refl
affected-directed (effects.EndFollows a b s) y = ended-directed a b s y
affected-directed (effects.EndBoth a b) y = ended-directed a b Undone (end_follow b a Undone y) ∙ ended-directed b a Undone y
affected-directed (effects.Undo id) y = where-directed (is_standing_activity id) (in_state Undone) y refl

where-sent : (p : Act → Bool) (f : Act → Act) (y : Act) → (f y).recipients ≡ y.recipients → (where_passes p f y).recipients ≡ y.recipients
where-sent p f y same = elim (p y) as (λ b. (if b then f y else y).recipients ≡ y.recipients) [ true ↦ same | false ↦ refl ]

ended-sent : (a b : List ℕ) (s : State) (y : Act) → (end_follow a b s y).recipients ≡ y.recipients
unfolding end_follow
ended-sent a b s y = where-sent (is_open_follow a b) (in_state s) y refl

-- its recipients stay the same
affected-sent : (e : Effect) (y : Act) → (affect e y).recipients ≡ y.recipients
unfolding rewrite_act
affected-sent effects.Nothing y = refl
affected-sent (effects.Update id by stamp) y = where-sent (makes id) (rewrite_act (update_object by stamp)) y refl
affected-sent (effects.Delete id kind stamp) y = where-sent (makes id) (rewrite_act (tombstone_of kind stamp)) y refl
affected-sent (effects.Accept id) y = where-sent (is_pending_follow id) (in_state Accepted) y refl
affected-sent (effects.EndFollows a b s) y = ended-sent a b s y
affected-sent (effects.EndBoth a b) y = ended-sent a b Undone (end_follow b a Undone y) ∙ ended-sent b a Undone y
affected-sent (effects.Undo id) y = where-sent (is_standing_activity id) (in_state Undone) y refl

belongs-kept : (k : Collection) (o : List ℕ) (y z : Act) → IsKept y z → z.author ≡ y.author → z.recipients ≡ y.recipients → z.activity.target ≡ y.activity.target → belongs k o z ≡ belongs k o y
unfolding belongs is_by is_about is_directed is_pin_kind_by
belongs-kept kinds.Inbox o y z same author to at = rw to refl
belongs-kept kinds.Outbox o y z same author to at = rw author refl
belongs-kept kinds.Followers o y z same author to at = rw (same.kind, same.about) refl
belongs-kept kinds.Following o y z same author to at = rw (same.kind, author) refl
belongs-kept kinds.Liked o y z same author to at = rw (same.kind, author) refl
belongs-kept kinds.Likes o y z same author to at = rw (same.kind, same.about) refl
belongs-kept kinds.Shares o y z same author to at = rw (same.kind, same.about) refl
belongs-kept kinds.Pins o y z same author to at = rw (same.kind, author) refl
belongs-kept kinds.Board o y z same author to at = rw (same.kind, at) refl

kept-after : (t : Town) (x : Act) (host : Option (List ℕ)) (k : Collection) (o : List ℕ) (y : Act) → is_kept host k o (affect (effect_of t x) y) ≡ is_kept host k o y
unfolding is_kept
kept-after t x host k o y = rw (belongs-kept k o y (affect (effect_of t x) y) (changed-kept t x y) (affected_on (effect_of t x) y).author (affected-sent (effect_of t x) y) (affected-directed (effect_of t x) y)) refl

-- ---- one more entry

-- an activity was added to the lists, and its effect was applied to the earlier ones
accepted : (t : Town) (x : Act) (host : Option (List ℕ)) (lists : List Listing) → AreCandidates host (t.acts ++ x ∷ option_to_list (answer_to t x)) lists
    → AreCandidates host (map (affect (effect_of t x)) t.acts ++ x ∷ option_to_list (answer_to t x)) lists
accepted t x host lists are = record {
  places = λ k o.
      let own : Act → Bool = is_kept host k o in
      let new : List Act = x ∷ option_to_list (answer_to t x) in
      let f : Act → Act = affect (effect_of t x) in
      are.places k o ∙ places-more own 0 t.acts new
      ∙ ap (λ (ps : List ℕ). ps ++ places_from own (0 + length t.acts) new) (sym (places-mapped own f (kept-after t x host k o) 0 t.acts))
      ∙ ap (λ (n : ℕ). places_from own 0 (map f t.acts) ++ places_from own (0 + n) new) (sym (length-map t.acts f))
      ∙ sym (places-more own 0 (map f t.acts) new);
}

none_new : (host : Option (List ℕ)) (acts : List Act) (lists : List Listing) → AreCandidates host (acts ++ []) lists → AreCandidates host acts lists
none_new host acts lists are = subst (λ (xs : List Act). AreCandidates host xs lists) (append-nil acts) are

-- the lists after an addition: its activities, or one more inbox
abbrev AreAfter : Town → Addition → List Listing → Type 0
AreAfter t a lists = AreCandidates t.host (sent_on (inbox_in a) t.acts ++ acts_in a) lists

made : (t : Town) (host : Option (List ℕ)) (name digest : List ℕ) (locked : Bool) (lists : List Listing)
    → AreAfter t (member_addition host name digest locked) lists
    → AreCandidates (with_addition t (member_addition host name digest locked)).host (with_addition t (member_addition host name digest locked)).acts lists
made t None name digest locked lists are = none_new t.host t.acts lists are
made t (Some host) name digest locked lists are = none_new t.host t.acts lists are

posted : (t : Town) (host : Option (List ℕ)) (name : List ℕ) (repeat : Option (List ℕ × List ℕ)) (a : Activity) (moment : ℕ) (lists : List Listing)
    → AreAfter t (post_addition host t name repeat a moment) lists
    → AreCandidates (with_addition t (post_addition host t name repeat a moment)).host (with_addition t (post_addition host t name repeat a moment)).acts lists
posted t None name repeat a moment lists are = none_new t.host t.acts lists are
posted t (Some host) name repeat a moment lists are = accepted t (local_act t host name repeat a moment) t.host lists are

inbox_came : (t : Town) (owner author id : List ℕ) (a : Activity) (moment : ℕ) (lists : List Listing) → AreAfter t (inbox_addition t owner author id a moment) lists
    → AreCandidates (with_addition t (inbox_addition t owner author id a moment)).host (with_addition t (inbox_addition t owner author id a moment)).acts lists
inbox_came t owner author id a moment lists are =
    let added : Bool → Addition = λ known. if known then additions.Inbox id owner else additions.Activity (acceptance t (remote_act t owner author a moment)) in
    elim (is_known t id) as (λ b. AreAfter t (added b) lists → AreCandidates (with_addition t (added b)).host (with_addition t (added b)).acts lists) [
      | true ↦ none_new t.host (map (with_recipient id owner) t.acts) lists
      | false ↦ accepted t (remote_act t owner author a moment) t.host lists
    ] are

delivered : (t : Town) (owner author id : Option (List ℕ)) (a : Activity) (moment : ℕ) (lists : List Listing) → AreAfter t (delivery_addition t owner author id a moment) lists
    → AreCandidates (with_addition t (delivery_addition t owner author id a moment)).host (with_addition t (delivery_addition t owner author id a moment)).acts lists
delivered t None author id a moment lists are = none_new t.host t.acts lists are
delivered t (Some owner) None id a moment lists are = none_new t.host t.acts lists are
delivered t (Some owner) (Some author) None a moment lists are = none_new t.host t.acts lists are
delivered t (Some owner) (Some author) (Some id) a moment lists are = inbox_came t owner author id a moment lists are

-- before the server is set up there are no activities
hosted : (host : Option (List ℕ)) (own : List ℕ) (acts : List Act) (lists : List Listing) → is_none host ≡ true → HasIds host acts → AreCandidates host (acts ++ []) lists
    → AreCandidates (Some own) acts lists
hosted None own acts lists unset none are =
    let no : AreCandidates None [] lists = rw none at are in
    rw none (record { places = no.places })
hosted (Some host) own acts lists unset ids are = absurd cc

-- the lists after everything that the entry brings was added are those of the town after the entry
pub candidates_after : (t : Town) (e : Entry) (lists : List Listing) → is_admissible t e ≡ true → HasIds t.host t.acts → AreAfter t (addition_of t e) lists
    → AreCandidates (step t e).host (step t e).acts lists
candidates_after t (Hosted host moment) lists ok ids are =
    hosted t.host host t.acts lists (not_hosted t host moment (and_parts (is_none (broken_command t (Hosted host moment))) (is_host_text host) ok).0) ids are
candidates_after t (Made name digest locked moment) lists ok ids are = made t t.host name digest locked lists are
candidates_after t (PeerSet host key address relay moment) lists ok ids are = none_new t.host t.acts lists are
candidates_after t (Local name repeat a moment) lists ok ids are = posted t t.host name repeat a moment lists are
candidates_after t (Remote peer inbox a moment) lists ok ids are = delivered t (id_of t inbox) a.actor a.id a moment lists are
candidates_after t (Tried activity recipient came moment) lists ok ids are = none_new t.host t.acts lists are

-- ---- legal histories

-- the history is still legal after an entry that may come next
pub legal_after : (history : List Entry) (t : Town) (e : Entry) → t ≡ town history → IsLegal history → is_admissible t e ≡ true → IsLegal (history ++ e ∷ [])
legal_after history t e is legal ok = record { admissible = legal_push history empty_town e legal.admissible (rw is at ok) }

-- in a legal history there are no activities before the server is set up
ids_from : (history : List Entry) (t : Town) → IsHosted t → HasIds t.host t.acts → is_legal_from t history ≡ true → HasIds (fold step t history).host (fold step t history).acts
ids_from [] t sound ids legal = ids
ids_from (e ∷ history) t sound ids legal =
    let parts = and_parts (is_admissible t e) (is_legal_from (step t e) history) legal in
    ids_from history (step t e) (step_sound t e parts.0 sound) (step_by t t.host e refl sound parts.0 ids) parts.1

pub ids_of_town : (history : List Entry) → IsLegal history → HasIds (town history).host (town history).acts
ids_of_town history legal =
    ids_from history empty_town (record { sound = record { members = refl; peers = refl }; host = refl }) refl legal.admissible

-- ---- one more inbox

made_in : (t : Town) (host : Option (List ℕ)) (name digest : List ℕ) (locked : Bool) → MayComeIn t (inbox_in (member_addition host name digest locked))
made_in t None name digest locked = tt
made_in t (Some host) name digest locked = tt

posted_in : (t : Town) (host : Option (List ℕ)) (name : List ℕ) (repeat : Option (List ℕ × List ℕ)) (a : Activity) (moment : ℕ) → MayComeIn t (inbox_in (post_addition host t name repeat a moment))
posted_in t None name repeat a moment = tt
posted_in t (Some host) name repeat a moment = tt

delivered_in : (history : List Entry) (owner : Option (List ℕ)) (inbox : List ℕ) (author id : Option (List ℕ)) (a : Activity) (moment : ℕ) → IsLegal history → id_of (town history) inbox ≡ owner
    → lacks (town history) id owner ≡ true → MayComeIn (town history) (inbox_in (delivery_addition (town history) owner author id a moment))
delivered_in history None inbox author id a moment legal own lacking = tt
delivered_in history (Some owner) inbox None id a moment legal own lacking = tt
delivered_in history (Some owner) inbox (Some author) None a moment legal own lacking = tt
delivered_in history (Some owner) inbox (Some author) (Some id) a moment legal own lacking =
    let t : Town = town history in
    elim (is_known t id) as (λ b. MayComeIn t (inbox_in (if b then additions.Inbox id owner else additions.Activity (acceptance t (remote_act t owner author a moment))))) [
      | true ↦ record { once = town_ids history legal id; lacking = lacking; here = member_here history t.host inbox owner legal refl own }
      | false ↦ tt
    ]

-- the activity that the next entry adds to one more inbox may be added there
pub may_go_in : (history : List Entry) (e : Entry) → IsLegal history → is_admissible (town history) e ≡ true → MayComeIn (town history) (inbox_in (addition_of (town history) e))
may_go_in history (Hosted host moment) legal ok = tt
may_go_in history (Made name digest locked moment) legal ok = made_in (town history) (town history).host name digest locked
may_go_in history (PeerSet host key address relay moment) legal ok = tt
may_go_in history (Local name repeat a moment) legal ok = posted_in (town history) (town history).host name repeat a moment
may_go_in history (Remote peer inbox a moment) legal ok =
    let t : Town = town history in
    let may = and_parts (may_deliver t (find (has_host peer) t.peers) a) (lacks t a.id (id_of t inbox)) (and_parts (is_delivered a) _ ok).1 in
    delivered_in history (id_of t inbox) inbox a.actor a.id a moment legal refl may.1
may_go_in history (Tried activity recipient came moment) legal ok = tt
