-- The rows after one more entry that is not an attempt.
use Rattle.std.proofs.Common.{◌≡◌, ℕ, ◌+◌, arith, Bool, true, false, List, [], ◌∷◌, ◌++◌, length, Option, Some, None, refl, sym, ap, ◌∙◌}
use Rattle.std.specs.Prelude.{map, is_none, option_to_list, if◌then◌else◌}
use Rattle.std.specs.List.{find, list_all}
use Rattle.std.specs.Str.{bytes_eq}
use Rattle.std.proofs.lemmas.Bool.{and_parts}
use Rattle.std.proofs.lemmas.List.{append-nil, length-map}
use Rattle.fedi_address.specs.Hosts.{is_host_text}
use Rattle.fedi_address.specs.Iris.{host_of}
use Rattle.fedi_effects.specs.Additions.{acts_in}
use Rattle.fedi_town.proofs.IdsTown.{HasIds}
use Rattle.fedi_town.proofs.Sound.{not_hosted}
use Rattle.fedi_objects.specs.declared.activity.Activity.{Activity}
use Rattle.fedi_objects.specs.declared.entry.Entry.{Entry}
use Rattle.fedi_objects.specs.declared.entry.Entry.TheVariants.{Hosted, Made, PeerSet, Local, Remote, Tried}
use Rattle.fedi_queue.specs.declared.rows.QueueRow.{QueueRow}
use Rattle.fedi_queue.specs.Rows.{AcceptedActivitiesAddRows, is_reached, rows_from, rows_of}
use Rattle.fedi_queue.proofs.Addressed.{AreWell, IsKnown, IsUnmoved, affected_unmoved, away, is_away, is_well, none_before}
use Rattle.fedi_queue.proofs.RowsOf.{IsAlike, IsSent, from_alike, mapped_alike, mapped_where, reached_then, rows_from_append}
use Rattle.fedi_town.specs.Activities.{local_act, remote_act}
use Rattle.fedi_town.specs.Addressing.{is_of_town}
use Rattle.fedi_town.specs.declared.act.Act.{Act}
use Rattle.fedi_town.specs.declared.act.Actor.{Actor}
use Rattle.fedi_town.specs.declared.act.Peer.{Peer}
use Rattle.fedi_town.specs.declared.addition.Addition.{Addition}
use Rattle.fedi_town.specs.declared.addition.Addition.TheVariants as additions
use Rattle.fedi_town.specs.Effects.{acceptance, affect, answer_to, effect_of, with_acceptance}
use Rattle.fedi_town.specs.Histories.{addition_of, delivery_addition, inbox_addition, is_known, member_addition, post_addition, step, with_addition, with_recipient}
use Rattle.fedi_town.specs.Legal.{broken_command, is_admissible, may_deliver}
use Rattle.fedi_town.specs.Queues.{is_at_peer, sends}
use Rattle.fedi_town.specs.Relations.{has_activity_id}
use Rattle.fedi_town.specs.Shapes.{is_delivered}
use Rattle.fedi_town.specs.Towns.{Town, has_host, id_of}

-- ---- an activity that is accepted

alike-acts : (t : Town) (acts : List Act) → IsAlike t (record t { acts = acts }) (is_at_peer t) (is_at_peer (record t { acts = acts }))
unfolding is_at_peer
alike-acts t acts = record { reached = λ r. refl; attempts = refl }

sent-acts : (t : Town) (acts : List Act) (y z : Act) → IsUnmoved y z → IsSent t (record t { acts = acts }) y z
unfolding sends
sent-acts t acts y z u = record { own = u.own; moment = u.moment; sends = rw (u.author, u.recipients, u.forwards) refl }

same-sends : (t : Town) (acts : List Act) (y : Act) → sends (record t { acts = acts }) y ≡ sends t y
unfolding sends
same-sends t acts y = refl

pub accepted_rows : AcceptedActivitiesAddRows
unfolding rows_of
accepted_rows t x =
    let f : Act → Act = affect (effect_of t x) in
    let more : List Act = x ∷ option_to_list (answer_to t x) in
    let u : Town = with_acceptance t (acceptance t x) in
    let count : 0 + length (map f t.acts) ≡ length t.acts = (let k : 0 + length (map f t.acts) ≡ length (map f t.acts) = omega arith in k ∙ length-map t.acts f) in
    rows_from_append u (is_at_peer u) 0 (map f t.acts) more
    ∙ ap (λ (k : ℕ). rows_from u (is_at_peer u) 0 (map f t.acts) ++ rows_from u (is_at_peer u) k more) count
    ∙ ap (λ (rows : List QueueRow). rows ++ rows_from u (is_at_peer u) (length t.acts) more)
    (mapped_alike t u (is_at_peer t) (is_at_peer u) f 0 t.acts (alike-acts t u.acts) (λ y. sent-acts t u.acts y (f y) (affected_unmoved (effect_of t x) y)))
    ∙ ap (λ (rows : List QueueRow). rows_from t (is_at_peer t) 0 t.acts ++ rows)
    (from_alike t u (is_at_peer t) (is_at_peer u) (length t.acts) more (alike-acts t u.acts) (same-sends t u.acts))

-- ---- one more inbox

inbox-sent : (t : Town) (acts : List Act) (host id owner : List ℕ) (y : Act) → t.host ≡ Some host → bytes_eq (host_of id) host ≡ false → is_well host y ≡ true
    → IsSent t (record t { acts = acts }) y (with_recipient id owner y)
unfolding sends
inbox-sent t acts host id owner y hosted other well =
    elim (has_activity_id id y) as
    (λ b. has_activity_id id y ≡ b → IsSent t (record t { acts = acts }) y (if b then record y { recipients = y.recipients ++ owner ∷ [] } else y)) [
      | true ↦ λ has.
          let far : is_of_town t.host y.author ≡ false = rw hosted (is_away host id y other well has) in
          record { own = refl; moment = refl; sends = rw far refl }
      | false ↦ λ none. record { own = refl; moment = refl; sends = refl }
    ] refl

-- one more inbox of an activity from elsewhere adds no row: a repeat is not forwarded
pub inbox_rows : (t : Town) (host id owner : List ℕ) → t.host ≡ Some host → bytes_eq (host_of id) host ≡ false → list_all (is_well host) t.acts ≡ true
    → rows_of (record t { acts = map (with_recipient id owner) t.acts }) ≡ rows_of t
unfolding rows_of
inbox_rows t host id owner hosted other all =
    let acts : List Act = map (with_recipient id owner) t.acts in
    mapped_where t (record t { acts = acts }) (is_at_peer t) (is_at_peer (record t { acts = acts })) (is_well host) (with_recipient id owner) 0 t.acts (alike-acts t acts)
    (λ y well. inbox-sent t acts host id owner y hosted other well) all

-- ---- one more peer

alike-peer : (t : Town) (p : Peer) → IsAlike t (record t { peers = t.peers ++ p ∷ [] }) (is_reached t (Some p.host)) (is_at_peer (record t { peers = t.peers ++ p ∷ [] }))
alike-peer t p = record { reached = reached_then t p; attempts = refl }

peer-sends : (t : Town) (p : Peer) (y : Act) → sends (record t { peers = t.peers ++ p ∷ [] }) y ≡ sends t y
unfolding sends
peer-sends t p y = refl

pub peer_rows : (t : Town) (p : Peer) → rows_of (record t { peers = t.peers ++ p ∷ [] }) ≡ rows_from t (is_reached t (Some p.host)) 0 t.acts
unfolding rows_of
peer_rows t p =
    let u : Town = record t { peers = t.peers ++ p ∷ [] } in
    from_alike t u (is_reached t (Some p.host)) (is_at_peer u) 0 t.acts (alike-peer t p) (peer-sends t p)

-- ---- the host, and one more member

hosted-rows : (t : Town) (host : List ℕ) → t.acts ≡ [] → rows_of (record t { host = Some host }) ≡ rows_of t ++ []
unfolding rows_of
hosted-rows t host none = rw none refl

alike-actors : (t : Town) (actors : List Actor) → IsAlike t (record t { actors = actors }) (is_at_peer t) (is_at_peer (record t { actors = actors }))
unfolding is_at_peer
alike-actors t actors = record { reached = λ r. refl; attempts = refl }

actors-sends : (t : Town) (actors : List Actor) (y : Act) → sends (record t { actors = actors }) y ≡ sends t y
unfolding sends
actors-sends t actors y = refl

made-rows : (t : Town) (host : Option (List ℕ)) (name digest : List ℕ) (locked : Bool)
    → rows_of (with_addition t (member_addition host name digest locked)) ≡ rows_of t ++ rows_from t (is_at_peer t) (length t.acts) (acts_in (member_addition host name digest locked))
unfolding rows_of
made-rows t None name digest locked = sym (append-nil (rows_from t (is_at_peer t) 0 t.acts))
made-rows t (Some host) name digest locked =
    let u : Town = with_addition t (member_addition (Some host) name digest locked) in
    from_alike t u (is_at_peer t) (is_at_peer u) 0 t.acts (alike-actors t u.actors) (actors-sends t u.actors)
    ∙ sym (append-nil (rows_from t (is_at_peer t) 0 t.acts))

-- ---- entries

-- the rows after an addition: those of its activities are at the end
abbrev pub AddsRows : Town → Addition → Type 0
AddsRows t a = rows_of (with_addition t a) ≡ rows_of t ++ rows_from t (is_at_peer t) (length t.acts) (acts_in a)

adds-nothing : (t : Town) → AddsRows t additions.Nothing
adds-nothing t = sym (append-nil (rows_of t))

posted-rows : (t : Town) (host : Option (List ℕ)) (name : List ℕ) (repeat : Option (List ℕ × List ℕ)) (a : Activity) (moment : ℕ) → AddsRows t (post_addition host t name repeat a moment)
posted-rows t None name repeat a moment = adds-nothing t
posted-rows t (Some host) name repeat a moment = accepted_rows t (local_act t host name repeat a moment)

known-inbox : (t : Town) (h : Option (List ℕ)) (p : Option Peer) (owner author id : List ℕ) (a : Activity) → t.host ≡ h → HasIds h t.acts → AreWell t → may_deliver t p a ≡ true → a.actor ≡ Some author
    → a.id ≡ Some id → rows_of (record t { acts = map (with_recipient id owner) t.acts }) ≡ rows_of t
unfolding rows_of
known-inbox t None p owner author id a is ids w ok by own = rw ids refl
known-inbox t (Some host) p owner author id a is ids w ok by own =
    inbox_rows t host id owner is (away host p t a author id is by own ok).of_id (w.well host is)

came-rows : (t : Town) (p : Option Peer) (owner author id : List ℕ) (a : Activity) (moment : ℕ) → HasIds t.host t.acts → AreWell t → may_deliver t p a ≡ true → a.actor ≡ Some author → a.id ≡ Some id
    → AddsRows t (inbox_addition t owner author id a moment)
came-rows t p owner author id a moment ids w ok by own =
    elim (is_known t id) as (λ b. AddsRows t (if b then additions.Inbox id owner else additions.Activity (acceptance t (remote_act t owner author a moment)))) [
      | true ↦ known-inbox t t.host p owner author id a refl ids w ok by own ∙ sym (append-nil (rows_of t))
      | false ↦ accepted_rows t (remote_act t owner author a moment)
    ]

delivered-rows : (t : Town) (p : Option Peer) (owner author id : Option (List ℕ)) (a : Activity) (moment : ℕ) → HasIds t.host t.acts → AreWell t → may_deliver t p a ≡ true → a.actor ≡ author → a.id ≡ id
    → AddsRows t (delivery_addition t owner author id a moment)
delivered-rows t p None author id a moment ids w ok by own = adds-nothing t
delivered-rows t p (Some owner) None id a moment ids w ok by own = adds-nothing t
delivered-rows t p (Some owner) (Some author) None a moment ids w ok by own = adds-nothing t
delivered-rows t p (Some owner) (Some author) (Some id) a moment ids w ok by own = came-rows t p owner author id a moment ids w ok by own

-- it makes nobody a peer and is not an attempt
abbrev pub is_plain : Entry → Bool
is_plain (Hosted host moment) = true
is_plain (Made name digest locked moment) = true
is_plain (PeerSet host key address relay moment) = false
is_plain (Local name repeat a moment) = true
is_plain (Remote peer inbox a moment) = true
is_plain (Tried activity recipient came moment) = false

pub plain_rows : (t : Town) (e : Entry) → IsKnown t → is_admissible t e ≡ true → is_plain e ≡ true → AddsRows t (addition_of t e)
plain_rows t (Hosted host moment) k ok plain =
    hosted-rows t host (none_before t.host t.acts (not_hosted t host moment (and_parts (is_none (broken_command t (Hosted host moment))) (is_host_text host) ok).0) k.ids)
plain_rows t (Made name digest locked moment) k ok plain = made-rows t t.host name digest locked
plain_rows t (PeerSet host key address relay moment) k ok plain = absurd cc
plain_rows t (Local name repeat a moment) k ok plain = posted-rows t t.host name repeat a moment
plain_rows t (Remote peer inbox a moment) k ok plain =
    let may = (and_parts (may_deliver t (find (has_host peer) t.peers) a) _ (and_parts (is_delivered a) _ ok).1).0 in
    delivered-rows t (find (has_host peer) t.peers) (id_of t inbox) a.actor a.id a moment k.ids k.well may refl refl
plain_rows t (Tried activity recipient came moment) k ok plain = absurd cc

-- ---- a repeated activity

again-rows : (t : Town) (p : Option Peer) (owner author : Option (List ℕ)) (id : List ℕ) (own : Option (List ℕ)) (a : Activity) (moment : ℕ) → HasIds t.host t.acts → AreWell t → may_deliver t p a ≡ true
    → a.actor ≡ author → a.id ≡ own → own ≡ Some id → is_known t id ≡ true → rows_of (with_addition t (delivery_addition t owner author own a moment)) ≡ rows_of t
again-rows t p None author id own a moment ids w ok by is same known = refl
again-rows t p (Some owner) None id own a moment ids w ok by is same known = refl
again-rows t p (Some owner) (Some author) id None a moment ids w ok by is same known = refl
again-rows t p (Some owner) (Some author) id (Some i) a moment ids w ok by is same known =
    let here : i ≡ id = cc in
    let there : is_known t i ≡ true = rw here known in
    rw there (known-inbox t t.host p owner author i a refl ids w ok by is)

pub known_rows : (t : Town) (peer inbox id : List ℕ) (a : Activity) (moment : ℕ) → IsKnown t → is_admissible t (Remote peer inbox a moment) ≡ true → a.id ≡ Some id → is_known t id ≡ true
    → rows_of (step t (Remote peer inbox a moment)) ≡ rows_of t
known_rows t peer inbox id a moment k ok own known =
    let may = (and_parts (may_deliver t (find (has_host peer) t.peers) a) _ (and_parts (is_delivered a) _ ok).1).0 in
    again-rows t (find (has_host peer) t.peers) (id_of t inbox) a.actor id a.id a moment k.ids k.well may refl refl own known
