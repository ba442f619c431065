-- A pair that is due stays due until it is tried.
use Rattle.std.proofs.Common.{◌≡◌, ℕ, ◌≤◌, Bool, true, false, List, [], ◌∷◌, ◌++◌, Option, Some, None, refl, sym, ap, subst, ◌∙◌, arith}
use Rattle.std.specs.Prelude.{map, filter, if◌then◌else◌}
use Rattle.std.specs.List.{list_any, fold}
use Rattle.std.proofs.lemmas.Bool.{and_parts, le-leb, leb-true, or_right}
use Rattle.std.proofs.lemmas.List.{append-nil}
use Rattle.std.proofs.lemmas.List.Elements.{filter-append}
use Rattle.std.proofs.lemmas.List.Folds.{list_any-append}
use Rattle.fedi_address.specs.Recipients.{is_among}
use Rattle.fedi_address.specs.Iris.{host_of}
use Rattle.fedi_objects.specs.declared.activity.Activity.{Activity}
use Rattle.fedi_objects.specs.declared.entry.Entry.{Entry}
use Rattle.fedi_objects.specs.declared.entry.Entry.TheVariants.{Hosted, Made, PeerSet, Local, Remote, Tried}
use Rattle.fedi_objects.specs.declared.kind.State.{State}
use Rattle.fedi_objects.specs.declared.kind.State.TheVariants.{Accepted, Undone}
use Rattle.fedi_town.proofs.Reached.{is_among-push}
use Rattle.fedi_town.proofs.Steps.{accept, answers, after_post, after_delivery, after_inbox}
use Rattle.fedi_town.specs.Activities.{local_act, remote_act}
use Rattle.fedi_town.specs.Addressing.{is_of_town}
use Rattle.fedi_town.specs.Effects.{acceptance, where_passes, in_state, end_follow, is_pending_follow, is_standing_activity, affect, effect_of}
use Rattle.fedi_town.specs.declared.addition.Addition.TheVariants as additions
use Rattle.fedi_town.specs.Histories.{with_addition, member_addition, step, is_known, with_recipient}
use Rattle.fedi_town.specs.Objects.{makes, rewrite_act, update_object, tombstone_of}
use Rattle.fedi_town.specs.Queues.{Progress, Due, Ended, progress_of, is_of_pair, sends, is_at_peer, is_due_at, is_due_in, is_due, after_attempt}
use Rattle.fedi_town.specs.Relations.{has_activity_id, is_open_follow}
use Rattle.fedi_town.specs.Towns.{Town, id_of, has_host}
use Rattle.fedi_town.specs.declared.act.Act.{Act}
use Rattle.fedi_town.specs.declared.act.Attempt.{Attempt}
use Rattle.fedi_town.specs.declared.act.Peer.{Peer}
use Rattle.fedi_town.specs.declared.effect.Effect.{Effect}
use Rattle.fedi_town.specs.declared.effect.Effect.TheVariants as effects

-- the activity still goes to its recipients
pub record GoesOn (y z : Act) : Type 0 where
  pub own : z.activity.id ≡ y.activity.id
  pub author : z.author ≡ y.author
  moment : z.moment ≡ y.moment
  forwards : z.forwards ≡ y.forwards
  to : (r : List ℕ) → is_among r y.recipients ≡ true → is_among r z.recipients ≡ true

pub same : (y : Act) → GoesOn y y
same y = record { own = refl; author = refl; moment = refl; forwards = refl; to = λ r h. h }

then_on : (x y z : Act) → GoesOn x y → GoesOn y z → GoesOn x z
then_on x y z a b = record { own = b.own ∙ a.own; author = b.author ∙ a.author; moment = b.moment ∙ a.moment; forwards = b.forwards ∙ a.forwards; to = λ r h. b.to r (a.to r h) }

passing : (p : Act → Bool) (f : Act → Act) (y : Act) → GoesOn y (f y) → GoesOn y (where_passes p f y)
passing p f y h =
    elim (p y) as (λ b. GoesOn y (if b then f y else y)) [
      | true ↦ h
      | false ↦ same y
    ]

ended_on : (a b : List ℕ) (s : State) (y : Act) → GoesOn y (end_follow a b s y)
unfolding end_follow
ended_on a b s y = passing (is_open_follow a b) (in_state s) y (record { own = refl; author = refl; moment = refl; forwards = refl; to = λ r h. h })

pub affected_on : (e : Effect) (y : Act) → GoesOn y (affect e y)
unfolding rewrite_act
affected_on effects.Nothing y = same y
affected_on (effects.Update id by stamp) y = passing (makes id) (rewrite_act (update_object by stamp)) y (record { own = refl; author = refl; moment = refl; forwards = refl; to = λ r h. h })
affected_on (effects.Delete id kind stamp) y = passing (makes id) (rewrite_act (tombstone_of kind stamp)) y (record { own = refl; author = refl; moment = refl; forwards = refl; to = λ r h. h })
affected_on (effects.Accept id) y = passing (is_pending_follow id) (in_state Accepted) y (record { own = refl; author = refl; moment = refl; forwards = refl; to = λ r h. h })
affected_on (effects.EndFollows a b s) y = ended_on a b s y
affected_on (effects.EndBoth a b) y = then_on y _ _ (ended_on b a Undone y) (ended_on a b Undone (end_follow b a Undone y))
affected_on (effects.Undo id) y = passing (is_standing_activity id) (in_state Undone) y (record { own = refl; author = refl; moment = refl; forwards = refl; to = λ r h. h })

pub also_on : (id owner : List ℕ) (y : Act) → GoesOn y (with_recipient id owner y)
also_on id owner y =
    elim (has_activity_id id y) as (λ b. GoesOn y (if b then record y { recipients = y.recipients ++ owner ∷ [] } else y)) [
      | true ↦ record { own = refl; author = refl; moment = refl; forwards = refl; to = λ r h. is_among-push r y.recipients owner h }
      | false ↦ same y
    ]

-- ---- later towns

-- the same host, no fewer peers, and no attempt of this pair
pub record IsLater (t u : Town) (id r : List ℕ) : Type 0 where
  host : u.host ≡ t.host
  peer : is_at_peer t r ≡ true → is_at_peer u r ≡ true
  progress : (moment : ℕ) → progress_of u id r moment ≡ progress_of t id r moment

choice_on : (b : Bool) (r : List ℕ) (xs ys fs : List (List ℕ)) → (is_among r xs ≡ true → is_among r ys ≡ true) → is_among r (if b then xs else fs) ≡ true → is_among r (if b then ys else fs) ≡ true
choice_on true r xs ys fs h e = h e
choice_on false r xs ys fs h e = e

sends_on : (t u : Town) (y z : Act) (r : List ℕ) → u.host ≡ t.host → GoesOn y z → is_among r (sends t y) ≡ true → is_among r (sends u z) ≡ true
unfolding sends
sends_on t u y z r host g e =
    rw (host, g.author, g.forwards) (choice_on (is_of_town t.host y.author) r y.recipients z.recipients y.forwards (g.to r) e)

later_moment : (s : Progress) (m n : ℕ) → m ≤ n → is_due_at m s ≡ true → is_due_at n s ≡ true
later_moment (Due k at) m n le e = let first : at ≤ m = leb-true at m e in le-leb at n (omega arith)
later_moment (Ended k) m n le e = absurd cc

own_on : (id : List ℕ) (y z : Act) → GoesOn y z → has_activity_id id y ≡ true → has_activity_id id z ≡ true
unfolding has_activity_id
own_on id y z g e = rw g.own e

due_on : (t u : Town) (id r : List ℕ) (m n : ℕ) (y z : Act) → IsLater t u id r → m ≤ n → GoesOn y z → is_due_in t id r m y ≡ true → is_due_in u id r n z ≡ true
unfolding is_due_in
due_on t u id r m n y z l le g e =
    let a = and_parts (has_activity_id id y) _ e in
    let b = and_parts (is_among r (sends t y)) _ a.1 in
    let c = and_parts (is_at_peer t r) (is_due_at m (progress_of t id r y.moment)) b.1 in
    let still : is_due_at n (progress_of u id r z.moment) ≡ true = rw (l.progress z.moment, g.moment) (later_moment (progress_of t id r y.moment) m n le c.1) in
    rw (own_on id y z g a.0, sends_on t u y z r l.host g b.0, l.peer c.0, still) refl

pub any_on : {A B : Type 0} (p : A → Bool) (q : B → Bool) (f : A → B) → ((x : A) → p x ≡ true → q (f x) ≡ true) → (xs : List A) → list_any p xs ≡ true → list_any q (map f xs) ≡ true
any_on p q f h [] e = absurd cc
any_on p q f h (x ∷ xs) e =
    elim (p x) as (λ b. p x ≡ b → list_any q (map f (x ∷ xs)) ≡ true) [
      | true ↦ λ k. rw (h x k) refl
      | false ↦ λ k. or_right (q (f x)) (list_any q (map f xs)) (any_on p q f h xs (rw k at e))
    ] refl

pub any_more : {A : Type 0} (p : A → Bool) (xs ys : List A) → list_any p xs ≡ true → list_any p (xs ++ ys) ≡ true
any_more p xs ys e = list_any-append p xs ys ∙ rw e refl

-- each activity still goes to its recipients, and more activities may come
mapped_on : (t u : Town) (id r : List ℕ) (m n : ℕ) (f : Act → Act) (more : List Act) → IsLater t u id r → m ≤ n → ((y : Act) → GoesOn y (f y))
    → is_due t id r m ≡ true → list_any (is_due_in u id r n) (map f t.acts ++ more) ≡ true
mapped_on t u id r m n f more l le g e =
    any_more (is_due_in u id r n) (map f t.acts) more (any_on (is_due_in t id r m) (is_due_in u id r n) f (λ y h. due_on t u id r m n y (f y) l le (g y) h) t.acts e)

pub same_later : (t u : Town) (id r : List ℕ) → u.host ≡ t.host → u.peers ≡ t.peers → u.attempts ≡ t.attempts → IsLater t u id r
unfolding is_at_peer progress_of
same_later t u id r host peers attempts = record { host = host; peer = λ e. rw peers e; progress = λ m. rw attempts refl }

accepted_on : (t : Town) (x : Act) (id r : List ℕ) (m n : ℕ) → m ≤ n → is_due t id r m ≡ true → is_due (accept t x) id r n ≡ true
accepted_on t x id r m n le e =
    mapped_on t (accept t x) id r m n (affect (effect_of t x)) (x ∷ answers t x) (same_later t (accept t x) id r refl refl refl) le (affected_on (effect_of t x)) e

keyed_on : (t : Town) (owner author id : List ℕ) (a : Activity) (moment : ℕ) (i r : List ℕ) (m n : ℕ) → m ≤ n → is_due t i r m ≡ true → is_due (after_inbox t owner author id a moment) i r n ≡ true
keyed_on t owner author id a moment i r m n le e =
    elim (is_known t id) as (λ b. is_due (with_addition t (if b then additions.Inbox id owner else additions.Activity (acceptance t (remote_act t owner author a moment)))) i r n ≡ true) [
      | true ↦
          let u : Town = record t { acts = map (with_recipient id owner) t.acts } in
          subst (λ (xs : List Act). list_any (is_due_in u i r n) xs ≡ true) (append-nil (map (with_recipient id owner) t.acts))
          (mapped_on t u i r m n (with_recipient id owner) [] (same_later t u i r refl refl refl) le (also_on id owner) e)
      | false ↦ accepted_on t (remote_act t owner author a moment) i r m n le e
    ]

map-same : (xs : List Act) → map (λ y. y) xs ≡ xs
map-same [] = refl
map-same (x ∷ xs) = rw (map-same xs) refl

-- an entry that does not touch activities
pub held_on : (t u : Town) (id r : List ℕ) (m n : ℕ) → IsLater t u id r → u.acts ≡ t.acts → m ≤ n → is_due t id r m ≡ true → is_due u id r n ≡ true
held_on t u id r m n l acts le e =
    subst (λ (xs : List Act). list_any (is_due_in u id r n) xs ≡ true) (map-same t.acts ∙ sym acts)
    (any_on (is_due_in t id r m) (is_due_in u id r n) (λ y. y) (λ y h. due_on t u id r m n y y l le (same y) h) t.acts e)

delivered_on : (t : Town) (owner author id : Option (List ℕ)) (a : Activity) (moment : ℕ) (i r : List ℕ) (m n : ℕ) → m ≤ n → is_due t i r m ≡ true → is_due (after_delivery t owner author id a moment) i r n ≡ true
delivered_on t None author id a moment i r m n le e = held_on t t i r m n (same_later t t i r refl refl refl) refl le e
delivered_on t (Some owner) None id a moment i r m n le e = held_on t t i r m n (same_later t t i r refl refl refl) refl le e
delivered_on t (Some owner) (Some author) None a moment i r m n le e = held_on t t i r m n (same_later t t i r refl refl refl) refl le e
delivered_on t (Some owner) (Some author) (Some id) a moment i r m n le e = keyed_on t owner author id a moment i r m n le e

posted_on : (host : Option (List ℕ)) (t : Town) (name : List ℕ) (repeat : Option (List ℕ × List ℕ)) (a : Activity) (moment : ℕ) (i r : List ℕ) (m n : ℕ) → m ≤ n → is_due t i r m ≡ true → is_due (after_post host t name repeat a moment) i r n ≡ true
posted_on None t name repeat a moment i r m n le e = held_on t t i r m n (same_later t t i r refl refl refl) refl le e
posted_on (Some host) t name repeat a moment i r m n le e = accepted_on t (local_act t host name repeat a moment) i r m n le e

peers_later : (t : Town) (p : Peer) (id r : List ℕ) → IsLater t (record t { peers = t.peers ++ p ∷ [] }) id r
unfolding is_at_peer progress_of
peers_later t p id r = record { host = refl; peer = λ e. any_more (has_host (host_of r)) t.peers (p ∷ []) e; progress = λ m. refl }

unpaired : (t : Town) (a : Attempt) (id r : List ℕ) → is_of_pair id r a ≡ false → filter (is_of_pair id r) (t.attempts ++ a ∷ []) ≡ filter (is_of_pair id r) t.attempts
unpaired t a id r other = filter-append (is_of_pair id r) t.attempts (a ∷ []) ∙ rw (other, append-nil) refl

tried_later : (t : Town) (a : Attempt) (id r : List ℕ) → is_of_pair id r a ≡ false → IsLater t (record t { attempts = t.attempts ++ a ∷ [] }) id r
unfolding is_at_peer progress_of
tried_later t a id r other = record {
  host = refl;
  peer = λ e. e;
  progress = λ m. ap (fold after_attempt (Due 0 m)) (unpaired t a id r other);
}

made_on : (host : Option (List ℕ)) (t : Town) (name digest : List ℕ) (locked : Bool) (i r : List ℕ) (m n : ℕ) → m ≤ n → is_due t i r m ≡ true → is_due (with_addition t (member_addition host name digest locked)) i r n ≡ true
made_on None t name digest locked i r m n le e = held_on t t i r m n (same_later t t i r refl refl refl) refl le e
made_on (Some host) t name digest locked i r m n le e = held_on t _ i r m n (same_later t _ i r refl refl refl) refl le e

-- the entry is not an attempt of this pair, and does not set up a host
abbrev pub IsOtherEntry : List ℕ → List ℕ → Entry → Type 0
IsOtherEntry id r (Hosted host moment) = ⊥
IsOtherEntry id r (Made name digest locked moment) = Unit {0}
IsOtherEntry id r (PeerSet host key address relay moment) = Unit {0}
IsOtherEntry id r (Local name repeat a moment) = Unit {0}
IsOtherEntry id r (Remote peer inbox a moment) = Unit {0}
IsOtherEntry id r (Tried activity recipient came moment) = is_of_pair id r (record { activity = activity; recipient = recipient; came = came; moment = moment }) ≡ false

-- A pair that is due stays due until it is tried.
pub stays_due : (t : Town) (e : Entry) (id r : List ℕ) (m n : ℕ) → IsOtherEntry id r e → m ≤ n → is_due t id r m ≡ true → is_due (step t e) id r n ≡ true
stays_due t (Hosted host moment) id r m n o le h = absurd o
stays_due t (Made name digest locked moment) id r m n o le h = made_on t.host t name digest locked id r m n le h
stays_due t (PeerSet host key address relay moment) id r m n o le h = held_on t _ id r m n (peers_later t _ id r) refl le h
stays_due t (Local name repeat a moment) id r m n o le h = posted_on t.host t name repeat a moment id r m n le h
stays_due t (Remote peer inbox a moment) id r m n o le h = delivered_on t (id_of t inbox) a.actor a.id a moment id r m n le h
stays_due t (Tried activity recipient came moment) id r m n o le h = held_on t _ id r m n (tried_later t _ id r o) refl le h
