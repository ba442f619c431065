-- The content of a deleted object leaves no trace.
use Rattle.std.proofs.Common.{◌≡◌, ℕ, ◌+◌, Bool, true, false, List, [], ◌∷◌, ◌++◌, Option, Some, None, refl, sym, ap, ◌∙◌}
use Rattle.std.specs.Prelude.{◌||◌, codes, filter, map}
use Rattle.std.specs.List.{find, flat_map, fold, list_any}
use Rattle.std.proofs.lemmas.List.{append-nil}
use Rattle.std.proofs.lemmas.List.Elements.{filter-append, filter_agree}
use Rattle.std.proofs.lemmas.List.Sums.{fold-append}
use Rattle.fedi_address.specs.declared.recipients.Recipients.{Recipients}
use Rattle.fedi_address.specs.Recipients.{all_of, distinct, is_public, names}
use Rattle.fedi_objects.specs.declared.activity.Activity.{Activity}
use Rattle.fedi_objects.specs.declared.activity.ObjectRef.TheVariants.{Id, Whole}
use Rattle.fedi_objects.specs.declared.entry.Entry.{Entry}
use Rattle.fedi_objects.specs.declared.entry.Entry.TheVariants.{Local}
use Rattle.fedi_objects.specs.declared.kind.Kind.TheVariants as kinds
use Rattle.fedi_objects.specs.declared.kind.State.TheVariants.{Done}
use Rattle.fedi_objects.specs.declared.object.Object.{Object}
use Rattle.fedi_objects.specs.Forms.{is_tombstone}
use Rattle.fedi_text.specs.Dates.{moment_text}
use Rattle.fedi_town.specs.declared.act.Act.{Act}
use Rattle.fedi_town.specs.declared.effect.Effect.{Effect}
use Rattle.fedi_town.specs.declared.effect.Effect.TheVariants as effects
use Rattle.fedi_town.specs.Activities.{complete_object, local_act}
use Rattle.fedi_town.specs.Addressing.{addressees, complete_recipients, implied_recipient, is_nobody_here, is_recipient, recipients_with}
use Rattle.fedi_town.specs.Effects.{affect, effect_of, effect_with, takes_effect}
use Rattle.fedi_town.specs.Histories.{step, town}
use Rattle.fedi_town.specs.Ids.{activity_id, actor_id, followers_id, object_id}
use Rattle.fedi_town.specs.Objects.{emptied, is_deleted, makes, rewrite_act, tombstone_of}
use Rattle.fedi_town.specs.Relations.{followers, is_about, is_actor, is_block_of, is_following, ref_id}
use Rattle.fedi_town.specs.States.{is_own_live, state_of}
use Rattle.fedi_town.specs.Towns.{Town, count_of, deed, empty_town, is_by}
use Rattle.fedi_town.proofs.Lists.{filter-none, first_none, map-still, other_none}
use Rattle.fedi_town.proofs.Steps.{accept}
use Rattle.fedi_town.proofs.Texts.{bytes_eq-same}
use Rattle.fedi_town.proofs.IdsOnce.{count-push}
use Rattle.fedi_town.proofs.Quiet.{AreQuiet, is_between-quiet}
use Rattle.fedi_town.proofs.Told.{choice_still}
use Rattle.fedi_laws.specs.Statements.{creates, deletes}

-- ---- an activity that made an object

-- the activity with this object
abbrev carrying : Act → Object → Act
carrying z o = record z { activity = record z.activity { object = Whole o } }

-- a Create by the author that is done
record IsMaker (z : Act) (author : List ℕ) : Type 0 where
  kind : z.activity.kind ≡ kinds.Create
  state : z.state ≡ Done
  by : z.author ≡ author

-- the town with it
abbrev after : Town → Act → Object → Town
after t z o = record t { acts = t.acts ++ carrying z o ∷ [] }

makes_it : (z : Act) (o : Object) (author id : List ℕ) → IsMaker z author → o.id ≡ Some id → makes id (carrying z o) ≡ true
unfolding makes is_about
makes_it z o author id m named = rw (m.kind, m.state, named, bytes_eq-same id) refl

is_quiet : (z : Act) (o : Object) (author : List ℕ) → IsMaker z author → AreQuiet (carrying z o ∷ [])
unfolding is_block_of
is_quiet z o author m = record { quiet = λ a b. rw m.kind refl }

not_following : (z : Act) (o : Object) (author b : List ℕ) → IsMaker z author → list_any (is_following b) (carrying z o ∷ []) ≡ false
unfolding is_following
not_following z o author b m = rw m.kind refl

-- ---- the recipients of the author's next activity

followers-after : (t : Town) (z : Act) (o : Object) (author b : List ℕ) → IsMaker z author → followers (after t z o) b ≡ followers t b
unfolding followers
followers-after t z o author b m =
    ap (λ (xs : List Act). distinct (map (λ x. x.author) xs))
    (filter-append (is_following b) t.acts (carrying z o ∷ []) ∙ rw (filter-none (is_following b) (carrying z o ∷ []) (not_following z o author b m), append-nil) refl)

addressees-after : (t : Town) (z : Act) (o : Object) (author iri : List ℕ) → IsMaker z author → addressees (after t z o) author iri ≡ addressees t author iri
unfolding addressees
addressees-after t z o author iri m = rw (followers-after t z o author author m) refl

recipient-after : (t : Town) (z : Act) (o : Object) (author iri : List ℕ) → IsMaker z author → is_recipient (after t z o) author iri ≡ is_recipient t author iri
unfolding is_recipient is_nobody_here is_actor
recipient-after t z o author iri m = rw (is_between-quiet t (carrying z o ∷ []) (is_quiet z o author m) iri author) refl

flat_map_agree : {A B : Type 0} (f g : A → List B) → ((x : A) → f x ≡ g x) → (xs : List A) → flat_map f xs ≡ flat_map g xs
flat_map_agree f g same [] = refl
flat_map_agree f g same (x ∷ xs) = rw (same x, flat_map_agree f g same xs) refl

recipients-after : (t : Town) (z : Act) (o : Object) (author : List ℕ) (r : Recipients) (others : List (List ℕ)) → IsMaker z author
    → recipients_with (after t z o) author r others ≡ recipients_with t author r others
recipients-after t z o author r others m =
    ap (λ (ys : List (List ℕ)). distinct (filter (is_recipient (after t z o) author) (ys ++ others)))
    (flat_map_agree (addressees (after t z o) author) (addressees t author) (λ iri. addressees-after t z o author iri m) (all_of r))
    ∙ ap distinct (filter_agree (is_recipient (after t z o) author) (is_recipient t author) (λ iri. recipient-after t z o author iri m) (flat_map (addressees t author) (all_of r) ++ others))

count-after : (t : Town) (z : Act) (o : Object) (author : List ℕ) → IsMaker z author → count_of (after t z o) author ≡ count_of t author + 1
unfolding is_by
count-after t z o author m = count-push author t.acts (carrying z o) ∙ rw (m.by, bytes_eq-same author) refl

-- ---- the Delete

find-last : {A : Type 0} (p : A → Bool) (xs : List A) (y : A) → list_any p xs ≡ false → p y ≡ true → find p (xs ++ y ∷ []) ≡ Some y
find-last p [] y none here = rw here refl
find-last p (x ∷ xs) y none here =
    rw (first_none (p x) (list_any p xs) none) (find-last p xs y (other_none (p x) (list_any p xs) none) here)

is_live : (z : Act) (o : Object) (author : List ℕ) → IsMaker z author → is_tombstone o ≡ false → is_own_live author (Some (carrying z o)) ≡ true
unfolding is_by is_deleted
is_live z o author m live = rw (m.by, bytes_eq-same author, m.kind, m.state, live) refl

-- the Delete as it is accepted, which has nothing left of the object
abbrev deletion : Town → Act → List ℕ → List ℕ → List ℕ → Option (List ℕ × List ℕ) → Activity → ℕ → Act
deletion t z host name id repeat b n = record {
  author = actor_id host name;
  activity = record b {
    id = Some (activity_id host name (count_of t (actor_id host name) + 1 + 1));
    kind = kinds.Delete;
    actor = Some (actor_id host name);
    published = Some (moment_text n);
    object = Id id;
  };
  repeat = repeat;
  moment = n;
  recipients = recipients_with t (actor_id host name) b.recipients z.recipients;
  forwards = [];
  is_public = is_public b.recipients || z.is_public;
  for_followers = names b.recipients (followers_id (actor_id host name)) || z.for_followers;
  state = Done;
}

deletion_is : (t : Town) (z : Act) (o : Object) (host name id : List ℕ) (repeat : Option (List ℕ × List ℕ)) (b : Activity) (n : ℕ) → IsMaker z (actor_id host name)
    → o.id ≡ Some id → is_tombstone o ≡ false → list_any (makes id) t.acts ≡ false
    → local_act (after t z o) host name repeat (deletes id b) n ≡ deletion t z host name id repeat b n
unfolding state_of complete_recipients implied_recipient
deletion_is t z o host name id repeat b n m named live new =
    let author : List ℕ = actor_id host name in
    let maker : find (makes id) (t.acts ++ carrying z o ∷ []) ≡ Some (carrying z o) =
    find-last (makes id) t.acts (carrying z o) new (makes_it z o author id m named) in
    rw (
      maker,
      is_live z o author m live,
      count-after t z o author m,
      recipients-after t z o author b.recipients z.recipients m,
    ) refl

map_last : {A B : Type 0} (f : A → B) (xs : List A) (y : A) → map f (xs ++ y ∷ []) ≡ map f xs ++ f y ∷ []
map_last f [] y = refl
map_last f (x ∷ xs) y = rw (map_last f xs y) refl

-- what the Delete leaves of the object
buried : (z : Act) (o : Object) (author id kind stamp : List ℕ) → IsMaker z author → o.id ≡ Some id
    → affect (effects.Delete id kind stamp) (carrying z o) ≡ carrying z (tombstone_of kind stamp o)
unfolding rewrite_act
buried z o author id kind stamp m named = rw (makes_it z o author id m named) refl

-- the town after both
abbrev left : Town → Act → Object → Act → List ℕ → List ℕ → Town
left t z o y id stamp =
    record t { acts = (map (affect (effects.Delete id (codes "Tombstone") stamp)) t.acts ++ carrying z (tombstone_of (codes "Tombstone") stamp o) ∷ []) ++ y ∷ [] }

accepted_deletion : (t : Town) (z : Act) (o : Object) (host name id : List ℕ) (repeat : Option (List ℕ × List ℕ)) (b : Activity) (n : ℕ) → IsMaker z (actor_id host name)
    → o.id ≡ Some id → accept (after t z o) (deletion t z host name id repeat b n) ≡ left t z o (deletion t z host name id repeat b n) id (moment_text n)
unfolding effect_of
accepted_deletion t z o host name id repeat b n m named =
    ap (λ (xs : List Act). record t { acts = xs ++ deletion t z host name id repeat b n ∷ [] })
    (map_last (affect (effects.Delete id (codes "Tombstone") (moment_text n))) t.acts (carrying z o)
    ∙ ap (λ (x : Act). map (affect (effects.Delete id (codes "Tombstone") (moment_text n))) t.acts ++ x ∷ [])
    (buried z o (actor_id host name) id (codes "Tombstone") (moment_text n) m named))

-- ---- the Create

-- the Create as it is accepted, whatever its object is
abbrev creation : Town → List ℕ → List ℕ → Option (List ℕ × List ℕ) → Activity → Object → ℕ → Act
creation t host name repeat a o m = record (local_act t host name repeat (creates o a) m) { state = Done }

creation_is : (t : Town) (host name id : List ℕ) (repeat : Option (List ℕ × List ℕ)) (a : Activity) (o p : Object) (m : ℕ)
    → id ≡ object_id host name (count_of t (actor_id host name) + 1) → list_any (makes id) t.acts ≡ false
    → local_act t host name repeat (creates p a) m
    ≡ carrying (creation t host name repeat a o m) (complete_object host name (count_of t (actor_id host name) + 1) m p)
unfolding state_of
creation_is t host name id repeat a o p m own new =
    let none : list_any (makes (object_id host name (count_of t (actor_id host name) + 1))) t.acts ≡ false = rw (← own) new in rw none refl

is_maker : (t : Town) (host name : List ℕ) (repeat : Option (List ℕ × List ℕ)) (a : Activity) (o : Object) (m : ℕ)
    → IsMaker (creation t host name repeat a o m) (actor_id host name)
is_maker t host name repeat a o m = record { kind = refl; state = refl; by = refl }

-- a Create does nothing to earlier activities
no_effect : (t : Town) (x : Act) (id : Option (List ℕ)) → x.activity.kind ≡ kinds.Create → effect_with t x id ≡ effects.Nothing
no_effect t x None create = refl
no_effect t x (Some id) create = rw create refl

nothing_done : (t : Town) (x : Act) → x.activity.kind ≡ kinds.Create → effect_of t x ≡ effects.Nothing
unfolding effect_of
nothing_done t x create = choice_still (takes_effect (deed x) x.state) (effect_with t x (ref_id x.activity.object)) (no_effect t x (ref_id x.activity.object) create)

accepted_creation : (t : Town) (host name : List ℕ) (repeat : Option (List ℕ × List ℕ)) (a : Activity) (o p : Object) (m : ℕ)
    → accept t (carrying (creation t host name repeat a o m) p) ≡ after t (creation t host name repeat a o m) p
accepted_creation t host name repeat a o p m =
    ap (λ (e : Effect). record t { acts = map (affect e) t.acts ++ carrying (creation t host name repeat a o m) p ∷ [] })
    (nothing_done t (carrying (creation t host name repeat a o m) p) refl)
    ∙ ap (λ (xs : List Act). record t { acts = xs ++ carrying (creation t host name repeat a o m) p ∷ [] }) (map-still (affect effects.Nothing) (λ y. refl) t.acts)

-- ---- both

posted : (t : Town) (host name : List ℕ) (repeat : Option (List ℕ × List ℕ)) (a : Activity) (m : ℕ) → t.host ≡ Some host
    → step t (Local name repeat a m) ≡ accept t (local_act t host name repeat a m)
posted t host name repeat a m hosted = rw hosted refl

both : (t : Town) (host name id : List ℕ) (first second : Option (List ℕ × List ℕ)) (a b : Activity) (o p : Object) (m n : ℕ) → t.host ≡ Some host
    → id ≡ object_id host name (count_of t (actor_id host name) + 1) → list_any (makes id) t.acts ≡ false → is_tombstone p ≡ false
    → step (step t (Local name first (creates p a) m)) (Local name second (deletes id b) n)
    ≡ left t (creation t host name first a o m) (complete_object host name (count_of t (actor_id host name) + 1) m p)
    (deletion t (creation t host name first a o m) host name id second b n) id (moment_text n)
both t host name id first second a b o p m n hosted own new live =
    let z : Act = creation t host name first a o m in
    let q : Object = complete_object host name (count_of t (actor_id host name) + 1) m p in
    let maker : IsMaker z (actor_id host name) = is_maker t host name first a o m in
    let named : q.id ≡ Some id = ap (λ (i : List ℕ). Some i) (sym own) in
    ap (λ (u : Town). step u (Local name second (deletes id b) n))
    (posted t host name first (creates p a) m hosted
    ∙ ap (accept t) (creation_is t host name id first a o p m own new) ∙ accepted_creation t host name first a o q m)
    ∙ posted (after t z q) host name second (deletes id b) n hosted
    ∙ ap (accept (after t z q)) (deletion_is t z q host name id second b n maker named live new)
    ∙ accepted_deletion t z q host name id second b n maker named

-- The content of a deleted object leaves no trace.
pub no_trace : (history later : List Entry) (host name id : List ℕ) (first second : Option (List ℕ × List ℕ)) (a b : Activity) (o other : Object) (m n : ℕ)
    → (town history).host ≡ Some host → id ≡ object_id host name (count_of (town history) (actor_id host name) + 1)
    → list_any (makes id) (town history).acts ≡ false → is_tombstone o ≡ false → emptied o ≡ emptied other
    → town (history ++ Local name first (creates o a) m ∷ Local name second (deletes id b) n ∷ later)
    ≡ town (history ++ Local name first (creates other a) m ∷ Local name second (deletes id b) n ∷ later)
unfolding tombstone_of
no_trace history later host name id first second a b o other m n hosted own new live same =
    let t : Town = town history in
    let number : ℕ = count_of t (actor_id host name) + 1 in
    let live_other : is_tombstone other ≡ false = ap (λ (q : Object). is_tombstone q) (sym same) ∙ live in
    let z : Act = creation t host name first a o m in
    let y : Act = deletion t z host name id second b n in
    let bare : tombstone_of (codes "Tombstone") (moment_text n) (complete_object host name number m o) ≡ tombstone_of (codes "Tombstone") (moment_text n) (complete_object host name number m other) =
    ap (λ (q : Object). tombstone_of (codes "Tombstone") (moment_text n) (complete_object host name number m q)) same in
    fold-append step empty_town history (Local name first (creates o a) m ∷ Local name second (deletes id b) n ∷ later)
    ∙ ap (λ (u : Town). fold step u later)
    (both t host name id first second a b o o m n hosted own new live
    ∙ ap (λ (q : Object). record t { acts = (map (affect (effects.Delete id (codes "Tombstone") (moment_text n))) t.acts ++ carrying z q ∷ []) ++ y ∷ [] }) bare
    ∙ sym (both t host name id first second a b o other m n hosted own new live_other))
    ∙ sym (fold-append step empty_town history (Local name first (creates other a) m ∷ Local name second (deletes id b) n ∷ later))
