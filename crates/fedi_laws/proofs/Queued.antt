-- What is due is in the queue.
use Rattle.std.proofs.Common.{◌≡◌, ℕ, Bool, true, false, List, [], ◌∷◌, Option, Some, None, refl, sym, ap, ◌∙◌}
use Rattle.std.specs.Prelude.{◌&&◌, ◌||◌, map, filter, cond}
use Rattle.std.specs.List.{list_any, flat_map}
use Rattle.std.specs.Str.{bytes_eq}
use Rattle.std.proofs.lemmas.List.Folds.{list_any-append}
use Rattle.fedi_address.specs.Recipients.{is_among}
use Rattle.fedi_town.specs.declared.act.Act.{Act}
use Rattle.fedi_town.specs.Collections.{text_of}
use Rattle.fedi_town.specs.Queues.{progress_of, sends, is_at_peer, delivery_to, deliveries_of, queue, is_due_at, is_due_delivery, is_due_in, is_due}
use Rattle.fedi_town.specs.Relations.{is_id, has_activity_id}
use Rattle.fedi_town.specs.Towns.{Town}
use Rattle.fedi_town.proofs.Texts.{bytes_eq-is, and_none}

-- the requested one, and the others
this_one : (h q d a : Bool) → ((q && (h && (true && d))) || (h && (a && (q && d)))) ≡ (h && (true && (q && d)))
this_one true true true a = refl
this_one true true false a = and_none a
this_one true false d a = and_none a
this_one false true d a = refl
this_one false false d a = refl

other_one : (h q d e : Bool) → ((q && (h && (false && d))) || e) ≡ e
other_one true true d e = refl
other_one true false d e = refl
other_one false true d e = refl
other_one false false d e = refl

choice-any : {A : Type 0} (p : A → Bool) (b : Bool) (x : A) (xs : List A) → list_any p (cond b (x ∷ xs) xs) ≡ ((b && p x) || list_any p xs)
choice-any p true x xs = refl
choice-any p false x xs = refl

any-filter : {A : Type 0} (p q : A → Bool) (x : A) (xs : List A) → list_any p (filter q (x ∷ xs)) ≡ ((q x && p x) || list_any p (filter q xs))
any-filter p q x xs = choice-any p (q x) x (filter q xs)

any-map : {A B : Type 0} (p : B → Bool) (f : A → B) (xs : List A) → list_any p (map f xs) ≡ list_any (λ x. p (f x)) xs
any-map p f [] = refl
any-map p f (x ∷ xs) = rw (any-map p f xs) refl

-- the delivery to this recipient is due
abbrev is_due_to : Town → Act → List ℕ → List ℕ → ℕ → List ℕ → Bool
is_due_to t x id r m s = is_id id x.activity.id && (bytes_eq s r && is_due_at m (progress_of t (text_of x.activity.id) s x.moment))

among_due : (t : Town) (x : Act) (id r : List ℕ) (m : ℕ) (rs : List (List ℕ))
    → list_any (is_due_to t x id r m) (filter (is_at_peer t) rs)
    ≡ (is_id id x.activity.id && (is_among r rs && (is_at_peer t r && is_due_at m (progress_of t (text_of x.activity.id) r x.moment))))
unfolding is_among
among_due t x id r m [] = sym (and_none (is_id id x.activity.id))
among_due t x id r m (s ∷ rs) =
    any-filter (is_due_to t x id r m) (is_at_peer t) s rs
    ∙ ap (λ (b : Bool). (is_at_peer t s && is_due_to t x id r m s) || b) (among_due t x id r m rs)
    ∙ elim (bytes_eq s r) as (λ b. bytes_eq s r ≡ b
    → ((is_at_peer t s && (is_id id x.activity.id && (b && is_due_at m (progress_of t (text_of x.activity.id) s x.moment))))
    || (is_id id x.activity.id && (is_among r rs && (is_at_peer t r && is_due_at m (progress_of t (text_of x.activity.id) r x.moment)))))
    ≡ (is_id id x.activity.id && ((b || is_among r rs) && (is_at_peer t r && is_due_at m (progress_of t (text_of x.activity.id) r x.moment))))) [
      | true ↦ λ e. rw (bytes_eq-is s r e)
          (this_one (is_id id x.activity.id) (is_at_peer t r) (is_due_at m (progress_of t (text_of x.activity.id) r x.moment)) (is_among r rs))
      | false ↦ λ e. other_one (is_id id x.activity.id) (is_at_peer t s) (is_due_at m (progress_of t (text_of x.activity.id) s x.moment)) _
    ] refl

-- the requested id is that of the activity
own_id : (t : Town) (id r : List ℕ) (m moment : ℕ) (own : Option (List ℕ)) (a q : Bool)
    → (is_id id own && (a && (q && is_due_at m (progress_of t (text_of own) r moment)))) ≡ (is_id id own && (a && (q && is_due_at m (progress_of t id r moment))))
own_id t id r m moment None a q = refl
own_id t id r m moment (Some own) a q =
    elim (bytes_eq own id) as (λ b. bytes_eq own id ≡ b
    → (b && (a && (q && is_due_at m (progress_of t own r moment)))) ≡ (b && (a && (q && is_due_at m (progress_of t id r moment))))) [
      | true ↦ λ e. rw (bytes_eq-is own id e) refl
      | false ↦ λ e. refl
    ] refl

one_due : (t : Town) (id r : List ℕ) (m : ℕ) (x : Act) → list_any (is_due_delivery id r m) (deliveries_of t x) ≡ is_due_in t id r m x
unfolding deliveries_of is_due_delivery is_due_in has_activity_id
one_due t id r m x =
    any-map (is_due_delivery id r m) (delivery_to t x) (filter (is_at_peer t) (sends t x))
    ∙ among_due t x id r m (sends t x)
    ∙ own_id t id r m x.moment x.activity.id (is_among r (sends t x)) (is_at_peer t r)

all_due : (t : Town) (id r : List ℕ) (m : ℕ) (xs : List Act) → list_any (is_due_in t id r m) xs ≡ list_any (is_due_delivery id r m) (flat_map (deliveries_of t) xs)
all_due t id r m [] = refl
all_due t id r m (x ∷ xs) =
    rw (sym (one_due t id r m x), all_due t id r m xs) (sym (list_any-append (is_due_delivery id r m) (deliveries_of t x) (flat_map (deliveries_of t) xs)))

-- What is due is in the queue, and is due there.
pub due_is_queued : (t : Town) (id r : List ℕ) (m : ℕ) → is_due t id r m ≡ list_any (is_due_delivery id r m) (queue t)
due_is_queued t id r m = all_due t id r m t.acts
