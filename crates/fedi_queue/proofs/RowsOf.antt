-- The rows of a town, activity by activity and recipient by recipient.
use Rattle.std.proofs.Common.{◌≡◌, ℕ, zero, suc, ◌+◌, ◌<◌, arith, Bool, true, false, List, [], ◌∷◌, ◌++◌, length, Option, Some, None, refl, sym, ap, ◌∙◌, append_assoc, get_or, take}
use Rattle.std.specs.Prelude.{◌||◌, ◌*◌, ◌^◌, filter, map, nat_eq, nat_lt, slice_get, if◌then◌else◌}
use Rattle.std.specs.List.{fold, list_all, list_any}
use Rattle.std.specs.Str.{bytes_eq}
use Rattle.std.proofs.lemmas.Bool.{and_parts, lt-ltb, ltb-true, eqb-false}
use Rattle.std.proofs.lemmas.List.{append-nil, map-append, take_all}
use Rattle.std.proofs.lemmas.List.Folds.{list_all-append, list_any-append}
use Rattle.fedi_address.specs.Iris.{host_of}
use Rattle.fedi_queue.specs.declared.rows.QueueRow.{QueueRow}
use Rattle.fedi_queue.specs.Claims.{is_few, release}
use Rattle.fedi_queue.specs.Rows.{is_reached, row_where, rows_by, rows_from, rows_to}
use Rattle.fedi_town.specs.declared.act.Act.{Act}
use Rattle.fedi_town.specs.declared.act.Attempt.{Attempt}
use Rattle.fedi_town.specs.declared.act.Peer.{Peer}
use Rattle.fedi_town.specs.declared.outcome.Outcome.{Outcome}
use Rattle.fedi_town.specs.declared.outcome.Outcome.TheVariants.{Delivered, Again, GivenUp}
use Rattle.fedi_town.specs.Queues.{Progress, after_attempt, after_outcome, is_at_peer, is_of_pair, next_attempt, outcome, progress_of, sends}
use Rattle.fedi_town.specs.Queues.{Due, Ended}
use Rattle.fedi_town.specs.Towns.{Town, has_host}

-- ---- one more recipient, one more activity

-- those to the earlier recipients, and to one more
pub rows_to_more : (t : Town) (reached : List ℕ → Bool) (n : ℕ) (id : List ℕ) (m place : ℕ) (rs : List (List ℕ)) (k : ℕ) (d : List ℕ) → k < length rs
    → rows_to t reached n id m place (take (k + 1) rs)
    ≡ rows_to t reached n id m place (take k rs) ++ row_where (reached (get_or rs k d)) n (place + k) (get_or rs k d) (progress_of t id (get_or rs k d) m)
rows_to_more t reached n id m place [] k d lt = absurd (omega arith)
rows_to_more t reached n id m place (r ∷ rs) zero d lt =
    let here : place + 0 ≡ place = omega arith in
    rw here (append-nil (row_where (reached r) n place r (progress_of t id r m)))
rows_to_more t reached n id m place (r ∷ rs) (suc k) d lt =
    let next : suc k + 1 ≡ suc (k + 1) = omega arith in
    let further : suc place + k ≡ place + suc k = omega arith in
    rw next
    (ap (λ (ys : List QueueRow). row_where (reached r) n place r (progress_of t id r m) ++ ys)
    (rows_to_more t reached n id m (suc place) rs k d (omega (arith, lt)) ∙ rw further refl)
    ∙ sym (append_assoc (row_where (reached r) n place r (progress_of t id r m)) (rows_to t reached n id m (suc place) (take k rs))
    (row_where (reached (get_or rs k d)) n (place + suc k) (get_or rs k d) (progress_of t id (get_or rs k d) m))))

pub rows_from_append : (t : Town) (reached : List ℕ → Bool) (n : ℕ) (xs ys : List Act)
    → rows_from t reached n (xs ++ ys) ≡ rows_from t reached n xs ++ rows_from t reached (n + length xs) ys
rows_from_append t reached n [] ys = let here : n + 0 ≡ n = omega arith in rw here refl
rows_from_append t reached n (x ∷ xs) ys =
    let own : List QueueRow = rows_by t reached n x.moment (sends t x) x.activity.id in
    let further : suc n + length xs ≡ n + length (x ∷ xs) = omega arith in
    ap (λ (rows : List QueueRow). own ++ rows)
    (rows_from_append t reached (suc n) xs ys ∙ ap (λ (k : ℕ). rows_from t reached (suc n) xs ++ rows_from t reached k ys) further)
    ∙ sym (append_assoc own (rows_from t reached (suc n) xs) (rows_from t reached (n + length (x ∷ xs)) ys))

-- those of the earlier activities, and of one more
pub rows_from_more : (t : Town) (reached : List ℕ → Bool) (n : ℕ) (xs : List Act) (k : ℕ) (x : Act) → Some x ≡ slice_get xs k
    → rows_from t reached n (take (k + 1) xs) ≡ rows_from t reached n (take k xs) ++ rows_by t reached (n + k) x.moment (sends t x) x.activity.id
rows_from_more t reached n [] k x got = absurd cc
rows_from_more t reached n (y ∷ xs) zero x got =
    let same : y ≡ x = cc in
    let here : n + 0 ≡ n = omega arith in
    rw (here, same) (append-nil (rows_by t reached n x.moment (sends t x) x.activity.id))
rows_from_more t reached n (y ∷ xs) (suc k) x got =
    let next : suc k + 1 ≡ suc (k + 1) = omega arith in
    let further : suc n + k ≡ n + suc k = omega arith in
    let own : List QueueRow = rows_by t reached n y.moment (sends t y) y.activity.id in
    rw next
    (ap (λ (rows : List QueueRow). own ++ rows) (rows_from_more t reached (suc n) xs k x got ∙ rw further refl)
    ∙ sym (append_assoc own (rows_from t reached (suc n) (take k xs)) (rows_by t reached (n + suc k) x.moment (sends t x) x.activity.id)))

-- ---- towns in which the same is due

-- the same recipients are reached, and the same attempts were made
pub record IsAlike (t u : Town) (p q : List ℕ → Bool) : Type 0 where
  pub reached : (r : List ℕ) → q r ≡ p r
  pub attempts : u.attempts ≡ t.attempts

progress-alike : (t u : Town) (id r : List ℕ) (m : ℕ) → u.attempts ≡ t.attempts → progress_of u id r m ≡ progress_of t id r m
unfolding progress_of
progress-alike t u id r m same = rw same refl

pub to_alike : (t u : Town) (p q : List ℕ → Bool) (n : ℕ) (id : List ℕ) (m place : ℕ) (rs : List (List ℕ)) → IsAlike t u p q → rows_to u q n id m place rs ≡ rows_to t p n id m place rs
to_alike t u p q n id m place [] a = refl
to_alike t u p q n id m place (r ∷ rs) a = rw (a.reached r, progress-alike t u id r m a.attempts, to_alike t u p q n id m (suc place) rs a) refl

pub by_alike : (t u : Town) (p q : List ℕ → Bool) (n m : ℕ) (rs : List (List ℕ)) (id : Option (List ℕ)) → IsAlike t u p q → rows_by u q n m rs id ≡ rows_by t p n m rs id
by_alike t u p q n m rs None a = refl
by_alike t u p q n m rs (Some id) a = to_alike t u p q n id m 0 rs a

-- the same is sent of it
pub record IsSent (t u : Town) (y z : Act) : Type 0 where
  pub own : z.activity.id ≡ y.activity.id
  pub moment : z.moment ≡ y.moment
  pub sends : sends u z ≡ sends t y

-- activities that send the same have the same rows
pub mapped_alike : (t u : Town) (p q : List ℕ → Bool) (f : Act → Act) (n : ℕ) (xs : List Act) → IsAlike t u p q → ((y : Act) → IsSent t u y (f y))
    → rows_from u q n (map f xs) ≡ rows_from t p n xs
mapped_alike t u p q f n [] a same = refl
mapped_alike t u p q f n (x ∷ xs) a same =
    let s = same x in
    rw (s.sends, s.own, s.moment, by_alike t u p q n x.moment (sends t x) x.activity.id a, mapped_alike t u p q f (suc n) xs a same) refl

-- the same for those that pass a test
pub mapped_where : (t u : Town) (p q : List ℕ → Bool) (w : Act → Bool) (f : Act → Act) (n : ℕ) (xs : List Act) → IsAlike t u p q → ((y : Act) → w y ≡ true → IsSent t u y (f y))
    → list_all w xs ≡ true → rows_from u q n (map f xs) ≡ rows_from t p n xs
mapped_where t u p q w f n [] a same all = refl
mapped_where t u p q w f n (x ∷ xs) a same all =
    let parts = and_parts (w x) (list_all w xs) all in
    let s = same x parts.0 in
    rw (s.sends, s.own, s.moment, by_alike t u p q n x.moment (sends t x) x.activity.id a, mapped_where t u p q w f (suc n) xs a same parts.1) refl

pub from_alike : (t u : Town) (p q : List ℕ → Bool) (n : ℕ) (xs : List Act) → IsAlike t u p q → ((y : Act) → sends u y ≡ sends t y) → rows_from u q n xs ≡ rows_from t p n xs
from_alike t u p q n [] a same = refl
from_alike t u p q n (x ∷ xs) a same =
    rw (same x, by_alike t u p q n x.moment (sends t x) x.activity.id a, from_alike t u p q (suc n) xs a same) refl

-- without a new peer, the reached recipients are those that belong to a peer
pub reached_now : (t : Town) (r : List ℕ) → is_reached t None r ≡ is_at_peer t r
unfolding is_reached
reached_now t r = refl

-- with a new peer, those of its host are reached too
pub reached_then : (t : Town) (p : Peer) (r : List ℕ) → is_at_peer (record t { peers = t.peers ++ p ∷ [] }) r ≡ is_reached t (Some p.host) r
unfolding is_reached is_at_peer has_host
reached_then t p r = list_any-append (has_host (host_of r)) t.peers (p ∷ []) ∙ by (list_any (has_host (host_of r)) t.peers) (bytes_eq p.host (host_of r))
  where
    by : (a b : Bool) → (a || (b || false)) ≡ (a || b)
    by true b = refl
    by false true = refl
    by false false = refl

-- ---- fewer than eight attempts

-- if another attempt is due, there were fewer than eight
abbrev pub is_few_so : Progress → Bool
is_few_so (Due attempts from) = nat_lt attempts 8
is_few_so (Ended attempts) = true

next-few : (k m : ℕ) → k < 8 → is_few_so (next_attempt k m) ≡ true
next-few k m less =
    elim (nat_eq (k + 1) 8) as (λ b. nat_eq (k + 1) 8 ≡ b → is_few_so (if b then Ended (k + 1) else Due (k + 1) (m + 60 * 2 ^ k)) ≡ true) [
      | true ↦ λ e. refl
      | false ↦ λ e. lt-ltb (k + 1) 8 (omega (arith, less, eqb-false (k + 1) 8 e))
    ] refl

outcome-few : (k m : ℕ) (o : Outcome) → k < 8 → is_few_so (after_outcome k m o) ≡ true
outcome-few k m Delivered less = refl
outcome-few k m Again less = next-few k m less
outcome-few k m GivenUp less = refl

attempt-few : (p : Progress) (a : Attempt) → is_few_so p ≡ true → is_few_so (after_attempt p a) ≡ true
attempt-few (Due k from) a few = outcome-few k a.moment (outcome a.came) (ltb-true k 8 few)
attempt-few (Ended k) a few = refl

attempts-few : (p : Progress) (xs : List Attempt) → is_few_so p ≡ true → is_few_so (fold after_attempt p xs) ≡ true
attempts-few p [] few = few
attempts-few p (a ∷ xs) few = attempts-few (after_attempt p a) xs (attempt-few p a few)

progress-few : (t : Town) (id r : List ℕ) (m : ℕ) → is_few_so (progress_of t id r m) ≡ true
unfolding progress_of
progress-few t id r m = attempts-few (Due 0 m) (filter (is_of_pair id r) t.attempts) refl

row-few : (b : Bool) (n place : ℕ) (r : List ℕ) (p : Progress) → is_few_so p ≡ true → list_all is_few (row_where b n place r p) ≡ true
unfolding is_few
row-few false n place r p few = refl
row-few true n place r (Due k from) few = rw few refl
row-few true n place r (Ended k) few = refl

to-few : (t : Town) (reached : List ℕ → Bool) (n : ℕ) (id : List ℕ) (m place : ℕ) (rs : List (List ℕ)) → list_all is_few (rows_to t reached n id m place rs) ≡ true
to-few t reached n id m place [] = refl
to-few t reached n id m place (r ∷ rs) =
    list_all-append is_few (row_where (reached r) n place r (progress_of t id r m)) (rows_to t reached n id m (suc place) rs)
    ∙ rw (row-few (reached r) n place r (progress_of t id r m) (progress-few t id r m), to-few t reached n id m (suc place) rs) refl

by-few : (t : Town) (reached : List ℕ → Bool) (n m : ℕ) (rs : List (List ℕ)) (id : Option (List ℕ)) → list_all is_few (rows_by t reached n m rs id) ≡ true
by-few t reached n m rs None = refl
by-few t reached n m rs (Some id) = to-few t reached n id m 0 rs

pub rows_few : (t : Town) (reached : List ℕ → Bool) (n : ℕ) (xs : List Act) → list_all is_few (rows_from t reached n xs) ≡ true
rows_few t reached n [] = refl
rows_few t reached n (x ∷ xs) =
    list_all-append is_few (rows_by t reached n x.moment (sends t x) x.activity.id) (rows_from t reached (suc n) xs)
    ∙ rw (by-few t reached n x.moment (sends t x) x.activity.id, rows_few t reached (suc n) xs) refl

-- ---- what comes

-- the rows of an activity and of the answer to it
pub coming_rows : (t : Town) (coming first second : List Act) (n count after : ℕ) (none one both : List QueueRow)
    → n ≡ count → none ≡ [] → one ≡ none ++ rows_from t (is_reached t None) n first → both ≡ one ++ rows_from t (is_reached t None) after second → after ≡ n + length first
    → first ++ second ≡ coming → both ≡ rows_from t (is_at_peer t) count coming
coming_rows t coming first second n count after none one both counted empty of_first of_both next are =
    of_both
    ∙ ap (λ (rows : List QueueRow). rows ++ rows_from t (is_reached t None) after second) (of_first ∙ ap (λ (rows : List QueueRow). rows ++ rows_from t (is_reached t None) n first) empty)
    ∙ ap (λ (k : ℕ). rows_from t (is_reached t None) n first ++ rows_from t (is_reached t None) k second) next
    ∙ sym (rows_from_append t (is_reached t None) n first second)
    ∙ ap (λ (xs : List Act). rows_from t (is_reached t None) n xs) are
    ∙ sym (from_alike t t (is_reached t None) (is_at_peer t) n coming (record { reached = λ r. sym (reached_now t r); attempts = refl }) (λ y. refl))
    ∙ ap (λ (k : ℕ). rows_from t (is_at_peer t) k coming) counted

-- ---- as they are gathered

-- the earlier rows, and those to one more recipient
pub gathered_to : (t : Town) (reached : List ℕ → Bool) (n : ℕ) (id : List ℕ) (m : ℕ) (rs : List (List ℕ)) (k : ℕ) (r d : List ℕ) (first before now : List QueueRow) → k < length rs
    → r ≡ get_or rs k d → before ≡ first ++ rows_to t reached n id m 0 (take k rs) → now ≡ before ++ row_where (reached r) n k r (progress_of t id r m)
    → now ≡ first ++ rows_to t reached n id m 0 (take (k + 1) rs)
gathered_to t reached n id m rs k r d first before now lt is so more =
    let here : 0 + k ≡ k = omega arith in
    more
    ∙ ap (λ (rows : List QueueRow). rows ++ row_where (reached r) n k r (progress_of t id r m)) so
    ∙ append_assoc first (rows_to t reached n id m 0 (take k rs)) (row_where (reached r) n k r (progress_of t id r m))
    ∙ ap (λ (s : List ℕ). first ++ (rows_to t reached n id m 0 (take k rs) ++ row_where (reached s) n k s (progress_of t id s m))) is
    ∙ ap (λ (rows : List QueueRow). first ++ rows) (sym (rw here at (rows_to_more t reached n id m 0 rs k d lt)))

-- the earlier rows, and those of one more activity
pub gathered_from : (t : Town) (reached : List ℕ → Bool) (xs : List Act) (k : ℕ) (x : Act) (before now : List QueueRow) → Some x ≡ slice_get xs k
    → before ≡ rows_from t reached 0 (take k xs) → now ≡ before ++ rows_by t reached k x.moment (sends t x) x.activity.id
    → now ≡ rows_from t reached 0 (take (k + 1) xs)
gathered_from t reached xs k x before now got so more =
    let here : 0 + k ≡ k = omega arith in
    more
    ∙ ap (λ (rows : List QueueRow). rows ++ rows_by t reached k x.moment (sends t x) x.activity.id) so
    ∙ sym (rw here at (rows_from_more t reached 0 xs k x got))

pub gathered_all : (t : Town) (reached : List ℕ → Bool) (xs : List Act) (rows : List QueueRow) → rows ≡ rows_from t reached 0 (take (length xs) xs) → rows ≡ rows_from t reached 0 xs
gathered_all t reached xs rows is = is ∙ ap (λ (ys : List Act). rows_from t reached 0 ys) (take_all (length xs) xs (omega arith))

pub gathered_none : (t : Town) (reached : List ℕ → Bool) (n : ℕ) (id : List ℕ) (m : ℕ) (rs : List (List ℕ)) (first : List QueueRow) → first ≡ first ++ rows_to t reached n id m 0 (take 0 rs)
gathered_none t reached n id m rs first = sym (append-nil first)

-- ---- nothing of it is claimed

row-unclaimed : (b : Bool) (n place : ℕ) (r : List ℕ) (p : Progress) → map release (row_where b n place r p) ≡ row_where b n place r p
row-unclaimed false n place r p = refl
row-unclaimed true n place r (Due k from) = refl
row-unclaimed true n place r (Ended k) = refl

to-unclaimed : (t : Town) (reached : List ℕ → Bool) (n : ℕ) (id : List ℕ) (m place : ℕ) (rs : List (List ℕ)) → map release (rows_to t reached n id m place rs) ≡ rows_to t reached n id m place rs
to-unclaimed t reached n id m place [] = refl
to-unclaimed t reached n id m place (r ∷ rs) =
    map-append release (row_where (reached r) n place r (progress_of t id r m)) (rows_to t reached n id m (suc place) rs)
    ∙ rw (row-unclaimed (reached r) n place r (progress_of t id r m), to-unclaimed t reached n id m (suc place) rs) refl

by-unclaimed : (t : Town) (reached : List ℕ → Bool) (n m : ℕ) (rs : List (List ℕ)) (id : Option (List ℕ)) → map release (rows_by t reached n m rs id) ≡ rows_by t reached n m rs id
by-unclaimed t reached n m rs None = refl
by-unclaimed t reached n m rs (Some id) = to-unclaimed t reached n id m 0 rs

pub rows_unclaimed : (t : Town) (reached : List ℕ → Bool) (n : ℕ) (xs : List Act) → map release (rows_from t reached n xs) ≡ rows_from t reached n xs
rows_unclaimed t reached n [] = refl
rows_unclaimed t reached n (x ∷ xs) =
    map-append release (rows_by t reached n x.moment (sends t x) x.activity.id) (rows_from t reached (suc n) xs)
    ∙ rw (by-unclaimed t reached n x.moment (sends t x) x.activity.id, rows_unclaimed t reached (suc n) xs) refl
