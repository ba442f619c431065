-- The claims of a server remain those of its attempts.
use Rattle.std.proofs.Common.{◌≡◌, ◌≢◌, ℕ, zero, suc, ◌-◌, ◌<◌, Bool, true, false, List, [], ◌∷◌, ◌++◌, length, Option, Some, None, arith, refl, sym, ap, ◌∙◌, subst, inl, inr, ⊎_elim, eq-eqb, ne_eqb, nat_eq}
use Rattle.std.specs.Prelude.{◌⊎◌, ◌&&◌, ◌||◌, not, map, filter, slice_get, All, if◌then◌else◌}
use Rattle.std.specs.List.{list_any}
use Rattle.std.specs.Str.{bytes_eq}
use Rattle.std.proofs.lemmas.Bool.{and_parts, eqb-true}
use Rattle.std.proofs.lemmas.List.Elements.{All-nil, All-cons}
use Rattle.std.proofs.lemmas.List.Folds.{list_any-append}
use Rattle.fedi_log.specs.Claims.{ClaimsStand, HasClaimed, claimed_after, claimed_by, free_in, is_claimed_in, is_same_pair, is_taken_in, tries}
use Rattle.fedi_log.specs.Log.{Goes, IsOthers, Log, given, history_of, made_by}
use Rattle.fedi_log.specs.declared.items.Item.{Item}
use Rattle.fedi_log.specs.declared.items.Pair.{Pair}
use Rattle.fedi_log.specs.declared.items.What.{What}
use Rattle.fedi_log.specs.declared.items.What.TheVariants.{Entered}
use Rattle.fedi_log.proofs.Claiming.{and_yes, claimed_more, given_free, has_claimed_now, own_pair, same_pair, still_claimed}
use Rattle.fedi_objects.specs.declared.entry.Entry.{Entry}
use Rattle.fedi_queue.specs.Due.{due_in}
use Rattle.fedi_queue.specs.declared.rows.Claim.{Claim}
use Rattle.fedi_queue.specs.declared.rows.QueueRow.{QueueRow}
use Rattle.fedi_town.proofs.Texts.{bytes_eq-is, bytes_eq-same}
use Rattle.fedi_town.specs.declared.act.Act.{Act}
use Rattle.fedi_town.specs.Histories.{town}
use Rattle.fedi_town.specs.Queues.{Delivery}
use Rattle.fedi_worlds.specs.Steps.{free_at, is_attempted}
use Rattle.fedi_worlds.specs.Worlds.{Attempt, Stage, Task, Looking, Posting, Over, crashed_at, ended, is_open, is_open_at, is_open_for, replaced, stage_after}
use Rattle.fedi_worlds.proofs.Places.{at_end, mapped_from, old_or_new, some_is}
use Rattle.fedi_world.specs.Standing.{IsTied, pair_at}

-- ---- what may be claimed

same_filter : {A : Type 0} (f g : A → Bool) (xs : List A) → ((x : A) → f x ≡ g x) → filter f xs ≡ filter g xs
same_filter f g [] h = refl
same_filter f g (x ∷ xs) h = rw (h x) (elim (g x) as (λ b. (if b then x ∷ filter f xs else filter f xs) ≡ (if b then x ∷ filter g xs else filter g xs)) [
  | true ↦ ap (λ ys. x ∷ ys) (same_filter f g xs h)
  | false ↦ same_filter f g xs h
])

-- the first free deliveries of the log are those of the world
pub tied_free : (attempts : List Attempt) (claims : List Claim) (n m : ℕ) (h : List Entry) (log : Log) → h ≡ history_of log → IsTied attempts claims n log
    → free_in log m ≡ free_at attempts n m h
tied_free attempts claims n m h log is t =
    ap (λ (es : List Entry). filter (λ (d : Delivery). not (is_taken_in log d.activity d.recipient)) (due_in (town es) m)) (sym is)
    ∙ same_filter (λ (d : Delivery). not (is_taken_in log d.activity d.recipient)) (λ (d : Delivery). not (is_attempted attempts n d.activity d.recipient)) (due_in (town h) m)
    (λ d. ap not (same d.activity d.recipient))
  where
    same : (id : Option (List ℕ)) (recipient : List ℕ) → is_taken_in log id recipient ≡ is_attempted attempts n id recipient
    same None recipient = refl
    same (Some id) recipient = t.taken (record { activity = id; recipient = recipient })

-- ---- an opening

over_closed : (server : ℕ) (s : Stage) → (is_open (stage_after (nat_eq server server) s) && nat_eq server server) ≡ false
over_closed server s = rw (eq-eqb server server refl) refl

-- no attempt of a crashed server is open
crashed_closed : (n : ℕ) (a : Attempt) → is_open_at n (crashed_at n a) ≡ false
unfolding crashed_at is_open_at
crashed_closed n a = elim (nat_eq a.task.server n) as (λ b. (is_open (stage_after b a.stage) && b) ≡ false) [
  | true ↦ refl
  | false ↦ elim (is_open a.stage) as (λ o. (o && false) ≡ false) [ true ↦ refl | false ↦ refl ]
]

not_both : (b : Bool) → b ≡ true → b ≡ false → ⊥
not_both true h k = cc
not_both false h k = cc

pub tied_opened : (attempts : List Attempt) (claims : List Claim) (n : ℕ) (h : List Entry) → IsTied (map (crashed_at n) attempts) claims n (given h)
unfolding is_open_for
tied_opened attempts claims n h = record {
  held = λ k a there open_yet.
      let was = mapped_from (crashed_at n) attempts k a there in
      absurd (not_both (is_open_at n a) open_yet (ap (is_open_at n) (sym was.2) ∙ crashed_closed n was.0));
  taken = λ p. given_free h p ∙ sym (none attempts p);
}
  where
    none : (attempts : List Attempt) (p : Pair) → list_any (is_open_for n p.activity p.recipient) (map (crashed_at n) attempts) ≡ false
    none [] p = refl
    none (a ∷ attempts) p = rw (crashed_closed n a, none attempts p) refl

-- ---- a claim

swapped : (x y : List ℕ) → bytes_eq x y ≡ bytes_eq y x
swapped x y = both (bytes_eq x y) (bytes_eq y x) (λ e. subst (λ (z : List ℕ). bytes_eq z x ≡ true) (bytes_eq-is x y e) (bytes_eq-same x))
    (λ e. subst (λ (z : List ℕ). bytes_eq z y ≡ true) (bytes_eq-is y x e) (bytes_eq-same y))
  where
    both : (a b : Bool) → (a ≡ true → b ≡ true) → (b ≡ true → a ≡ true) → a ≡ b
    both true b f g = sym (f refl)
    both false true f g = g refl
    both false false f g = refl

-- whether the open attempt is of this delivery
of_pair : (n : ℕ) (p : Pair) (a : Attempt) → is_open_at n a ≡ true → is_open_for n p.activity p.recipient a ≡ is_same_pair p (pair_at a)
unfolding is_open_for
of_pair n p a open_yet = rw (open_yet, swapped a.task.activity p.activity, swapped a.task.recipient p.recipient) refl

or_none : (b : Bool) → (b || false) ≡ b
or_none true = refl
or_none false = refl

-- the item of another pass
pub by_other : (k j : ℕ) (log : Log) (what : What) → k ≢ j → Goes (Some k) log (log ++ made_by (Some j) what ∷ [])
by_other k j log what apart = record {
  rest = made_by (Some j) what ∷ [];
  is = refl;
  others = All-cons (IsOthers (Some k)) (made_by (Some j) what) [] (λ same. apart (sym (the_same j k same))) (All-nil (IsOthers (Some k)));
}
  where
    the_same : (x y : ℕ) → Some x ≡ Some y → x ≡ y
    the_same x y e = some_is x y e

pub before_end : {A : Type 0} (xs : List A) (x : A) (k : ℕ) → slice_get xs k ≡ Some x → k ≢ length xs
before_end [] x k e same = cc
before_end (y ∷ xs) x zero e same = cc
before_end (y ∷ xs) x (suc k) e same = before_end xs x k e (some_suc same)
  where
    some_suc : {a b : ℕ} → suc a ≡ suc b → a ≡ b
    some_suc {a} {b} h = omega (arith, h)

still_there : {A : Type 0} (xs : List A) (y x : A) (k : ℕ) → slice_get xs k ≡ Some x → slice_get (xs ++ y ∷ []) k ≡ Some x
still_there [] y x k e = cc
still_there (z ∷ xs) y x zero e = e
still_there (z ∷ xs) y x (suc k) e = still_there xs y x k e

pub tied_claimed : (attempts : List Attempt) (claims : List Claim) (n : ℕ) (log : Log) (a : Attempt) (c : Claim) → length claims ≡ length attempts → is_open_at n a ≡ true
    → IsTied attempts claims n log
    → IsTied (attempts ++ a ∷ []) (claims ++ c ∷ []) n (log ++ made_by (Some (length attempts)) (claimed_by (pair_at a) c) ∷ [])
tied_claimed attempts claims n log a c even open_yet t = record {
  held = λ k b there is_open_b.
      ⊎_elim
      (λ (old : slice_get attempts k ≡ Some b).
      let was = t.held k b old is_open_b in (
        was.0,
        still_there claims c was.0 k was.1,
        still_claimed (Some k) log _ (pair_at b) was.0 (by_other k (length attempts) log (claimed_by (pair_at a) c) (before_end attempts b k old)) was.2,
      ))
      (λ (new : (k ≡ length attempts) × (a ≡ b)). fresh k b new.0 new.1)
      (old_or_new attempts a b k there);
  taken = λ p.
      claimed_more (Some (length attempts)) log (claimed_by (pair_at a) c) p
      ∙ ap (λ (x : Bool). x || is_same_pair p (pair_at a)) (t.taken p)
      ∙ ap (λ (x : Bool). list_any (is_open_for n p.activity p.recipient) attempts || x) (sym (or_none (is_open_for n p.activity p.recipient a) ∙ of_pair n p a open_yet))
      ∙ sym (list_any-append (is_open_for n p.activity p.recipient) attempts (a ∷ []));
}
  where
    fresh : (k : ℕ) (b : Attempt) → k ≡ length attempts → a ≡ b
        → (d : Claim) × (slice_get (claims ++ c ∷ []) k ≡ Some d) × HasClaimed (Some k) (log ++ made_by (Some (length attempts)) (claimed_by (pair_at a) c) ∷ []) (pair_at b) d
    fresh k b at same = (
      c,
      ap (λ (j : ℕ). slice_get (claims ++ c ∷ []) j) (at ∙ sym even) ∙ at_end claims c,
      subst (λ (j : ℕ). HasClaimed (Some j) (log ++ made_by (Some (length attempts)) (claimed_by (pair_at a) c) ∷ []) (pair_at b) c) (sym at)
          (subst (λ (x : Attempt). HasClaimed (Some (length attempts)) (log ++ made_by (Some (length attempts)) (claimed_by (pair_at a) c) ∷ []) (pair_at x) c) same
          (has_claimed_now (Some (length attempts)) log (pair_at a) c)),
    )

-- ---- an entry that is no attempt's

pub tied_kept : (attempts : List Attempt) (claims : List Claim) (n : ℕ) (log : Log) (e : Entry) → ((p : Pair) → tries p e ≡ false) → IsTied attempts claims n log
    → IsTied attempts claims n (log ++ made_by None (Entered e) ∷ [])
tied_kept attempts claims n log e none t = record {
  held = λ k a there open_yet.
      let was = t.held k a there open_yet in (
        was.0,
        was.1,
        still_claimed (Some k) log _ (pair_at a) was.0 (record {
          rest = made_by None (Entered e) ∷ [];
          is = refl;
          others = All-cons (IsOthers (Some k)) (made_by None (Entered e)) [] (λ same. cc) (All-nil (IsOthers (Some k)));
        }) was.2,
      );
  taken = λ p.
      claimed_more None log (Entered e) p ∙ (ap (λ (b : Bool). is_claimed_in log p && not b) (none p) ∙ (and_yes (is_claimed_in log p) ∙ t.taken p));
}

-- ---- the end of an attempt

closed_end : (n : ℕ) (a : Attempt) → is_open_at n (ended a) ≡ false
unfolding is_open_at
closed_end n a = refl

fewer : (a b : ℕ) → suc a ≡ suc b → a ≡ b
fewer a b h = omega (arith, h)

-- what is at a place is the new one, or was there
replaced_place : (k : ℕ) (now : Attempt) (attempts : List Attempt) (j : ℕ) (b : Attempt) → slice_get (replaced k now attempts) j ≡ Some b
    → ((j ≡ k) × (now ≡ b)) ⊎ ((j ≢ k) × (slice_get attempts j ≡ Some b))
replaced_place k now [] j b e = absurd cc
replaced_place zero now (x ∷ xs) zero b e = inl (refl, some_is now b e)
replaced_place zero now (x ∷ xs) (suc j) b e = inr ((λ same. cc), e)
replaced_place (suc k) now (x ∷ xs) zero b e = inr ((λ same. cc), e)
replaced_place (suc k) now (x ∷ xs) (suc j) b e =
    ⊎_elim (λ (l : (j ≡ k) × (now ≡ b)). inl (ap suc l.0, l.1)) (λ (r : (j ≢ k) × (slice_get xs j ≡ Some b)). inr ((λ same. r.0 (fewer j k same)), r.1))
    (replaced_place k now xs j b e)

any_replaced : (f : Attempt → Bool) (k : ℕ) (now a : Attempt) (attempts : List Attempt) → slice_get attempts k ≡ Some a → f now ≡ f a
    → list_any f (replaced k now attempts) ≡ list_any f attempts
any_replaced f k now a [] e same = absurd cc
any_replaced f zero now a (x ∷ xs) e same = ap (λ (b : Bool). b || list_any f xs) (same ∙ ap f (sym (some_is x a e)))
any_replaced f (suc k) now a (x ∷ xs) e same = ap (λ (b : Bool). f x || b) (any_replaced f k now a xs e same)

none_any : (f : Attempt → Bool) (attempts : List Attempt) → ((j : ℕ) (b : Attempt) → slice_get attempts j ≡ Some b → f b ≡ false) → list_any f attempts ≡ false
none_any f [] h = refl
none_any f (x ∷ xs) h = rw (h zero x refl, none_any f xs (λ j b e. h (suc j) b e)) refl

not_true : (b : Bool) → (b ≡ true → ⊥) → b ≡ false
not_true true h = absurd (h refl)
not_true false h = refl

open_of : (n : ℕ) (q : Pair) (b : Attempt) → is_open_for n q.activity q.recipient b ≡ true → is_open_at n b ≡ true
unfolding is_open_for
open_of n q b it = (and_parts (is_open_at n b) _ it).0

closed_for : (n : ℕ) (q : Pair) (a : Attempt) → is_open_for n q.activity q.recipient (ended a) ≡ false
unfolding is_open_for
closed_for n q a = rw (closed_end n a) refl

-- the item ends the claim of this delivery, and of no other
abbrev pub EndsAt : Pair → What → Type 0
EndsAt p what = (q : Pair) (held : Bool) → claimed_after q held what ≡ (held && not (is_same_pair q p))

pub tied_ended : (attempts : List Attempt) (claims : List Claim) (n k : ℕ) (log : Log) (a : Attempt) (acts : List Act) (rows : List QueueRow) (what : What)
    → slice_get attempts k ≡ Some a → is_open_at n a ≡ true → EndsAt (pair_at a) what → ClaimsStand acts rows log → IsTied attempts claims n log
    → IsTied (replaced k (ended a) attempts) claims n (log ++ made_by (Some k) what ∷ [])
tied_ended attempts claims n k log a acts rows what at open_yet ends stand t = record {
  held = λ j b there is_open_b.
      ⊎_elim
      (λ (new : (j ≡ k) × (ended a ≡ b)). absurd (not_both (is_open_at n b) is_open_b (ap (is_open_at n) (sym new.1) ∙ closed_end n a)))
      (λ (old : (j ≢ k) × (slice_get attempts j ≡ Some b)).
      let was = t.held j b old.1 is_open_b in
      (was.0, was.1, still_claimed (Some j) log _ (pair_at b) was.0 (by_other j k log what old.0) was.2))
      (replaced_place k (ended a) attempts j b there);
  taken = λ q.
      claimed_more (Some k) log what q ∙ (ends q (is_claimed_in log q) ∙ (ap (λ (b : Bool). b && not (is_same_pair q (pair_at a))) (t.taken q) ∙ left q));
}
  where
    and_none : (b : Bool) → (b && false) ≡ false
    and_none true = refl
    and_none false = refl

    f : Pair → Attempt → Bool
    f q = is_open_for n q.activity q.recipient

    closed : (q : Pair) → f q (ended a) ≡ false
    closed q = closed_for n q a

    other : (q : Pair) (j : ℕ) (b : Attempt) → is_same_pair q (pair_at a) ≡ true → j ≢ k → slice_get attempts j ≡ Some b → f q b ≡ true → ⊥
    other q j b same apart there it =
        let parts = open_parts q b it in
        let mine = t.held k a at open_yet in
        let theirs = t.held j b there parts.0 in
        let one : pair_at b ≡ pair_at a = sym (same_pair q (pair_at b) parts.1) ∙ same_pair q (pair_at a) same in
        apart (some_is j k (stand.apart (Some j) (Some k) (pair_at a) theirs.0 mine.0 (subst (λ (p : Pair). HasClaimed (Some j) log p theirs.0) one theirs.2) mine.2))
      where
        open_parts : (q : Pair) (b : Attempt) → is_open_for n q.activity q.recipient b ≡ true → (is_open_at n b ≡ true) × (is_same_pair q (pair_at b) ≡ true)
        open_parts q b it = let o = open_of n q b it in (o, sym (of_pair n q b o) ∙ it)

    left : (q : Pair) → (list_any (f q) attempts && not (is_same_pair q (pair_at a))) ≡ list_any (f q) (replaced k (ended a) attempts)
    left q = elim (is_same_pair q (pair_at a)) as (λ b. is_same_pair q (pair_at a) ≡ b → (list_any (f q) attempts && not b) ≡ list_any (f q) (replaced k (ended a) attempts)) [
      | true ↦ λ same.
          and_none (list_any (f q) attempts)
          ∙ sym (none_any (f q) (replaced k (ended a) attempts) (λ j b there.
          ⊎_elim (λ (new : (j ≡ k) × (ended a ≡ b)). ap (f q) (sym new.1) ∙ closed q)
          (λ (old : (j ≢ k) × (slice_get attempts j ≡ Some b)). not_true (f q b) (other q j b same old.0 old.1))
          (replaced_place k (ended a) attempts j b there)))
      | false ↦ λ same.
          and_yes (list_any (f q) attempts) ∙ sym (any_replaced (f q) k (ended a) a attempts at (closed q ∙ sym (of_pair n q a open_yet ∙ same)))
    ] refl

-- ---- what happens elsewhere, or does not end the attempt

-- an attempt that is now as far as this one, for the same task
open_same : (n : ℕ) (a now : Attempt) → now.task ≡ a.task → is_open now.stage ≡ is_open a.stage → is_open_at n now ≡ is_open_at n a
unfolding is_open_at
open_same n a now task stage = rw (task, stage) refl

for_same : (n : ℕ) (p : Pair) (a now : Attempt) → now.task ≡ a.task → is_open now.stage ≡ is_open a.stage
    → is_open_for n p.activity p.recipient now ≡ is_open_for n p.activity p.recipient a
unfolding is_open_for
for_same n p a now task stage = rw (open_same n a now task stage, task) refl

pub tied_moved : (attempts : List Attempt) (claims : List Claim) (n k : ℕ) (log : Log) (a now : Attempt) → slice_get attempts k ≡ Some a → now.task ≡ a.task
    → is_open now.stage ≡ is_open a.stage → IsTied attempts claims n log → IsTied (replaced k now attempts) claims n log
tied_moved attempts claims n k log a now at task stage t = record {
  held = λ j b there is_open_b.
      ⊎_elim
      (λ (new : (j ≡ k) × (now ≡ b)).
      let own : is_open_at n a ≡ true = sym (open_same n a now task stage) ∙ ap (is_open_at n) new.1 ∙ is_open_b in
      let was = t.held k a at own in
      let pair : pair_at a ≡ pair_at b = ap (λ (x : Task). pair_of x) (sym task ∙ ap (λ (x : Attempt). x.task) new.1) in (
        was.0,
        ap (λ (z : ℕ). slice_get claims z) new.0 ∙ was.1,
        subst (λ (z : ℕ). HasClaimed (Some z) log (pair_at b) was.0) (sym new.0) (subst (λ (p : Pair). HasClaimed (Some k) log p was.0) pair was.2),
      ))
      (λ (old : (j ≢ k) × (slice_get attempts j ≡ Some b)). t.held j b old.1 is_open_b)
      (replaced_place k now attempts j b there);
  taken = λ p. t.taken p ∙ sym (any_replaced (is_open_for n p.activity p.recipient) k now a attempts at (for_same n p a now task stage));
}
  where
    pair_of : Task → Pair
    pair_of x = record { activity = x.activity; recipient = x.recipient }

shut_for : (n : ℕ) (p : Pair) (a : Attempt) → is_open_at n a ≡ false → is_open_for n p.activity p.recipient a ≡ false
unfolding is_open_for
shut_for n p a closed = rw closed refl

-- another server's claim
pub tied_beside : (attempts : List Attempt) (claims : List Claim) (n : ℕ) (log : Log) (a : Attempt) (c : Claim) → is_open_at n a ≡ false → IsTied attempts claims n log
    → IsTied (attempts ++ a ∷ []) (claims ++ c ∷ []) n log
tied_beside attempts claims n log a c closed t = record {
  held = λ k b there is_open_b.
      ⊎_elim
      (λ (old : slice_get attempts k ≡ Some b). let was = t.held k b old is_open_b in (was.0, still_there claims c was.0 k was.1, was.2))
      (λ (new : (k ≡ length attempts) × (a ≡ b)). absurd (not_both (is_open_at n b) is_open_b (ap (is_open_at n) (sym new.1) ∙ closed)))
      (old_or_new attempts a b k there);
  taken = λ p.
      t.taken p
      ∙ sym (list_any-append (is_open_for n p.activity p.recipient) attempts (a ∷ [])
      ∙ ap (λ (b : Bool). list_any (is_open_for n p.activity p.recipient) attempts || b) (or_none (is_open_for n p.activity p.recipient a) ∙ shut_for n p a closed)
      ∙ or_none (list_any (is_open_for n p.activity p.recipient) attempts));
}

-- the end of another server's attempt
pub tied_ended_beside : (attempts : List Attempt) (claims : List Claim) (n k : ℕ) (log : Log) (a : Attempt) → slice_get attempts k ≡ Some a → is_open_at n a ≡ false
    → IsTied attempts claims n log → IsTied (replaced k (ended a) attempts) claims n log
tied_ended_beside attempts claims n k log a at closed t = record {
  held = λ j b there is_open_b.
      ⊎_elim
      (λ (new : (j ≡ k) × (ended a ≡ b)). absurd (not_both (is_open_at n b) is_open_b (ap (is_open_at n) (sym new.1) ∙ closed_end n a)))
      (λ (old : (j ≢ k) × (slice_get attempts j ≡ Some b)). let was = t.held j b old.1 is_open_b in (was.0, was.1, was.2))
      (replaced_place k (ended a) attempts j b there);
  taken = λ p. t.taken p ∙ sym (any_replaced (is_open_for n p.activity p.recipient) k (ended a) a attempts at (closed_for n p a ∙ sym (shut_for n p a closed)));
}

-- another server's crash
crash_beside : (n m : ℕ) (a : Attempt) → n ≢ m → is_open_at n (crashed_at m a) ≡ is_open_at n a
unfolding crashed_at is_open_at
crash_beside n m a apart = elim (nat_eq a.task.server m) as (λ b. nat_eq a.task.server m ≡ b → (is_open (stage_after b a.stage) && nat_eq a.task.server n) ≡ (is_open a.stage && nat_eq a.task.server n)) [
  | true ↦ λ own. sym (ap (λ (b : Bool). is_open a.stage && b) (ne_eqb a.task.server n (λ same. apart (sym same ∙ eqb-true a.task.server m own))) ∙ none (is_open a.stage))
  | false ↦ λ own. refl
] refl
  where
    none : (b : Bool) → (b && false) ≡ false
    none true = refl
    none false = refl

crash_for : (n m : ℕ) (p : Pair) (a : Attempt) → n ≢ m → is_open_for n p.activity p.recipient (crashed_at m a) ≡ is_open_for n p.activity p.recipient a
unfolding is_open_for crashed_at
crash_for n m p a apart = ap (λ (b : Bool). b && (bytes_eq a.task.activity p.activity && bytes_eq a.task.recipient p.recipient)) (crash_beside n m a apart)

pair_stays : (m : ℕ) (a : Attempt) → pair_at a ≡ pair_at (crashed_at m a)
unfolding crashed_at
pair_stays m a = refl

pub tied_crashed_beside : (attempts : List Attempt) (claims : List Claim) (n m : ℕ) (log : Log) → n ≢ m → IsTied attempts claims n log
    → IsTied (map (crashed_at m) attempts) claims n log
tied_crashed_beside attempts claims n m log apart t = record {
  held = λ k b there is_open_b.
      let was = mapped_from (crashed_at m) attempts k b there in
      let held = t.held k was.0 was.1 (sym (crash_beside n m was.0 apart) ∙ ap (is_open_at n) was.2 ∙ is_open_b) in
      let pair : pair_at was.0 ≡ pair_at b = same_task was.0 ∙ ap pair_at was.2 in
      (held.0, held.1, subst (λ (p : Pair). HasClaimed (Some k) log p held.0) pair held.2);
  taken = λ p. t.taken p ∙ sym (any p attempts);
}
  where
    same_task : (a : Attempt) → pair_at a ≡ pair_at (crashed_at m a)
    same_task a = pair_stays m a

    any : (p : Pair) (xs : List Attempt) → list_any (is_open_for n p.activity p.recipient) (map (crashed_at m) xs) ≡ list_any (is_open_for n p.activity p.recipient) xs
    any p [] = refl
    any p (x ∷ xs) = rw (crash_for n m p x apart, any p xs) refl
