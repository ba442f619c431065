-- What is made ready for an entry fits it.
use Rattle.std.proofs.Common.{◌≡◌, ℕ, zero, suc, ◌+◌, arith, Bool, true, false, List, [], ◌∷◌, ◌++◌, length, Option, Some, None, refl, sym, ap, subst, ◌∙◌, append-nil, Vec, Global}
use Rattle.std.specs.Prelude.{◌&&◌, ◌||◌, ◌*◌, ◌^◌, not, map, filter, nat_eq, slice_get, if◌then◌else◌}
use Rattle.std.specs.List.{find, flat_map, list_any}
use Rattle.std.proofs.lemmas.Bool.{eqb-true, eqb-false, eq-eqb, ne_eqb, or_parts}
use Rattle.std.proofs.lemmas.List.{map-append}
use Rattle.std.proofs.lemmas.List.Elements.{filter-append}
use Rattle.fedi_effects.specs.Additions.{acts_in}
use Rattle.fedi_objects.specs.declared.entry.Came.{Came}
use Rattle.fedi_objects.specs.declared.entry.Entry.{Entry}
use Rattle.fedi_objects.specs.declared.entry.Entry.TheVariants.{Hosted, Made, PeerSet, Local, Remote, Tried}
use Rattle.fedi_queue.specs.declared.changes.Change.{Change}
use Rattle.fedi_queue.specs.declared.changes.Change.TheVariants as changes
use Rattle.fedi_queue.specs.declared.rows.QueueRow.{QueueRow}
use Rattle.fedi_queue.specs.Claims.{release, replace_at, settled}
use Rattle.fedi_queue.specs.Queues.{Fits, IsNext, IsSettling, due_of, is_claimed, is_row_for, is_tried, stays_claimed}
use Rattle.fedi_queue.specs.Rows.{is_reached, is_row_of, retried, row_of, rows_from, rows_of}
use Rattle.fedi_queue.proofs.Addressed.{IsKnown}
use Rattle.fedi_queue.proofs.Carried.{Embeds, carried_claims, carried_rows, embeds_claimed, peer_embeds}
use Rattle.fedi_queue.proofs.Growing.{is_plain, peer_rows, plain_rows}
use Rattle.fedi_queue.proofs.RowsOf.{rows_unclaimed}
use Rattle.fedi_queue.proofs.Trying.{attempts_change, rows_once}
use Rattle.fedi_queue.proofs.Released.{of_released, any_released, once_released, got_released, none_claimed}
use Rattle.fedi_town.proofs.IdsTown.{once_by}
use Rattle.fedi_register.specs.Changes.{place_where}
use Rattle.fedi_register.specs.Marks.{is_there}
use Rattle.fedi_register.proofs.Edited.{there, none_there}
use Rattle.fedi_town.proofs.Lists.{list_any-agree, filter-agree}
use Rattle.fedi_town.specs.declared.act.Act.{Act}
use Rattle.fedi_town.specs.declared.act.Attempt.{Attempt}
use Rattle.fedi_town.specs.declared.outcome.Outcome.{Outcome}
use Rattle.fedi_town.specs.declared.outcome.Outcome.TheVariants.{Delivered, Again, GivenUp}
use Rattle.fedi_town.specs.Histories.{addition_of}
use Rattle.fedi_town.specs.Legal.{is_admissible}
use Rattle.fedi_town.specs.Lists.{PassesOnce}
use Rattle.fedi_town.specs.Queues.{after_outcome, is_at_peer, outcome}
use Rattle.fedi_town.specs.Queues.{Due, Ended}
use Rattle.fedi_town.specs.Relations.{has_activity_id}
use Rattle.fedi_town.specs.Towns.{Town}
use Rattle.fedi_town.proofs.Reached.{and_not_true}

-- ---- the one that passes

eqb_suc : (a b : ℕ) → nat_eq (suc a) (suc b) ≡ nat_eq a b
eqb_suc a b =
    elim (nat_eq a b) as (λ s. nat_eq a b ≡ s → nat_eq (suc a) (suc b) ≡ s) [
      | true ↦ λ e. eq-eqb (suc a) (suc b) (ap suc (eqb-true a b e))
      | false ↦ λ e. ne_eqb (suc a) (suc b) (λ same. eqb-false a b e (omega (arith, same)))
    ] refl

none_at : {A : Type 0} (p : A → Bool) (xs : List A) → list_any p xs ≡ false → (k : ℕ) → is_there p (slice_get xs k) ≡ false
none_at p [] none k = refl
none_at p (x ∷ xs) none zero = (or_parts (p x) (list_any p xs) none).0
none_at p (x ∷ xs) none (suc k) = none_at p xs (or_parts (p x) (list_any p xs) none).1 k

-- if a later one passes, the first does not
first_fails : {A : Type 0} (p : A → Bool) (x : A) (xs : List A) (k : ℕ) (y : A) → PassesOnce p (x ∷ xs) → slice_get xs k ≡ Some y → p y ≡ true → p x ≡ false
first_fails p x xs k y once got passes =
    elim (p x) as (λ b. p x ≡ b → b ≡ false) [
      | true ↦ λ e.
          let here : is_there p (slice_get xs k) ≡ true = rw got passes in
          let no : true ≡ false = sym here ∙ none_at p xs (once.0 e) k in absurd cc
      | false ↦ λ e. refl
    ] refl

only_at : {A : Type 0} (p : A → Bool) (xs : List A) (n : ℕ) (y : A) → PassesOnce p xs → slice_get xs n ≡ Some y → p y ≡ true → (k : ℕ) → is_there p (slice_get xs k) ≡ nat_eq k n
only_at p [] n y once got passes k = absurd cc
only_at p (x ∷ xs) zero y once got passes zero = let same : x ≡ y = cc in rw (same, passes) refl
only_at p (x ∷ xs) zero y once got passes (suc k) =
    let same : x ≡ y = cc in
    let own : p x ≡ true = rw same passes in
    none_at p xs (once.0 own) k ∙ sym (ne_eqb (suc k) 0 (λ e. omega (arith, e)))
only_at p (x ∷ xs) (suc n) y once got passes zero = first_fails p x xs n y once got passes ∙ sym (ne_eqb 0 (suc n) (λ e. omega (arith, e)))
only_at p (x ∷ xs) (suc n) y once got passes (suc k) = only_at p xs n y once.1 got passes k ∙ sym (eqb_suc k n)

none_any : {A : Type 0} (p : A → Bool) (xs : List A) → find p xs ≡ None → list_any p xs ≡ false
none_any p [] none = refl
none_any {A} p (x ∷ xs) none =
    elim (p x) as (λ b. (if b then Some x else find p xs) ≡ None → (b || list_any p xs) ≡ false) [
      | true ↦ λ e. absurd cc
      | false ↦ λ e. none_any p xs e
    ] none

-- ---- rows by number and by id

for_is_of : (acts : List Act) (id r : List ℕ) (n : ℕ) → PassesOnce (has_activity_id id) acts → Some n ≡ place_where (has_activity_id id) acts → (row : QueueRow)
    → is_row_for n r row ≡ is_row_of acts id r row
unfolding is_row_for is_row_of
for_is_of acts id r n once is row =
    let at = there (has_activity_id id) acts n is in
    rw (only_at (has_activity_id id) acts n at.0 once at.1 at.2 row.activity) refl

none_of : (acts : List Act) (id r : List ℕ) → None ≡ place_where (has_activity_id id) acts → (row : QueueRow) → is_row_of acts id r row ≡ false
unfolding is_row_of
none_of acts id r is row = rw (none_at (has_activity_id id) acts (none_any (has_activity_id id) acts (none_there (has_activity_id id) acts is)) row.activity) refl

-- ---- changes of it

flat_none : {A : Type 0} (p : A → Bool) (f : A → List A) (h : A → List A) (xs : List A) → ((x : A) → h x ≡ (if p x then f x else x ∷ [])) → list_any p xs ≡ false → flat_map h xs ≡ xs
flat_none p f h [] is none = refl
flat_none p f h (x ∷ xs) is none =
    let parts = or_parts (p x) (list_any p xs) none in
    rw (is x, parts.0, flat_none p f h xs is parts.1) refl

once_flat : {A : Type 0} (p : A → Bool) (f g h : A → List A) (xs : List A) (k : ℕ) (y : A) → ((x : A) → h x ≡ (if p x then f x else x ∷ [])) → PassesOnce p xs → slice_get xs k ≡ Some y → p y ≡ true
    → f y ≡ g y → flat_map h xs ≡ replace_at k g xs
once_flat p f g h [] k y is once got passes same = absurd cc
once_flat p f g h (x ∷ xs) zero y is once got passes same =
    let this : x ≡ y = cc in
    let own : p x ≡ true = rw this passes in
    let made : f x ≡ g x = rw this same in
    rw (is x, own, made, flat_none p f h xs is (once.0 own)) refl
once_flat p f g h (x ∷ xs) (suc k) y is once got passes same =
    rw (is x, first_fails p x xs k y once got passes, once_flat p f g h xs k y is once.1 got passes same) refl

and_not : (a b : Bool) → b ≡ false → (a && not b) ≡ a
and_not true b e = rw e refl
and_not false b e = refl

filter_without : {A : Type 0} (c p s : A → Bool) (xs : List A) → ((x : A) → s x ≡ (c x && not (p x))) → list_any p xs ≡ false → filter s xs ≡ filter c xs
filter_without c p s [] is none = refl
filter_without c p s (x ∷ xs) is none =
    let parts = or_parts (p x) (list_any p xs) none in
    rw (is x, and_not (c x) (p x) parts.0, filter_without c p s xs is parts.1) refl

once_kept : {A : Type 0} (c p s : A → Bool) (g : A → List A) (xs : List A) (k : ℕ) (y : A) → ((x : A) → s x ≡ (c x && not (p x))) → PassesOnce p xs → slice_get xs k ≡ Some y → p y ≡ true
    → filter c (g y) ≡ [] → filter c (replace_at k g xs) ≡ filter s xs
once_kept c p s g [] k y is once got passes none = absurd cc
once_kept {A} c p s g (x ∷ xs) zero y is once got passes none =
    let this : x ≡ y = cc in
    let own : p x ≡ true = rw this passes in
    let gone : filter c (g x) ≡ [] = rw this none in
    filter-append c (g x) xs
    ∙ rw (gone, is x, and_not_true (c x) (p x) own) (sym (filter_without c p s xs is (once.0 own)))
once_kept {A} c p s g (x ∷ xs) (suc k) y is once got passes none =
    rw (is x, and_not (c x) (p x) (first_fails p x xs k y once got passes))
    (elim (c x) as (λ b. (if b then x ∷ filter c (replace_at k g xs) else filter c (replace_at k g xs)) ≡ (if b then x ∷ filter s xs else filter s xs)) [
      | true ↦ ap (λ (ys : List A). x ∷ ys) (once_kept c p s g xs k y is once.1 got passes none)
      | false ↦ once_kept c p s g xs k y is once.1 got passes none
    ])

-- ---- claims do not matter

replace-released : (k : ℕ) (due : Option ℕ) (rows : List QueueRow) → map release (replace_at k (settled due) rows) ≡ replace_at k (settled due) (map release rows)
replace-released k due [] = refl
replace-released zero due (row ∷ rows) = map-append release (settled due row) rows ∙ ap (λ (ys : List QueueRow). ys ++ map release rows) (one due)
  where
    one : (d : Option ℕ) → map release (settled d row) ≡ settled d (release row)
    one None = refl
    one (Some from) = refl
replace-released (suc k) due (row ∷ rows) = ap (λ (ys : List QueueRow). release row ∷ ys) (replace-released k due rows)

-- a released row is the row itself except for the claim
was-released : (rows : List QueueRow) (k : ℕ) (y : QueueRow) → slice_get (map release rows) k ≡ Some y → (z : QueueRow) × (slice_get rows k ≡ Some z) × (release z ≡ y)
was-released [] k y got = absurd cc
was-released (row ∷ rows) zero y got = (row, refl, (let same : release row ≡ y = cc in same))
was-released (row ∷ rows) (suc k) y got = was-released rows k y got

settled-unclaimed : (due : Option ℕ) (row : QueueRow) → filter is_claimed (settled due row) ≡ []
unfolding is_claimed
settled-unclaimed None row = refl
settled-unclaimed (Some from) row = refl

-- ---- after an attempt

settled_is : (row : QueueRow) (m : ℕ) (o : Outcome)
    → row_of row.activity row.place row.recipient (after_outcome row.attempts m o) ≡ settled (due_of (after_outcome row.attempts m o)) row
settled_is row m Delivered = refl
settled_is row m GivenUp = refl
settled_is row m Again =
    elim (nat_eq (row.attempts + 1) 8) as
    (λ b. row_of row.activity row.place row.recipient (if b then Ended (row.attempts + 1) else Due (row.attempts + 1) (m + 60 * 2 ^ row.attempts))
    ≡ settled (due_of (if b then Ended (row.attempts + 1) else Due (row.attempts + 1) (m + 60 * 2 ^ row.attempts))) row) [ true ↦ refl | false ↦ refl ]

retried-is : (acts : List Act) (a : Attempt) (row : QueueRow)
    → retried acts a row ≡ (if is_row_of acts a.activity a.recipient row then row_of row.activity row.place row.recipient (after_outcome row.attempts a.moment (outcome a.came)) else row ∷ [])
unfolding retried
retried-is acts a row = refl

stays-tried : (acts : List Act) (id r : List ℕ) (came : Came) (m : ℕ) (row : QueueRow) → stays_claimed acts (Tried id r came m) row ≡ (is_claimed row && not (is_row_of acts id r row))
unfolding stays_claimed is_claimed is_tried
stays-tried acts id r came m row = refl

-- if the delivery has no row, nothing changes
nothing_fits : (t : Town) (id r : List ℕ) (came : Came) (m : ℕ) → list_any (is_row_of t.acts id r) (rows_of t) ≡ false → Fits t (Tried id r came m) changes.Nothing
nothing_fits t id r came m none =
    let a : Attempt = record { activity = id; recipient = r; came = came; moment = m } in
    let p : QueueRow → Bool = is_row_of t.acts id r in record {
      rows = λ rows same.
          same ∙ sym (attempts_change t a
          ∙ flat_none p (λ row. row_of row.activity row.place row.recipient (after_outcome row.attempts m (outcome came))) (retried t.acts a) (rows_of t) (retried-is t.acts a) none);
      claims = λ rows same.
          sym (filter_without is_claimed p (stays_claimed t.acts (Tried id r came m)) rows (stays-tried t.acts id r came m)
          (sym (any_released p rows (of_released t.acts id r)) ∙ ap (λ (ys : List QueueRow). list_any p ys) same ∙ none));
    }

settled_fits : (t : Town) (id r : List ℕ) (came : Came) (m : ℕ) (k : ℕ) (due : Option ℕ) (y : QueueRow) → IsKnown t → slice_get (rows_of t) k ≡ Some y → is_row_of t.acts id r y ≡ true
    → due ≡ due_of (after_outcome y.attempts m (outcome came)) → Fits t (Tried id r came m) (changes.Settled k due)
settled_fits t id r came m k due y known got passes next =
    let a : Attempt = record { activity = id; recipient = r; came = came; moment = m } in
    let p : QueueRow → Bool = is_row_of t.acts id r in
    let once : PassesOnce p (rows_of t) = rows_once t id r known in
    let f : QueueRow → List QueueRow = λ row. row_of row.activity row.place row.recipient (after_outcome row.attempts m (outcome came)) in
    let made : f y ≡ settled due y = settled_is y m (outcome came) ∙ ap (λ (d : Option ℕ). settled d y) (sym next) in record {
      rows = λ rows same.
          replace-released k due rows ∙ ap (λ (ys : List QueueRow). replace_at k (settled due) ys) same
          ∙ sym (attempts_change t a ∙ once_flat p f (settled due) (retried t.acts a) (rows_of t) k y (retried-is t.acts a) once got passes made);
      claims = λ rows same.
          let held = was-released rows k y (ap (λ (ys : List QueueRow). slice_get ys k) same ∙ got) in
          let own : p held.0 ≡ true = sym (of_released t.acts id r held.0) ∙ ap p held.2 ∙ passes in
          once_kept is_claimed p (stays_claimed t.acts (Tried id r came m)) (settled due) rows k held.0 (stays-tried t.acts id r came m)
          (once_released p rows (of_released t.acts id r) (subst (λ (ys : List QueueRow). PassesOnce p ys) (sym same) once)) held.1 own (settled-unclaimed due held.0);
    }

next-at : (due : Option ℕ) (came : Came) (m : ℕ) (o : Option QueueRow) (y : QueueRow) → o ≡ Some y → IsNext due came m o → due ≡ due_of (after_outcome y.attempts m (outcome came))
next-at due came m None y is next = absurd next
next-at due came m (Some row) y is next = let same : row ≡ y = cc in rw (← same) next

pub settling_fits : (t : Town) (id r : List ℕ) (came : Came) (m n : ℕ) (rows : List QueueRow) (change : Change) → IsKnown t → map release rows ≡ rows_of t
    → Some n ≡ place_where (has_activity_id id) t.acts → IsSettling n r came m rows change → Fits t (Tried id r came m) change
settling_fits t id r came m n rows changes.Nothing known same found settling =
    let p : QueueRow → Bool = is_row_of t.acts id r in
    let q : QueueRow → Bool = is_row_for n r in
    let is : (row : QueueRow) → q row ≡ p row = for_is_of t.acts id r n (once_by t.host t.acts known.ids id) found in
    let none : list_any q rows ≡ false = none_any q rows (none_there q rows settling) in
    nothing_fits t id r came m
    (ap (λ (ys : List QueueRow). list_any p ys) (sym same) ∙ any_released p rows (of_released t.acts id r) ∙ sym (list_any-agree q p is rows) ∙ none)
settling_fits t id r came m n rows (changes.Added more) known same found settling = absurd settling
settling_fits t id r came m n rows (changes.Settled k due) known same found settling =
    let at = there (is_row_for n r) rows k settling.0 in
    let is = for_is_of t.acts id r n (once_by t.host t.acts known.ids id) found in
    settled_fits t id r came m k due (release at.0) known
    (ap (λ (ys : List QueueRow). slice_get ys k) (sym same) ∙ got_released rows k at.0 at.1)
    (of_released t.acts id r at.0 ∙ sym (is at.0) ∙ at.2)
    (next-at due came m (slice_get rows k) at.0 at.1 settling.1)
settling_fits t id r came m n rows (changes.Rebuilt list) known same found settling = absurd settling

pub unknown_fits : (t : Town) (id r : List ℕ) (came : Came) (m : ℕ) → None ≡ place_where (has_activity_id id) t.acts → Fits t (Tried id r came m) changes.Nothing
unknown_fits t id r came m none = nothing_fits t id r came m (none-pass (rows_of t))
  where
    none-pass : (rows : List QueueRow) → list_any (is_row_of t.acts id r) rows ≡ false
    none-pass [] = refl
    none-pass (row ∷ rows) = rw (none_of t.acts id r none row) (none-pass rows)

-- ---- other entries

untried : (acts : List Act) (e : Entry) (row : QueueRow) → is_plain e ≡ true → stays_claimed acts e row ≡ is_claimed row
unfolding stays_claimed is_claimed is_tried
untried acts (Hosted host moment) row plain = and_not row.claimed false refl
untried acts (Made name digest locked moment) row plain = and_not row.claimed false refl
untried acts (PeerSet host key address relay moment) row plain = absurd cc
untried acts (Local name repeat a moment) row plain = and_not row.claimed false refl
untried acts (Remote peer inbox a moment) row plain = and_not row.claimed false refl
untried acts (Tried activity recipient came moment) row plain = absurd cc

pub added_fits : (t : Town) (e : Entry) (more : Vec QueueRow Global) → IsKnown t → is_admissible t e ≡ true → is_plain e ≡ true
    → more.items ≡ rows_from t (is_at_peer t) (length t.acts) (acts_in (addition_of t e)) → Fits t e (changes.Added more)
added_fits t e more known ok plain is =
    let new : List QueueRow = rows_from t (is_at_peer t) (length t.acts) (acts_in (addition_of t e)) in
    let own : map release more.items ≡ more.items = ap (λ (ys : List QueueRow). map release ys) is ∙ rows_unclaimed t (is_at_peer t) (length t.acts) (acts_in (addition_of t e)) ∙ sym is in record {
      rows = λ rows same.
          map-append release rows more.items ∙ rw (same, own, is) (sym (plain_rows t e known ok plain));
      claims = λ rows same.
          filter-append is_claimed rows more.items
          ∙ rw (none_claimed more.items own) (append-nil (filter is_claimed rows))
          ∙ sym (filter-agree (stays_claimed t.acts e) is_claimed (λ row. untried t.acts e row plain) rows);
    }

stays-peer : (acts : List Act) (host key address : List ℕ) (relay : Bool) (m : ℕ) (row : QueueRow) → stays_claimed acts (PeerSet host key address relay m) row ≡ is_claimed row
unfolding stays_claimed is_claimed is_tried
stays-peer acts host key address relay m row = and_not row.claimed false refl

embedded : (t : Town) (host : List ℕ) (rows list : List QueueRow) → map release rows ≡ rows_of t → list ≡ rows_from t (is_reached t (Some host)) 0 t.acts → Embeds (map release rows) list
unfolding rows_of
embedded t host rows list same is =
    subst (λ (xs : List QueueRow). Embeds xs list) (sym same)
    (subst (λ (ys : List QueueRow). Embeds (rows_from t (is_at_peer t) 0 t.acts) ys) (sym is) (peer_embeds t host t.acts))

pub rebuilt_fits : (t : Town) (host key address : List ℕ) (relay : Bool) (m : ℕ) (list : Vec QueueRow Global) → list.items ≡ rows_from t (is_reached t (Some host)) 0 t.acts
    → Fits t (PeerSet host key address relay m) (changes.Rebuilt list)
rebuilt_fits t host key address relay m list is =
    let e : Entry = PeerSet host key address relay m in
    let own : map release list.items ≡ list.items = ap (λ (ys : List QueueRow). map release ys) is ∙ rows_unclaimed t (is_reached t (Some host)) 0 t.acts ∙ sym is in record {
      rows = λ rows same. carried_rows rows list.items ∙ own ∙ is ∙ sym (peer_rows t (record { host = host; key = key; address = address; relay = relay }));
      claims = λ rows same.
          carried_claims rows list.items own (embeds_claimed rows list.items (embedded t host rows list.items same is))
          ∙ sym (filter-agree (stays_claimed t.acts e) is_claimed (λ row. stays-peer t.acts host key address relay m row) rows);
    }
