-- What a queue holds remains that of its history.
use Rattle.std.proofs.Common.{◌≡◌, ℕ, Bool, true, false, List, [], ◌∷◌, ◌++◌, length, Option, Some, None, refl, sym, ap, subst, ◌∙◌, append-nil, append_assoc, eq-eqb}
use Rattle.std.specs.Prelude.{◌&&◌, ◌||◌, not, map, filter, nat_le, option_map, IfSome, IsTrue, if◌then◌else◌}
use Rattle.std.specs.List.{find, list_all, list_any}
use Rattle.std.proofs.lemmas.Bool.{and_parts, or_right}
use Rattle.std.proofs.lemmas.List.{length-map}
use Rattle.std.proofs.lemmas.List.Sums.{fold_push}
use Rattle.fedi_objects.specs.declared.entry.Entry.{Entry}
use Rattle.fedi_queue.specs.declared.changes.Change.{Change}
use Rattle.fedi_queue.specs.declared.queue.Room.{Room}
use Rattle.fedi_queue.specs.declared.rows.Claim.{Claim}
use Rattle.fedi_queue.specs.declared.rows.QueueRow.{QueueRow}
use Rattle.fedi_queue.specs.Claims.{Listed, change_first, claim, claim_of, is_at, is_claimed_at, is_few, is_free_at, release}
use Rattle.fedi_queue.specs.Holding.{IsRoom, IsSound}
use Rattle.fedi_queue.specs.Queues.{ClaimsAreHeld, Fits, HasRoom, IsHeld, is_claimed, is_held_by, is_tried, rows_with, stays_claimed}
use Rattle.fedi_queue.specs.Rows.{is_reached, rows_from, rows_of}
use Rattle.fedi_queue.proofs.Listed.{few_released}
use Rattle.fedi_queue.proofs.RowsOf.{from_alike, reached_now, rows_few, rows_unclaimed}
use Rattle.fedi_town.specs.declared.act.Act.{Act}
use Rattle.fedi_town.specs.Histories.{step, town}
use Rattle.fedi_town.specs.Queues.{is_at_peer}
use Rattle.fedi_town.specs.Towns.{Town, empty_town}

-- ---- claims

-- a change of claims leaves the rows
pub rows_stay : (p : QueueRow → Bool) (f : QueueRow → QueueRow) (rows : List QueueRow) → ((row : QueueRow) → release (f row) ≡ release row) → map release (change_first p f rows) ≡ map release rows
rows_stay p f [] same = refl
rows_stay p f (row ∷ rows) same =
    elim (p row) as (λ b. map release (if b then f row ∷ rows else row ∷ change_first p f rows) ≡ release row ∷ map release rows) [
      | true ↦ ap (λ (r : QueueRow). r ∷ map release rows) (same row)
      | false ↦ ap (λ (ys : List QueueRow). release row ∷ ys) (rows_stay p f rows same)
    ]

same-length : (rows new : List QueueRow) → map release new ≡ map release rows → length new ≡ length rows
same-length rows new same = sym (length-map new release) ∙ ap (λ (ys : List QueueRow). length ys) same ∙ length-map rows release

room-stays : (history : List Entry) (old new : Listed) (coming : Option Room) → length new.rows ≡ length old.rows → new.room ≡ old.room → IsRoom history old coming → IsRoom history new coming
room-stays history old new None count room h = tt
room-stays history old new (Some r) count room h =
    (h.0, subst (λ (n : ℕ). HasRoom r.change n new.room) (sym count) (subst (λ (n : ℕ). HasRoom r.change (length old.rows) n) (sym room) h.1))

pub sound_stays : (history : List Entry) (old new : Listed) (coming : Option Room) → IsSound history old coming → map release new.rows ≡ map release old.rows → new.room ≡ old.room
    → IsSound history new coming
sound_stays history old new coming h same room = record {
  rows = same ∙ h.rows;
  room = room-stays history old new coming (same-length old.rows new.rows same) room h.room;
}

pub sound_claimed : (history : List Entry) (old new : Listed) (coming : Option Room) (m : ℕ) → IsSound history old coming → new ≡ record old { rows = change_first (is_free_at m) claim old.rows }
    → IsSound history new coming
sound_claimed history old new coming m h is =
    subst (λ (l : Listed). IsSound history l coming) (sym is)
    (sound_stays history old (record old { rows = change_first (is_free_at m) claim old.rows }) coming h (rows_stay (is_free_at m) claim old.rows (λ row. refl)) refl)

pub sound_released : (history : List Entry) (old new : Listed) (coming : Option Room) (a p : ℕ) → IsSound history old coming
    → new ≡ record old { rows = change_first (is_claimed_at a p) release old.rows } → IsSound history new coming
sound_released history old new coming a p h is =
    subst (λ (l : Listed). IsSound history l coming) (sym is)
    (sound_stays history old (record old { rows = change_first (is_claimed_at a p) release old.rows }) coming h (rows_stay (is_claimed_at a p) release old.rows (λ row. refl)) refl)

held-row : (m : ℕ) (row : QueueRow) → is_free_at m row ≡ true → is_held_by (claim_of m row) (claim row) ≡ true
unfolding is_free_at is_held_by is_claimed_at is_at
held-row m row free = rw (eq-eqb row.activity row.activity refl, eq-eqb row.place row.place refl) (and_parts (not row.claimed) (nat_le row.due m) free).1

held-first : (m : ℕ) (rows : List QueueRow) (c : Claim) → option_map (claim_of m) (find (is_free_at m) rows) ≡ Some c → IsHeld c (change_first (is_free_at m) claim rows)
held-first m [] c is = absurd cc
held-first m (row ∷ rows) c is =
    elim (is_free_at m row) as
    (λ b. is_free_at m row ≡ b → option_map (claim_of m) (if b then Some row else find (is_free_at m) rows) ≡ Some c → IsHeld c (if b then claim row ∷ rows else row ∷ change_first (is_free_at m) claim rows)) [
      | true ↦ λ free e.
          let own : claim_of m row ≡ c = cc in
          subst (λ (k : Claim). IsHeld k (claim row ∷ rows)) own (rw (held-row m row free) refl)
      | false ↦ λ free e. or_right (is_held_by c row) (list_any (is_held_by c) (change_first (is_free_at m) claim rows)) (held-first m rows c e)
    ] refl is

pub held_claimed : (m : ℕ) (rows new : List QueueRow) (result : Option Claim) → result ≡ option_map (claim_of m) (find (is_free_at m) rows) → new ≡ change_first (is_free_at m) claim rows
    → IfSome result (λ c. IsHeld c new)
held_claimed m rows new None is made = tt
held_claimed m rows new (Some c) is made = subst (λ (ys : List QueueRow). IsHeld c ys) (sym made) (held-first m rows c (sym is))

-- ---- the beginning

pub sound_empty : (list : Listed) → list.rows ≡ [] → IsSound [] list None
unfolding rows_of
sound_empty list none = record { rows = rw none refl; room = tt }

pub all_rows : (t : Town) → rows_from t (is_reached t None) 0 t.acts ≡ rows_of t
unfolding rows_of
all_rows t = from_alike t t (is_at_peer t) (is_reached t None) 0 t.acts (record { reached = λ r. reached_now t r; attempts = refl }) (λ y. refl)

rows-released : (t : Town) → map release (rows_of t) ≡ rows_of t
unfolding rows_of
rows-released t = rows_unclaimed t (is_at_peer t) 0 t.acts

pub begun : (before since history : List Entry) → before ≡ history → since ≡ [] → before ++ since ≡ history
begun before since history first none = rw none (append-nil before ∙ first)

pub sound_made : (before since history : List Entry) (t : Town) (list : Listed) (rows : List QueueRow) → before ≡ history → since ≡ [] → t ≡ town history
    → rows ≡ rows_from t (is_reached t None) 0 t.acts → list.rows ≡ rows → IsSound (before ++ since) list None
sound_made before since history t list rows first none stands made is =
    subst (λ (h : List Entry). IsSound h list None) (sym (begun before since history first none)) (record {
      rows = ap (λ (ys : List QueueRow). map release ys) (is ∙ made ∙ all_rows t) ∙ rows-released t ∙ ap rows_of stands;
      room = tt;
    })

-- ---- one more entry

pub few_with : (t : Town) (e : Entry) (change : Change) (rows : List QueueRow) → Fits t e change → map release rows ≡ rows_of t → IsTrue (list_all is_few (rows_with change rows))
unfolding rows_of
few_with t e change rows fits same =
    sym (few_released (rows_with change rows)) ∙ ap (λ (ys : List QueueRow). list_all is_few ys) (fits.rows rows same) ∙ rows_few (step t e) (is_at_peer (step t e)) 0 (step t e).acts

room_at : (history : List Entry) (listed : Listed) (coming : Option Room) (r : Room) → IsRoom history listed coming → coming ≡ Some r → IsRoom history listed (Some r)
room_at history listed coming r h is = subst (λ (o : Option Room). IsRoom history listed o) is h

fits_at : (history : List Entry) (listed : Listed) (coming : Option Room) (r : Room) (e : Entry) → IsSound history listed coming → coming ≡ Some r → r.entry.value ≡ e → Fits (town history) e r.change
fits_at history listed coming r e h is own = subst (λ (x : Entry). Fits (town history) x r.change) own (room_at history listed coming r h.room is).0

pub few_pushed : (history : List Entry) (listed : Listed) (coming : Option Room) (r : Room) → IsSound history listed coming → coming ≡ Some r → IsTrue (list_all is_few (rows_with r.change listed.rows))
few_pushed history listed coming r h is = few_with (town history) r.entry.value r.change listed.rows (fits_at history listed coming r r.entry.value h is refl) h.rows

pub sound_pushed : (before since : List Entry) (old new : Listed) (coming : Option Room) (e : Entry) (r : Room) → IsSound (before ++ since) old coming → coming ≡ Some r → r.entry.value ≡ e
    → new.rows ≡ rows_with r.change old.rows → IsSound (before ++ (since ++ e ∷ [])) new None
sound_pushed before since old new coming e r h is own made =
    let history : List Entry = before ++ since in
    let after : town (history ++ e ∷ []) ≡ step (town history) e = fold_push step empty_town history e in
    let fits : Fits (town history) e r.change = fits_at history old coming r e h is own in
    subst (λ (es : List Entry). IsSound es new None) (append_assoc before since (e ∷ [])) (record {
      rows = ap (λ (ys : List QueueRow). map release ys) made ∙ fits.rows old.rows h.rows ∙ ap rows_of (sym after);
      room = tt;
    })

pub claims_pushed : (history : List Entry) (old : Listed) (new : List QueueRow) (coming : Option Room) (e : Entry) (r : Room) → IsSound history old coming → coming ≡ Some r → r.entry.value ≡ e → new ≡ rows_with r.change old.rows → filter is_claimed new ≡ filter (stays_claimed (town history).acts e) old.rows
claims_pushed history old new coming e r h is own made =
    ap (λ (ys : List QueueRow). filter is_claimed ys) made ∙ (fits_at history old coming r e h is own).claims old.rows h.rows

-- ---- what is held

held_any : (c : Claim) (rows : List QueueRow) → IsHeld c rows → list_any (is_claimed_at c.activity c.recipient) rows ≡ true
unfolding is_held_by
held_any c [] held = absurd cc
held_any c (row ∷ rows) held =
    elim (is_claimed_at c.activity c.recipient row) as
    (λ b. ((b && nat_le row.due c.moment) || list_any (is_held_by c) rows) ≡ true → (b || list_any (is_claimed_at c.activity c.recipient) rows) ≡ true) [
      | true ↦ λ e. refl
      | false ↦ λ e. held_any c rows e
    ] held

any-found : {A : Type 0} (p : A → Bool) (xs : List A) → list_any p xs ≡ true → find p xs ≡ None → ⊥
any-found p [] any none = absurd cc
any-found {A} p (x ∷ xs) any none =
    elim (p x) as (λ b. (b || list_any p xs) ≡ true → (if b then Some x else find p xs) ≡ None → ⊥) [
      | true ↦ λ a n. absurd cc
      | false ↦ λ a n. any-found p xs a n
    ] any none

-- a claim that is held is found
pub not_missing : (c : Claim) (rows : List QueueRow) → IsHeld c rows → None ≡ find (is_claimed_at c.activity c.recipient) rows → ⊥
not_missing c rows held none = any-found (is_claimed_at c.activity c.recipient) rows (held_any c rows held) (sym none)

pub recipient_found : (c : Claim) (rows : List QueueRow) (row : QueueRow) → Some row ≡ find (is_claimed_at c.activity c.recipient) rows
    → Some row.recipient ≡ option_map (λ (r : QueueRow). r.recipient) (find (is_claimed_at c.activity c.recipient) rows)
recipient_found c rows row found = ap (λ (o : Option QueueRow). option_map (λ (r : QueueRow). r.recipient) o) found

any-filter : {A : Type 0} (p s : A → Bool) (xs : List A) → list_any p (filter s xs) ≡ true → list_any p xs ≡ true
any-filter p s [] any = any
any-filter {A} p s (x ∷ xs) any =
    elim (s x) as (λ b. list_any p (if b then x ∷ filter s xs else filter s xs) ≡ true → (p x || list_any p xs) ≡ true) [
      | true ↦ λ e. keep (p x) (list_any p (filter s xs)) (list_any p xs) (any-filter p s xs) e
      | false ↦ λ e. or_right (p x) (list_any p xs) (any-filter p s xs e)
    ] any
  where
    keep : (a b d : Bool) → (b ≡ true → d ≡ true) → (a || b) ≡ true → (a || d) ≡ true
    keep true b d h e = refl
    keep false b d h e = h e

filter-any : {A : Type 0} (p s : A → Bool) (xs : List A) → ((x : A) → p x ≡ true → s x ≡ true) → list_any p xs ≡ true → list_any p (filter s xs) ≡ true
filter-any p s [] implies any = any
filter-any {A} p s (x ∷ xs) implies any =
    elim (s x) as (λ b. s x ≡ b → list_any p (if b then x ∷ filter s xs else filter s xs) ≡ true) [
      | true ↦ λ e. keep (p x) (list_any p xs) (list_any p (filter s xs)) (filter-any p s xs implies) any
      | false ↦ λ e. filter-any p s xs implies (other (p x) (list_any p xs) (λ own. let no : true ≡ false = sym (implies x own) ∙ e in cc) any)
    ] refl
  where
    keep : (a b d : Bool) → (b ≡ true → d ≡ true) → (a || b) ≡ true → (a || d) ≡ true
    keep true b d h e = refl
    keep false b d h e = h e

    other : (a b : Bool) → (a ≡ true → ⊥) → (a || b) ≡ true → b ≡ true
    other true b wrong e = absurd (wrong refl)
    other false b wrong e = e

stays-on : (acts : List Act) (e : Entry) (c : Claim) (row : QueueRow) → (is_held_by c row && not (is_tried acts e row)) ≡ true → stays_claimed acts e row ≡ true
unfolding stays_claimed is_held_by is_claimed_at
stays-on acts e c row held = by row.claimed (is_at c.activity c.recipient row) (nat_le row.due c.moment) (is_tried acts e row) held
  where
    by : (a b d t : Bool) → (((a && b) && d) && not t) ≡ true → (a && not t) ≡ true
    by true true true t h = h
    by true true false t h = absurd cc
    by true false d t h = absurd cc
    by false b d t h = absurd cc

held-untried : (acts : List Act) (e : Entry) (c : Claim) (rows : List QueueRow) → list_any (λ row. is_held_by c row && is_tried acts e row) rows ≡ false → IsHeld c rows
    → list_any (λ row. is_held_by c row && not (is_tried acts e row)) rows ≡ true
held-untried acts e c [] none held = absurd cc
held-untried acts e c (row ∷ rows) none held =
    by (is_held_by c row) (is_tried acts e row) (list_any (λ r. is_held_by c r && is_tried acts e r) rows) (list_any (is_held_by c) rows)
    (list_any (λ r. is_held_by c r && not (is_tried acts e r)) rows) none held (held-untried acts e c rows)
  where
    by : (a t n h k : Bool) → ((a && t) || n) ≡ false → (a || h) ≡ true → (n ≡ false → h ≡ true → k ≡ true) → ((a && not t) || k) ≡ true
    by true true n h k untried held more = absurd cc
    by true false n h k untried held more = refl
    by false t n h k untried held more = more untried held

drop-not : (acts : List Act) (e : Entry) (c : Claim) (rows : List QueueRow) → list_any (λ row. is_held_by c row && not (is_tried acts e row)) rows ≡ true → list_any (is_held_by c) rows ≡ true
drop-not acts e c [] any = absurd cc
drop-not acts e c (row ∷ rows) any = by (is_held_by c row) (not (is_tried acts e row)) (list_any (λ r. is_held_by c r && not (is_tried acts e r)) rows) (list_any (is_held_by c) rows) any (drop-not acts e c rows)
  where
    by : (a t k h : Bool) → ((a && t) || k) ≡ true → (k ≡ true → h ≡ true) → (a || h) ≡ true
    by true t k h e more = refl
    by false t k h e more = more e

pub claims_held : ClaimsAreHeld
claims_held acts e rows new c same none held =
    let p : QueueRow → Bool = λ row. is_held_by c row && not (is_tried acts e row) in
    drop-not acts e c new (any-filter p is_claimed new
    (ap (λ (ys : List QueueRow). list_any p ys) same ∙ filter-any p (stays_claimed acts e) rows (stays-on acts e c) (held-untried acts e c rows none held)))
