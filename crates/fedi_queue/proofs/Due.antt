-- The rows that are due, before and after an attempt of the first of them.
use Rattle.std.proofs.Common.{◌≡◌, ℕ, ◌+◌, ◌*◌, ◌^◌, ◌==◌, arith, Bool, true, false, List, [], ◌∷◌, ◌++◌, Some, None, refl, sym, ap, subst, ◌∙◌}
use Rattle.std.specs.Prelude.{◌||◌, not, map, filter, nat_le, if◌then◌else◌}
use Rattle.std.specs.List.{find, flat_map, list_any}
use Rattle.std.proofs.lemmas.Bool.{and_parts, leb-true}
use Rattle.std.proofs.lemmas.List.Elements.{filter-append}
use Rattle.std.proofs.lemmas.List.Sums.{fold_push}
use Rattle.std.proofs.lemmas.Nat.{pow_pos}
use Rattle.fedi_queue.specs.Due.{AttemptsLeaveTheRest, IsTo, due_in, is_due_by}
use Rattle.fedi_objects.specs.declared.entry.Entry.{Entry}
use Rattle.fedi_objects.specs.declared.entry.Entry.TheVariants.{Tried}
use Rattle.fedi_queue.specs.declared.rows.QueueRow.{QueueRow}
use Rattle.fedi_queue.specs.Claims.{is_free_at, release}
use Rattle.fedi_queue.specs.Queues.{is_claimed}
use Rattle.fedi_queue.specs.Rows.{delivery_in, is_row_of, is_waiting, retried, row_of, rows_of}
use Rattle.fedi_queue.proofs.Queued.{one_row, rows_are_queued}
use Rattle.fedi_queue.proofs.RowsOf.{rows_unclaimed}
use Rattle.fedi_queue.proofs.Trying.{attempts_change}
use Rattle.fedi_queue.proofs.ClaimedRows.{named_of}
use Rattle.fedi_town.proofs.Texts.{is_false}
use Rattle.fedi_town.specs.declared.act.Act.{Act}
use Rattle.fedi_town.specs.declared.act.Attempt.{Attempt}
use Rattle.fedi_town.specs.declared.outcome.Outcome.{Outcome}
use Rattle.fedi_town.specs.declared.outcome.Outcome.TheVariants.{Delivered, Again, GivenUp}
use Rattle.fedi_town.specs.Histories.{step, town}
use Rattle.fedi_town.specs.Legal.{IsLegal, is_admissible, is_legal_from}
use Rattle.fedi_town.specs.Lists.{PassesOnce}
use Rattle.fedi_town.specs.Queues.{Delivery, Progress, after_outcome, is_at_peer, is_due_at, outcome, queue}
use Rattle.fedi_town.specs.Queues.{Due, Ended}
use Rattle.fedi_town.specs.Towns.{Town, empty_town}
use Rattle.fedi_town.proofs.Lists.{none_kept}

-- ---- the rows of the deliveries that are due

-- another attempt of the row is due at this moment
unfoldable is_due_row : ℕ → QueueRow → Bool
is_due_row m row = nat_le row.due m

pub not_waiting : (m : ℕ) (p : Progress) → is_waiting p ≡ false → is_due_at m p ≡ false
not_waiting m (Due k from) e = absurd cc
not_waiting m (Ended k) e = refl

pub due_waiting : (m : ℕ) (ds : List Delivery) → filter (is_due_by m) (filter (λ d. is_waiting d.progress) ds) ≡ filter (is_due_by m) ds
unfolding is_due_by
due_waiting m [] = refl
due_waiting m (d ∷ ds) =
    elim (is_waiting d.progress) as (λ b. is_waiting d.progress ≡ b
    → filter (is_due_by m) (if b then d ∷ filter (λ e. is_waiting e.progress) ds else filter (λ e. is_waiting e.progress) ds) ≡ filter (is_due_by m) (d ∷ ds)) [
      | true ↦ λ e. rw (due_waiting m ds) refl
      | false ↦ λ e. rw (not_waiting m d.progress e) (due_waiting m ds)
    ] refl

due-told : (acts : List Act) (m : ℕ) (rows : List QueueRow) → filter (is_due_by m) (map (delivery_in acts) rows) ≡ map (delivery_in acts) (filter (is_due_row m) rows)
unfolding is_due_by is_due_row
due-told acts m [] = refl
due-told acts m (r ∷ rows) =
    elim (nat_le r.due m) as
    (λ b. (if b then delivery_in acts r ∷ filter (is_due_by m) (map (delivery_in acts) rows) else filter (is_due_by m) (map (delivery_in acts) rows))
    ≡ map (delivery_in acts) (if b then r ∷ filter (is_due_row m) rows else filter (is_due_row m) rows)) [
      | true ↦ ap (λ (ds : List Delivery). delivery_in acts r ∷ ds) (due-told acts m rows)
      | false ↦ due-told acts m rows
    ]

-- the rows that are due determine the deliveries that are due
due_rows : (history : List Entry) (m : ℕ) → IsLegal history
    → due_in (town history) m ≡ map (delivery_in (town history).acts) (filter (is_due_row m) (rows_of (town history)))
due_rows history m legal =
    let t : Town = town history in
    sym (due_waiting m (queue t))
    ∙ ap (λ (ds : List Delivery). filter (is_due_by m) ds) (sym (rows_are_queued history legal))
    ∙ due-told t.acts m (rows_of t)

-- ---- after an attempt

late : (k m : ℕ) → nat_le (m + 60 * 2 ^ k) m ≡ false
late k m = is_false (nat_le (m + 60 * 2 ^ k) m) (λ e. absurd (omega (arith, leb-true (m + 60 * 2 ^ k) m e, pow_pos k)))

next-late : (n place : ℕ) (r : List ℕ) (k m : ℕ) (b : Bool)
    → filter (is_due_row m) (row_of n place r (if b then Ended (k + 1) else Due (k + 1) (m + 60 * 2 ^ k))) ≡ []
unfolding is_due_row
next-late n place r k m true = refl
next-late n place r k m false = rw (late k m) refl

outcome-late : (n place : ℕ) (r : List ℕ) (k m : ℕ) (o : Outcome) → filter (is_due_row m) (row_of n place r (after_outcome k m o)) ≡ []
outcome-late n place r k m Delivered = refl
outcome-late n place r k m Again = next-late n place r k m (k + 1 == 8)
outcome-late n place r k m GivenUp = refl

-- the row is of another delivery
abbrev is_other : List Act → Attempt → QueueRow → Bool
is_other acts a row = not (is_row_of acts a.activity a.recipient row)

one-tried : (acts : List Act) (a : Attempt) (row : QueueRow) → filter (is_due_row a.moment) (retried acts a row) ≡ filter (is_other acts a) (filter (is_due_row a.moment) (row ∷ []))
unfolding retried is_due_row
one-tried acts a row =
    elim (is_row_of acts a.activity a.recipient row) as (λ b. is_row_of acts a.activity a.recipient row ≡ b
    → filter (is_due_row a.moment) (if b then row_of row.activity row.place row.recipient (after_outcome row.attempts a.moment (outcome a.came)) else row ∷ [])
    ≡ filter (is_other acts a) (filter (is_due_row a.moment) (row ∷ []))) [
      | true ↦ λ e. outcome-late row.activity row.place row.recipient row.attempts a.moment (outcome a.came) ∙ sym (gone (nat_le row.due a.moment) e)
      | false ↦ λ e. sym (stays (nat_le row.due a.moment) e)
    ] refl
  where
    gone : (b : Bool) → is_row_of acts a.activity a.recipient row ≡ true → filter (is_other acts a) (if b then row ∷ [] else []) ≡ []
    gone true e = rw e refl
    gone false e = refl

    stays : (b : Bool) → is_row_of acts a.activity a.recipient row ≡ false → filter (is_other acts a) (if b then row ∷ [] else []) ≡ (if b then row ∷ [] else [])
    stays true e = rw e refl
    stays false e = refl

rows-tried : (acts : List Act) (a : Attempt) (rows : List QueueRow) → filter (is_due_row a.moment) (flat_map (retried acts a) rows) ≡ filter (is_other acts a) (filter (is_due_row a.moment) rows)
rows-tried acts a [] = refl
rows-tried acts a (row ∷ rows) =
    let due = is_due_row a.moment in
    filter-append due (retried acts a row) (flat_map (retried acts a) rows)
    ∙ ap (λ (xs : List QueueRow). xs ++ filter due (flat_map (retried acts a) rows)) (one-tried acts a row)
    ∙ ap (λ (xs : List QueueRow). filter (is_other acts a) (filter due (row ∷ [])) ++ xs) (rows-tried acts a rows)
    ∙ sym (filter-append (is_other acts a) (filter due (row ∷ [])) (filter due rows))
    ∙ ap (λ (xs : List QueueRow). filter (is_other acts a) xs) (sym (filter-append due (row ∷ []) rows))

-- ---- one row at most

once-left : {A : Type 0} (p q : A → Bool) (xs : List A) → PassesOnce p xs → PassesOnce p (filter q xs)
once-left p q [] once = tt
once-left p q (x ∷ xs) once =
    elim (q x) as (λ b. PassesOnce p (if b then x ∷ filter q xs else filter q xs)) [
      | true ↦ (λ passes. none_kept p q xs (once.0 passes), once-left p q xs once.1)
      | false ↦ once-left p q xs once.1
    ]

without-none : {A : Type 0} (p : A → Bool) (xs : List A) → list_any p xs ≡ false → filter (λ x. not (p x)) xs ≡ xs
without-none p [] none = refl
without-none p (x ∷ xs) none =
    let parts = apart (p x) (list_any p xs) none in rw (parts.0, without-none p xs parts.1) refl
  where
    apart : (a b : Bool) → (a || b) ≡ false → (a ≡ false) × (b ≡ false)
    apart true b e = absurd cc
    apart false b e = (refl, e)

-- ---- the first of them

pub legal_before : (t : Town) (history : List Entry) (e : Entry) → is_legal_from t (history ++ e ∷ []) ≡ true → is_legal_from t history ≡ true
legal_before t [] e legal = refl
legal_before t (d ∷ history) e legal =
    let parts = and_parts (is_admissible t d) (is_legal_from (step t d) (history ++ e ∷ [])) legal in
    rw (parts.0, legal_before (step t d) history e parts.1) refl

rest-of : (acts : List Act) (a : Attempt) (rows : List QueueRow) (d : Delivery) (rest : List Delivery) → PassesOnce (is_row_of acts a.activity a.recipient) rows
    → map (delivery_in acts) rows ≡ d ∷ rest → IsTo a.activity a.recipient d → map (delivery_in acts) (filter (is_other acts a) rows) ≡ rest
rest-of acts a [] d rest once same to = absurd cc
rest-of acts a (row ∷ rows) d rest once same to =
    let first : delivery_in acts row ≡ d = cc in
    let others : map (delivery_in acts) rows ≡ rest = cc in
    let own = named_of acts a.activity a.recipient row (ap (λ (x : Delivery). x.activity) first ∙ to.0) (ap (λ (x : Delivery). x.recipient) first ∙ to.1) in
    rw (own, without-none (is_row_of acts a.activity a.recipient) rows (once.0 own)) others

pub attempts_leave : AttemptsLeaveTheRest
attempts_leave history id recipient came moment d rest legal due to =
    let a : Attempt = record { activity = id; recipient = recipient; came = came; moment = moment } in
    let e : Entry = Tried id recipient came moment in
    let t : Town = town history in
    let before : IsLegal history = record { admissible = legal_before empty_town history e legal.admissible } in
    let now : town (history ++ e ∷ []) ≡ record t { attempts = t.attempts ++ a ∷ [] } = fold_push step empty_town history e in
    let rows = ap rows_of now ∙ attempts_change t a in
    let once = once-left (is_row_of t.acts id recipient) (is_due_row moment) (rows_of t) (one_row history id recipient before) in
    due_rows (history ++ e ∷ []) moment legal
    ∙ ap (λ (u : Town). map (delivery_in u.acts) (filter (is_due_row moment) (rows_of (town (history ++ e ∷ []))))) now
    ∙ ap (λ (xs : List QueueRow). map (delivery_in t.acts) (filter (is_due_row moment) xs)) rows
    ∙ ap (λ (xs : List QueueRow). map (delivery_in t.acts) xs) (rows-tried t.acts a (rows_of t))
    ∙ rest-of t.acts a (filter (is_due_row moment) (rows_of t)) d rest once (sym (due_rows history moment before) ∙ due) to

-- ---- the row that is claimed first

-- none of these rows is claimed
abbrev AreUnclaimed : List QueueRow → Type 0
AreUnclaimed rows = filter is_claimed rows ≡ []

unclaimed-parts : (row : QueueRow) (rows : List QueueRow) → AreUnclaimed (row ∷ rows) → (is_claimed row ≡ false) × AreUnclaimed rows
unclaimed-parts row rows none =
    elim (is_claimed row) as (λ b. (if b then row ∷ filter is_claimed rows else filter is_claimed rows) ≡ [] → (b ≡ false) × AreUnclaimed rows) [
      | true ↦ λ e. absurd cc
      | false ↦ λ e. (refl, e)
    ] none

free-due : (m : ℕ) (row : QueueRow) → is_claimed row ≡ false → is_free_at m row ≡ is_due_row m (release row)
unfolding is_free_at is_due_row is_claimed
free-due m row none = rw none refl

rows-first : (m : ℕ) (rows : List QueueRow) (row : QueueRow) → AreUnclaimed rows → find (is_free_at m) rows ≡ Some row
    → (rest : List QueueRow) × (filter (is_due_row m) (map release rows) ≡ release row ∷ rest)
rows-first m [] row none found = absurd cc
rows-first m (x ∷ rows) row none found =
    let parts = unclaimed-parts x rows none in
    elim (is_due_row m (release x)) as (λ b. (if b then Some x else find (is_free_at m) rows) ≡ Some row
    → (rest : List QueueRow) × ((if b then release x ∷ filter (is_due_row m) (map release rows) else filter (is_due_row m) (map release rows)) ≡ release row ∷ rest)) [
      | true ↦ λ e. (filter (is_due_row m) (map release rows), (let same : x ≡ row = cc in ap (λ (r : QueueRow). release r ∷ filter (is_due_row m) (map release rows)) same))
      | false ↦ λ e. rows-first m rows row parts.1 e
    ] (subst (λ (b : Bool). (if b then Some x else find (is_free_at m) rows) ≡ Some row) (free-due m x parts.0) found)

rows-none : (m : ℕ) (rows : List QueueRow) → AreUnclaimed rows → find (is_free_at m) rows ≡ None → filter (is_due_row m) (map release rows) ≡ []
rows-none m [] none found = refl
rows-none m (x ∷ rows) none found =
    let parts = unclaimed-parts x rows none in
    elim (is_due_row m (release x)) as (λ b. (if b then Some x else find (is_free_at m) rows) ≡ None
    → (if b then release x ∷ filter (is_due_row m) (map release rows) else filter (is_due_row m) (map release rows)) ≡ []) [
      | true ↦ λ e. absurd cc
      | false ↦ λ e. rows-none m rows parts.1 e
    ] (subst (λ (b : Bool). (if b then Some x else find (is_free_at m) rows) ≡ None) (free-due m x parts.0) found)

released-unclaimed : (rows : List QueueRow) → AreUnclaimed (map release rows)
unfolding is_claimed
released-unclaimed [] = refl
released-unclaimed (row ∷ rows) = released-unclaimed rows

-- the rows of a town are claimed by nobody
pub rows_fresh : (t : Town) → (map release (rows_of t) ≡ rows_of t) × (filter is_claimed (rows_of t) ≡ [])
unfolding rows_of
rows_fresh t =
    let same : map release (rows_of t) ≡ rows_of t = rows_unclaimed t (is_at_peer t) 0 t.acts in
    (same, ap (λ (rows : List QueueRow). filter is_claimed rows) (sym same) ∙ released-unclaimed (rows_of t))

-- if nothing is claimed, the first that is given out is the first that is due
pub first_due : (history : List Entry) (m : ℕ) (rows : List QueueRow) (row : QueueRow) → IsLegal history → map release rows ≡ rows_of (town history)
    → filter is_claimed rows ≡ [] → find (is_free_at m) rows ≡ Some row
    → (rest : List Delivery) × (due_in (town history) m ≡ delivery_in (town history).acts row ∷ rest)
first_due history m rows row legal same none found =
    let t : Town = town history in
    let first = rows-first m rows row none found in (
      map (delivery_in t.acts) first.0,
      due_rows history m legal
          ∙ ap (λ (xs : List QueueRow). map (delivery_in t.acts) (filter (is_due_row m) xs)) (sym same)
          ∙ ap (λ (xs : List QueueRow). map (delivery_in t.acts) xs) first.1,
    )

-- and nothing is given out exactly if nothing is due
pub none_due : (history : List Entry) (m : ℕ) (rows : List QueueRow) → IsLegal history → map release rows ≡ rows_of (town history) → filter is_claimed rows ≡ []
    → find (is_free_at m) rows ≡ None → due_in (town history) m ≡ []
none_due history m rows legal same none found =
    let t : Town = town history in
    due_rows history m legal
    ∙ ap (λ (xs : List QueueRow). map (delivery_in t.acts) (filter (is_due_row m) xs)) (sym same)
    ∙ ap (λ (xs : List QueueRow). map (delivery_in t.acts) xs) (rows-none m rows none found)
