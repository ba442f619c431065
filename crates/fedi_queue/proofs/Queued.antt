-- The rows are the deliveries of the queue that have not ended.
use Rattle.std.proofs.Common.{◌≡◌, ℕ, zero, suc, ◌+◌, ◌≤◌, arith, Bool, true, false, List, [], ◌∷◌, ◌++◌, length, Option, Some, None, refl, sym, ap, subst, ◌∙◌, append_assoc}
use Rattle.std.specs.Prelude.{◌||◌, map, filter, nat_lt, slice_get, if◌then◌else◌}
use Rattle.std.specs.List.{flat_map, fold, list_all, list_any}
use Rattle.std.proofs.lemmas.Bool.{and_parts, le-leb, ltb-true}
use Rattle.std.proofs.lemmas.List.{map-append}
use Rattle.std.proofs.lemmas.List.Elements.{filter-append}
use Rattle.std.proofs.lemmas.List.Sums.{fold_push}
use Rattle.fedi_address.specs.Names.{is_name}
use Rattle.fedi_town.proofs.IdsTown.{HasIds}
use Rattle.fedi_laws.proofs.Queued.{due_is_queued}
use Rattle.fedi_objects.specs.declared.entry.Entry.{Entry}
use Rattle.fedi_objects.specs.declared.entry.Entry.TheVariants.{Remote}
use Rattle.fedi_queue.specs.declared.rows.QueueRow.{QueueRow}
use Rattle.fedi_queue.specs.Rows.{DeliveriesHaveOneRow, NextIdsAreNew, RepeatsAddNoRows, RowsAreDue, RowsAreTheQueue, delivery_in, id_at, is_waiting, row_of, row_where, rows_by, rows_from, rows_of, rows_to}
use Rattle.fedi_queue.proofs.Addressed.{AreWell, IsKnown, is_own, is_well, town_known}
use Rattle.fedi_queue.proofs.Growing.{known_rows}
use Rattle.fedi_queue.proofs.Trying.{rows_once}
use Rattle.fedi_register.proofs.Chains.{got_at, longer}
use Rattle.fedi_town.proofs.Texts.{bytes_eq-same}
use Rattle.fedi_town.specs.declared.act.Act.{Act}
use Rattle.fedi_town.specs.Histories.{is_known, step, town}
use Rattle.fedi_town.specs.Ids.{activity_id, actor_id, is_of_host}
use Rattle.fedi_town.specs.Legal.{is_admissible, is_legal_from}
use Rattle.fedi_town.specs.Queues.{Delivery, Progress, deliveries_of, delivery_to, is_at_peer, is_due_delivery, progress_of, queue, sends}
use Rattle.fedi_town.specs.Queues.{Due, Ended}
use Rattle.fedi_town.specs.Towns.{Town, count_of, empty_town}
use Rattle.fedi_town.proofs.Lists.{got_any}

abbrev waiting : List Delivery → List Delivery
waiting ds = filter (λ d. is_waiting d.progress) ds

one-told : (acts : List Act) (n : ℕ) (id : List ℕ) (place : ℕ) (r : List ℕ) (p : Progress) (d : Delivery) → id_at acts n ≡ Some id → d ≡ record { activity = Some id; recipient = r; progress = p }
    → map (delivery_in acts) (row_of n place r p) ≡ waiting (d ∷ [])
one-told acts n id place r (Due k from) d at is = rw (is, at) refl
one-told acts n id place r (Ended k) d at is = rw is refl

to-told : (t : Town) (acts : List Act) (x : Act) (n : ℕ) (id : List ℕ) (place : ℕ) (rs : List (List ℕ)) → id_at acts n ≡ Some id → x.activity.id ≡ Some id
    → map (delivery_in acts) (rows_to t (is_at_peer t) n id x.moment place rs) ≡ waiting (map (delivery_to t x) (filter (is_at_peer t) rs))
to-told t acts x n id place [] at own = refl
to-told t acts x n id place (r ∷ rs) at own =
    let p : Progress = progress_of t id r x.moment in
    let d : delivery_to t x r ≡ record { activity = Some id; recipient = r; progress = p } = rw own refl in
    let rest = to-told t acts x n id (suc place) rs at own in
    map-append (delivery_in acts) (row_where (is_at_peer t r) n place r p) (rows_to t (is_at_peer t) n id x.moment (suc place) rs)
    ∙ elim (is_at_peer t r) as
    (λ b. map (delivery_in acts) (row_where b n place r p) ++ map (delivery_in acts) (rows_to t (is_at_peer t) n id x.moment (suc place) rs)
    ≡ waiting (map (delivery_to t x) (if b then r ∷ filter (is_at_peer t) rs else filter (is_at_peer t) rs))) [
      | true ↦
          ap (λ (ds : List Delivery). ds ++ map (delivery_in acts) (rows_to t (is_at_peer t) n id x.moment (suc place) rs)) (one-told acts n id place r p (delivery_to t x r) at d)
          ∙ ap (λ (ds : List Delivery). waiting (delivery_to t x r ∷ []) ++ ds) rest
          ∙ sym (filter-append (λ e. is_waiting e.progress) (delivery_to t x r ∷ []) (map (delivery_to t x) (filter (is_at_peer t) rs)))
      | false ↦ rest
    ]

has-id : (host : List ℕ) (x : Act) → is_well host x ≡ true → (id : List ℕ) × (x.activity.id ≡ Some id)
unfolding is_well
has-id host x well = by x.activity.id refl (and_parts _ _ well).0
  where
    by : (o : Option (List ℕ)) → x.activity.id ≡ o → is_own host (is_of_host host x.author) o ≡ true → (id : List ℕ) × (x.activity.id ≡ Some id)
    by None is own = absurd cc
    by (Some id) is own = (id, is)

by-told : (t : Town) (before xs : List Act) (x : Act) (n : ℕ) (id : List ℕ) → t.acts ≡ before ++ x ∷ xs → n ≡ length before → x.activity.id ≡ Some id
    → map (delivery_in t.acts) (rows_by t (is_at_peer t) n x.moment (sends t x) x.activity.id) ≡ waiting (deliveries_of t x)
unfolding deliveries_of
by-told t before xs x n id split count own =
    let at : id_at t.acts n ≡ Some id = rw (split, count, got_at before x xs) own in
    ap (λ (o : Option (List ℕ)). map (delivery_in t.acts) (rows_by t (is_at_peer t) n x.moment (sends t x) o)) own ∙ to-told t t.acts x n id 0 (sends t x) at own

from-told : (t : Town) (host : List ℕ) (before xs : List Act) (n : ℕ) → t.acts ≡ before ++ xs → n ≡ length before → list_all (is_well host) xs ≡ true
    → map (delivery_in t.acts) (rows_from t (is_at_peer t) n xs) ≡ waiting (flat_map (deliveries_of t) xs)
from-told t host before [] n split count all = refl
from-told t host before (x ∷ xs) n split count all =
    let parts = and_parts (is_well host x) (list_all (is_well host) xs) all in
    let own = has-id host x parts.0 in
    let next : t.acts ≡ (before ++ x ∷ []) ++ xs = split ∙ sym (append_assoc before (x ∷ []) xs) in
    let more : suc n ≡ length (before ++ x ∷ []) = ap suc count ∙ sym (longer before x) in
    map-append (delivery_in t.acts) (rows_by t (is_at_peer t) n x.moment (sends t x) x.activity.id) (rows_from t (is_at_peer t) (suc n) xs)
    ∙ ap (λ (ds : List Delivery). ds ++ map (delivery_in t.acts) (rows_from t (is_at_peer t) (suc n) xs)) (by-told t before xs x n own.0 split count own.1)
    ∙ ap (λ (ds : List Delivery). waiting (deliveries_of t x) ++ ds) (from-told t host (before ++ x ∷ []) xs (suc n) next more parts.1)
    ∙ sym (filter-append (λ d. is_waiting d.progress) (deliveries_of t x) (flat_map (deliveries_of t) xs))

told-hosted : (t : Town) (h : Option (List ℕ)) → t.host ≡ h → HasIds h t.acts → AreWell t → map (delivery_in t.acts) (rows_from t (is_at_peer t) 0 t.acts) ≡ waiting (flat_map (deliveries_of t) t.acts)
told-hosted t None is ids w = rw ids refl
told-hosted t (Some host) is ids w = from-told t host [] t.acts 0 refl refl (w.well host is)

pub rows_are_queued : RowsAreTheQueue
unfolding rows_of
rows_are_queued history legal = let k = town_known history legal in told-hosted (town history) (town history).host refl k.ids k.well

-- ---- what is due

got-mapped : {A B : Type 0} (f : A → B) (xs : List A) (k : ℕ) (x : A) → slice_get xs k ≡ Some x → slice_get (map f xs) k ≡ Some (f x)
got-mapped f [] k x got = absurd cc
got-mapped f (y ∷ xs) zero x got = let same : y ≡ x = cc in rw same refl
got-mapped f (y ∷ xs) (suc k) x got = got-mapped f xs k x got

any-waiting : (p : Delivery → Bool) (ds : List Delivery) → list_any p (waiting ds) ≡ true → list_any p ds ≡ true
any-waiting p [] any = any
any-waiting p (d ∷ ds) any =
    elim (is_waiting d.progress) as (λ b. list_any p (if b then d ∷ waiting ds else waiting ds) ≡ true → (p d || list_any p ds) ≡ true) [
      | true ↦ λ e. keep (p d) (list_any p (waiting ds)) (list_any p ds) (any-waiting p ds) e
      | false ↦ λ e. late (p d) (list_any p ds) (any-waiting p ds e)
    ] any
  where
    keep : (a b c : Bool) → (b ≡ true → c ≡ true) → (a || b) ≡ true → (a || c) ≡ true
    keep true b c h e = refl
    keep false b c h e = h e

    late : (a b : Bool) → b ≡ true → (a || b) ≡ true
    late true b e = refl
    late false b e = e

row-due : (acts : List Act) (row : QueueRow) (id : List ℕ) (m : ℕ) → id_at acts row.activity ≡ Some id → row.due ≤ m → is_due_delivery id row.recipient m (delivery_in acts row) ≡ true
unfolding is_due_delivery
row-due acts row id m at due = rw (at, bytes_eq-same id, bytes_eq-same row.recipient) (le-leb row.due m due)

pub rows_are_due : RowsAreDue
rows_are_due history k row id m legal got at due =
    let t : Town = town history in
    let p : Delivery → Bool = is_due_delivery id row.recipient m in
    let there = got_any p (map (delivery_in t.acts) (rows_of t)) k (delivery_in t.acts row) (got-mapped (delivery_in t.acts) (rows_of t) k row got) (row-due t.acts row id m at due) in
    due_is_queued t id row.recipient m ∙ any-waiting p (queue t) (ap (λ (ds : List Delivery). list_any p ds) (sym (rows_are_queued history legal)) ∙ there)

-- ---- one row at most, and repeats

pub one_row : DeliveriesHaveOneRow
one_row history id recipient legal = rows_once (town history) id recipient (town_known history legal)

legal-parts : (t : Town) (history : List Entry) (e : Entry) → is_legal_from t (history ++ e ∷ []) ≡ true → (is_legal_from t history ≡ true) × (is_admissible (fold step t history) e ≡ true)
legal-parts t [] e legal = (refl, (and_parts (is_admissible t e) (is_legal_from (step t e) []) legal).0)
legal-parts t (d ∷ history) e legal =
    let parts = and_parts (is_admissible t d) (is_legal_from (step t d) (history ++ e ∷ [])) legal in
    let rest = legal-parts (step t d) history e parts.1 in
    (rw (parts.0, rest.0) refl, rest.1)

pub repeats_add_none : RepeatsAddNoRows
repeats_add_none history peer inbox id a moment legal own known =
    let parts = legal-parts empty_town history (Remote peer inbox a moment) legal.admissible in
    let k : IsKnown (town history) = town_known history (record { admissible = parts.0 }) in
    ap rows_of (fold_push step empty_town history (Remote peer inbox a moment)) ∙ known_rows (town history) peer inbox id a moment k parts.1 own known

-- ---- the next id

next-hosted : (t : Town) (h : Option (List ℕ)) (host name : List ℕ) → t.host ≡ h → h ≡ Some host → HasIds h t.acts → is_name name ≡ true → nat_lt (count_of t (actor_id host name)) 4294967295 ≡ true
    → is_known t (activity_id host name (count_of t (actor_id host name) + 1)) ≡ false
next-hosted t None host name is hosted ids named room = absurd cc
next-hosted t (Some own) host name is hosted ids named room =
    let same : own ≡ host = cc in
    let once = subst (λ (k : List ℕ). HasIds (Some k) t.acts) same ids in
    let less = ltb-true (count_of t (actor_id host name)) 4294967295 room in
    once.fresh.free name (count_of t (actor_id host name) + 1) named (omega arith) (omega (arith, less))

pub next_is_new : NextIdsAreNew
next_is_new history host name legal hosted named room =
    next-hosted (town history) (town history).host host name refl hosted (town_known history legal).ids named room
