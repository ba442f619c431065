-- The deliveries that are due and not claimed are those of the free rows.
use Rattle.std.proofs.Common.{◌≡◌, ℕ, Bool, true, false, List, [], ◌∷◌, ◌++◌, Option, Some, None, refl, sym, ap, subst, ◌∙◌, append_assoc}
use Rattle.std.specs.Prelude.{◌&&◌, not, filter, is_some, map, nat_le, if◌then◌else◌}
use Rattle.std.specs.List.{find, list_all, list_any}
use Rattle.std.proofs.lemmas.Bool.{and_parts}
use Rattle.std.proofs.lemmas.List.Folds.{list_all-append}
use Rattle.fedi_objects.specs.declared.entry.Entry.{Entry}
use Rattle.fedi_queue.specs.declared.rows.QueueRow.{QueueRow}
use Rattle.fedi_queue.specs.Claims.{is_free_at, release}
use Rattle.fedi_queue.specs.Due.{due_in, is_due_by}
use Rattle.fedi_queue.specs.Rows.{delivery_in, id_at, is_row_of}
use Rattle.fedi_queue.proofs.Queued.{rows_are_queued}
use Rattle.fedi_town.specs.declared.act.Act.{Act}
use Rattle.fedi_town.specs.Histories.{town}
use Rattle.fedi_town.specs.Legal.{IsLegal}
use Rattle.fedi_town.specs.Lists.{PassesOnce}
use Rattle.fedi_town.specs.Queues.{Delivery, queue}
use Rattle.fedi_log.proofs.Claiming.{pair_of}
use Rattle.fedi_queue.proofs.ClaimedRows.{AreRowsOf, has_id, ids_of, named_of, one_of}
use Rattle.fedi_queue.proofs.Due.{due_waiting}
use Rattle.fedi_log.proofs.ClaimsHeld.{for_parts}
use Rattle.fedi_log.proofs.Firsts.{filter_first, filter_none, once_only}
use Rattle.fedi_log.specs.Claims.{ClaimsStand, IsFirst, free_in, is_claimed_for, is_taken_in}
use Rattle.fedi_log.specs.Log.{Log, history_of}

-- ---- a row is claimed exactly if its delivery is

for-row : (acts : List Act) (row : QueueRow) (id : List ℕ) → is_row_of acts id row.recipient row ≡ true
    → is_claimed_for acts (pair_of id row.recipient) row ≡ row.claimed
unfolding is_claimed_for
for-row acts row id own = rw own (and_yes row.claimed)
  where
    and_yes : (a : Bool) → (a && true) ≡ a
    and_yes true = refl
    and_yes false = refl

some-id : (acts : List Act) (row : QueueRow) → has_id acts row ≡ true → (id : List ℕ) × (id_at acts row.activity ≡ Some id)
unfolding has_id
some-id acts row some = by (id_at acts row.activity) refl some
  where
    by : (o : Option (List ℕ)) → id_at acts row.activity ≡ o → is_some o ≡ true → (id : List ℕ) × (id_at acts row.activity ≡ Some id)
    by None is some = absurd cc
    by (Some id) is some = (id, is)

row-taken : (h : List Entry) (rows : List QueueRow) (log : Log) (before : List QueueRow) (row : QueueRow) (after : List QueueRow) → IsLegal h
    → AreRowsOf (town h) rows
    → ClaimsStand (town h).acts rows log → rows ≡ before ++ row ∷ after → is_taken_in log (id_at (town h).acts row.activity) row.recipient ≡ row.claimed
row-taken h rows log before row after legal are stand split =
    let acts = (town h).acts in
    let all : list_all (has_id acts) (before ++ row ∷ after) ≡ true = ap (list_all (has_id acts)) (sym split) ∙ ids_of (town h) rows are in
    let here =
    and_parts (list_all (has_id acts) before) (list_all (has_id acts) (row ∷ after)) (sym (list_all-append (has_id acts) before (row ∷ after)) ∙ all) in
    let id = some-id acts row (and_parts (has_id acts row) (list_all (has_id acts) after) here.1).0 in
    let p = pair_of id.0 row.recipient in
    let q = is_row_of acts id.0 row.recipient in
    let own : q row ≡ true = named_of acts id.0 row.recipient row id.1 refl in
    ap (λ (o : Option (List ℕ)). is_taken_in log o row.recipient) id.1
    ∙ stand.claimed p
    ∙ ap (list_any (is_claimed_for acts p)) split
    ∙ once_only q (is_claimed_for acts p) before row after (subst (PassesOnce q) split (one_of h rows id.0 row.recipient legal are)) own
    (λ y is. (for_parts acts p y is).1)
    ∙ for-row acts row id.0 own

-- ---- the free rows

-- nobody has claimed the delivery
abbrev is_untaken : Log → Delivery → Bool
is_untaken log d = not (is_taken_in log d.activity d.recipient)

-- the same with one row more
one-freed : (log : Log) (acts : List Act) (m : ℕ) (row : QueueRow) (ds : List Delivery) (free : List QueueRow)
    → is_taken_in log (id_at acts row.activity) row.recipient ≡ row.claimed
    → filter (is_untaken log) ds ≡ map (delivery_in acts) free
    → filter (is_untaken log) (if nat_le row.due m then delivery_in acts row ∷ ds else ds)
    ≡ map (delivery_in acts) (if is_free_at m row then row ∷ free else free)
unfolding is_free_at
one-freed log acts m row ds free taken rest =
    elim (nat_le row.due m) as
    (λ b. filter (is_untaken log) (if b then delivery_in acts row ∷ ds else ds) ≡ map (delivery_in acts) (if not row.claimed && b then row ∷ free else free)) [
      | true ↦ due row.claimed taken
      | false ↦ late row.claimed
    ]
  where
    due : (b : Bool) → is_taken_in log (id_at acts row.activity) row.recipient ≡ b
        → filter (is_untaken log) (delivery_in acts row ∷ ds) ≡ map (delivery_in acts) (if not b && true then row ∷ free else free)
    due true is = rw is rest
    due false is = rw is (ap (λ (xs : List Delivery). delivery_in acts row ∷ xs) rest)

    late : (b : Bool) → filter (is_untaken log) ds ≡ map (delivery_in acts) (if not b && false then row ∷ free else free)
    late true = rest
    late false = rest

due-row : (acts : List Act) (m : ℕ) (row : QueueRow) → is_due_by m (delivery_in acts (release row)) ≡ nat_le row.due m
unfolding is_due_by
due-row acts m row = refl

freed : (h : List Entry) (rows : List QueueRow) (log : Log) (m : ℕ) (before after : List QueueRow) → IsLegal h → AreRowsOf (town h) rows
    → ClaimsStand (town h).acts rows log
    → rows ≡ before ++ after
    → filter (is_untaken log) (filter (is_due_by m) (map (delivery_in (town h).acts) (map release after)))
    ≡ map (delivery_in (town h).acts) (filter (is_free_at m) after)
freed h rows log m before [] legal are stand split = refl
freed h rows log m before (row ∷ after) legal are stand split =
    let acts = (town h).acts in
    let next : rows ≡ (before ++ row ∷ []) ++ after = split ∙ sym (append_assoc before (row ∷ []) after) in
    let ds = filter (is_due_by m) (map (delivery_in acts) (map release after)) in
    ap (λ (b : Bool). filter (is_untaken log) (if b then delivery_in acts row ∷ ds else ds)) (due-row acts m row)
    ∙ one-freed log acts m row ds (filter (is_free_at m) after) (row-taken h rows log before row after legal are stand split)
    (freed h rows log m (before ++ row ∷ []) after legal are stand next)

-- the free deliveries, as the free rows give them
free-rows : (h : List Entry) (rows : List QueueRow) (log : Log) (m : ℕ) → IsLegal h → AreRowsOf (town h) rows → ClaimsStand (town h).acts rows log
    → h ≡ history_of log
    → free_in log m ≡ map (delivery_in (town h).acts) (filter (is_free_at m) rows)
free-rows h rows log m legal are stand of =
    let t = town h in
    ap (λ (es : List Entry). filter (is_untaken log) (due_in (town es) m)) (sym of)
    ∙ ap (filter (is_untaken log)) (
    sym (due_waiting m (queue t))
    ∙ ap (filter (is_due_by m)) (sym (rows_are_queued h legal))
    ∙ ap (λ (ys : List QueueRow). filter (is_due_by m) (map (delivery_in t.acts) ys)) (sym are))
    ∙ freed h rows log m [] rows legal are stand refl

-- the first free row is of the first free delivery
pub first_free : (h : List Entry) (rows : List QueueRow) (log : Log) (m : ℕ) (row : QueueRow) (id r : List ℕ) → IsLegal h → AreRowsOf (town h) rows
    → ClaimsStand (town h).acts rows log → h ≡ history_of log → find (is_free_at m) rows ≡ Some row → id_at (town h).acts row.activity ≡ Some id
    → row.recipient ≡ r
    → IsFirst id r (free_in log m)
first_free h rows log m row id r legal are stand of found named to =
    let first = filter_first (is_free_at m) rows row found in
    subst (λ (ds : List Delivery). IsFirst id r ds)
    (sym (free-rows h rows log m legal are stand of ∙ ap (map (delivery_in (town h).acts)) first.1)) (named, to)

-- and if no row is free, no delivery is
pub none_free : (h : List Entry) (rows : List QueueRow) (log : Log) (m : ℕ) → IsLegal h → AreRowsOf (town h) rows → ClaimsStand (town h).acts rows log
    → h ≡ history_of log
    → find (is_free_at m) rows ≡ None → free_in log m ≡ []
none_free h rows log m legal are stand of found =
    free-rows h rows log m legal are stand of ∙ ap (map (delivery_in (town h).acts)) (filter_none (is_free_at m) rows found)
