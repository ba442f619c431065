-- The row of a claim, and which claims stay when an entry is kept.
use Rattle.std.proofs.Common.{◌≡◌, ◌≢◌, ℕ, Bool, true, false, List, [], ◌∷◌, ◌++◌, Option, Some, None, refl, sym, ap, subst, ◌∙◌}
use Rattle.std.specs.Prelude.{◌&&◌, not, filter, nat_le, option_map}
use Rattle.std.specs.List.{find, list_any}
use Rattle.std.proofs.lemmas.Bool.{and_from, and_parts, false_from_ne_true, not_from_false}
use Rattle.std.proofs.lemmas.List.Sums.{fold_push}
use Rattle.fedi_objects.specs.declared.entry.Came.{Came}
use Rattle.fedi_objects.specs.declared.entry.Entry.{Entry}
use Rattle.fedi_objects.specs.declared.entry.Entry.TheVariants.{Hosted, Made, PeerSet, Local, Remote, Tried}
use Rattle.fedi_queue.specs.declared.rows.Claim.{Claim}
use Rattle.fedi_queue.specs.declared.rows.QueueRow.{QueueRow}
use Rattle.fedi_queue.specs.Claims.{is_at, is_claimed_at}
use Rattle.fedi_queue.specs.Queues.{is_claimed, is_held_by, is_tried, stays_claimed}
use Rattle.fedi_queue.specs.Rows.{id_at, is_row_of, rows_of}
use Rattle.fedi_queue.proofs.Due.{rows_fresh}
use Rattle.fedi_town.proofs.Texts.{and_none, not_both}
use Rattle.fedi_town.specs.declared.act.Act.{Act}
use Rattle.fedi_town.specs.Histories.{step, town}
use Rattle.fedi_town.specs.Lists.{PassesOnce}
use Rattle.fedi_town.specs.Towns.{Town, empty_town}
use Rattle.fedi_town.proofs.Lists.{filter-agree}
use Rattle.fedi_log.proofs.Claiming.{and_yes, claimed_more, given_free, given_unclaimed, older, own_pair, pair_of, same_pair}
use Rattle.fedi_queue.proofs.ClaimedRows.{AreRowsOf, has_id, id_stays, ids_of, named_of, of_named, of_stays, places_of, claimed_at, at_place}
use Rattle.fedi_log.proofs.Firsts.{any_gone, any_kept, any_same, any_there, find_kept, find_left, first_in, once_only}
use Rattle.fedi_log.specs.Claims.{ClaimsStand, HasClaimed, IsClaimFor, claimed_by, is_claimed_for, is_claimed_in, is_same_pair, tries}
use Rattle.fedi_log.specs.declared.items.Pair.{Pair}
use Rattle.fedi_log.specs.declared.items.What.TheVariants.{Entered}
use Rattle.fedi_log.specs.Log.{Log, given, made_by}

-- ---- the row of a claim

held-parts : (c : Claim) (row : QueueRow) → is_held_by c row ≡ true → (is_claimed_at c.activity c.recipient row ≡ true) × (nat_le row.due c.moment ≡ true)
unfolding is_held_by
held-parts c row held = and_parts (is_claimed_at c.activity c.recipient row) (nat_le row.due c.moment) held

held-row : (c : Claim) (row : QueueRow) → is_claimed_at c.activity c.recipient row ≡ true → nat_le row.due c.moment ≡ true → is_held_by c row ≡ true
unfolding is_held_by
held-row c row own due = rw (own, due) refl

-- the claimed row at the position of the claim
pub record IsRowFor (acts : List Act) (rows : List QueueRow) (p : Pair) (c : Claim) : Type 0 where
  pub row : QueueRow
  pub found : find (is_claimed_at c.activity c.recipient) rows ≡ Some row
  pub due : nat_le row.due c.moment ≡ true
  pub named : id_at acts c.activity ≡ Some p.activity
  pub sent_to : row.recipient ≡ p.recipient

pub row_for : (t : Town) (rows : List QueueRow) (p : Pair) (c : Claim) → AreRowsOf t rows → IsClaimFor t.acts rows p c → IsRowFor t.acts rows p c
row_for t rows p c same is = by (find (is_claimed_at c.activity c.recipient) rows) refl is.sent_to
  where
    by : (o : Option QueueRow) → find (is_claimed_at c.activity c.recipient) rows ≡ o → option_map (λ (row : QueueRow). row.recipient) o ≡ Some p.recipient
        → IsRowFor t.acts rows p c
    by None found to = absurd cc
    by (Some row) found to =
        let at = first_in (is_claimed_at c.activity c.recipient) rows row found in
        let once : PassesOnce (is_at c.activity c.recipient) (at.before ++ row ∷ at.after) =
        subst (λ (ys : List QueueRow). PassesOnce (is_at c.activity c.recipient) ys) at.is (places_of t rows c.activity c.recipient same) in
        let only = once_only (is_at c.activity c.recipient) (is_held_by c) at.before row at.after once (claimed_at c.activity c.recipient row at.passes).1
        (λ y held. (claimed_at c.activity c.recipient y (held-parts c y held).0).1) in
        let held : is_held_by c row ≡ true = sym only ∙ (sym (ap (list_any (is_held_by c)) at.is) ∙ is.held) in
        let to_own : row.recipient ≡ p.recipient = cc in
        record { row = row; found = found; due = (held-parts c row held).1; named = is.named; sent_to = to_own }

pub claim_for : (acts : List Act) (rows : List QueueRow) (p : Pair) (c : Claim) → IsRowFor acts rows p c → IsClaimFor acts rows p c
claim_for acts rows p c is =
    let at = first_in (is_claimed_at c.activity c.recipient) rows is.row is.found in record {
      held = ap (list_any (is_held_by c)) at.is ∙ any_there (is_held_by c) at.before is.row at.after (held-row c is.row at.passes is.due);
      named = is.named;
      sent_to = ap (λ (o : Option QueueRow). option_map (λ (row : QueueRow). row.recipient) o) is.found ∙ ap (λ (r : List ℕ). Some r) is.sent_to;
    }

-- it is claimed, and is of the delivery
pub row_claimed : (acts : List Act) (rows : List QueueRow) (p : Pair) (c : Claim) (is : IsRowFor acts rows p c) → is.row.claimed ≡ true
row_claimed acts rows p c is =
    (claimed_at c.activity c.recipient is.row (first_in (is_claimed_at c.activity c.recipient) rows is.row is.found).passes).0

pub row_of_pair : (acts : List Act) (rows : List QueueRow) (p : Pair) (c : Claim) (is : IsRowFor acts rows p c)
    → is_row_of acts p.activity p.recipient is.row ≡ true
row_of_pair acts rows p c is =
    let at = claimed_at c.activity c.recipient is.row (first_in (is_claimed_at c.activity c.recipient) rows is.row is.found).passes in
    named_of acts p.activity p.recipient is.row (ap (λ (n : ℕ). id_at acts n) (at_place c.activity c.recipient is.row at.1).0 ∙ is.named) is.sent_to

-- a row is of one delivery
pub only_pair : (acts : List Act) (p q : Pair) (row : QueueRow) → is_row_of acts p.activity p.recipient row ≡ true
    → is_row_of acts q.activity q.recipient row ≡ true → p ≡ q
only_pair acts p q row one other =
    let a = of_named acts p.activity p.recipient row one in
    let b = of_named acts q.activity q.recipient row other in
    let both : Some p.activity ≡ Some q.activity = sym a.0 ∙ b.0 in
    let ids : p.activity ≡ q.activity = cc in
    ap (λ (i : List ℕ). pair_of i p.recipient) ids ∙ ap (λ (r : List ℕ). pair_of q.activity r) (sym a.1 ∙ b.1)

pub for_parts : (acts : List Act) (p : Pair) (row : QueueRow) → is_claimed_for acts p row ≡ true
    → (row.claimed ≡ true) × (is_row_of acts p.activity p.recipient row ≡ true)
unfolding is_claimed_for
for_parts acts p row is = and_parts row.claimed (is_row_of acts p.activity p.recipient row) is

-- ---- what is claimed stays claimed

is-claimed : (row : QueueRow) → row.claimed ≡ true → is_claimed row ≡ true
unfolding is_claimed
is-claimed row own = own

stays-on : (acts : List Act) (e : Entry) (row : QueueRow) → row.claimed ≡ true → is_tried acts e row ≡ false → stays_claimed acts e row ≡ true
unfolding stays_claimed
stays-on acts e row own none = and_from row.claimed (not (is_tried acts e row)) own (not_from_false (is_tried acts e row) none)

-- an entry that records no attempt records none for a row
pub untried : (acts : List Act) (e : Entry) (row : QueueRow) → ((p : Pair) → tries p e ≡ false) → is_tried acts e row ≡ false
unfolding is_tried
untried acts (Hosted host moment) row none = refl
untried acts (Made name digest locked moment) row none = refl
untried acts (PeerSet host key address relay moment) row none = refl
untried acts (Local name repeat a moment) row none = refl
untried acts (Remote peer inbox a moment) row none = refl
untried acts (Tried activity recipient came moment) row none =
    let p = pair_of activity recipient in absurd (not_both (is_same_pair p p) (own_pair p) (none p))

stays-same : (acts : List Act) (e : Entry) (row : QueueRow) → is_tried acts e row ≡ false → stays_claimed acts e row ≡ is_claimed row
unfolding stays_claimed is_claimed
stays-same acts e row none = rw none (and_yes row.claimed)

pub stays_all : (acts : List Act) (e : Entry) (rows : List QueueRow) → ((p : Pair) → tries p e ≡ false)
    → filter (stays_claimed acts e) rows ≡ filter is_claimed rows
stays_all acts e rows none = filter-agree (stays_claimed acts e) is_claimed (λ row. stays-same acts e row (untried acts e row none)) rows

-- a claim whose delivery the entry does not attempt
pub row_stays : (acts now : List Act) (e : Entry) (rows new : List QueueRow) (p : Pair) (c : Claim) (is : IsRowFor acts rows p c)
    → filter is_claimed new ≡ filter (stays_claimed acts e) rows → is_tried acts e is.row ≡ false → id_at now c.activity ≡ Some p.activity
    → IsRowFor now new p c
row_stays acts now e rows new p c is same none named =
    let q = is_claimed_at c.activity c.recipient in record {
      row = is.row;
      found =
          sym (find_kept q is_claimed new (λ row own. is-claimed row (claimed_at c.activity c.recipient row own).0))
          ∙ ap (find q) same
          ∙ find_left q (stays_claimed acts e) rows is.row is.found (stays-on acts e is.row (row_claimed acts rows p c is) none);
      due = is.due;
      named = named;
      sent_to = is.sent_to;
    }

-- ---- a given log

none-claimed : (acts : List Act) (p : Pair) (rows : List QueueRow) → filter is_claimed rows ≡ [] → list_any (is_claimed_for acts p) rows ≡ false
none-claimed acts p rows none =
    sym (any_kept (is_claimed_for acts p) is_claimed rows (λ row own. is-claimed row (for_parts acts p row own).0)) ∙ ap (list_any (is_claimed_for acts p)) none

-- nothing is claimed at an opening
pub claims_opened : (h : List Entry) → ClaimsStand (town h).acts (rows_of (town h)) (given h)
claims_opened h = record {
  claimed = λ p. given_free h p ∙ sym (none-claimed (town h).acts p (rows_of (town h)) (rows_fresh (town h)).1);
  held = λ by p c has. absurd (given_unclaimed by h p c has);
  apart = λ by other p c d has also. absurd (given_unclaimed by h p c has);
}

-- ---- an entry that is kept

entered-none : (e : Entry) (p : Pair) (c : Claim) → Entered e ≢ claimed_by p c
entered-none e p c same = cc

for-stays : (h : List Entry) (e : Entry) (p : Pair) (row : QueueRow) → has_id (town h).acts row ≡ true
    → is_claimed_for (town (h ++ e ∷ [])).acts p row ≡ is_claimed_for (town h).acts p row
unfolding is_claimed_for
for-stays h e p row some = ap (λ (b : Bool). row.claimed && b) (of_stays h e p.activity p.recipient row some)

-- one that is of no attempt leaves each claim
pub claims_kept : (h : List Entry) (e : Entry) (by : Option ℕ) (rows new : List QueueRow) (log : Log) → AreRowsOf (town h) rows
    → ((p : Pair) → tries p e ≡ false)
    → filter is_claimed new ≡ filter (stays_claimed (town h).acts e) rows → ClaimsStand (town h).acts rows log
    → ClaimsStand (town (h ++ e ∷ [])).acts new (log ++ made_by by (Entered e) ∷ [])
claims_kept h e by rows new log are none same stand =
    let acts = (town h).acts in
    let now = (town (h ++ e ∷ [])).acts in
    record {
      claimed = λ p.
          let q = is_claimed_for now p in
          let own : (row : QueueRow) → q row ≡ true → is_claimed row ≡ true = λ row is. is-claimed row (for_parts now p row is).0 in
          claimed_more by log (Entered e) p ∙ rw (none p) (
          and_yes (is_claimed_in log p)
          ∙ stand.claimed p
          ∙ sym (any_same (has_id acts) q (is_claimed_for acts p) rows (ids_of (town h) rows are) (λ row some. for-stays h e p row some))
          ∙ sym (any_kept q is_claimed rows own)
          ∙ sym (ap (list_any q) (same ∙ stays_all acts e rows none))
          ∙ any_kept q is_claimed new own);
      held = λ other p c has.
          let is = row_for (town h) rows p c are (stand.held other p c (older by other log (Entered e) p c (entered-none e p c) has).before) in
          claim_for now new p c (row_stays acts now e rows new p c is same (untried acts e is.row none) (id_stays h e c.activity p.activity is.named));
      apart = λ one other p c d has also.
          stand.apart one other p c d (older by one log (Entered e) p c (entered-none e p c) has).before
          (older by other log (Entered e) p d (entered-none e p d) also).before;
    }

-- ---- the outcome of an attempt is kept

tried-is : (acts : List Act) (p : Pair) (came : Came) (m : ℕ) (row : QueueRow)
    → is_tried acts (Tried p.activity p.recipient came m) row ≡ is_row_of acts p.activity p.recipient row
unfolding is_tried
tried-is acts p came m row = refl

tried-gone : (acts : List Act) (e : Entry) (row : QueueRow) → is_tried acts e row ≡ true → stays_claimed acts e row ≡ false
unfolding stays_claimed
tried-gone acts e row tried = rw tried (and_none row.claimed)

-- which deliveries are still claimed
left-claimed : (acts : List Act) (p q : Pair) (came : Came) (m : ℕ) (rows : List QueueRow)
    → (list_any (is_claimed_for acts q) rows && not (is_same_pair q p))
    ≡ list_any (is_claimed_for acts q) (filter (stays_claimed acts (Tried p.activity p.recipient came m)) rows)
left-claimed acts p q came m rows =
    let e = Tried p.activity p.recipient came m in
    let r = is_claimed_for acts q in
    elim (is_same_pair q p) as (λ b. is_same_pair q p ≡ b → (list_any r rows && not b) ≡ list_any r (filter (stays_claimed acts e) rows)) [
      | true ↦ λ own.
          and_none (list_any r rows)
          ∙ sym (any_gone r (stays_claimed acts e) rows (λ row is. tried-gone acts e row
          (tried-is acts p came m row
          ∙ subst (λ (s : Pair). is_row_of acts s.activity s.recipient row ≡ true) (same_pair q p own) (for_parts acts q row is).1)))
      | false ↦ λ own.
          and_yes (list_any r rows)
          ∙ sym (any_kept r (stays_claimed acts e) rows (λ row is. stays-on acts e row (for_parts acts q row is).0
          (tried-is acts p came m row ∙ false_from_ne_true (is_row_of acts p.activity p.recipient row) (λ both.
          let same = only_pair acts q p row (for_parts acts q row is).1 both in
          not_both (is_same_pair q p) (subst (λ (s : Pair). is_same_pair q s ≡ true) same (own_pair q)) own))))
    ] refl

-- the claim is used up, and those of others stay
pub claims_recorded : (h : List Entry) (by : Option ℕ) (rows new : List QueueRow) (log : Log) (p : Pair) (c : Claim) (came : Came) (m : ℕ)
    → AreRowsOf (town h) rows
    → HasClaimed by log p c → filter is_claimed new ≡ filter (stays_claimed (town h).acts (Tried p.activity p.recipient came m)) rows
    → ClaimsStand (town h).acts rows log
    → ClaimsStand (town (h ++ Tried p.activity p.recipient came m ∷ [])).acts new (log ++ made_by by (Entered (Tried p.activity p.recipient came m)) ∷ [])
claims_recorded h by rows new log p c came m are mine same stand =
    let e = Tried p.activity p.recipient came m in
    let acts = (town h).acts in
    let stay : (town (h ++ e ∷ [])).acts ≡ acts = ap (λ (t : Town). t.acts) (fold_push step empty_town h e) in
    subst (λ (now : List Act). ClaimsStand now new (log ++ made_by by (Entered e) ∷ [])) (sym stay) (record {
      claimed = λ q.
          let r = is_claimed_for acts q in
          claimed_more by log (Entered e) q
          ∙ ap (λ (b : Bool). b && not (is_same_pair q p)) (stand.claimed q)
          ∙ left-claimed acts p q came m rows
          ∙ sym (ap (list_any r) same)
          ∙ any_kept r is_claimed new (λ row is. is-claimed row (for_parts acts q row is).0);
      held = λ other q d has.
          let old = older by other log (Entered e) q d (entered-none e q d) has in
          let is = row_for (town h) rows q d are (stand.held other q d old.before) in
          let none : is_tried acts e is.row ≡ false =
          tried-is acts p came m is.row ∙ false_from_ne_true (is_row_of acts p.activity p.recipient is.row) (λ both.
          let own = only_pair acts q p is.row (row_of_pair acts rows q d is) both in
          old.apart (stand.apart by other p c d mine (subst (λ (s : Pair). HasClaimed other log s d) own old.before))) in
          claim_for acts new q d (row_stays acts acts e rows new q d is same none is.named);
      apart = λ one other q d k has also.
          stand.apart one other q d k (older by one log (Entered e) q d (entered-none e q d) has).before
          (older by other log (Entered e) q k (entered-none e q k) also).before;
    })
