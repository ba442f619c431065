-- What is claimed after a claim, and after a release.
use Rattle.std.proofs.Common.{◌≡◌, ◌≢◌, ◌⊎◌, ℕ, Bool, true, false, List, [], ◌∷◌, ◌++◌, Option, Some, inl, inr, refl, sym, ap, subst, ◌∙◌}
use Rattle.std.specs.Prelude.{◌&&◌, ◌||◌, not, map, nat_le}
use Rattle.std.specs.List.{find, list_any}
use Rattle.std.proofs.lemmas.Bool.{and_from, and_parts, false_from_ne_true, eq-eqb}
use Rattle.std.proofs.lemmas.List.Folds.{list_any-append}
use Rattle.fedi_objects.specs.declared.entry.Came.{Came}
use Rattle.fedi_objects.specs.declared.entry.Entry.{Entry}
use Rattle.fedi_objects.specs.declared.entry.Entry.TheVariants.{Tried}
use Rattle.fedi_queue.specs.declared.rows.Claim.{Claim}
use Rattle.fedi_queue.specs.declared.rows.QueueRow.{QueueRow}
use Rattle.fedi_queue.specs.Claims.{change_first, claim, claim_of, is_at, is_claimed_at, is_free_at, release}
use Rattle.fedi_queue.specs.Rows.{id_at, is_row_of}
use Rattle.fedi_queue.proofs.Held.{rows_stay}
use Rattle.fedi_town.proofs.Texts.{and_none, not_both}
use Rattle.fedi_town.specs.declared.act.Act.{Act}
use Rattle.fedi_town.specs.Histories.{town}
use Rattle.fedi_town.specs.Legal.{IsLegal}
use Rattle.fedi_town.specs.Lists.{PassesOnce}
use Rattle.fedi_log.proofs.Claiming.{IsOlder, and_yes, claimed_more, new_or_older, older, own_pair, same_claim, same_pair}
use Rattle.fedi_queue.proofs.ClaimedRows.{AreRowsOf, named_of, one_of, places_of, claimed_at, at_place}
use Rattle.fedi_log.proofs.ClaimsHeld.{IsRowFor, claim_for, for_parts, only_pair, row_claimed, row_for, row_of_pair}
use Rattle.fedi_log.proofs.Firsts.{any_there, changed_in, find_beside, first_in, found_any, once_found, once_only}
use Rattle.fedi_log.specs.Claims.{ClaimsStand, HasClaimed, IsClaimFor, claimed_after, claimed_by, is_claimed_for, is_claimed_in, is_same_pair}
use Rattle.fedi_log.specs.declared.items.Pair.{Pair}
use Rattle.fedi_log.specs.declared.items.What.{What}
use Rattle.fedi_log.specs.declared.items.What.TheVariants.{Marked, Released}
use Rattle.fedi_log.specs.Log.{Log, made_by}

-- ---- one row replaced by another

any-beside : (q : QueueRow → Bool) (before : List QueueRow) (x y : QueueRow) (after : List QueueRow) → q x ≡ q y
    → list_any q (before ++ x ∷ after) ≡ list_any q (before ++ y ∷ after)
any-beside q before x y after same =
    list_any-append q before (x ∷ after)
    ∙ ap (λ (b : Bool). list_any q before || (b || list_any q after)) same
    ∙ sym (list_any-append q before (y ∷ after))

-- a row that is not that of the claim, before and after its change
row-beside : (acts : List Act) (rows before : List QueueRow) (x y : QueueRow) (after : List QueueRow) (p : Pair) (c : Claim) → rows ≡ before ++ x ∷ after
    → is_claimed_at c.activity c.recipient x ≡ false → is_claimed_at c.activity c.recipient y ≡ false → IsRowFor acts rows p c
    → IsRowFor acts (before ++ y ∷ after) p c
row-beside acts rows before x y after p c split one other is = record {
  row = is.row;
  found =
      sym (find_beside (is_claimed_at c.activity c.recipient) before x y after one other)
      ∙ sym (ap (find (is_claimed_at c.activity c.recipient)) split)
      ∙ is.found;
  due = is.due;
  named = is.named;
  sent_to = is.sent_to;
}

for-released : (acts : List Act) (p : Pair) (row : QueueRow) → is_claimed_for acts p (release row) ≡ false
unfolding is_claimed_for
for-released acts p row = refl

of-released : (acts : List Act) (q : Pair) (row : QueueRow) → is_row_of acts q.activity q.recipient (release row) ≡ is_row_of acts q.activity q.recipient row
unfolding is_row_of
of-released acts q row = refl

at-released : (a p : ℕ) (row : QueueRow) → is_claimed_at a p (release row) ≡ false
unfolding is_claimed_at
at-released a p row = refl

for-unclaimed : (acts : List Act) (p : Pair) (row : QueueRow) → row.claimed ≡ false → is_claimed_for acts p row ≡ false
unfolding is_claimed_for
for-unclaimed acts p row none = rw none refl

at-unclaimed : (a p : ℕ) (row : QueueRow) → row.claimed ≡ false → is_claimed_at a p row ≡ false
unfolding is_claimed_at
at-unclaimed a p row none = rw none refl

for-claimed : (acts : List Act) (p : Pair) (row : QueueRow) → is_claimed_for acts p (claim row) ≡ is_row_of acts p.activity p.recipient row
unfolding is_claimed_for is_row_of
for-claimed acts p row = refl

at-claimed : (a p : ℕ) (row : QueueRow) → is_claimed_at a p (claim row) ≡ is_at a p row
unfolding is_claimed_at is_at
at-claimed a p row = refl

own-place : (row : QueueRow) → is_at row.activity row.place row ≡ true
unfolding is_at
own-place row = rw (eq-eqb row.activity row.activity refl, eq-eqb row.place row.place refl) refl

-- the row is of this delivery alone
of-pair : (acts : List Act) (p q : Pair) (row : QueueRow) → is_row_of acts p.activity p.recipient row ≡ true
    → is_row_of acts q.activity q.recipient row ≡ is_same_pair q p
of-pair acts p q row own =
    elim (is_same_pair q p) as (λ b. is_same_pair q p ≡ b → is_row_of acts q.activity q.recipient row ≡ b) [
      | true ↦ λ same. subst (λ (s : Pair). is_row_of acts s.activity s.recipient row ≡ true) (sym (same_pair q p same)) own
      | false ↦ λ differs.
          false_from_ne_true (is_row_of acts q.activity q.recipient row) (λ both.
          not_both (is_same_pair q p) (subst (λ (s : Pair). is_same_pair q s ≡ true) (only_pair acts q p row both own) (own_pair q)) differs)
    ] refl

-- ---- a claim ends

-- after an item that ends the claim of a delivery, and that is no claim, the row is released
record Ends (p : Pair) (what : What) : Type 0 where
  after : (q : Pair) (held : Bool) → claimed_after q held what ≡ (held && not (is_same_pair q p))
  none : (q : Pair) (d : Claim) → what ≢ claimed_by q d

claims-ended : (h : List Entry) (by : Option ℕ) (rows new : List QueueRow) (log : Log) (p : Pair) (c : Claim) (what : What) → IsLegal h
    → AreRowsOf (town h) rows → Ends p what
    → HasClaimed by log p c → new ≡ change_first (is_claimed_at c.activity c.recipient) release rows → ClaimsStand (town h).acts rows log
    → ClaimsStand (town h).acts new (log ++ made_by by what ∷ [])
claims-ended h by rows new log p c what legal are ends mine made stand =
    let acts = (town h).acts in
    let place = is_claimed_at c.activity c.recipient in
    let is = row_for (town h) rows p c are (stand.held by p c mine) in
    let x = is.row in
    let at = first_in place rows x is.found in
    let all = at.before ++ release x ∷ at.after in
    let now : new ≡ all =
    made ∙ ap (λ (ys : List QueueRow). change_first place release ys) at.is ∙ changed_in place release at.before x at.after at.none at.passes in
    let still : AreRowsOf (town h) all = ap (map release) (sym now ∙ made) ∙ rows_stay place release rows (λ row. refl) ∙ are in
    let own = row_of_pair acts rows p c is in
    subst (λ (ys : List QueueRow). ClaimsStand acts ys (log ++ made_by by what ∷ [])) (sym now) (record {
      claimed = λ q.
          let r = is_claimed_for acts q in
          claimed_more by log what q
          ∙ ends.after q (is_claimed_in log q)
          ∙ ap (λ (b : Bool). b && not (is_same_pair q p)) (stand.claimed q ∙ ap (list_any r) at.is)
          ∙ elim (is_same_pair q p) as (λ b. is_row_of acts q.activity q.recipient x ≡ b → (list_any r (at.before ++ x ∷ at.after) && not b) ≡ list_any r all) [
            | true ↦ λ of.
                and_none (list_any r (at.before ++ x ∷ at.after))
                ∙ sym (once_only (is_row_of acts q.activity q.recipient) r at.before (release x) at.after (one_of h all q.activity q.recipient legal still)
                (of-released acts q x ∙ of) (λ row is. (for_parts acts q row is).1) ∙ for-released acts q x)
            | false ↦ λ of.
                and_yes (list_any r (at.before ++ x ∷ at.after))
                ∙ any-beside r at.before x (release x) at.after
                (false_from_ne_true (r x) (λ is. not_both (is_row_of acts q.activity q.recipient x) (for_parts acts q x is).1 of) ∙ sym (for-released acts q x))
          ] (of-pair acts p q x own);
      held = λ other q d has.
          let old = older by other log what q d (ends.none q d) has in
          let theirs = row_for (town h) rows q d are (stand.held other q d old.before) in
          let differs : is_claimed_at d.activity d.recipient x ≡ false =
          false_from_ne_true (is_claimed_at d.activity d.recipient x) (λ there.
          let here = same-row rows c d x theirs.row is.found theirs.found there at.passes in
          let both = subst (λ (row : QueueRow). is_row_of acts q.activity q.recipient row ≡ true) here (row_of_pair acts rows q d theirs) in
          let same = only_pair acts q p x both own in
          old.apart (stand.apart by other p c d mine (subst (λ (s : Pair). HasClaimed other log s d) same old.before))) in
          claim_for acts all q d (row-beside acts rows at.before x (release x) at.after q d at.is differs (at-released d.activity d.recipient x) theirs);
      apart = λ one other q d k has also.
          stand.apart one other q d k (older by one log what q d (ends.none q d) has).before (older by other log what q k (ends.none q k) also).before;
    })
  where
    -- a row that is at both positions is found at both
    same-row : (rows : List QueueRow) (c d : Claim) (x y : QueueRow) → find (is_claimed_at c.activity c.recipient) rows ≡ Some x
        → find (is_claimed_at d.activity d.recipient) rows ≡ Some y
        → is_claimed_at d.activity d.recipient x ≡ true → is_claimed_at c.activity c.recipient x ≡ true → y ≡ x
    same-row rows c d x y one other there here =
        let a = at_place c.activity c.recipient x (claimed_at c.activity c.recipient x here).1 in
        let b = at_place d.activity d.recipient x (claimed_at d.activity d.recipient x there).1 in
        let acts : d.activity ≡ c.activity = sym b.0 ∙ a.0 in
        let places : d.recipient ≡ c.recipient = sym b.1 ∙ a.1 in
        let both : Some y ≡ Some x =
        sym other ∙ ap (λ (n : ℕ). find (is_claimed_at n d.recipient) rows) acts ∙ ap (λ (n : ℕ). find (is_claimed_at c.activity n) rows) places ∙ one in
        cc

pub claims_released : (h : List Entry) (by : Option ℕ) (rows new : List QueueRow) (log : Log) (p : Pair) (c : Claim) → IsLegal h → AreRowsOf (town h) rows
    → HasClaimed by log p c
    → new ≡ change_first (is_claimed_at c.activity c.recipient) release rows → ClaimsStand (town h).acts rows log
    → ClaimsStand (town h).acts new (log ++ made_by by (Released p) ∷ [])
claims_released h by rows new log p c legal are mine made stand =
    claims-ended h by rows new log p c (Released p) legal are (record { after = λ q held. refl; none = λ q d same. cc }) mine made stand

-- an attempt whose record the keeper failed to keep is released too
pub claims_failed : (h : List Entry) (by : Option ℕ) (rows new : List QueueRow) (log : Log) (p : Pair) (c : Claim) (came : Came) (m : ℕ) → IsLegal h
    → AreRowsOf (town h) rows
    → HasClaimed by log p c → new ≡ change_first (is_claimed_at c.activity c.recipient) release rows → ClaimsStand (town h).acts rows log
    → ClaimsStand (town h).acts new (log ++ made_by by (Marked (Tried p.activity p.recipient came m)) ∷ [])
claims_failed h by rows new log p c came m legal are mine made stand =
    let ends : Ends p (Marked (Tried p.activity p.recipient came m)) = record { after = λ q held. refl; none = λ q d same. cc } in
    claims-ended h by rows new log p c (Marked (Tried p.activity p.recipient came m)) legal are ends mine made stand

-- ---- a delivery is claimed

free-parts : (m : ℕ) (row : QueueRow) → is_free_at m row ≡ true → (row.claimed ≡ false) × (nat_le row.due m ≡ true)
unfolding is_free_at
free-parts m row free = let parts = and_parts (not row.claimed) (nat_le row.due m) free in (by row.claimed parts.0, parts.1)
  where
    by : (b : Bool) → not b ≡ true → b ≡ false
    by true e = absurd cc
    by false e = refl

-- there is a claimed row of it
any-for : (acts : List Act) (rows : List QueueRow) (q : Pair) (d : Claim) → IsRowFor acts rows q d → list_any (is_claimed_for acts q) rows ≡ true
unfolding is_claimed_for
any-for acts rows q d is =
    let at = first_in (is_claimed_at d.activity d.recipient) rows is.row is.found in
    let own : is_claimed_for acts q is.row ≡ true =
    and_from is.row.claimed (is_row_of acts q.activity q.recipient is.row) (row_claimed acts rows q d is) (row_of_pair acts rows q d is) in
    ap (list_any (is_claimed_for acts q)) at.is ∙ any_there (is_claimed_for acts q) at.before is.row at.after own

-- nobody has claimed the delivery of a row that is free
none-has : (h : List Entry) (rows before : List QueueRow) (x : QueueRow) (after : List QueueRow) (log : Log) (p : Pair) → IsLegal h → AreRowsOf (town h) rows
    → ClaimsStand (town h).acts rows log → rows ≡ before ++ x ∷ after → x.claimed ≡ false → is_row_of (town h).acts p.activity p.recipient x ≡ true
    → (other : Option ℕ) (d : Claim) → HasClaimed other log p d → ⊥
none-has h rows before x after log p legal are stand split none own other d has =
    let acts = (town h).acts in
    let q = is_row_of acts p.activity p.recipient in
    let r = is_claimed_for acts p in
    let once : PassesOnce q (before ++ x ∷ after) = subst (λ (ys : List QueueRow). PassesOnce q ys) split (one_of h rows p.activity p.recipient legal are) in
    let not_one : list_any r rows ≡ false =
    ap (list_any r) split ∙ once_only q r before x after once own (λ row is. (for_parts acts p row is).1) ∙ for-unclaimed acts p x none in
    not_both (list_any r rows) (any-for acts rows p d (row_for (town h) rows p d are (stand.held other p d has))) not_one

added-claim : (a b s : Bool) → ((a || b) || s) ≡ (a || (s || b))
added-claim true b s = refl
added-claim false true true = refl
added-claim false true false = refl
added-claim false false true = refl
added-claim false false false = refl

pub claims_claimed : (h : List Entry) (by : Option ℕ) (rows new : List QueueRow) (log : Log) (m : ℕ) (row : QueueRow) (p : Pair) (c : Claim) → IsLegal h
    → AreRowsOf (town h) rows
    → find (is_free_at m) rows ≡ Some row → c ≡ claim_of m row → new ≡ change_first (is_free_at m) claim rows
    → id_at (town h).acts row.activity ≡ Some p.activity
    → row.recipient ≡ p.recipient → ClaimsStand (town h).acts rows log → ClaimsStand (town h).acts new (log ++ made_by by (claimed_by p c) ∷ [])
claims_claimed h by rows new log m x p c legal are first is_claim made named to stand =
    let acts = (town h).acts in
    let at = first_in (is_free_at m) rows x first in
    let free = free-parts m x at.passes in
    let all = at.before ++ claim x ∷ at.after in
    let now : new ≡ all =
    made ∙ ap (λ (ys : List QueueRow). change_first (is_free_at m) claim ys) at.is ∙ changed_in (is_free_at m) claim at.before x at.after at.none at.passes in
    let still : AreRowsOf (town h) all = ap (map release) (sym now ∙ made) ∙ rows_stay (is_free_at m) claim rows (λ row. refl) ∙ are in
    let own = named_of acts p.activity p.recipient x named to in
    let mine : IsRowFor acts all p (claim_of m x) = record {
      row = claim x;
      found =
          once_found (is_at x.activity x.place) (is_claimed_at x.activity x.place) at.before (claim x) at.after
          (places_of (town h) all x.activity x.place still) (λ row is. (claimed_at x.activity x.place row is).1) (at-claimed x.activity x.place x ∙ own-place x);
      due = free.1;
      named = named;
      sent_to = to;
    } in
    let unclaimed = none-has h rows at.before x at.after log p legal are stand at.is free.0 own in
    subst (λ (ys : List QueueRow). ClaimsStand acts ys (log ++ made_by by (claimed_by p c) ∷ [])) (sym now) (record {
      claimed = λ q.
          let r = is_claimed_for acts q in
          let was : list_any r rows ≡ (list_any r at.before || list_any r at.after) =
          ap (list_any r) at.is
          ∙ list_any-append r at.before (x ∷ at.after)
          ∙ ap (λ (b : Bool). list_any r at.before || (b || list_any r at.after)) (for-unclaimed acts q x free.0) in
          claimed_more by log (claimed_by p c) q
          ∙ ap (λ (b : Bool). b || is_same_pair q p) (stand.claimed q ∙ was)
          ∙ added-claim (list_any r at.before) (list_any r at.after) (is_same_pair q p)
          ∙ ap (λ (b : Bool). list_any r at.before || (b || list_any r at.after)) (sym (for-claimed acts q x ∙ of-pair acts p q x own))
          ∙ sym (list_any-append r at.before (claim x ∷ at.after));
      held = λ other q d has.
          elim (new_or_older by other log (claimed_by p c) q d has) as (λ _. IsClaimFor acts all q d) [
            | inl same ↦
                let both = same_claim p q c d same.0 in
                subst (λ (k : Claim). IsClaimFor acts all q k) (sym is_claim ∙ both.1)
                (subst (λ (s : Pair). IsClaimFor acts all s (claim_of m x)) both.0 (claim_for acts all p (claim_of m x) mine))
            | inr old ↦
                let theirs = row_for (town h) rows q d are (stand.held other q d old.before) in
                let once = places_of (town h) rows d.activity d.recipient are in
                let before = at-unclaimed d.activity d.recipient x free.0 in
                let differs : is_claimed_at d.activity d.recipient (claim x) ≡ false =
                at-claimed d.activity d.recipient x ∙ not-there acts rows at.before x at.after q d at.is once free.0 theirs in
                claim_for acts all q d (row-beside acts rows at.before x (claim x) at.after q d at.is before differs theirs)
          ];
      apart = λ one other q d k has also.
          by-age (claimed_by p c) one other q d k (new_or_older by one log (claimed_by p c) q d has) (new_or_older by other log (claimed_by p c) q k also)
          (λ same had. unclaimed other k (subst (λ (s : Pair). HasClaimed other log s k) (sym (same_claim p q c d same).0) had))
          (λ same had. unclaimed one d (subst (λ (s : Pair). HasClaimed one log s d) (sym (same_claim p q c k same).0) had))
          (stand.apart one other q d k);
    })
  where
    -- the row of a claim is the one at its position
    not-there : (acts : List Act) (rows before : List QueueRow) (x : QueueRow) (after : List QueueRow) (q : Pair) (d : Claim) → rows ≡ before ++ x ∷ after
        → PassesOnce (is_at d.activity d.recipient) rows → x.claimed ≡ false → IsRowFor acts rows q d → is_at d.activity d.recipient x ≡ false
    not-there acts rows before x after q d split once none is =
        false_from_ne_true (is_at d.activity d.recipient x) (λ there.
        let r = is_claimed_at d.activity d.recipient in
        let parts : PassesOnce (is_at d.activity d.recipient) (before ++ x ∷ after) = subst (PassesOnce (is_at d.activity d.recipient)) split once in
        not_both (list_any r rows) (found_any r rows is.row is.found)
        (ap (list_any r) split
        ∙ once_only (is_at d.activity d.recipient) r before x after parts there
        (λ row own. (claimed_at d.activity d.recipient row own).1)
        ∙ at-unclaimed d.activity d.recipient x none))

    by-age : (what : What) (one other : Option ℕ) (q : Pair) (d k : Claim) → ((what ≡ claimed_by q d) × (by ≡ one)) ⊎ IsOlder by one log q d
        → ((what ≡ claimed_by q k) × (by ≡ other)) ⊎ IsOlder by other log q k → (what ≡ claimed_by q d → HasClaimed other log q k → ⊥)
        → (what ≡ claimed_by q k → HasClaimed one log q d → ⊥)
        → (HasClaimed one log q d → HasClaimed other log q k → one ≡ other) → one ≡ other
    by-age what one other q d k (inl a) (inl b) first second both = sym a.1 ∙ b.1
    by-age what one other q d k (inl a) (inr b) first second both = absurd (first a.0 b.before)
    by-age what one other q d k (inr a) (inl b) first second both = absurd (second b.0 a.before)
    by-age what one other q d k (inr a) (inr b) first second both = both a.before b.before
