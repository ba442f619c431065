-- A claim is of one waiting delivery, and an attempt of it may come next.
use Rattle.std.proofs.Common.{◌≡◌, ◌<◌, ◌≤◌, ℕ, zero, suc, ◌+◌, arith, Bool, true, false, List, [], ◌∷◌, length, Option, Some, None, refl, sym, ap, subst, ◌∙◌, eq-eqb}
use Rattle.std.specs.Prelude.{◌&&◌, ◌||◌, not, IfSome, IsTrue, filter, is_some, map, nat_le, option_map, slice_get, if◌then◌else◌}
use Rattle.std.specs.List.{find, list_all, list_any}
use Rattle.std.proofs.lemmas.Bool.{and_parts, false_from_ne_true, leb-true, not-true, or_parts}
use Rattle.std.proofs.lemmas.List.Folds.{list_all-append}
use Rattle.fedi_address.specs.Iris.{host_of}
use Rattle.fedi_delivery.specs.Deliveries.{peer_for}
use Rattle.fedi_entry.specs.Fields.{MayCome}
use Rattle.fedi_objects.specs.declared.entry.Came.{Came}
use Rattle.fedi_objects.specs.declared.entry.Entry.{Entry}
use Rattle.fedi_objects.specs.declared.entry.Entry.TheVariants.{Tried}
use Rattle.fedi_queue.specs.declared.rows.Claim.{Claim}
use Rattle.fedi_queue.specs.declared.rows.QueueRow.{QueueRow}
use Rattle.fedi_queue.specs.Claims.{change_first, claim, claim_of, is_at, is_claimed_at, is_free_at, release}
use Rattle.fedi_queue.specs.Queues.{IsHeld, is_claimed, is_held_by, is_tried, stays_claimed}
use Rattle.fedi_queue.specs.Rows.{id_at, is_row_of, row_where, rows_by, rows_from, rows_of, rows_to}
use Rattle.fedi_queue.proofs.Addressed.{town_known}
use Rattle.fedi_queue.proofs.Held.{rows_stay}
use Rattle.fedi_queue.proofs.Queued.{one_row, rows_are_due}
use Rattle.fedi_queue.proofs.RowsOf.{rows_unclaimed}
use Rattle.fedi_queue.proofs.Released.{once_released, got_released, of_released}
use Rattle.fedi_queue.proofs.ClaimedRows.{places_of, AreRowsOf, named_of, claimed_at, at_place, has_id, ids_of}
use Rattle.fedi_town.proofs.IdsTown.{HasIds}
use Rattle.fedi_town.specs.declared.act.Act.{Act}
use Rattle.fedi_town.specs.Collections.{text_of}
use Rattle.fedi_town.specs.Histories.{town}
use Rattle.fedi_town.specs.Legal.{IsLegal}
use Rattle.fedi_town.specs.Lists.{PassesOnce}
use Rattle.fedi_town.specs.Queues.{Progress, is_at_peer, is_due, progress_of, sends}
use Rattle.fedi_town.specs.Queues.{Due, Ended}
use Rattle.fedi_town.specs.Towns.{Town, has_host}
use Rattle.fedi_town.proofs.Lists.{any_got, got_any, all_got}
use Rattle.fedi_core.specs.Delivering.{IsClaimOf, attempt_of, claimed_id, claimed_recipient, claimed_row, claims_in}
use Rattle.fedi_core.specs.Keeping.{MayAdd}
use Rattle.fedi_core.specs.Machines.{KeepsClaims}

-- ---- the row of a claim

-- the one that passes is found
found : {A : Type 0} (p q : A → Bool) (xs : List A) (k : ℕ) (x : A) → PassesOnce p xs → ((y : A) → q y ≡ true → p y ≡ true) → slice_get xs k ≡ Some x → q x ≡ true → find q xs ≡ Some x
found p q [] k x once implies got passes = absurd cc
found p q (y ∷ xs) zero x once implies got passes = let same : y ≡ x = cc in rw (same, passes) refl
found {A} p q (y ∷ xs) (suc k) x once implies got passes =
    elim (q y) as (λ b. q y ≡ b → (if b then Some y else find q xs) ≡ Some x) [
      | true ↦ λ own.
          let no : false ≡ true = sym (once.0 (implies y own)) ∙ got_any p xs k x got (implies x passes) in absurd cc
      | false ↦ λ own. found p q xs k x once.1 implies got passes
    ] refl

held-by : (c : Claim) (row : QueueRow) → is_held_by c row ≡ true → (is_claimed_at c.activity c.recipient row ≡ true) × (row.due ≤ c.moment)
unfolding is_held_by
held-by c row held =
    let parts = and_parts (is_claimed_at c.activity c.recipient row) (nat_le row.due c.moment) held in (parts.0, leb-true row.due c.moment parts.1)

-- the position of the row of a claim
record IsRowOf (rows : List QueueRow) (c : Claim) : Type 0 where
  number : ℕ
  row : QueueRow
  there : slice_get rows number ≡ Some row
  claimed : row.claimed ≡ true
  activity : row.activity ≡ c.activity
  place : row.place ≡ c.recipient
  due : row.due ≤ c.moment
  found : claimed_row rows c ≡ Some row

row-of : (t : Town) (rows : List QueueRow) (c : Claim) → AreRowsOf t rows → IsHeld c rows → IsRowOf rows c
row-of t rows c same held =
    let at = any_got (is_held_by c) rows held in
    let by = held-by c at.1 at.3 in
    let own = claimed_at c.activity c.recipient at.1 by.0 in
    let place = at_place c.activity c.recipient at.1 own.1 in record {
      number = at.0;
      row = at.1;
      there = at.2;
      claimed = own.0;
      activity = place.0;
      place = place.1;
      due = by.1;
      found =
          found (is_at c.activity c.recipient) (is_claimed_at c.activity c.recipient) rows at.0 at.1 (places_of t rows c.activity c.recipient same)
          (λ row is. (claimed_at c.activity c.recipient row is).1) at.2 by.0;
    }

some-text : (o : Option (List ℕ)) → is_some o ≡ true → o ≡ Some (text_of o)
some-text None some = absurd cc
some-text (Some id) some = refl

same-claim : (c : Claim) (row : QueueRow) → row.activity ≡ c.activity → row.place ≡ c.recipient → claim_of c.moment row ≡ c
same-claim c row activity place = rw (activity, place) refl

-- a claim that is held is of a waiting delivery
pub held_is_of : (t : Town) (rows : List QueueRow) (c : Claim) → AreRowsOf t rows → IsHeld c rows → IsClaimOf t c (claimed_id t.acts c) (claimed_recipient rows c)
unfolding has_id
held_is_of t rows c same held =
    let at = row-of t rows c same held in
    let there : slice_get (rows_of t) at.number ≡ Some (release at.row) =
    ap (λ (ys : List QueueRow). slice_get ys at.number) (sym same) ∙ got_released rows at.number at.row at.there in
    let some : is_some (id_at t.acts at.row.activity) ≡ true = all_got (has_id t.acts) rows at.number at.row (ids_of t rows same) at.there in record {
      number = at.number;
      row = release at.row;
      there = there;
      claim = same-claim c (release at.row) at.activity at.place;
      due = at.due;
      named = some-text (id_at t.acts at.row.activity) some ∙ ap (λ (n : ℕ). Some (text_of (id_at t.acts n))) at.activity;
      sent_to = sym (ap (λ (o : Option QueueRow). text_of (option_map (λ (r : QueueRow). r.recipient) o)) at.found);
    }

-- the recipient that was found
pub recipient_is : (rows : List QueueRow) (c : Claim) (r : List ℕ) → Some r ≡ option_map (λ (row : QueueRow). row.recipient) (claimed_row rows c) → r ≡ claimed_recipient rows c
recipient_is rows c r found = ap text_of found

-- a claim that is held is of the delivery to this recipient
pub held_is_to : (t : Town) (rows : List QueueRow) (c : Claim) (r : List ℕ) → AreRowsOf t rows → IsHeld c rows → r ≡ claimed_recipient rows c → IsClaimOf t c (claimed_id t.acts c) r
held_is_to t rows c r same held to = subst (λ (s : List ℕ). IsClaimOf t c (claimed_id t.acts c) s) (sym to) (held_is_of t rows c same held)

-- ---- an attempt

pub attempt_may : (h : List Entry) (rows : List QueueRow) (c : Claim) (came : Came) (m : ℕ) → IsLegal h → AreRowsOf (town h) rows → IsHeld c rows → MayCome came.step came.what → c.moment ≤ m
    → MayAdd (town h) (attempt_of (town h) rows c came m)
attempt_may h rows c came m legal same held may later =
    let is = held_is_of (town h) rows c same held in
    let due : is.row.due ≤ m = omega (arith, is.due, later) in record {
      admissible = subst (λ (r : List ℕ). IsTrue (is_due (town h) (claimed_id (town h).acts c) r m)) is.sent_to
          (rows_are_due h is.number is.row (claimed_id (town h).acts c) m legal is.there is.named due);
      attempt = may;
    }

-- the claimed activity has an id
pub claimed_some : (t : Town) (rows : List QueueRow) (c : Claim) → AreRowsOf t rows → IsHeld c rows → IsTrue (is_some (id_at t.acts c.activity))
claimed_some t rows c same held =
    let is = held_is_of t rows c same held in
    let own : is.row.activity ≡ c.activity = ap (λ (d : Claim). d.activity) is.claim in
    ap (λ (o : Option (List ℕ)). is_some o) (ap (λ (n : ℕ). id_at t.acts n) (sym own) ∙ is.named)

-- ---- where it is sent

to-peer : Town → QueueRow → Bool
to-peer t row = is_at_peer t row.recipient

row-peers : (t : Town) (b : Bool) (n k : ℕ) (r : List ℕ) (g : Progress) → is_at_peer t r ≡ b → list_all (to-peer t) (row_where b n k r g) ≡ true
unfolding to-peer
row-peers t false n k r g is = refl
row-peers t true n k r (Ended j) is = refl
row-peers t true n k r (Due j from) is = rw is refl

to-peers : (t : Town) (n : ℕ) (id : List ℕ) (m k : ℕ) (rs : List (List ℕ)) → list_all (to-peer t) (rows_to t (is_at_peer t) n id m k rs) ≡ true
to-peers t n id m k [] = refl
to-peers t n id m k (r ∷ rs) =
    list_all-append (to-peer t) (row_where (is_at_peer t r) n k r (progress_of t id r m)) (rows_to t (is_at_peer t) n id m (suc k) rs)
    ∙ rw (row-peers t (is_at_peer t r) n k r (progress_of t id r m) refl, to-peers t n id m (suc k) rs) refl

by-peers : (t : Town) (n m : ℕ) (rs : List (List ℕ)) (id : Option (List ℕ)) → list_all (to-peer t) (rows_by t (is_at_peer t) n m rs id) ≡ true
by-peers t n m rs None = refl
by-peers t n m rs (Some id) = to-peers t n id m 0 rs

from-peers : (t : Town) (n : ℕ) (xs : List Act) → list_all (to-peer t) (rows_from t (is_at_peer t) n xs) ≡ true
from-peers t n [] = refl
from-peers t n (x ∷ xs) =
    list_all-append (to-peer t) (rows_by t (is_at_peer t) n x.moment (sends t x) x.activity.id) (rows_from t (is_at_peer t) (suc n) xs)
    ∙ rw (by-peers t n x.moment (sends t x) x.activity.id, from-peers t (suc n) xs) refl

all-peers : (t : Town) → list_all (to-peer t) (rows_of t) ≡ true
unfolding rows_of
all-peers t = from-peers t 0 t.acts

find-some : {A : Type 0} (p : A → Bool) (xs : List A) → list_any p xs ≡ true → is_some (find p xs) ≡ true
find-some p [] any = absurd cc
find-some {A} p (x ∷ xs) any =
    elim (p x) as (λ b. (b || list_any p xs) ≡ true → is_some (if b then Some x else find p xs) ≡ true) [
      | true ↦ λ e. refl
      | false ↦ λ e. find-some p xs e
    ] any

some-at : (acts : List Act) (n : ℕ) → is_some (id_at acts n) ≡ true → n < length acts
some-at [] n some = absurd cc
some-at (x ∷ acts) zero some = omega arith
some-at (x ∷ acts) (suc n) some = omega (arith, some-at acts n some)

is-hosted : (h : Option (List ℕ)) (acts : List Act) (n : ℕ) → HasIds h acts → n < length acts → is_some h ≡ true
is-hosted None acts n ids within = absurd (omega (arith, within, ap (λ (xs : List Act). length xs) ids))
is-hosted (Some host) acts n ids within = refl

-- where a claim is sent: the activity, this server's host and the recipient's peer all exist
pub record IsReached (t : Town) (c : Claim) (recipient : List ℕ) : Type 0 where
  pub within : c.activity < length t.acts
  pub host : IsTrue (is_some t.host)
  pub peer : IsTrue (is_some (peer_for t recipient))

pub claim_reaches : (h : List Entry) (c : Claim) (id r : List ℕ) → IsLegal h → IsClaimOf (town h) c id r → IsReached (town h) c r
unfolding to-peer is_at_peer peer_for
claim_reaches h c id r legal is =
    let t : Town = town h in
    let own : is.row.activity ≡ c.activity = ap (λ (d : Claim). d.activity) is.claim in
    let some : is_some (id_at t.acts c.activity) ≡ true = ap (λ (o : Option (List ℕ)). is_some o) (ap (λ (n : ℕ). id_at t.acts n) (sym own) ∙ is.named) in
    let within : c.activity < length t.acts = some-at t.acts c.activity some in
    let to : is_at_peer t is.row.recipient ≡ true = all_got (to-peer t) (rows_of t) is.number is.row (all-peers t) is.there in record {
      within = within;
      host = is-hosted t.host t.acts c.activity (town_known h legal).ids within;
      peer = subst (λ (s : List ℕ). is_some (peer_for t s) ≡ true) is.sent_to (find-some (has_host (host_of is.row.recipient)) t.peers to);
    }

-- ---- what is claimed

changed-got : {A : Type 0} (p : A → Bool) (f : A → A) (xs : List A) (x : A) → find p xs ≡ Some x → (k : ℕ) × (slice_get (change_first p f xs) k ≡ Some (f x))
changed-got p f [] x is = absurd cc
changed-got {A} p f (y ∷ xs) x is =
    elim (p y) as (λ b. (if b then Some y else find p xs) ≡ Some x → (k : ℕ) × (slice_get (if b then f y ∷ xs else y ∷ change_first p f xs) k ≡ Some (f x))) [
      | true ↦ λ e. let same : y ≡ x = cc in (0, ap (λ (z : A). Some (f z)) same)
      | false ↦ λ e. let at = changed-got p f xs x e in (suc at.0, at.1)
    ] is

own-place : (row : QueueRow) → is_claimed_at row.activity row.place (claim row) ≡ true
unfolding is_claimed_at is_at
own-place row = rw (eq-eqb row.activity row.activity refl, eq-eqb row.place row.place refl) refl

claimed-first : (t : Town) (m : ℕ) (rows : List QueueRow) (row : QueueRow) → AreRowsOf t rows → find (is_free_at m) rows ≡ Some row
    → claimed_row (change_first (is_free_at m) claim rows) (claim_of m row) ≡ Some (claim row)
claimed-first t m rows row same first =
    let new : List QueueRow = change_first (is_free_at m) claim rows in
    let at = changed-got (is_free_at m) claim rows row first in
    found (is_at row.activity row.place) (is_claimed_at row.activity row.place) new at.0 (claim row)
    (places_of t new row.activity row.place (rows_stay (is_free_at m) claim rows (λ r. refl) ∙ same))
    (λ r is. (claimed_at row.activity row.place r is).1) at.1 (own-place row)

-- the row of the claim is the first that was free
pub first_claimed : (t : Town) (m : ℕ) (rows new : List QueueRow) (result : Option Claim) → AreRowsOf t rows → result ≡ option_map (claim_of m) (find (is_free_at m) rows)
    → new ≡ change_first (is_free_at m) claim rows → IfSome result (λ c. claimed_row new c ≡ option_map claim (find (is_free_at m) rows))
first_claimed t m rows new result same is made =
    elim (find (is_free_at m) rows) as
    (λ o. find (is_free_at m) rows ≡ o → result ≡ option_map (claim_of m) o → IfSome result (λ c. claimed_row new c ≡ option_map claim o)) [
      | None ↦ λ first e. subst (λ (r : Option Claim). IfSome r (λ c. claimed_row new c ≡ None)) (sym e) tt
      | Some row ↦ λ first e.
          subst (λ (r : Option Claim). IfSome r (λ c. claimed_row new c ≡ Some (claim row))) (sym e)
          (ap (λ (ys : List QueueRow). claimed_row ys (claim_of m row)) made ∙ claimed-first t m rows row same first)
    ] refl is

-- it is of a waiting delivery
pub claims_are_of : (t : Town) (m : ℕ) (rows new : List QueueRow) (result : Option Claim) → AreRowsOf t rows → new ≡ change_first (is_free_at m) claim rows
    → IfSome result (λ c. IsHeld c new) → IfSome result (λ c. IsClaimOf t c (claimed_id t.acts c) (claimed_recipient new c))
claims_are_of t m rows new None same made held = tt
claims_are_of t m rows new (Some c) same made held =
    held_is_of t new c (ap (λ (ys : List QueueRow). map release ys) made ∙ rows_stay (is_free_at m) claim rows (λ r. refl) ∙ same) held

-- ---- how many are claimed

-- one more, if this row is claimed
abbrev one_if : Bool → ℕ
one_if true = 1
one_if false = 0

counted : (row : QueueRow) (rows : List QueueRow) (b : Bool) → row.claimed ≡ b → claims_in (row ∷ rows) ≡ claims_in rows + one_if b
unfolding is_claimed
counted row rows true is = rw is (omega arith)
counted row rows false is = rw is (omega arith)

beside : (row : QueueRow) (xs ys : List QueueRow) → claims_in xs ≡ claims_in ys + 1 → claims_in (row ∷ xs) ≡ claims_in (row ∷ ys) + 1
beside row xs ys more = omega (arith, counted row xs row.claimed refl, counted row ys row.claimed refl, more)

free-now : (m : ℕ) (row : QueueRow) → is_free_at m row ≡ true → row.claimed ≡ false
unfolding is_free_at
free-now m row free = not-true row.claimed (and_parts (not row.claimed) (nat_le row.due m) free).0

claimed-more : (m : ℕ) (rows : List QueueRow) (row : QueueRow) → find (is_free_at m) rows ≡ Some row → claims_in (change_first (is_free_at m) claim rows) ≡ claims_in rows + 1
claimed-more m [] row first = absurd cc
claimed-more m (x ∷ rows) row first =
    elim (is_free_at m x) as
    (λ b. is_free_at m x ≡ b → (if b then Some x else find (is_free_at m) rows) ≡ Some row
    → claims_in (if b then claim x ∷ rows else x ∷ change_first (is_free_at m) claim rows) ≡ claims_in (x ∷ rows) + 1) [
      | true ↦ λ free e. omega (arith, counted (claim x) rows true refl, counted x rows false (free-now m x free))
      | false ↦ λ free e. beside x (change_first (is_free_at m) claim rows) rows (claimed-more m rows row e)
    ] refl first

-- a claim adds one
pub more_claimed : (m : ℕ) (rows new : List QueueRow) (result : Option Claim) → result ≡ option_map (claim_of m) (find (is_free_at m) rows) → new ≡ change_first (is_free_at m) claim rows
    → IfSome result (λ _. claims_in new ≡ claims_in rows + 1)
more_claimed m rows new result is made =
    elim (find (is_free_at m) rows) as (λ o. find (is_free_at m) rows ≡ o → result ≡ option_map (claim_of m) o → IfSome result (λ _. claims_in new ≡ claims_in rows + 1)) [
      | None ↦ λ first e. subst (λ (r : Option Claim). IfSome r (λ _. claims_in new ≡ claims_in rows + 1)) (sym e) tt
      | Some row ↦ λ first e.
          subst (λ (r : Option Claim). IfSome r (λ _. claims_in new ≡ claims_in rows + 1)) (sym e)
          (ap (λ (ys : List QueueRow). claims_in ys) made ∙ claimed-more m rows row first)
    ] refl is

released-fewer : (a p : ℕ) (rows : List QueueRow) → list_any (is_claimed_at a p) rows ≡ true → claims_in rows ≡ claims_in (change_first (is_claimed_at a p) release rows) + 1
released-fewer a p [] any = absurd cc
released-fewer a p (x ∷ rows) any =
    elim (is_claimed_at a p x) as
    (λ b. is_claimed_at a p x ≡ b → (b || list_any (is_claimed_at a p) rows) ≡ true
    → claims_in (x ∷ rows) ≡ claims_in (if b then release x ∷ rows else x ∷ change_first (is_claimed_at a p) release rows) + 1) [
      | true ↦ λ own e. omega (arith, counted x rows true (claimed_at a p x own).0, counted (release x) rows false refl)
      | false ↦ λ own e. beside x rows (change_first (is_claimed_at a p) release rows) (released-fewer a p rows e)
    ] refl any

-- a claim that is given up subtracts one
pub fewer_released : (c : Claim) (rows new : List QueueRow) → IsHeld c rows → new ≡ change_first (is_claimed_at c.activity c.recipient) release rows → claims_in rows ≡ claims_in new + 1
fewer_released c rows new held made =
    let at = any_got (is_held_by c) rows held in
    let own = (held-by c at.1 at.3).0 in
    released-fewer c.activity c.recipient rows (got_any (is_claimed_at c.activity c.recipient) rows at.0 at.1 at.2 own) ∙ ap (λ (ys : List QueueRow). claims_in ys + 1) (sym made)

-- no row of a town is claimed
pub town_unclaimed : (t : Town) → claims_in (rows_of t) ≡ 0
unfolding rows_of is_claimed
town_unclaimed t = all-free (rows_of t) (rows_unclaimed t (is_at_peer t) 0 t.acts)
  where
    all-free : (ys : List QueueRow) → map release ys ≡ ys → claims_in ys ≡ 0
    all-free [] same = refl
    all-free (row ∷ ys) same =
        let own : release row ≡ row = cc in
        let rest : map release ys ≡ ys = cc in
        let free : row.claimed ≡ false = sym (ap (λ (r : QueueRow). r.claimed) own) in
        counted row ys false free ∙ rw (all-free ys rest) refl

-- a claim that is given up leaves the rows of the town
pub rows_released : (t : Town) (rows new : List QueueRow) (a p : ℕ) → AreRowsOf t rows → new ≡ change_first (is_claimed_at a p) release rows → AreRowsOf t new
rows_released t rows new a p same made =
    ap (λ (ys : List QueueRow). map release ys) made ∙ rows_stay (is_claimed_at a p) release rows (λ row. refl) ∙ same

-- if none is claimed, the rows are those of the town
pub none_claimed : (t : Town) (rows : List QueueRow) → AreRowsOf t rows → claims_in rows ≡ 0 → rows ≡ rows_of t
none_claimed t rows same none = sym (all-free rows none) ∙ same
  where
    one : (row : QueueRow) (rest : List QueueRow) (b : Bool) → row.claimed ≡ b → claims_in (row ∷ rest) ≡ 0 → (release row ≡ row) × (claims_in rest ≡ 0)
    one row rest true is none = absurd (omega (arith, counted row rest true is, none))
    one row rest false is none = (sym (ap (λ (b : Bool). record row { claimed = b }) is), omega (arith, counted row rest false is, none))

    all-free : (ys : List QueueRow) → claims_in ys ≡ 0 → map release ys ≡ ys
    all-free [] none = refl
    all-free (row ∷ ys) none = let parts = one row ys row.claimed refl none in rw (parts.0, all-free ys parts.1) refl

-- ---- a delivery is no longer claimed after an attempt

stays-untried : (acts : List Act) (id r : List ℕ) (came : Came) (m : ℕ) (row : QueueRow) → is_row_of acts id r row ≡ false → stays_claimed acts (Tried id r came m) row ≡ is_claimed row
unfolding stays_claimed is_claimed is_tried
stays-untried acts id r came m row other = rw other (by row.claimed)
  where
    by : (b : Bool) → (b && true) ≡ b
    by true = refl
    by false = refl

stays-none : (acts : List Act) (id r : List ℕ) (came : Came) (m : ℕ) (row : QueueRow) → is_row_of acts id r row ≡ true → stays_claimed acts (Tried id r came m) row ≡ false
unfolding stays_claimed is_tried
stays-none acts id r came m row own = rw own (by row.claimed)
  where
    by : (b : Bool) → (b && false) ≡ false
    by true = refl
    by false = refl

none-tried : (acts : List Act) (id r : List ℕ) (came : Came) (m : ℕ) (rows : List QueueRow) → list_any (is_row_of acts id r) rows ≡ false
    → filter (stays_claimed acts (Tried id r came m)) rows ≡ filter is_claimed rows
none-tried acts id r came m [] none = refl
none-tried acts id r came m (row ∷ rows) none =
    let parts = or_parts (is_row_of acts id r row) (list_any (is_row_of acts id r) rows) none in
    rw (stays-untried acts id r came m row parts.0, none-tried acts id r came m rows parts.1) refl

tried-fewer : (acts : List Act) (id r : List ℕ) (came : Came) (m : ℕ) (rows : List QueueRow) (k : ℕ) (row : QueueRow) → PassesOnce (is_row_of acts id r) rows → slice_get rows k ≡ Some row
    → row.claimed ≡ true → is_row_of acts id r row ≡ true → claims_in rows ≡ length (filter (stays_claimed acts (Tried id r came m)) rows) + 1
tried-fewer acts id r came m [] k row once got claimed own = absurd cc
tried-fewer acts id r came m (x ∷ rows) zero row once got claimed own =
    let same : x ≡ row = cc in
    let this : is_row_of acts id r x ≡ true = rw same own in
    counted x rows true (rw same claimed)
    ∙ rw (stays-none acts id r came m x this, none-tried acts id r came m rows (once.0 this)) refl
tried-fewer acts id r came m (x ∷ rows) (suc k) row once got claimed own =
    let s : QueueRow → Bool = stays_claimed acts (Tried id r came m) in
    let other : is_row_of acts id r x ≡ false =
    false_from_ne_true (is_row_of acts id r x) (λ e. let no : false ≡ true = sym (once.0 e) ∙ got_any (is_row_of acts id r) rows k row got own in absurd cc) in
    let rest = tried-fewer acts id r came m rows k row once.1 got claimed own in
    rw (stays-untried acts id r came m x other)
    (elim (is_claimed x) as (λ b. length (if b then x ∷ filter is_claimed rows else filter is_claimed rows) ≡ length (if b then x ∷ filter s rows else filter s rows) + 1) [
      | true ↦ omega (arith, rest)
      | false ↦ rest
    ])

-- after an attempt is kept, one fewer is claimed
pub fewer_recorded : (h : List Entry) (rows new : List QueueRow) (c : Claim) (came : Came) (m : ℕ) → IsLegal h → AreRowsOf (town h) rows → IsHeld c rows
    → KeepsClaims (town h).acts (attempt_of (town h) rows c came m) rows new → claims_in rows ≡ claims_in new + 1
fewer_recorded h rows new c came m legal same held keeps =
    let t : Town = town h in
    let id : List ℕ = claimed_id t.acts c in
    let r : List ℕ = claimed_recipient rows c in
    let at = row-of t rows c same held in
    let of : id_at t.acts at.row.activity ≡ Some id = rw at.activity (some-text (id_at t.acts c.activity) (claimed_some t rows c same held)) in
    let to : at.row.recipient ≡ r = sym (ap (λ (o : Option QueueRow). text_of (option_map (λ (row : QueueRow). row.recipient) o)) at.found) in
    tried-fewer t.acts id r came m rows at.number at.row
    (once_released (is_row_of t.acts id r) rows (of_released t.acts id r) (subst (λ (ys : List QueueRow). PassesOnce (is_row_of t.acts id r) ys) (sym same) (one_row h id r legal)))
    at.there at.claimed (named_of t.acts id r at.row of to)
    ∙ ap (λ (ys : List QueueRow). length ys + 1) (sym keeps)
