-- What the last items of a log say of claims.
use Rattle.std.proofs.Common.{◌≡◌, ◌≢◌, ◌⊎◌, ℕ, Bool, true, false, List, [], ◌∷◌, ◌++◌, All, Option, Some, None, inl, inr, refl, sym, ap, subst, ◌∙◌}
use Rattle.std.specs.Prelude.{◌&&◌, not, if◌then◌else◌}
use Rattle.std.specs.List.{fold}
use Rattle.std.specs.Str.{bytes_eq}
use Rattle.std.proofs.lemmas.Bool.{and_parts, eqb-true}
use Rattle.std.proofs.lemmas.List.Elements.{All-head, All-tail}
use Rattle.std.proofs.lemmas.List.Sums.{fold-append, fold_push}
use Rattle.fedi_objects.specs.declared.entry.Entry.{Entry}
use Rattle.fedi_queue.specs.declared.rows.Claim.{Claim}
use Rattle.fedi_queue.specs.declared.rows.QueueRow.{QueueRow}
use Rattle.fedi_town.proofs.Texts.{bytes_eq-is, bytes_eq-same, not_both}
use Rattle.fedi_town.specs.declared.act.Act.{Act}
use Rattle.fedi_log.proofs.Growing.{other_pass, own_pass}
use Rattle.fedi_log.specs.Claims.{ClaimsStand, HasClaimed, IsClaimFor, claimed_after, claimed_by, is_claimed_in, is_same_pair, last_of, tries}
use Rattle.fedi_log.specs.declared.items.Item.{Item}
use Rattle.fedi_log.specs.declared.items.Pair.{Pair}
use Rattle.fedi_log.specs.declared.items.What.{What}
use Rattle.fedi_log.specs.declared.items.What.TheVariants.{Entered, Marked, Claimed, Released}
use Rattle.fedi_log.specs.Log.{Goes, IsOthers, Log, given, is_same_pass, made_by}

-- ---- the last item of a pass

-- the last item of a pass after this one
abbrev pub last_after : Option ℕ → Option What → Item → Option What
last_after by last i = if is_same_pass by i.pass then Some i.what else last

pub last_more : (by other : Option ℕ) (log : Log) (what : What)
    → last_of other (log ++ made_by by what ∷ []) ≡ (if is_same_pass other by then Some what else last_of other log)
last_more by other log what = fold_push (last_after other) None log (made_by by what)

-- a claim that a pass has just made is the last thing that it did
pub has_claimed_now : (by : Option ℕ) (log : Log) (p : Pair) (c : Claim) → HasClaimed by (log ++ made_by by (claimed_by p c) ∷ []) p c
has_claimed_now by log p c =
    last_more by by log (claimed_by p c) ∙ ap (λ (b : Bool). if b then Some (claimed_by p c) else last_of by log) (own_pass by)

others_last : (by : Option ℕ) (last : Option What) (rest : Log) → All (IsOthers by) rest → fold (last_after by) last rest ≡ last
others_last by last [] a = refl
others_last by last (i ∷ rest) a =
    ap (λ (b : Bool). fold (last_after by) (if b then Some i.what else last) rest) (other_pass by i.pass (All-head (IsOthers by) i rest a))
    ∙ others_last by last rest (All-tail (IsOthers by) i rest a)

-- items of others do not change what a pass did last
pub still_last : (by : Option ℕ) (seen log : Log) → Goes by seen log → last_of by log ≡ last_of by seen
still_last by seen log g =
    ap (last_of by) g.is ∙ fold-append (last_after by) None seen g.rest ∙ others_last by (last_of by seen) g.rest g.others

pub still_claimed : (by : Option ℕ) (seen log : Log) (p : Pair) (c : Claim) → Goes by seen log → HasClaimed by seen p c → HasClaimed by log p c
still_claimed by seen log p c g has = still_last by seen log g ∙ has

-- what a pass has claimed is held for it
pub claimed_is : (acts : List Act) (rows : List QueueRow) (log : Log) (by : Option ℕ) (p : Pair) (c : Claim) → ClaimsStand acts rows log → HasClaimed by log p c
    → IsClaimFor acts rows p c
claimed_is acts rows log by p c stand has = stand.held by p c has

-- ---- claims that are older than the last item

-- the last thing that this pass did was this claim, and the item after it is of another pass
pub record IsOlder (by other : Option ℕ) (log : Log) (p : Pair) (c : Claim) : Type 0 where
  pub apart : by ≢ other
  pub before : HasClaimed other log p c

same_then : (by other : Option ℕ) → is_same_pass other by ≡ false → by ≢ other
same_then by other differs is = not_both (is_same_pass other by) (subst (λ (o : Option ℕ). is_same_pass o by ≡ true) is (own_pass by)) differs

-- after an item that is not this claim, a pass that has made this claim had made it before
pub older : (by other : Option ℕ) (log : Log) (what : What) (p : Pair) (c : Claim) → what ≢ claimed_by p c
    → HasClaimed other (log ++ made_by by what ∷ []) p c → IsOlder by other log p c
older by other log what p c differs has =
    elim (is_same_pass other by) as
    (λ b. is_same_pass other by ≡ b → (if b then Some what else last_of other log) ≡ Some (claimed_by p c) → IsOlder by other log p c) [
      | true ↦ λ own e. let same : what ≡ claimed_by p c = cc in absurd (differs same)
      | false ↦ λ own e. record { apart = same_then by other own; before = e }
    ] refl (sym (last_more by other log what) ∙ has)

is_pass : (other by : Option ℕ) → is_same_pass other by ≡ true → by ≡ other
is_pass None None same = refl
is_pass None (Some n) same = absurd cc
is_pass (Some m) None same = absurd cc
is_pass (Some m) (Some n) same = ap (λ (k : ℕ). Some k) (sym (eqb-true m n same))

-- a claim is the last item, or it is older
pub new_or_older : (by other : Option ℕ) (log : Log) (what : What) (p : Pair) (c : Claim) → HasClaimed other (log ++ made_by by what ∷ []) p c
    → ((what ≡ claimed_by p c) × (by ≡ other)) ⊎ IsOlder by other log p c
new_or_older by other log what p c has =
    elim (is_same_pass other by) as
    (λ b. is_same_pass other by ≡ b → (if b then Some what else last_of other log) ≡ Some (claimed_by p c)
    → ((what ≡ claimed_by p c) × (by ≡ other)) ⊎ IsOlder by other log p c) [
      | true ↦ λ own e. let same : what ≡ claimed_by p c = cc in inl (same, is_pass other by own)
      | false ↦ λ own e. inr (record { apart = same_then by other own; before = e })
    ] refl (sym (last_more by other log what) ∙ has)

-- ---- which deliveries are claimed after one more item

pub claimed_more : (by : Option ℕ) (log : Log) (what : What) (p : Pair)
    → is_claimed_in (log ++ made_by by what ∷ []) p ≡ claimed_after p (is_claimed_in log p) what
claimed_more by log what p = fold_push (λ (held : Bool) (i : Item). claimed_after p held i.what) false log (made_by by what)

-- ---- deliveries

-- the delivery of an activity to a recipient
abbrev pub pair_of : List ℕ → List ℕ → Pair
pair_of activity recipient = record { activity = activity; recipient = recipient }

pub same_pair : (p q : Pair) → is_same_pair p q ≡ true → p ≡ q
same_pair p q same =
    let parts = and_parts (bytes_eq p.activity q.activity) (bytes_eq p.recipient q.recipient) same in
    ap (λ (a : List ℕ). pair_of a p.recipient) (bytes_eq-is p.activity q.activity parts.0)
    ∙ ap (λ (r : List ℕ). pair_of q.activity r) (bytes_eq-is p.recipient q.recipient parts.1)

pub own_pair : (p : Pair) → is_same_pair p p ≡ true
own_pair p = rw (bytes_eq-same p.activity, bytes_eq-same p.recipient) refl

-- the delivery of an item that is a claim
abbrev pair_in : Pair → What → Pair
pair_in d (Entered e) = d
pair_in d (Marked e) = d
pair_in d (Claimed p place moment) = p
pair_in d (Released p) = d

abbrev claim_in : Claim → What → Claim
claim_in d (Entered e) = d
claim_in d (Marked e) = d
claim_in d (Claimed p place moment) = record { activity = place.activity; recipient = place.recipient; moment = moment }
claim_in d (Released p) = d

pub same_claim : (p q : Pair) (c d : Claim) → claimed_by p c ≡ claimed_by q d → (p ≡ q) × (c ≡ d)
same_claim p q c d same = (ap (pair_in p) same, ap (claim_in c) same)

-- ---- a given log

-- the last item is no claim
abbrev IsNoClaim : Option What → Type 0
IsNoClaim None = Unit {0}
IsNoClaim (Some (Entered e)) = Unit {0}
IsNoClaim (Some (Marked e)) = Unit {0}
IsNoClaim (Some (Claimed p place moment)) = ⊥
IsNoClaim (Some (Released p)) = Unit {0}

given_last : (by : Option ℕ) (last : Option What) (history : List Entry) → IsNoClaim last → IsNoClaim (fold (last_after by) last (given history))
given_last by last [] none = none
given_last by last (e ∷ history) none =
    given_last by (if is_same_pass by None then Some (Entered e) else last) history
    (elim (is_same_pass by None) as (λ b. IsNoClaim (if b then Some (Entered e) else last)) [ true ↦ tt | false ↦ none ])

-- nobody has claimed anything in it
pub given_unclaimed : (by : Option ℕ) (history : List Entry) (p : Pair) (c : Claim) → HasClaimed by (given history) p c → ⊥
given_unclaimed by history p c has = subst IsNoClaim has (given_last by None history tt)

none-claimed : (p : Pair) (held : Bool) (history : List Entry) → held ≡ false
    → fold (λ (held : Bool) (i : Item). claimed_after p held i.what) held (given history) ≡ false
none-claimed p held [] none = none
none-claimed p held (e ∷ history) none = none-claimed p (held && not (tries p e)) history (rw none refl)

pub given_free : (history : List Entry) (p : Pair) → is_claimed_in (given history) p ≡ false
given_free history p = none-claimed p false history refl

-- ---- an attempt whose record was not kept

pub and_yes : (a : Bool) → (a && true) ≡ a
and_yes true = refl
and_yes false = refl

-- an entry that is of no attempt and was not kept leaves each claim
pub claims_marked : (e : Entry) (by : Option ℕ) (acts : List Act) (rows : List QueueRow) (log : Log) → ((p : Pair) → tries p e ≡ false)
    → ClaimsStand acts rows log
    → ClaimsStand acts rows (log ++ made_by by (Marked e) ∷ [])
claims_marked e by acts rows log none stand = record {
  claimed = λ p. claimed_more by log (Marked e) p ∙ rw (none p) (and_yes (is_claimed_in log p) ∙ stand.claimed p);
  held = λ other p c has. stand.held other p c (older by other log (Marked e) p c (no_claim p c) has).before;
  apart = λ one other p c d has also.
      stand.apart one other p c d (older by one log (Marked e) p c (no_claim p c) has).before (older by other log (Marked e) p d (no_claim p d) also).before;
}
  where
    no_claim : (p : Pair) (c : Claim) → Marked e ≢ claimed_by p c
    no_claim p c same = cc
