-- What a pass claims of a machine with its log, and what becomes of the claim.
use Rattle.std.specs.Prelude.{◌≡◌, ◌⊎◌, ℕ, ◌+◌, ◌-◌, ◌^◌, ◌≤◌, List, ◌∷◌, [], ◌++◌, length, map}
use Rattle.std.specs.Prelude.{IsTrue, Option, None, Some, is_some, Result, Ok, Err, slice_get}
use Rattle.std.specs.declared.alloc.AllocError.{AllocError}
use Rattle.fedi_core.specs.Delivering.{claims_in}
use Rattle.fedi_core.specs.declared.delivering.RecordFault.{RecordFault}
use Rattle.fedi_core.specs.declared.delivering.RecordFault.TheVariants.{KeeperFault, Full, Memory}
use Rattle.fedi_delivery.specs.declared.sending.Outgoing.{Outgoing}
use Rattle.fedi_delivery.specs.Deliveries.{IsOutgoing, lookup_to, post_to}
use Rattle.fedi_entry.specs.Codes.{code_of}
use Rattle.fedi_log.specs.Claims.{ClaimsStand, HasClaimed, IsFirst, claimed_by, free_in}
use Rattle.fedi_log.specs.Keeping.{Base, end_of}
use Rattle.fedi_core.specs.Machines.{Machine}
use Rattle.fedi_log.specs.Log as outcomes
use Rattle.fedi_log.specs.Log.{Log, Outcome, history_of, made_by}
use Rattle.fedi_log.specs.declared.items.Item.{Item}
use Rattle.fedi_log.specs.declared.items.Pair.{Pair}
use Rattle.fedi_log.specs.declared.items.What.{What}
use Rattle.fedi_log.specs.declared.items.What.TheVariants.{Entered, Marked, Released}
use Rattle.fedi_objects.specs.declared.entry.Came.{Came}
use Rattle.fedi_objects.specs.declared.entry.Entry.{Entry}
use Rattle.fedi_objects.specs.declared.entry.Entry.TheVariants.{Tried}
use Rattle.fedi_outside.specs.Keepers.{HasRoom, IsFull}
use Rattle.fedi_queue.specs.declared.rows.Claim.{Claim}
use Rattle.fedi_queue.specs.declared.rows.QueueRow.{QueueRow}
use Rattle.fedi_queue.specs.Claims.{release}
use Rattle.fedi_queue.specs.Rows.{rows_of}
use Rattle.fedi_town.specs.declared.act.Act.{Act}
use Rattle.fedi_town.specs.Histories.{town}
use Rattle.fedi_town.specs.Towns.{Town}
use Rattle.fedi_logged.specs.declared.claims.Sending.{Sending}

-- The rows are those of the town, claimed as the log says, and this many are claimed, each by an
-- item of the log. The log has room for the item that ends each claim: its length fits in a u64.
pub record IsClaiming (t : Town) (rows : List QueueRow) (log : Log)
    (front claimed : ℕ) : Type 0 where
  pub queue : map release rows ≡ rows_of t
  pub stand : ClaimsStand t.acts rows log
  pub counted : claimed ≡ claims_in rows
  pub few : claimed ≤ front
  pub room : front + claimed ≤ 2 ^ 64 - 1

-- some delivery is claimed with this claim, and the pass has done nothing since
abbrev pub IsClaimed : Option ℕ → Log → Claim → Type 0
IsClaimed by log c = (p : Pair) × HasClaimed by log p c

-- the item of a claim
abbrev pub claim_item : Option ℕ → Pair → Claim → Item
claim_item by p c = made_by by (claimed_by p c)

-- The first delivery that is due at this moment and was not claimed is claimed, or there is none.
abbrev pub Claims : Option ℕ → ℕ → Log → Log → Option Claim → Type 0
Claims by moment log now None = (free_in log moment ≡ []) × (now ≡ log)
Claims by moment log now (Some c) =
    (p : Pair) × (c.moment ≡ moment) × IsFirst p.activity p.recipient (free_in log moment)
    × (now ≡ log ++ claim_item by p c ∷ [])

-- the recipient of a claimed delivery, and what is sent to deliver it, except for the post to the
-- inbox
pub record IsSending (t : Town) (p : Pair) (c : Claim) (recipient : List ℕ)
    (o : Outgoing) : Type 0 where
  pub act : Act
  pub there : slice_get t.acts c.activity ≡ Some act
  pub named : act.activity.id ≡ Some p.activity
  pub recipient_is : recipient ≡ p.recipient
  pub sent : IsOutgoing t act p.recipient o

-- the log has 2^63 - 1 items or more: only then can it lack room for a claim and its end
abbrev pub IsCrowded : Log → Type 0
IsCrowded log = 2 ^ 63 ≤ length log + 1

-- The first delivery that is due at this moment and was not claimed is claimed, with what is sent
-- to deliver it; or there is none; or the log is crowded and nothing was claimed; or there is no
-- memory, and the delivery is released again.
abbrev pub TakesUp : Option ℕ → ℕ → Log → Log → Result (Option Sending) AllocError → Type 0
TakesUp by moment log now (Ok None) = (free_in log moment ≡ []) × (now ≡ log)
TakesUp by moment log now (Ok (Some s)) =
    (p : Pair) × (s.claim.moment ≡ moment) × IsFirst p.activity p.recipient (free_in log moment)
    × IsSending (town (history_of log)) p s.claim s.recipient s.outgoing
    × (now ≡ log ++ claim_item by p s.claim ∷ [])
TakesUp by moment log now (Err e) =
    ((now ≡ log) × IsCrowded log)
    ⊎ ((p : Pair) × (c : Claim) × (c.moment ≡ moment)
    × IsFirst p.activity p.recipient (free_in log moment)
    × (now ≡ (log ++ claim_item by p c ∷ []) ++ made_by by (Released p) ∷ []))

-- The text is the post of the body to the inbox for the recipient, as at each earlier log that had
-- a lookup of it: neither this host nor a peer changes.
abbrev pub IsPostSince : Log → Pair → (inbox body text : List ℕ) → Type 0
IsPostSince log p inbox body text =
    (seen more : Log) → log ≡ seen ++ more
    → IsTrue (is_some (lookup_to (town (history_of seen)) p.recipient))
    → Some text ≡ post_to (town (history_of seen)) p.recipient inbox body

-- the entry of the outcome of an attempt
abbrev pub tried : Pair → Came → ℕ → Entry
tried p came moment = Tried p.activity p.recipient came moment

-- Whether there was room for an entry of this length, given what became of it: there was if it was
-- kept or the keeper failed to keep it, and there was none if the error is that the keeper is full.
abbrev pub FitsIf : (ℕ → ℕ) → ℕ → ℕ → Result (Unit {0}) RecordFault → Type 0
FitsIf room end length (Ok done) = HasRoom room end length
FitsIf room end length (Err KeeperFault) = HasRoom room end length
FitsIf room end length (Err Full) = IsFull room end length
FitsIf room end length (Err Memory) = Unit {0}

-- what is added to the log: the entry, or its mark, or the release of the delivery
abbrev pub what_after : Pair → Came → ℕ → Result (Unit {0}) RecordFault → What
what_after p came moment (Ok done) = Entered (tried p came moment)
what_after p came moment (Err KeeperFault) = Marked (tried p came moment)
what_after p came moment (Err Full) = Released p
what_after p came moment (Err Memory) = Released p

-- what the turn that ends an attempt does to the machine, given what became of its entry
abbrev pub outcome_of : Entry → Result (Unit {0}) RecordFault → Outcome
outcome_of e (Ok done) = outcomes.Kept e
outcome_of e (Err KeeperFault) = outcomes.Failed e
outcome_of e (Err Full) = outcomes.Full e
outcome_of e (Err Memory) = outcomes.NoEntry

-- a turn that changes nothing of the machine but what is claimed: not even its keeper was asked
pub record ChangesClaims {P : Type 0} (before after : Machine P) : Type 0 where
  pub history : after.history ≡ before.history
  pub keeper : after.keeper ≡ before.keeper

-- What becomes of an attempt of the delivery: its entry is kept; or the keeper failed to keep it;
-- or the keeper has no room for it, or there is no memory, and the delivery is released.
pub record Records (b : Base) (by : Option ℕ) (log now : Log) (p : Pair) (came : Came) (moment : ℕ)
    (recorded : Result (Unit {0}) RecordFault) : Type 0 where
  pub fits : FitsIf b.room (end_of b log) (length (code_of (tried p came moment))) recorded
  pub grown : now ≡ log ++ made_by by (what_after p came moment recorded) ∷ []
