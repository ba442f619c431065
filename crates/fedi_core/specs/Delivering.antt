-- What is claimed of the waiting deliveries (ActivityPub, section 7.1), and the entry of an
-- attempt.
use Rattle.std.specs.Prelude.{◌≡◌, ℕ, ◌≤◌, List, Option, Some, filter, length, option_map}
use Rattle.std.specs.Prelude.{slice_get}
use Rattle.std.specs.List.{find}
use Rattle.fedi_delivery.specs.declared.sending.Outgoing.{Outgoing}
use Rattle.fedi_delivery.specs.Deliveries.{IsOutgoing, post_to}
use Rattle.fedi_objects.specs.declared.entry.Came.{Came}
use Rattle.fedi_objects.specs.declared.entry.Entry.{Entry}
use Rattle.fedi_objects.specs.declared.entry.Entry.TheVariants.{Tried}
use Rattle.fedi_queue.specs.declared.rows.Claim.{Claim}
use Rattle.fedi_queue.specs.declared.rows.QueueRow.{QueueRow}
use Rattle.fedi_queue.specs.Claims.{claim_of, is_claimed_at}
use Rattle.fedi_queue.specs.Queues.{is_claimed}
use Rattle.fedi_queue.specs.Rows.{id_at, rows_of}
use Rattle.fedi_town.specs.declared.act.Act.{Act}
use Rattle.fedi_town.specs.Collections.{text_of}
use Rattle.fedi_town.specs.Towns.{Town}
use Rattle.fedi_core.specs.declared.delivering.RecordFault.{RecordFault}
use Rattle.fedi_core.specs.declared.delivering.RecordFault.TheVariants as records
use Rattle.fedi_core.specs.declared.keeping.KeepFault.{KeepFault}
use Rattle.fedi_core.specs.declared.keeping.KeepFault.TheVariants.{Full, Failed, Memory}

-- ---- what is claimed

-- how many deliveries are claimed
abbrev pub claims_in : List QueueRow → ℕ
claims_in rows = length (filter is_claimed rows)

-- the delivery of a claim
abbrev pub claimed_row : List QueueRow → Claim → Option QueueRow
claimed_row rows c = find (is_claimed_at c.activity c.recipient) rows

-- the id of its activity
abbrev pub claimed_id : List Act → Claim → List ℕ
claimed_id acts c = text_of (id_at acts c.activity)

-- its recipient
abbrev pub claimed_recipient : List QueueRow → Claim → List ℕ
claimed_recipient rows c = text_of (option_map (λ row. row.recipient) (claimed_row rows c))

-- The claim is of a waiting delivery that was due at the claim's moment: that of the activity with
-- this id to this recipient.
pub record IsClaimOf (t : Town) (c : Claim) (id recipient : List ℕ) : Type 0 where
  pub number : ℕ
  pub row : QueueRow
  pub there : slice_get (rows_of t) number ≡ Some row
  pub claim : claim_of c.moment row ≡ c
  pub due : row.due ≤ c.moment
  pub named : id_at t.acts row.activity ≡ Some id
  pub sent_to : row.recipient ≡ recipient

-- ---- what is sent

-- what is sent for the claimed delivery, except for the post to the inbox
pub record IsSentFor (t : Town) (rows : List QueueRow) (c : Claim) (o : Outgoing) : Type 0 where
  pub act : Act
  pub there : slice_get t.acts c.activity ≡ Some act
  pub sent : IsOutgoing t act (claimed_recipient rows c) o

-- the post of the body to the inbox, for the claimed delivery
abbrev pub IsPostFor : Town → List QueueRow → Claim → (inbox body text : List ℕ) → Type 0
IsPostFor t rows c inbox body text = Some text ≡ post_to t (claimed_recipient rows c) inbox body

-- ---- what is kept about an attempt

-- the entry of an attempt of the delivery of a claim
abbrev pub attempt_of : Town → List QueueRow → Claim → Came → ℕ → Entry
attempt_of t rows c came moment = Tried (claimed_id t.acts c) (claimed_recipient rows c) came moment

-- why its entry was not kept
abbrev pub keep_fault : RecordFault → KeepFault
keep_fault records.KeeperFault = Failed
keep_fault records.Full = Full
keep_fault records.Memory = Memory
