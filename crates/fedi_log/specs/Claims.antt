-- What is claimed along a log (ActivityPub, section 7.1): a delivery is given to one pass, which
-- attempts it, and to no other until the outcome is recorded or the delivery is released.
use Rattle.std.specs.Prelude.{◌≡◌, ℕ, ◌&&◌, ◌||◌, Bool, false, not, List, [], ◌∷◌, filter, Option}
use Rattle.std.specs.Prelude.{None, Some, option_map, if◌then◌else◌}
use Rattle.std.specs.List.{find, fold, list_any}
use Rattle.std.specs.Str.{bytes_eq}
use Rattle.fedi_objects.specs.declared.entry.Entry.{Entry}
use Rattle.fedi_objects.specs.declared.entry.Entry.TheVariants.{Hosted, Made, PeerSet, Local}
use Rattle.fedi_objects.specs.declared.entry.Entry.TheVariants.{Remote, Tried}
use Rattle.fedi_queue.specs.declared.rows.Claim.{Claim}
use Rattle.fedi_queue.specs.declared.rows.QueueRow.{QueueRow}
use Rattle.fedi_queue.specs.Claims.{is_claimed_at}
use Rattle.fedi_queue.specs.Due.{IsTo, due_in}
use Rattle.fedi_queue.specs.Queues.{IsHeld}
use Rattle.fedi_queue.specs.Rows.{id_at, is_row_of}
use Rattle.fedi_town.specs.declared.act.Act.{Act}
use Rattle.fedi_town.specs.Histories.{town}
use Rattle.fedi_town.specs.Queues.{Delivery}
use Rattle.fedi_log.specs.declared.items.Item.{Item}
use Rattle.fedi_log.specs.declared.items.Pair.{Pair}
use Rattle.fedi_log.specs.declared.items.What.{What}
use Rattle.fedi_log.specs.declared.items.What.TheVariants.{Entered, Marked, Claimed, Released}
use Rattle.fedi_log.specs.Log.{Log, history_of, is_same_pass}

-- ---- which deliveries are claimed

-- two deliveries are the same one
abbrev pub is_same_pair : Pair → Pair → Bool
is_same_pair p q = bytes_eq p.activity q.activity && bytes_eq p.recipient q.recipient

-- the entry records an attempt of this delivery
abbrev pub tries : Pair → Entry → Bool
tries p (Hosted host moment) = false
tries p (Made name digest locked moment) = false
tries p (PeerSet host key address relay moment) = false
tries p (Local name repeat a moment) = false
tries p (Remote peer inbox a moment) = false
tries p (Tried activity recipient came moment) =
    is_same_pair p (record { activity = activity; recipient = recipient })

-- Whether the delivery is claimed after this, given whether it was before: it is claimed from its
-- claim on, until it is released, or until the outcome of an attempt of it is kept or fails to be
-- kept.
abbrev pub claimed_after : Pair → Bool → What → Bool
claimed_after p held (Entered e) = held && not (tries p e)
claimed_after p held (Marked e) = held && not (tries p e)
claimed_after p held (Claimed q place moment) = held || is_same_pair p q
claimed_after p held (Released q) = held && not (is_same_pair p q)

-- the delivery is claimed at the end of the log
abbrev pub is_claimed_in : Log → Pair → Bool
is_claimed_in log p = fold (λ (held : Bool) (i : Item). claimed_after p held i.what) false log

-- the delivery of an activity to a recipient is claimed, if the activity has an id
abbrev pub is_taken_in : Log → Option (List ℕ) → List ℕ → Bool
is_taken_in log None recipient = false
is_taken_in log (Some id) recipient =
    is_claimed_in log (record { activity = id; recipient = recipient })

-- the deliveries that are due at this moment and not claimed, in the order of the queue
abbrev pub free_in : Log → ℕ → List Delivery
free_in log moment =
    filter (λ (d : Delivery). not (is_taken_in log d.activity d.recipient))
    (due_in (town (history_of log)) moment)

-- the first of these is the delivery of the activity with this id to this recipient
abbrev pub IsFirst : List ℕ → List ℕ → List Delivery → Type 0
IsFirst id recipient [] = ⊥
IsFirst id recipient (d ∷ left) = IsTo id recipient d

-- ---- who has claimed them

-- the last thing that this pass did
abbrev pub last_of : Option ℕ → Log → Option What
last_of by log =
    fold (λ (last : Option What) (i : Item).
    if is_same_pass by i.pass then Some i.what else last) None log

-- this delivery was claimed with this claim
abbrev pub claimed_by : Pair → Claim → What
claimed_by p c = Claimed p (record { activity = c.activity; recipient = c.recipient }) c.moment

-- the pass has claimed this delivery with this claim, and has done nothing since
abbrev pub HasClaimed : Option ℕ → Log → Pair → Claim → Type 0
HasClaimed by log p c = last_of by log ≡ Some (claimed_by p c)

-- ---- a queue and its log

-- the row is of this delivery, and is claimed
unfoldable pub is_claimed_for : List Act → Pair → QueueRow → Bool
is_claimed_for acts p row = row.claimed && is_row_of acts p.activity p.recipient row

-- one of these rows is held by the claim, and it is of this delivery
pub record IsClaimFor (acts : List Act) (rows : List QueueRow) (p : Pair) (c : Claim) : Type 0 where
  pub held : IsHeld c rows
  pub named : id_at acts c.activity ≡ Some p.activity
  pub sent_to : option_map (λ (row : QueueRow). row.recipient)
      (find (is_claimed_at c.activity c.recipient) rows) ≡ Some p.recipient

-- The rows of a queue are claimed as the log says: those of the deliveries that are claimed in it.
-- What a pass has claimed is held for it, and no two passes have claimed one delivery.
pub record ClaimsStand (acts : List Act) (rows : List QueueRow) (log : Log) : Type 0 where
  pub claimed : (p : Pair) → is_claimed_in log p ≡ list_any (is_claimed_for acts p) rows
  pub held : (by : Option ℕ) (p : Pair) (c : Claim) → HasClaimed by log p c
      → IsClaimFor acts rows p c
  pub apart : (by other : Option ℕ) (p : Pair) (c d : Claim) → HasClaimed by log p c
      → HasClaimed other log p d → by ≡ other
