-- The queue, as its callers see it, and what an entry makes of it.
use Rattle.std.specs.Prelude.{◌≡◌, ℕ, ◌≤◌, ◌<◌, Bool, false, true, not, ◌&&◌, nat_eq, nat_le, ⊤, IsTrue}
use Rattle.std.specs.Prelude.{List, [], ◌++◌, map, filter, Option, Some, None, slice_get, vec_len}
use Rattle.std.specs.List.{list_any}
use Rattle.std.specs.Str.{bytes_eq}
use Rattle.fedi_objects.specs.declared.entry.Entry.{Entry}
use Rattle.fedi_objects.specs.declared.entry.Entry.TheVariants.{Hosted, Made, PeerSet, Local}
use Rattle.fedi_objects.specs.declared.entry.Entry.TheVariants.{Remote, Tried}
use Rattle.fedi_objects.specs.declared.activity.Activity.{Activity}
use Rattle.fedi_objects.specs.declared.entry.Came.{Came}
use Rattle.fedi_queue.specs.declared.changes.Change.{Change}
use Rattle.fedi_queue.specs.declared.changes.Change.TheVariants as changes
use Rattle.fedi_queue.specs.declared.rows.Claim.{Claim}
use Rattle.fedi_queue.specs.declared.rows.QueueRow.{QueueRow}
use Rattle.fedi_queue.specs.Claims.{carried, is_claimed_at, release, replace_at, settled}
use Rattle.fedi_queue.specs.Rows.{is_row_of, rows_of}
use Rattle.fedi_register.specs.Changes.{place_where}
use Rattle.fedi_town.specs.declared.act.Act.{Act}
use Rattle.fedi_town.specs.Forwarding.{forwards_of}
use Rattle.fedi_town.specs.Histories.{step}
use Rattle.fedi_town.specs.Queues.{Progress, after_outcome, outcome}
use Rattle.fedi_town.specs.Queues.{Due, Ended}
use Rattle.fedi_town.specs.Towns.{Town}

-- the history whose deliveries wait, their rows, some of which are claimed, and the entry for which
-- room was made
pub record Queued : Type 0 where
  pub history : List Entry
  pub rows : List QueueRow
  pub room : Option Entry

-- ---- claims

-- somebody has claimed it
unfoldable pub is_claimed : QueueRow → Bool
is_claimed row = row.claimed

-- it is claimed as the claim says, and was due then
unfoldable pub is_held_by : Claim → QueueRow → Bool
is_held_by c row = is_claimed_at c.activity c.recipient row && nat_le row.due c.moment

-- one of these rows is held by the claim
abbrev pub IsHeld : Claim → List QueueRow → Type 0
IsHeld c rows = IsTrue (list_any (is_held_by c) rows)

-- the row is that of the delivery that the entry has tried
unfoldable pub is_tried : List Act → Entry → QueueRow → Bool
is_tried acts (Hosted host moment) row = false
is_tried acts (Made name digest locked moment) row = false
is_tried acts (PeerSet host key address relay moment) row = false
is_tried acts (Local name repeat a moment) row = false
is_tried acts (Remote peer inbox a moment) row = false
is_tried acts (Tried activity recipient came moment) row = is_row_of acts activity recipient row

-- it is claimed, and stays claimed after the entry
unfoldable pub stays_claimed : List Act → Entry → QueueRow → Bool
stays_claimed acts e row = row.claimed && not (is_tried acts e row)

-- A claim is held until its delivery is tried.
abbrev pub ClaimsAreHeld : Type 0
ClaimsAreHeld =
    (acts : List Act) (e : Entry) (rows new : List QueueRow) (c : Claim)
    → filter is_claimed new ≡ filter (stays_claimed acts e) rows
    → list_any (λ row. is_held_by c row && is_tried acts e row) rows ≡ false → IsHeld c rows
    → IsHeld c new

-- ---- forwards

-- who an activity of another server is forwarded to when it arrives for the first time
-- (ActivityPub, section 7.1.2)
abbrev pub forwards_by : Town → Option (List ℕ) → Activity → List (List ℕ)
forwards_by t None a = []
forwards_by t (Some author) a = forwards_of t author a

-- the same, with its actor as the author
abbrev pub forwards : Town → Activity → List (List ℕ)
forwards t a = forwards_by t a.actor a

-- ---- what is made ready for an entry

-- the row is that of the activity with this number, to this recipient
unfoldable pub is_row_for : ℕ → List ℕ → QueueRow → Bool
is_row_for activity recipient row = nat_eq row.activity activity && bytes_eq row.recipient recipient

-- the moment from which the next attempt is due, if there is one
abbrev pub due_of : Progress → Option ℕ
due_of (Due attempts from) = Some from
due_of (Ended attempts) = None

-- the rows after what was made ready
abbrev pub rows_with : Change → List QueueRow → List QueueRow
rows_with changes.Nothing rows = rows
rows_with (changes.Added more) rows = rows ++ more.items
rows_with (changes.Settled place due) rows = replace_at place (settled due) rows
rows_with (changes.Rebuilt list) rows = carried rows list.items

-- Whatever is claimed: if the rows are those of the town, after the change they are those of the
-- town after the entry, and the same rows are claimed except what was tried.
pub record Fits (t : Town) (e : Entry) (change : Change) : Type 0 where
  pub rows : (rows : List QueueRow) → map release rows ≡ rows_of t
      → map release (rows_with change rows) ≡ rows_of (step t e)
  pub claims :
      (rows : List QueueRow) → map release rows ≡ rows_of t
      → filter is_claimed (rows_with change rows) ≡ filter (stays_claimed t.acts e) rows

-- it adds rows
abbrev pub adds_rows : Change → Bool
adds_rows changes.Nothing = false
adds_rows (changes.Added more) = true
adds_rows (changes.Settled place due) = false
adds_rows (changes.Rebuilt list) = false

-- room for the entry may take memory: every entry may make rows except an attempt, which ends one
-- or keeps it
abbrev pub takes_memory : Entry → Bool
takes_memory (Hosted host moment) = true
takes_memory (Made name digest locked moment) = true
takes_memory (PeerSet host key address relay moment) = true
takes_memory (Local name repeat a moment) = true
takes_memory (Remote peer inbox a moment) = true
takes_memory (Tried id recipient came moment) = false

-- there is room for it among this many rows
abbrev pub HasRoom : Change → ℕ → ℕ → Type 0
HasRoom changes.Nothing count room = ⊤
HasRoom (changes.Added more) count room = vec_len more ≤ room
HasRoom (changes.Settled place due) count room = place < count
HasRoom (changes.Rebuilt list) count room = ⊤

-- it is about one of this many rows
abbrev pub IsWithin : Change → ℕ → Type 0
IsWithin changes.Nothing count = ⊤
IsWithin (changes.Added more) count = ⊤
IsWithin (changes.Settled place due) count = place < count
IsWithin (changes.Rebuilt list) count = ⊤

-- this is when the next attempt of this row is due after one more
abbrev pub IsNext : Option ℕ → Came → ℕ → Option QueueRow → Type 0
IsNext due came moment None = ⊥
IsNext due came moment (Some row) = due ≡ due_of (after_outcome row.attempts moment (outcome came))

-- the first of these rows that is for this activity and this recipient is settled by the result of
-- the attempt
abbrev pub IsSettling : ℕ → List ℕ → Came → ℕ → List QueueRow → Change → Type 0
IsSettling activity recipient came moment rows changes.Nothing =
    None ≡ place_where (is_row_for activity recipient) rows
IsSettling activity recipient came moment rows (changes.Added more) = ⊥
IsSettling activity recipient came moment rows (changes.Settled place due) =
    (Some place ≡ place_where (is_row_for activity recipient) rows)
    × IsNext due came moment (slice_get rows place)
IsSettling activity recipient came moment rows (changes.Rebuilt list) = ⊥
