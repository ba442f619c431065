-- What becomes of an activity that a peer delivers (ActivityPub, section 7.1).
use Rattle.std.specs.Prelude.{ℕ, Bool, false, List, Option, Some, None, if◌then◌else◌}
use Rattle.fedi_address.specs.Recipients.{is_among}
use Rattle.fedi_objects.specs.declared.activity.Activity.{Activity}
use Rattle.fedi_town.specs.declared.act.Act.{Act}
use Rattle.fedi_town.specs.declared.act.Peer.{Peer}
use Rattle.fedi_town.specs.Origins.{is_foreign, has_inbox}
use Rattle.fedi_town.specs.Histories.{is_known}
use Rattle.fedi_town.specs.Towns.{Town}
use Rattle.fedi_inbound.specs.declared.judging.Verdict.{Verdict}
use Rattle.fedi_inbound.specs.declared.judging.Verdict.TheVariants.{New, AddInbox, Repeat}
use Rattle.fedi_inbound.specs.declared.judging.Verdict.TheVariants.{NotOrigin}

-- the activity goes to this owner
unfoldable pub is_recipient : List ℕ → Act → Bool
is_recipient owner x = is_among owner x.recipients

-- an activity with this id was accepted
abbrev pub is_known_by : Town → Option (List ℕ) → Bool
is_known_by t None = false
is_known_by t (Some id) = is_known t id

-- What becomes of a peer's delivery to the inbox of this owner: if the peer may not deliver it, it
-- is refused; if the inbox has it, nothing changes; if it is known, it goes to one more inbox; if
-- it is new, it is accepted.
abbrev pub verdict : Town → Peer → List ℕ → Activity → Verdict
verdict t p owner a =
    if is_foreign t.host p a.actor a.id a.object then NotOrigin else (
    if has_inbox t a.id owner then Repeat else (if is_known_by t a.id then AddInbox else New))
