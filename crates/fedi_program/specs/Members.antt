-- Making a member: the operator's command, the key that is drawn for it, and what is printed.
use Rattle.std.specs.Prelude.{◌≡◌, ◌⊎◌, ℕ, Bool, true, false, List, [], ◌++◌, length, codes, Option}
use Rattle.std.specs.Prelude.{None}
use Rattle.std.specs.Io.KnownBytes.{Consumes, Keeps}
use Rattle.hex.specs.Hex.{encode_lower}
use Rattle.sha2.specs.Sha256.{sha256}
use Rattle.fedi_address.specs.Names.{is_name}
use Rattle.fedi_objects.specs.declared.entry.Entry.{Entry}
use Rattle.fedi_objects.specs.declared.entry.Entry.TheVariants.{Made}
use Rattle.fedi_town.specs.declared.command_fault.CommandFault.{CommandFault}
use Rattle.fedi_town.specs.declared.command_fault.CommandFault.TheVariants.{NameTaken, KeyTaken}
use Rattle.fedi_town.specs.declared.command_fault.CommandFault.TheVariants.{HostTaken, BadAddress}
use Rattle.fedi_town.specs.declared.command_fault.CommandFault.TheVariants.{Full, KeeperFault}
use Rattle.fedi_town.specs.declared.command_fault.CommandFault.TheVariants.{Memory}
use Rattle.fedi_town.specs.Histories.{town}
use Rattle.fedi_town.specs.Legal.{broken_command}
use Rattle.fedi_outside.specs.Causes.{next_count}
use Rattle.fedi_outside.specs.Keepers.{after_fault}
use Rattle.fedi_log.specs.Keeping.{State}
use Rattle.fedi_core.specs.Commands.{RefusesCommand}
use Rattle.fedi_core.specs.Keeping.{IsKept}
use Rattle.fedi_logged.specs.Conversations.{IsNow}
use Rattle.fedi_logged.specs.Endings.{Output, Writes, WritesUnlessFailed}
use Rattle.fedi_program.specs.Endings.{Prints}
use Rattle.fedi_program.specs.Seen.{Chance}

-- ---- keys

-- the key was drawn: it consists of the bytes that came next
pub record Draws (before now : Chance) (key : List ℕ) : Type 0 where
  pub bytes : Consumes before.next now.next key
  pub length_is : length key ≡ 32
  pub calm : now.faults ≡ before.faults

-- no key was drawn, because the draw failed
pub record FailsToDraw (before now : Chance) : Type 0 where
  pub bytes : Keeps before.next now.next
  pub cause : now.faults ≡ next_count before.faults

-- ---- what is printed

-- the line that gives the operator the key of a new member: the name, a space, and the key in 64
-- digits
unfoldable pub key_line : List ℕ → List ℕ → List ℕ
key_line name key = name ++ (codes " " ++ (encode_lower key ++ codes "\n"))

-- the line that refuses a command for this reason
abbrev pub refusal_line : List ℕ → List ℕ
refusal_line reason = codes "refused: " ++ (reason ++ codes "\n")

-- the text was printed, unless that write failed; the status stays
abbrev pub Reports : Output → Output → ℕ → List ℕ → ℕ → Type 0
Reports before now status text given = (given ≡ status) × WritesUnlessFailed before now [] text

-- what is printed for a command that was refused, and the status: the rule that is broken (10), a
-- keeper that failed (5) or one that has no room (13); if memory ran out (12), nothing is printed
abbrev pub ReportsFault : CommandFault → Output → Output → ℕ → Type 0
ReportsFault NameTaken before now status =
    Reports before now 10 (refusal_line (codes "name taken")) status
ReportsFault KeyTaken before now status =
    Reports before now 10 (refusal_line (codes "key taken")) status
ReportsFault HostTaken before now status =
    Reports before now 10 (refusal_line (codes "host taken")) status
ReportsFault BadAddress before now status =
    Reports before now 10 (refusal_line (codes "bad address")) status
ReportsFault Full before now status = Reports before now 13 (codes "full\n") status
ReportsFault KeeperFault before now status = Reports before now 5 (codes "disk fault\n") status
ReportsFault Memory before now status = (status ≡ 12) × Writes before now []

-- ---- the command

-- the entry of a new member: it has the digest of the key, and not the key
abbrev pub member_entry : List ℕ → List ℕ → Bool → ℕ → Entry
member_entry name key locked moment = Made name (sha256 key) locked moment

-- the entry was kept, and the line printed, unless that write failed (7)
abbrev pub IsMade : (ℕ → ℕ) → (ℕ → ℕ) → State → State → Output → Output → Entry → List ℕ
    → ℕ → Type 0
IsMade growth room before after first now e line status =
    (broken_command (town before.history) e ≡ None)
    × IsKept growth room before.history e before.keeper after.keeper after.history
    × Prints first now line status

-- a keeper that failed was asked once to settle what may be in doubt: then nothing is in doubt, or
-- that failed too
abbrev pub IsSettled : State → State → Type 0
IsSettled failed after =
    (after.history ≡ failed.history)
    × ((after.keeper ≡ record failed.keeper { doubt = None })
    ⊎ (after.keeper ≡ after_fault failed.keeper))

-- what was done after a command was refused for this reason
abbrev pub SettlesAfter : CommandFault → State → State → Type 0
SettlesAfter KeeperFault refused after = IsSettled refused after
SettlesAfter fault refused after = after ≡ refused

-- the entry was refused for this reason: a rule was broken, or the keeper did not keep it
abbrev pub IsUnmade : (ℕ → ℕ) → State → State → Entry → CommandFault → Type 0
IsUnmade room before after e fault =
    (refused : State) × (refused.history ≡ before.history)
    × RefusesCommand room (town before.history) e fault before.keeper refused.keeper
    × SettlesAfter fault refused after

-- How a command ends that is to keep this entry and then to print this line: the entry is refused,
-- and the reason is reported, or the entry is kept.
abbrev pub EndsWith : (ℕ → ℕ) → (ℕ → ℕ) → State → State → Output → Output → Entry → List ℕ
    → ℕ → Type 0
EndsWith growth room before after first now e line status =
    ((fault : CommandFault) × IsUnmade room before after e fault
    × ReportsFault fault first now status)
    ⊎ IsMade growth room before after first now e line status

-- a command was refused for this reason, before there was an entry to keep: the reason is reported
-- (10), and nothing was done
abbrev pub IsRefusedFor : List ℕ → State → State → Output → Output → ℕ → Type 0
IsRefusedFor reason before after first now status =
    (after ≡ before) × Reports first now 10 (refusal_line reason) status

-- How the making of a member of this name ends: no key could be drawn (6), or one was drawn, and
-- the text is not a valid name, or else the entry is refused or kept.
abbrev pub MakesMember : (ℕ → ℕ) → (ℕ → ℕ) → Option ℕ → Chance → Chance → State → State → Output
    → Output → List ℕ → Bool → ℕ → Type 0
MakesMember growth room told chance left before after first now name locked status =
    ((status ≡ 6) × FailsToDraw chance left × (after ≡ before) × Writes first now [])
    ⊎ ((key : List ℕ) × (moment : ℕ) × Draws chance left key × IsNow told moment
    × (((is_name name ≡ false) × IsRefusedFor (codes "bad name") before after first now status)
    ⊎ ((is_name name ≡ true)
    × EndsWith growth room before after first now (member_entry name key locked moment)
    (key_line name key) status)))
