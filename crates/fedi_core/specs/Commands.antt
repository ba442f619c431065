-- What becomes of an operator's command.
use Rattle.std.specs.Prelude.{◌≡◌, ℕ, None, Some, IsTrue, is_some}
use Rattle.fedi_address.specs.Hosts.{is_host_text}
use Rattle.fedi_address.specs.Names.{is_name}
use Rattle.fedi_entry.specs.Codes.{code_of}
use Rattle.fedi_objects.specs.declared.entry.Entry.{Entry}
use Rattle.fedi_objects.specs.declared.entry.Entry.TheVariants.{Hosted, Made, PeerSet, Local}
use Rattle.fedi_objects.specs.declared.entry.Entry.TheVariants.{Remote, Tried}
use Rattle.fedi_outside.specs.Keepers.{KeeperState}
use Rattle.fedi_town.specs.declared.command_fault.CommandFault.{CommandFault}
use Rattle.fedi_town.specs.declared.command_fault.CommandFault.TheVariants.{NameTaken, KeyTaken}
use Rattle.fedi_town.specs.declared.command_fault.CommandFault.TheVariants.{HostTaken, BadAddress}
use Rattle.fedi_town.specs.declared.command_fault.CommandFault.TheVariants.{Full, KeeperFault}
use Rattle.fedi_town.specs.declared.command_fault.CommandFault.TheVariants.{Memory}
use Rattle.fedi_town.specs.Legal.{broken_command}
use Rattle.fedi_town.specs.Towns.{Town}
use Rattle.fedi_core.specs.Keeping.{Refuses}
use Rattle.fedi_core.specs.declared.keeping.KeepFault.{KeepFault}
use Rattle.fedi_core.specs.declared.keeping.KeepFault.TheVariants as faults

-- the entry is a command at a server that has been set up: it makes a member with a name, or a peer
-- with a host
abbrev pub IsCommand : Town → Entry → Type 0
IsCommand t (Hosted host moment) = ⊥
IsCommand t (Made name digest locked moment) = IsTrue (is_some t.host) × IsTrue (is_name name)
IsCommand t (PeerSet host key address relay moment) =
    IsTrue (is_some t.host) × IsTrue (is_host_text host)
IsCommand t (Local name repeat a moment) = ⊥
IsCommand t (Remote peer inbox a moment) = ⊥
IsCommand t (Tried activity recipient came moment) = ⊥

-- this is the first rule that the command breaks, and the keeper was not asked
abbrev pub IsBroken : Town → Entry → CommandFault → KeeperState → KeeperState → Type 0
IsBroken t e fault before after = (broken_command t e ≡ Some fault) × (after ≡ before)

-- the command breaks no rule, but the keeper refused its entry for this reason
abbrev pub IsUnkept : (ℕ → ℕ) → Town → Entry → KeepFault → KeeperState → KeeperState → Type 0
IsUnkept room t e fault before after =
    (broken_command t e ≡ None) × Refuses room (code_of e) fault before after

-- why a command was refused, and what then became of the keeper
abbrev pub RefusesCommand : (ℕ → ℕ) → Town → Entry → CommandFault → KeeperState
    → KeeperState → Type 0
RefusesCommand room t e NameTaken before after = IsBroken t e NameTaken before after
RefusesCommand room t e KeyTaken before after = IsBroken t e KeyTaken before after
RefusesCommand room t e HostTaken before after = IsBroken t e HostTaken before after
RefusesCommand room t e BadAddress before after = IsBroken t e BadAddress before after
RefusesCommand room t e Full before after = IsUnkept room t e faults.Full before after
RefusesCommand room t e KeeperFault before after = IsUnkept room t e faults.Failed before after
RefusesCommand room t e Memory before after = IsUnkept room t e faults.Memory before after

-- what a refused command says of the keeper: after a rule was broken, no more than that it did not
-- fail
abbrev pub unkept : CommandFault → KeepFault
unkept Full = faults.Full
unkept KeeperFault = faults.Failed
unkept fault = faults.Memory
