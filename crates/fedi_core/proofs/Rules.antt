-- A rule that a command breaks is not one of the keeper's reasons.
use Rattle.std.proofs.Common.{◌≡◌, ℕ, Bool, true, false, List, Option, Some, None, refl, subst}
use Rattle.std.specs.Prelude.{is_none, if◌then◌else◌}
use Rattle.std.specs.List.{list_any}
use Rattle.fedi_objects.specs.declared.entry.Entry.{Entry}
use Rattle.fedi_objects.specs.declared.entry.Entry.TheVariants.{Hosted, Made, PeerSet, Local, Remote, Tried}
use Rattle.fedi_objects.specs.Limits.{is_address}
use Rattle.fedi_outside.specs.Keepers.{KeeperState}
use Rattle.fedi_entry.specs.Codes.{code_of}
use Rattle.fedi_town.specs.declared.command_fault.CommandFault.{CommandFault}
use Rattle.fedi_town.specs.declared.command_fault.CommandFault.TheVariants.{NameTaken, KeyTaken, HostTaken, BadAddress, Full, KeeperFault, Memory}
use Rattle.fedi_town.specs.Legal.{broken_command, is_taken_host}
use Rattle.fedi_town.specs.Towns.{Town, has_digest, has_name}
use Rattle.fedi_core.specs.Commands.{RefusesCommand, unkept}
use Rattle.fedi_core.specs.declared.keeping.KeepFault.TheVariants as faults

-- one of the rules
abbrev IsRule : Option CommandFault → Type 0
IsRule None = Unit {0}
IsRule (Some NameTaken) = Unit {0}
IsRule (Some KeyTaken) = Unit {0}
IsRule (Some HostTaken) = Unit {0}
IsRule (Some BadAddress) = Unit {0}
IsRule (Some Full) = ⊥
IsRule (Some KeeperFault) = ⊥
IsRule (Some Memory) = ⊥

rule : (t : Town) (e : Entry) → IsRule (broken_command t e)
rule t (Hosted host moment) = elim (is_none t.host) as (λ b. IsRule (if b then None else Some HostTaken)) [ true ↦ tt | false ↦ tt ]
rule t (Made name digest locked moment) =
    elim (list_any (has_name name) t.actors) as (λ b. IsRule (if b then Some NameTaken else (if list_any (has_digest digest) t.actors then Some KeyTaken else None))) [
      | true ↦ tt
      | false ↦ elim (list_any (has_digest digest) t.actors) as (λ b. IsRule (if b then Some KeyTaken else None)) [ true ↦ tt | false ↦ tt ]
    ]
rule t (PeerSet host key address relay moment) =
    elim (is_taken_host t host) as (λ b. IsRule (if b then Some HostTaken else (if is_address address then None else Some BadAddress))) [
      | true ↦ tt
      | false ↦ elim (is_address address) as (λ b. IsRule (if b then None else Some BadAddress)) [ true ↦ tt | false ↦ tt ]
    ]
rule t (Local name repeat a moment) = tt
rule t (Remote peer inbox a moment) = tt
rule t (Tried activity recipient came moment) = tt

broken_rule : (t : Town) (e : Entry) (fault : CommandFault) → broken_command t e ≡ Some fault → IsRule (Some fault)
broken_rule t e fault broken = subst IsRule broken (rule t e)

pub rule_refuses : (room : ℕ → ℕ) (t : Town) (e : Entry) (fault : CommandFault) (k : KeeperState) → broken_command t e ≡ Some fault → RefusesCommand room t e fault k k
rule_refuses room t e NameTaken k broken = (broken, refl)
rule_refuses room t e KeyTaken k broken = (broken, refl)
rule_refuses room t e HostTaken k broken = (broken, refl)
rule_refuses room t e BadAddress k broken = (broken, refl)
rule_refuses room t e Full k broken = absurd (broken_rule t e Full broken)
rule_refuses room t e KeeperFault k broken = absurd (broken_rule t e KeeperFault broken)
rule_refuses room t e Memory k broken = absurd (broken_rule t e Memory broken)

-- a rule that was broken says nothing of the keeper
pub rule_unkept : (t : Town) (e : Entry) (fault : CommandFault) → broken_command t e ≡ Some fault
    → unkept fault ≡ faults.Memory
rule_unkept t e NameTaken broken = refl
rule_unkept t e KeyTaken broken = refl
rule_unkept t e HostTaken broken = refl
rule_unkept t e BadAddress broken = refl
rule_unkept t e Full broken = absurd (broken_rule t e Full broken)
rule_unkept t e KeeperFault broken = absurd (broken_rule t e KeeperFault broken)
rule_unkept t e Memory broken = refl
