-- The history of a machine, when it is opened anew from the records of its keeper.
use Rattle.std.proofs.Common.{◌≡◌, ◌∙◌, ℕ, List, [], ◌∷◌, length, map, Option, None, Some, refl, sym, subst}
use Rattle.std.specs.Prelude.{IfSome}
use Rattle.std.specs.List.{AllByRecursion}
use Rattle.std.proofs.Math.Seq.{take-length}
use Rattle.fedi_core.specs.Machines.{Stands}
use Rattle.fedi_core.specs.Opening.{IsUnopened}
use Rattle.fedi_effects.specs.Holdings.{Holding}
use Rattle.fedi_entry.specs.Codes.{code_of}
use Rattle.fedi_entry.specs.Fields.{IsFormed}
use Rattle.fedi_objects.specs.declared.entry.Entry.{Entry}
use Rattle.fedi_opening.specs.Opening.{IsDamaged, IsRead, IsStopped}
use Rattle.fedi_opening.specs.declared.fault.OpenFault.{OpenFault}
use Rattle.fedi_opening.specs.declared.fault.OpenFault.TheVariants.{Failed, Damaged, Empty, Memory}
use Rattle.fedi_opening.proofs.Answers.{read_once, read_or_damaged}
use Rattle.fedi_outside.specs.Keepers.{KeeperState}
use Rattle.fedi_town.specs.Legal.{IsLegal}

-- the records that are reported are those of the history
own_records : (rs : List (List ℕ)) (h : List Entry) → IsLegal h → AllByRecursion IsFormed h
    → length h ≡ length rs → map code_of h ≡ rs → IsRead (Some rs) (length rs) h
own_records rs h legal formed counted spelled = record {
  legal = legal;
  formed = formed;
  counted = counted;
  spelled = spelled ∙ sym (take-length rs);
}

-- so the history that is opened from them is this one
same_read : (told : Option (List (List ℕ))) (held : ℕ) (h new : List Entry) → IsLegal h
    → AllByRecursion IsFormed h → held ≡ length h → IfSome told (λ rs. held ≡ length rs)
    → IfSome told (λ rs. map code_of h ≡ rs) → IsRead told held new → IfSome told (λ _. new ≡ h)
same_read None held h new legal formed count counted spelled read = tt
same_read (Some rs) held h new legal formed count counted spelled read =
    read_once rs new h (subst (λ (n : ℕ). IsRead (Some rs) n new) counted read)
    (own_records rs h legal formed (sym count ∙ counted) spelled)

pub same_history : (f f' : Holding) (k : KeeperState) → IfSome k.records (λ rs. k.held ≡ length rs)
    → Stands f k → IsRead k.records k.held f'.history
    → IfSome k.records (λ _. f'.history ≡ f.history)
same_history f f' k counted s read =
    same_read k.records k.held f.history f'.history s.legal s.formed s.kept.held counted
    s.kept.spelled read

-- and they are not damaged
undamaged : (told : Option (List (List ℕ))) (held place : ℕ) (h read : List Entry) → IsLegal h
    → AllByRecursion IsFormed h → held ≡ length h → IfSome told (λ rs. held ≡ length rs)
    → IfSome told (λ rs. map code_of h ≡ rs) → IsDamaged told held place read → told ≡ None
undamaged None held place h read legal formed count counted spelled damaged = refl
undamaged (Some rs) held place h read legal formed count counted spelled damaged =
    absurd (read_or_damaged rs place h read
    (own_records rs h legal formed (sym count ∙ counted) spelled)
    (subst (λ (n : ℕ). IsDamaged (Some rs) n place read) counted damaged))

no_entries : (h : List Entry) → length h ≡ 0 → h ≡ []
no_entries [] none = refl
no_entries (e ∷ h) none = absurd (cc none)

pub unopened : (f : Holding) (k : KeeperState) (fault : OpenFault) (read : List Entry)
    → IfSome k.records (λ rs. k.held ≡ length rs) → Stands f k → IsStopped fault k read
    → IsUnopened k.records f.history fault
unopened f k Failed read counted s stopped = tt
unopened f k (Damaged place) read counted s stopped =
    undamaged k.records k.held place f.history read s.legal s.formed s.kept.held counted
    s.kept.spelled stopped
unopened f k Empty read counted s stopped = no_entries f.history (sym s.kept.held ∙ stopped)
unopened f k Memory read counted s stopped = tt
