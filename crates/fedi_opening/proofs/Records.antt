-- One more record is read.
use Rattle.std.proofs.Common.{◌≡◌, ◌≢◌, arith, ℕ, ◌+◌, ◌<◌, true, false, List, [], ◌∷◌, ◌++◌, length, map, Option, Some, None, refl, sym, ap, subst, ◌∙◌}
use Rattle.std.specs.Prelude.{IfSome, slice_get, take}
use Rattle.std.specs.List.{AllByRecursion}
use Rattle.std.proofs.lemmas.List.{length-append, map-append, take_all, take_more}
use Rattle.std.proofs.lemmas.Option.{get_or_from_slice_get, slice_get_within}
use Rattle.fedi_entry.specs.Codes.{code_of}
use Rattle.fedi_entry.specs.Fields.{IsFormed}
use Rattle.fedi_objects.specs.declared.entry.Entry.{Entry}
use Rattle.fedi_town.specs.Histories.{town}
use Rattle.fedi_town.specs.Legal.{is_admissible}
use Rattle.fedi_town.specs.Towns.{Town, empty_town}
use Rattle.fedi_town.proofs.Growing.{legal_push}
use Rattle.fedi_opening.specs.declared.fault.OpenFault.{OpenFault}
use Rattle.fedi_opening.specs.declared.fault.OpenFault.TheVariants.{Failed, Damaged, Empty, Memory}
use Rattle.fedi_opening.specs.Opening.{IsDamaged, IsNext, IsOfNone, IsRead, IsStopped, IsUnloaded, IsUnread}
use Rattle.fedi_outside.specs.Keepers.{KeeperState}

-- ---- the entry of a record

pub next_by : (t : Town) (e : Entry) → IsFormed e → is_admissible t e ≡ true → IsNext t e
next_by t e formed may = record { formed = formed; admissible = may }

-- the only entry with this code may not come next
pub none_by : (t : Town) (e : Entry) (bytes : List ℕ) → ((other : Entry) → IsFormed other → code_of other ≡ bytes → other ≡ e)
    → is_admissible t e ≡ false → (other : Entry) → IsNext t other → code_of other ≢ bytes
none_by t e bytes only may other next is =
    let own : IsNext t e = subst (λ (x : Entry). IsNext t x) (only other next.formed is) next in
    let wrong : true ≡ false = sym own.admissible ∙ may in
    absurd cc

-- ---- one entry more

pub formed_more : (h : List Entry) (e : Entry) → AllByRecursion IsFormed h → IsFormed e → AllByRecursion IsFormed (h ++ e ∷ [])
formed_more [] e all formed = (formed, tt)
formed_more (x ∷ h) e all formed = (all.0, formed_more h e all.1 formed)

spelled_more : (records : List (List ℕ)) (n : ℕ) (h : List Entry) (e : Entry) → map code_of h ≡ take n records → slice_get records n ≡ Some (code_of e)
    → map code_of (h ++ e ∷ []) ≡ take (n + 1) records
spelled_more records n h e spelled is =
    map-append code_of h (e ∷ [])
    ∙ (ap (λ (l : List (List ℕ)). l ++ code_of e ∷ []) spelled
    ∙ (ap (λ (r : List ℕ). take n records ++ r ∷ []) (sym (get_or_from_slice_get records n (code_of e) [] is))
    ∙ sym (take_more records n [] (slice_get_within records n (code_of e) is))))

if_spelled : (records : Option (List (List ℕ))) (n : ℕ) (h : List Entry) (e : Entry) → IfSome records (λ told. map code_of h ≡ take n told)
    → IfSome records (λ told. slice_get told n ≡ Some (code_of e)) → IfSome records (λ told. map code_of (h ++ e ∷ []) ≡ take (n + 1) told)
if_spelled None n h e spelled is = tt
if_spelled (Some told) n h e spelled is = spelled_more told n h e spelled is

-- the record is the code of the entry that comes next
pub read_more : (records : Option (List (List ℕ))) (n : ℕ) (h : List Entry) (e : Entry) → IsRead records n h → IsNext (town h) e
    → IfSome records (λ told. slice_get told n ≡ Some (code_of e)) → IsRead records (n + 1) (h ++ e ∷ [])
read_more records n h e read next is = record {
  legal = record { admissible = legal_push h empty_town e read.legal.admissible next.admissible };
  formed = formed_more h e read.formed next.formed;
  counted = length-append h (e ∷ []) ∙ ap (λ (k : ℕ). k + 1) read.counted;
  spelled = if_spelled records n h e read.spelled is;
}

-- what is loaded at an index is the record there
pub record_is : (records : Option (List (List ℕ))) (place : ℕ) (bytes code : List ℕ) → IfSome records (λ told. slice_get told place ≡ Some bytes)
    → code ≡ bytes → IfSome records (λ told. slice_get told place ≡ Some code)
record_is records place bytes code is same = subst (λ (b : List ℕ). IfSome records (λ told. slice_get told place ≡ Some b)) (sym same) is

-- the record at an index is the code of no entry that may come next
pub of_none : (records : Option (List (List ℕ))) (place : ℕ) (bytes : List ℕ) (t : Town) → IfSome records (λ told. slice_get told place ≡ Some bytes)
    → ((e : Entry) → IsNext t e → code_of e ≢ bytes) → IfSome records (λ told. IsOfNone t told place)
of_none None place bytes t is none = tt
of_none (Some told) place bytes t is none = λ e next spelled.
    let same : ◌≡◌ {A = Option (List ℕ)} (Some (code_of e)) (Some bytes) = sym spelled ∙ is in
    let code : code_of e ≡ bytes = cc in
    none e next code

-- ---- the first record and the last

-- nothing is read
pub read_none : (records : Option (List (List ℕ))) (h : List Entry) → h ≡ [] → IsRead records 0 h
read_none records h is = subst (λ (x : List Entry). IsRead records 0 x) (sym is) (record {
  legal = record { admissible = refl };
  formed = tt;
  counted = refl;
  spelled = none_spelled records;
})
  where
    none_spelled : (told : Option (List (List ℕ))) → IfSome told (λ list. map code_of [] ≡ take 0 list)
    none_spelled None = tt
    none_spelled (Some []) = refl
    none_spelled (Some (r ∷ told)) = refl

-- all is read
pub read_all : (records : Option (List (List ℕ))) (held : ℕ) (h : List Entry) → IfSome records (λ told. held ≡ length told) → IsRead records held h
    → IfSome records (λ told. map code_of h ≡ told)
read_all None held h is read = tt
read_all (Some told) held h is read = read.spelled ∙ take_all held told (omega (arith, is))

-- ---- why no record is read

pub unloaded_stops : (fault : OpenFault) (k : KeeperState) (h : List Entry) → IsUnloaded fault → IsStopped fault k h
unloaded_stops Failed k h is = tt
unloaded_stops (Damaged place) k h is = absurd is
unloaded_stops Empty k h is = absurd is
unloaded_stops Memory k h is = tt

pub unread_stops : (fault : OpenFault) (k : KeeperState) (h : List Entry) (place : ℕ) (bytes : List ℕ) → place < k.held → IsRead k.records place h
    → IfSome k.records (λ told. slice_get told place ≡ Some bytes) → IsUnread (town h) bytes place fault → IsStopped fault k h
unread_stops Failed k h place bytes there read is unread = absurd unread
unread_stops (Damaged p) k h place bytes there read is unread =
    subst (λ (q : ℕ). IsDamaged k.records k.held q h) (sym unread.0)
    (record { there = there; read = read; damaged = of_none k.records place bytes (town h) is unread.1 })
unread_stops Empty k h place bytes there read is unread = absurd unread
unread_stops Memory k h place bytes there read is unread = tt
