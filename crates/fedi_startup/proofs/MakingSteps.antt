-- What becomes of a disk that is made a store.
use Rattle.std.proofs.Common.{◌≡◌, ◌≢◌, ◌⊎◌, inl, inr, ⊎_elim, ℕ, ◌+◌, ◌<◌, ◌≤◌, true, false, nat_lt, List, [], ◌∷◌, ◌++◌, length, take, drop, Option, Some, None, refl, sym, ap, subst, ◌∙◌, arith}
use Rattle.std.specs.Cmp.Derive.{both_true}
use Rattle.std.specs.Prelude.{IfSome, IsUtf8, codes, option_map}
use Rattle.std.specs.Str.{bytes_eq}
use Rattle.std.proofs.lemmas.Bool.Decides.{Decides-ltb}
use Rattle.std.proofs.lemmas.Slice.Eq.{bytes_eq-Decides}
use Rattle.std.proofs.lemmas.Str.{is_utf8-from_IsUtf8}
use Rattle.std.proofs.lemmas.Bool.{cases_Bool}
use Rattle.fedi_address.specs.Hosts.{IsHost, address}
use Rattle.fedi_address.specs.Iris.{normal}
use Rattle.fedi_entry.specs.Fields.{IsFormed, is_host, is_own}
use Rattle.fedi_journal.specs.ChainLaws.{chained_ok}
use Rattle.fedi_outside.proofs.ImageLemmas.{closed_intro}
use Rattle.fedi_outside.proofs.ImageSteps.{of_some}
use Rattle.fedi_journal.specs.Chains.{chained}
use Rattle.fedi_outside.specs.Images.{IsImage, front, kept_in}
use Rattle.fedi_outside.specs.Known.{records_told}
use Rattle.fedi_journal.specs.Files.{HasRecords}
use Rattle.fedi_journal.specs.Making.{IsOther, IsUnmade, KeepsOther, blank, blank_shown}
use Rattle.fedi_journal.specs.declared.faults.InitFault.{InitFault}
use Rattle.fedi_journal.specs.declared.faults.InitFault.TheVariants as inits
use Rattle.fedi_objects.specs.declared.entry.Entry.{Entry}
use Rattle.fedi_objects.specs.declared.entry.Entry.TheVariants.{Hosted}
use Rattle.fedi_outside.specs.Causes.{next_count}
use Rattle.fedi_outside.specs.Disks.{DiskCrashes, DiskState, Elapses, IsUntouched, LeavesOnly, MayTear, TearsTold, spliced}
use Rattle.fedi_outside.specs.Keepers.{HasAdded, HasFailed, KeeperState, MayLeave, OnlyRoomChanged}
use Rattle.fedi_startup.specs.Making.{IsMade, IsNotMade, LeavesAtMost, LeavesFirst, MayBeBegun, MayBeEmpty, MayBegin, WasFree}
use Rattle.fedi_startup.specs.Faults.{of_init}
use Rattle.fedi_startup.specs.declared.faults.MakeFault.TheVariants.{Failed, Memory}
use Rattle.fedi_startup.specs.Stores.{IsSound, LeavesFiles, LeftFiles, records_of}
use Rattle.fedi_startup.proofs.Told.{each_some, told_alike, told_bytes, untold_bytes}

-- ---- the first entry

pub first_sound : (host : List ℕ) (moment : ℕ) → IsUtf8 host → IsHost host → moment < 253402300800 → IsSound (Hosted host moment ∷ [])
unfolding IsFormed is_host
first_sound host moment utf8 is_one bound = record {
  legal = record { admissible = both_true is_one.shape refl };
  formed = ((record { utf8 = is_utf8-from_IsUtf8 host utf8; passes = both_true is_one.shape own }, bound), tt);
}
  where
    text : List ℕ
    text = address host (codes "/")

    own : is_own (normal text) text ≡ true
    own = ap (λ (o : Option (List ℕ)). is_own o text) is_one.own ∙ (bytes_eq-Decides text text).1 refl

-- ---- no journal

-- these bytes differ from a journal without records, or not
other_or_free : (bytes : List ℕ) → IsOther chained bytes ⊎ (IsOther chained bytes → ⊥)
other_or_free bytes =
    let long = Decides-ltb 9 (length bytes) in
    let same = bytes_eq-Decides (take 9 bytes) (blank chained) in
    ⊎_elim
    (λ is_long. ⊎_elim (λ is_same. inr (λ other. other.1 (same.0 is_same))) (λ differs. inl (long.0 is_long, λ is. apart (sym (same.1 is) ∙ differs))) (cases_Bool (bytes_eq (take 9 bytes) (blank chained))))
    (λ is_short. inr (λ other. apart (sym (long.1 other.0) ∙ is_short))) (cases_Bool (nat_lt 9 (length bytes)))
  where
    apart : true ≡ false → ⊥
    apart e = cc

-- the disk was not made a journal
pub not_begun : (fault : InitFault) (code : List ℕ) (before after : DiskState) (was now : DiskCrashes) → IsUnmade chained fault before after → KeepsOther chained before after was now
    → IsNotMade code (of_init fault) before after
not_begun inits.Exists code before after was now unmade stays = (each_some before.reads unmade.2, unmade.0, unmade.1)
not_begun inits.Failed code before after was now unmade stays = (begun before.reads refl unmade.0, unmade.1)
  where
    begun : (o : Option (List ℕ)) → before.reads ≡ o → TearsTold 0 (blank chained) o after.reads → MayBeBegun code o after.reads
    begun None is torn = torn
    begun (Some bytes) is torn =
        ⊎_elim (λ other. (bytes, (stays bytes is other).reads ∙ is, inl refl)) (λ free. (torn.0, torn.1, inr (free, inl torn.2))) (other_or_free bytes)

-- ---- a journal that may have the first record

free_of : (reads : Option (List ℕ)) → ((bytes : List ℕ) → reads ≡ Some bytes → IsOther chained bytes → ⊥) → WasFree reads
free_of reads fresh = each_some reads fresh

module _ (start after : DiskState) (crashes : DiskCrashes) (k l : KeeperState) (code : List ℕ) (more : ℕ)
    (fresh : (bytes : List ℕ) → start.reads ≡ Some bytes → IsOther chained bytes → ⊥)
    (begun : k ≡ blank_shown start)
    (told : l.records ≡ records_told chained more after)
    (counts : l.faults ≡ after.faults)
    (images : (kept : List (List ℕ)) → l.records ≡ Some kept → (image : List ℕ) → crashes.may_leave image → (rs : List (List ℕ)) × IsImage chained rs image × MayLeave kept l.doubt rs)
    (stays : IfSome after.reads crashes.may_leave) where
  none_before : k.records ≡ option_map (λ _. []) start.reads
  none_before = ap (λ (s : KeeperState). s.records) begun

  faults_before : k.faults ≡ start.faults
  faults_before = ap (λ (s : KeeperState). s.faults) begun

  calm_before : k.doubt ≡ None
  calm_before = ap (λ (s : KeeperState). s.doubt) begun

  -- the first record was kept
  module _ (growth : ℕ → ℕ) (added : HasAdded growth code k l) where
    grown : option_map (kept_in chained more) after.reads ≡ option_map (λ (rs : List (List ℕ)). rs ++ code ∷ []) (option_map (λ _. []) start.reads)
    grown = sym told ∙ (added.records ∙ ap (option_map (λ (rs : List (List ℕ)). rs ++ code ∷ [])) none_before)

    one_record : (bytes : List ℕ) → after.reads ≡ Some bytes → l.records ≡ Some (code ∷ [])
    one_record bytes is = told ∙ (grown ∙ each start.reads after.reads bytes grown is)
      where
        each : (before now : Option (List ℕ)) (bytes : List ℕ) → option_map (kept_in chained more) now ≡ option_map (λ (rs : List (List ℕ)). rs ++ code ∷ []) (option_map (λ _. []) before)
            → now ≡ Some bytes → option_map (λ (rs : List (List ℕ)). rs ++ code ∷ []) (option_map (λ _. []) before) ≡ Some (code ∷ [])
        each None now bytes same is = absurd (cc (sym same ∙ ap (option_map (kept_in chained more)) is))
        each (Some here) now bytes same is = refl

    leaves : (bytes : List ℕ) → after.reads ≡ Some bytes → LeavesFiles crashes (code ∷ []) None
    leaves bytes is image left =
        let file = images (code ∷ []) (one_record bytes is) image left in
        (file.0, file.1, subst (λ (d : Option (List ℕ)). MayLeave (code ∷ []) d file.0) added.doubt file.2)

    pub is_made : (history : List Entry) → history ≢ [] → IsSound history → code ∷ [] ≡ records_of history → IsMade history start after crashes
    is_made history some sound spelled = record {
      free = free_of start.reads fresh;
      told = told_alike (λ _. []) (kept_in chained more) (λ (rs : List (List ℕ)). rs ++ code ∷ []) start.reads after.reads grown;
      stored = each_some after.reads (λ bytes is.
          let file = leaves bytes is bytes (of_some after.reads crashes.may_leave stays bytes is) in
          record {
            some = some;
            sound = sound;
            file = subst (λ (rs : List (List ℕ)). IsImage chained rs bytes) (file.2 ∙ spelled) file.1;
          });
      leaves = each_some after.reads (λ bytes is. subst (λ (rs : List (List ℕ)). LeavesFiles crashes rs None) spelled (leaves bytes is));
      faults = sym counts ∙ (added.faults ∙ faults_before);
    }

  -- it was not, and what may be in doubt is known
  module _ (same : l.records ≡ k.records) where
    told_empty : (bytes : List ℕ) → start.reads ≡ Some bytes → (other : List ℕ) × (after.reads ≡ Some other) × HasRecords chained [] l.doubt other
    told_empty bytes is =
        let none : l.records ≡ Some [] = same ∙ (none_before ∙ ap (option_map (λ _. [])) is) in
        let other = told_bytes (kept_in chained more) after.reads [] (sym told ∙ none) in
        (other.0, other.1, images [] none other.0 (of_some after.reads crashes.may_leave stays other.0 other.1))

    untold_empty : start.reads ≡ None → after.reads ≡ None
    untold_empty is = untold_bytes (kept_in chained more) after.reads (sym told ∙ (same ∙ (none_before ∙ ap (option_map (λ _. [])) is)))

  pub no_memory : OnlyRoomChanged k l → IsNotMade code Memory start after
  no_memory room = (reads start.reads refl, sym counts ∙ (room.faults ∙ faults_before))
    where
      reads : (o : Option (List ℕ)) → start.reads ≡ o → MayBeEmpty o after.reads
      reads None is = untold_empty room.records is
      reads (Some bytes) is =
          let found = told_empty room.records bytes is in
          let left : found.2.0 ≡ [] = subst (λ (d : Option (List ℕ)). MayLeave [] d found.2.0) (room.doubt ∙ calm_before) found.2.2 in
          (found.0, found.1, inr (fresh bytes is, subst (λ (rs : List (List ℕ)). IsImage chained rs found.0) left found.2.1))

  pub has_failed : (m : KeeperState) → OnlyRoomChanged k m → HasFailed code m l → IsNotMade code Failed start after
  has_failed m room failed = (reads start.reads refl, sym counts ∙ (failed.faults ∙ ap next_count (room.faults ∙ faults_before)))
    where
      same : l.records ≡ k.records
      same = failed.records ∙ room.records

      may : (left : List (List ℕ)) → (l.doubt ≡ None) ⊎ (l.doubt ≡ Some code) → MayLeave [] l.doubt left → MayLeave [] (Some code) left
      may left (inl calm) is = inl (subst (λ (d : Option (List ℕ)). MayLeave [] d left) calm is)
      may left (inr this) is = subst (λ (d : Option (List ℕ)). MayLeave [] d left) this is

      reads : (o : Option (List ℕ)) → start.reads ≡ o → MayBeBegun code o after.reads
      reads None is = untold_empty same is
      reads (Some bytes) is =
          let found = told_empty same bytes is in
          (found.0, found.1, inr (fresh bytes is, inr (found.2.0, found.2.1, may found.2.0 failed.doubt found.2.2)))

-- a record was added after room was made for it
pub added_in_room : (growth : ℕ → ℕ) (code : List ℕ) (k m l : KeeperState) → OnlyRoomChanged k m → HasAdded growth code m l → HasAdded growth code k l
added_in_room growth code k m l room added = record {
  records = added.records ∙ ap (option_map (λ (rs : List (List ℕ)). rs ++ code ∷ [])) room.records;
  held = added.held ∙ ap (λ (n : ℕ). n + 1) room.held;
  doubt = added.doubt;
  end = added.end ∙ ap (λ (n : ℕ). n + growth (length code)) room.end;
  faults = added.faults ∙ room.faults;
}

-- ---- crashes

-- a journal without records
blank_file : (bytes : List ℕ) → IsImage chained [] (spliced 0 (blank chained) bytes)
unfolding front
blank_file bytes = record { short = tt; spelled = closed_intro chained chained_ok [] (spliced 0 (blank chained) bytes) (drop 9 bytes) refl }

-- What crashes may leave once a disk is a journal without records: what they could leave then, or a
-- file of no record, or of this one.
abbrev MayLeaveSince : List ℕ → DiskCrashes → List ℕ → Type 0
MayLeaveSince code begun image = begun.may_leave image ⊎ HasRecords chained [] (Some code) image

-- since then only room was made
pub room_since : (code : List ℕ) (found later : DiskState) (begun after : DiskCrashes) → IsUntouched found later begun after
    → (bytes : List ℕ) → found.reads ≡ Some bytes → Elapses begun after (MayLeaveSince code begun)
room_since code found later begun after same bytes is =
    let time = same.crashes bytes is in
    record {
      clock = time.clock;
      now = λ image left. inl (time.now image left);
      nothing_else = λ moment image past left. ⊎_elim (λ here. inl here) (λ old. inr (inl old)) (time.nothing_else moment image past left);
      keeps = time.keeps;
    }

-- and then the record was written, or was about to be
pub written_since : (code : List ℕ) (found later : DiskState) (begun ready after : DiskCrashes) (records : Option (List (List ℕ))) → IsUntouched found later begun ready
    → ((bytes : List ℕ) → found.reads ≡ Some bytes → records ≡ Some [])
    → ((kept : List (List ℕ)) → records ≡ Some kept → Elapses ready after (HasRecords chained kept (Some code)))
    → (bytes : List ℕ) → found.reads ≡ Some bytes → Elapses begun after (MayLeaveSince code begun)
written_since code found later begun ready after records same none writes bytes is =
    let room = room_since code found later begun ready same bytes is in
    let time = writes [] (none bytes is) in
    record {
      clock = omega (arith, room.clock, time.clock);
      now = λ image left. inr (time.now image left);
      nothing_else = λ moment image past left. ⊎_elim (λ here. room.nothing_else moment image past here) (λ new. inr (inr new)) (time.nothing_else moment image (omega (arith, past, room.clock)) left);
      keeps = λ moment image past left. time.keeps moment image (omega (arith, past, room.clock)) (room.keeps moment image past left);
    }

-- the records of a journal that was made, while only room was made
pub blank_records : (start found : DiskState) (k m : KeeperState) → k ≡ blank_shown start → OnlyRoomChanged k m → found.reads ≡ option_map (spliced 0 (blank chained)) start.reads
    → (bytes : List ℕ) → found.reads ≡ Some bytes → m.records ≡ Some []
blank_records start found k m is room written bytes here = room.records ∙ (ap (λ (s : KeeperState). s.records) is ∙ none start.reads (sym here ∙ written))
  where
    empty : Option (List ℕ) → Option (List (List ℕ))
    empty o = option_map (λ _. []) o

    none : (o : Option (List ℕ)) → Some bytes ≡ option_map (spliced 0 (blank chained)) o → empty o ≡ Some []
    none None e = absurd (cc e)
    none (Some before) e = refl

-- a journal was made, and then its first record was about to be kept
pub at_most : (code : List ℕ) (start found : DiskState) (before begun after : DiskCrashes) → ((image : List ℕ) → begun.left_since begun.clock image → begun.may_leave image)
    → found.reads ≡ option_map (spliced 0 (blank chained)) start.reads → IfSome found.reads (LeavesOnly begun) → Elapses before begun (MayTear 0 (blank chained) before) → begun.clock ≤ after.clock
    → ((bytes : List ℕ) → found.reads ≡ Some bytes → Elapses begun after (MayLeaveSince code begun)) → LeavesAtMost code start.reads before after
at_most code start found before begun after only written durable first clock second = inr (begun.clock, (first.clock, clock), each_some start.reads at)
  where
    at : (bytes : List ℕ) → start.reads ≡ Some bytes → LeavesFirst code begun.clock before after
    at bytes is = (time, files)
      where
        here : found.reads ≡ Some (spliced 0 (blank chained) bytes)
        here = written ∙ ap (option_map (spliced 0 (blank chained))) is

        since : Elapses begun after (MayLeaveSince code begun)
        since = second (spliced 0 (blank chained) bytes) here

        blank_left : (image : List ℕ) → begun.may_leave image → HasRecords chained [] (Some code) image
        blank_left image left =
            let same : image ≡ spliced 0 (blank chained) bytes = of_some found.reads (LeavesOnly begun) durable (spliced 0 (blank chained) bytes) here image left in
            ([], subst (λ (b : List ℕ). IsImage chained [] b) (sym same) (blank_file bytes), inl refl)

        new_one : (image : List ℕ) → MayLeaveSince code begun image → MayBegin code before image
        new_one image (inl old) = inl (first.now image old)
        new_one image (inr new) = inr new

        time : Elapses before after (MayBegin code before)
        time = record {
          clock = omega (arith, first.clock, clock);
          now = λ image left. new_one image (since.now image left);
          nothing_else = λ moment image past left.
              ⊎_elim (λ here. ⊎_elim (λ old. inl old) (λ torn. inr (inl torn)) (first.nothing_else moment image past here)) (λ new. inr (new_one image new))
              (since.nothing_else moment image (omega (arith, past, first.clock)) left);
          keeps = λ moment image past left. since.keeps moment image (omega (arith, past, first.clock)) (first.keeps moment image past left);
        }

        files : LeftFiles begun.clock after [] (Some code)
        files image left =
            ⊎_elim (λ here. blank_left image (only image here)) (λ new. ⊎_elim (λ old. blank_left image old) (λ file. file) new) (since.nothing_else begun.clock image (omega arith) left)
