-- From files of records to stores.
use Rattle.std.proofs.Common.{◌≡◌, ◌≢◌, ◌⊎◌, ℕ, true, List, [], ◌∷◌, ◌++◌, length, map, All, Option, None, Some, inl, inr, refl, sym, ap, subst, ◌∙◌, append_assoc, append-nil}
use Rattle.std.specs.Cmp.Derive.{both_true}
use Rattle.std.specs.Prelude.{Contains, IfSome, option_to_list, drop}
use Rattle.std.proofs.lemmas.Bool.{and_parts}
use Rattle.std.proofs.lemmas.List.{map-append}
use Rattle.std.proofs.Math.Seq.{drop-append_seam}
use Rattle.std.proofs.lemmas.List.Elements.{All-contains, All-nil}
use Rattle.fedi_core.specs.Machines.{IsNextCode}
use Rattle.fedi_entry.specs.Codes.{code_of}
use Rattle.fedi_journal.specs.Chains.{chained}
use Rattle.fedi_outside.specs.Images.{IsImage}
use Rattle.fedi_outside.specs.Known.{record_crashes, records_told}
use Rattle.fedi_log.proofs.Growing.{given_history, history_append}
use Rattle.fedi_log.specs.Keeping.{HoldsFrom, State, since}
use Rattle.fedi_log.specs.Leaving.{CrashesAlong}
use Rattle.fedi_log.specs.Leaving.{IsLeft}
use Rattle.fedi_log.specs.Log.{Log, doubts_of, entry_in, given, history_of}
use Rattle.fedi_log.proofs.Keeping.{given_length}
use Rattle.fedi_log.proofs.LifeLemmas.{formed_front}
use Rattle.fedi_objects.specs.declared.entry.Entry.{Entry}
use Rattle.fedi_opening.proofs.Records.{read_more}
use Rattle.fedi_opening.specs.Opening.{IsNext, IsRead}
use Rattle.fedi_outside.proofs.ImageSteps.{of_some}
use Rattle.fedi_outside.specs.Disks.{DiskCrashes, DiskState}
use Rattle.fedi_outside.specs.Keepers.{MayLeave}
use Rattle.fedi_town.specs.Histories.{step, town}
use Rattle.fedi_town.specs.Legal.{is_admissible, is_legal_from}
use Rattle.fedi_town.specs.Towns.{Town, empty_town}
use Rattle.fedi_logged.specs.Marks.{MarksMayCome}
use Rattle.fedi_startup.specs.Stores.{IsAround, IsClosed, IsOpened, IsSound, IsStoreOf, LeavesFiles, LeavesStores, records_of}
use Rattle.fedi_startup.specs.Surviving.{IsFirstPart, LeavesFoundFrom, LeavesStoresAlong, LeavesStoresFound, LeavesStoresFrom, SurvivesOnDisk, opened_base}
use Rattle.fedi_logged.proofs.Marks.{doubts_come}
use Rattle.fedi_startup.proofs.Surviving.{found_since, records_held}
use Rattle.fedi_startup.proofs.Told.{each_some}

-- ---- sound histories

-- one entry more, which may come next
pub sound_more : (history : List Entry) (e : Entry) → IsSound history → IsNext (town history) e → IsSound (history ++ e ∷ [])
sound_more history e sound next =
    let read : IsRead None (length history) history = record { legal = sound.legal; formed = sound.formed; counted = refl; spelled = tt } in
    let more = read_more None (length history) history e read next tt in
    record { legal = more.legal; formed = more.formed }

legal_front : (t : Town) (a b : List Entry) → is_legal_from t (a ++ b) ≡ true → is_legal_from t a ≡ true
legal_front t [] b legal = refl
legal_front t (e ∷ a) b legal =
    let parts = and_parts (is_admissible t e) (is_legal_from (step t e) (a ++ b)) legal in
    both_true parts.0 (legal_front (step t e) a b parts.1)

-- the first entries of a sound history
sound_front : (a b : List Entry) → IsSound (a ++ b) → IsSound a
sound_front a b sound = record {
  legal = record { admissible = legal_front empty_town a b sound.legal.admissible };
  formed = formed_front a b sound.formed;
}

front_some : (a b : List Entry) → a ≢ [] → (a ++ b) ≢ []
front_some [] b some = absurd (some refl)
front_some (e ∷ a) b some = λ is. absurd (cc is)

-- ---- stores

-- a file of the records of a sound history
stored : (history : List Entry) (image : List ℕ) (rs : List (List ℕ)) → history ≢ [] → IsSound history → IsImage chained rs image → rs ≡ records_of history
    → IsStoreOf history image
stored history image rs some sound file is =
    record { some = some; sound = sound; file = subst (λ (l : List (List ℕ)). IsImage chained l image) is file }

-- the records and one more code, that of an entry that may come next
stored_more : (history : List Entry) (image code : List ℕ) (rs : List (List ℕ)) → history ≢ [] → IsSound history → IsImage chained rs image
    → rs ≡ records_of history ++ code ∷ [] → (next : IsNextCode history code) → IsStoreOf (history ++ next.0 ∷ []) image
stored_more history image code rs some sound file is next =
    stored (history ++ next.0 ∷ []) image rs (front_some history (next.0 ∷ []) some) (sound_more history next.0 sound next.1) file
    (is ∙ (ap (λ (c : List ℕ). records_of history ++ c ∷ []) next.2 ∙ sym (map-append code_of history (next.0 ∷ []))))

-- what a crash before the run may leave
around : (crashes : DiskCrashes) (history : List Entry) (doubt : Option (List ℕ)) (image : List ℕ) (rs : List (List ℕ)) → LeavesStores crashes history doubt
    → IsImage chained rs image → MayLeave (records_of history) doubt rs → (left : List Entry) × IsStoreOf left image × IsAround history doubt left
around crashes history None image rs leaves file is = (history, stored history image rs leaves.some leaves.sound file is, inl refl)
around crashes history (Some d) image rs leaves file (inl is) = (history, stored history image rs leaves.some leaves.sound file is, inl refl)
around crashes history (Some d) image rs leaves file (inr is) =
    let next = leaves.doubted in (
      history ++ next.0 ∷ [],
      stored_more history image d rs leaves.some leaves.sound file is next,
      inr (next.0, ap (λ (c : List ℕ). Some c) next.2, refl),
    )

-- what a crash during the run may leave of what the run opened
first_part : (opened now : State) (log : Log) (image : List ℕ) (rs : List (List ℕ)) → opened.history ≢ [] → opened.keeper.doubt ≡ None → IsSound now.history
    → now.history ≡ opened.history ++ history_of (since (opened_base opened) log) → MarksMayCome opened.history (since (opened_base opened) log)
    → IsImage chained rs image → IsLeft (opened_base opened) log (records_of opened.history) rs
    → (left : List Entry) × IsStoreOf left image × IsFirstPart opened.history (since (opened_base opened) log) left
first_part opened now log image rs some settled sound grown marks file left =
    let added : Log = since (opened_base opened) log in
    let first : List Entry = history_of left.past in
    let rest : List Entry = history_of left.rest in
    let whole : now.history ≡ opened.history ++ (first ++ rest) =
    grown ∙ ap (λ (es : List Entry). opened.history ++ es) (ap history_of left.is ∙ history_append left.past left.rest) in
    let front : IsSound (opened.history ++ first) =
    sound_front (opened.history ++ first) rest (subst IsSound (whole ∙ sym (append_assoc opened.history first rest)) sound) in
    let filled : (opened.history ++ first) ≢ [] = front_some opened.history first some in
    let spelled : records_of opened.history ++ map code_of first ≡ records_of (opened.history ++ first) = sym (map-append code_of opened.history first) in
    elim left.leaves as (λ _. (l : List Entry) × IsStoreOf l image × IsFirstPart opened.history added l) [
      | inl is ↦ (opened.history ++ first, stored (opened.history ++ first) image rs filled front file (is ∙ spelled), (left.past, left.rest, left.is, inl refl))
      | inr other ↦
          let doubted : Contains (doubts_of [] left.past) other.0 =
          subst (λ (d : Option (List ℕ)). Contains (doubts_of (option_to_list d) left.past) other.0) settled other.1 in
          let doubts : All (IsNextCode (opened.history ++ first)) (doubts_of [] left.past) =
          doubts_come opened.history [] left.past (marks_front opened.history left.past left.rest (subst (λ (l : Log). MarksMayCome opened.history l) left.is marks))
          (All-nil (IsNextCode opened.history)) in
          let next : IsNextCode (opened.history ++ first) other.0 = All-contains (IsNextCode (opened.history ++ first)) _ other.0 doubts doubted in (
            (opened.history ++ first) ++ next.0 ∷ [],
            stored_more (opened.history ++ first) image other.0 rs filled front file (other.2 ∙ ap (λ (l : List (List ℕ)). l ++ other.0 ∷ []) spelled) next,
            (left.past, left.rest, left.is, inr (next.0, subst (λ (c : List ℕ). Contains (doubts_of [] left.past) c) next.2 doubted, refl)),
          )
    ]
  where
    marks_front : (history : List Entry) (a b : Log) → MarksMayCome history (a ++ b) → MarksMayCome history a
    marks_front history [] b marks = tt
    marks_front history (i ∷ a) b marks = (marks.0, marks_front _ a b marks.1)

-- ---- the log since the opening

marks_back : (history : List Entry) (a b : Log) → MarksMayCome history (a ++ b) → MarksMayCome (history ++ history_of a) b
marks_back history [] b marks = subst (λ (h : List Entry). MarksMayCome h b) (sym (append-nil history)) marks
marks_back history (i ∷ a) b marks =
    subst (λ (h : List Entry). MarksMayCome h b) (append_assoc history (entry_in i.what) (history_of a)) (marks_back (history ++ entry_in i.what) a b marks.1)

-- the items after the given ones
pub since_given : (opened : State) (log past : Log) → log ≡ given opened.history ++ past → since (opened_base opened) log ≡ past
since_given opened log past is =
    ap (λ (n : ℕ). drop n log) (sym (given_length opened.history))
    ∙ (ap (λ (l : Log). drop (length (given opened.history)) l) is ∙ drop-append_seam (given opened.history) past)

-- the history is the one that was opened, followed by what was added to it
pub now_grown : (opened now : State) (log : Log) → HoldsFrom (opened_base opened) (given opened.history) now log
    → now.history ≡ opened.history ++ history_of (since (opened_base opened) log)
now_grown opened now log holds =
    holds.holds.history ∙ (ap history_of holds.is ∙ (history_append (given opened.history) holds.past
    ∙ (ap (λ (es : List Entry). es ++ history_of holds.past) (given_history opened.history)
    ∙ ap (λ (l : Log). opened.history ++ history_of l) (sym (since_given opened log holds.past holds.is)))))

-- What a closed machine leaves of a disk whose bytes are known are stores.
pub leaves_stores : (disk : DiskState) (crashes : DiskCrashes) (opened now : State) (log : Log) → opened.history ≢ []
    → HoldsFrom (opened_base opened) (given opened.history) now log → IsClosed disk crashes now
    → IfSome disk.reads (λ _. LeavesStores crashes now.history now.keeper.doubt)
leaves_stores disk crashes opened now log some holds closed =
    each_some disk.reads (λ bytes is. record {
      some = subst (λ (h : List Entry). h ≢ []) (sym (now_grown opened now log holds)) (front_some opened.history _ some);
      sound = closed.sound;
      doubted = closed.doubted;
      files = of_some disk.reads (λ _. LeavesFiles crashes (records_of now.history) now.keeper.doubt) closed.leaves bytes is;
    })

-- each mark since the opening may occur where it is
marks_since : (opened now : State) (log : Log) → HoldsFrom (opened_base opened) (given opened.history) now log → MarksMayCome [] log
    → MarksMayCome opened.history (since (opened_base opened) log)
marks_since opened now log holds marks =
    let goes = holds in
    subst (λ (l : Log). MarksMayCome opened.history l) (sym (since_given opened log goes.past goes.is))
    (subst (λ (h : List Entry). MarksMayCome h goes.past) (given_history opened.history)
    (marks_back [] (given opened.history) goes.past (subst (λ (l : Log). MarksMayCome [] l) goes.is marks)))

-- Files of lists of records are stores: of what was there before the run, or of the first part of
-- what the run made.
pub stores_along : (before after : DiskCrashes) (opened now : State) (log : Log) → opened.history ≢ [] → opened.keeper.doubt ≡ None → IsSound now.history
    → HoldsFrom (opened_base opened) (given opened.history) now log → MarksMayCome [] log → SurvivesOnDisk before after opened log
    → LeavesStoresAlong before after opened.history (since (opened_base opened) log)
stores_along before after opened now log some settled sound holds marks survives history doubt leaves image moment =
    let added : Log = since (opened_base opened) log in
    let file = survives.along (records_of history) doubt leaves.files image moment in
    elim file.2 as (λ _. (left : List Entry) × IsStoreOf left image × (IsAround history doubt left ⊎ IsFirstPart opened.history added left)) [
      | inl old ↦ let store = around before history doubt image file.0 leaves file.1 old in (store.0, store.1, inl store.2)
      | inr new ↦
          let store = first_part opened now log image file.0 some settled sound (now_grown opened now log holds) (marks_since opened now log holds marks) file.1 new in
          (store.0, store.1, inr store.2)
    ]

-- and from a moment at which the files were found, stores of the first part alone
pub stores_from : (moment : ℕ) (after : DiskCrashes) (opened now : State) (log : Log) → opened.history ≢ [] → opened.keeper.doubt ≡ None → IsSound now.history
    → HoldsFrom (opened_base opened) (given opened.history) now log → MarksMayCome [] log → LeavesFoundFrom moment after opened log
    → LeavesStoresFrom moment after opened.history (since (opened_base opened) log)
stores_from moment after opened now log some settled sound holds marks found image since_then =
    let file = found image since_then in
    first_part opened now log image file.0 some settled sound (now_grown opened now log holds) (marks_since opened now log holds marks) file.1 file.2

pub stores_found : (before after : DiskCrashes) (opened now : State) (log : Log) → opened.history ≢ [] → opened.keeper.doubt ≡ None → IsSound now.history
    → HoldsFrom (opened_base opened) (given opened.history) now log → MarksMayCome [] log → SurvivesOnDisk before after opened log
    → LeavesStoresFound before after opened.history (since (opened_base opened) log)
stores_found before after opened now log some settled sound holds marks survives =
    (survives.moment, survives.during, stores_from survives.moment after opened now log some settled sound holds marks survives.found)

-- The moment is the one at which the opening ended.
pub stores_since_opening : (start found later : DiskState) (middle after : DiskCrashes) (opened now : State) (log : Log) (count : ℕ) (bytes : List ℕ)
    → start.reads ≡ Some bytes → IsOpened start opened → opened.keeper.records ≡ records_told chained count found
    → LeavesFiles middle (records_of opened.history) None → ((image : List ℕ) → middle.left_since middle.clock image → middle.may_leave image)
    → HoldsFrom (opened_base opened) (given opened.history) now log
    → CrashesAlong (opened_base opened) log (record_crashes chained found middle) (record_crashes chained later after) → MarksMayCome [] log
    → IsSound now.history → LeavesStoresFrom middle.clock after opened.history (since (opened_base opened) log)
stores_since_opening start found later middle after opened now log count bytes is opening told files only holds crashes marks sound =
    stores_from middle.clock after opened now log opening.some opening.doubt sound holds marks
    (found_since found later middle after opened log count told (records_held start opened bytes opening is) crashes files only)
