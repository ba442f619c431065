-- A connection of a demonstration: what was written, and the store that is left.
use Rattle.std.proofs.Common.{◌≡◌, ◌+◌, ℕ, suc, List, [], ◌∷◌, ◌++◌, length, All, Option, None, Some, refl, sym, ap, subst, ◌∙◌, append_assoc, append-nil, arith}
use Rattle.std.specs.Prelude.{◌≢◌, IfOk, IfSome, IsTrue, Result, Ok, Err, codes}
use Rattle.std.specs.Prelude.{option_to_list}
use Rattle.std.specs.Io.KnownBytes.{Appends}
use Rattle.std.proofs.lemmas.List.{append_cancel_left}
use Rattle.std.proofs.lemmas.List.Elements.{All-head}
use Rattle.fedi_journal.specs.Chains.{chained}
use Rattle.fedi_outside.specs.Images.{IsImage}
use Rattle.fedi_journal.specs.Files.{HasRecords}
use Rattle.fedi_log.specs.Keeping.{GoesAlone, HoldsFrom, HoldsSince, IsDoubted, Keeps, State, counted, since}
use Rattle.fedi_log.specs.Log.{Added, Failed, Full, Goes, IsOthers, Kept, Log, NoEntry, Outcome, doubts_after, doubts_of, failed_in, given, history_of, mark_in, marks_of}
use Rattle.fedi_log.specs.declared.items.Item.{Item}
use Rattle.fedi_log.specs.declared.items.What.{What}
use Rattle.fedi_log.specs.declared.items.What.TheVariants.{Claimed, Entered, Marked, Released}
use Rattle.fedi_log.proofs.Growing.{given_marks, goes_here, marks_append}
use Rattle.fedi_objects.specs.declared.entry.Entry.{Entry}
use Rattle.fedi_objects.specs.declared.entry.Entry.TheVariants.{Hosted}
use Rattle.fedi_outside.specs.Disks.{DiskCrashes}
use Rattle.fedi_outside.specs.MemoryDisks.{MemoryDiskState, contents_of, disk_shown}
use Rattle.fedi_startup.proofs.OneAnswer.{one_history}
use Rattle.fedi_startup.proofs.Stored.{leaves_stores, since_given}
use Rattle.fedi_startup.specs.Stores.{IsClosed, IsOpened, records_of}
use Rattle.fedi_startup.specs.Stores as stores
use Rattle.fedi_startup.specs.Surviving.{growth, opened_base, room}
use Rattle.fedi_logged.proofs.Ended.{closed_talks, ended_talks}
use Rattle.fedi_logged.proofs.Talks.{failures_marked, no_gaps, own_of_conversation, own_after}
use Rattle.fedi_logged.specs.Conversations.{AreCalm, Exchange, IsCalm, Progress, Setting, beginning, failures, own_items, progress}
use Rattle.fedi_logged.specs.Endings.{Output, Scene, Serves, Talks}
use Rattle.fedi_logged.specs.Turning.{setting_by}
use Rattle.fedi_logged.specs.declared.sessions.SessionEnd.{SessionEnd}
use Rattle.fedi_logged.specs.declared.sessions.SessionEnd.TheVariants.{End, CutShort, Closed, ReadFault, WriteFault, Memory}
use Rattle.fedi_demo.specs.Demonstrating.{HasStore, IsVisit, far_peer, founding, is_whole, member, members, moment}
use Rattle.fedi_demo.specs.Demonstrating.{set_up, setting}

-- ---- a log without marks

doubts_calm : (what : What) (rest : List Entry) → mark_in what ++ rest ≡ [] → doubts_after [] what ≡ []
doubts_calm (Entered e) rest none = refl
doubts_calm (Marked e) rest none = absurd (cc none)
doubts_calm (Claimed p m to) rest none = refl
doubts_calm (Released p) rest none = refl

marks_tail : (what : What) (rest : List Entry) → mark_in what ++ rest ≡ [] → rest ≡ []
marks_tail (Entered e) rest none = none
marks_tail (Marked e) rest none = absurd (cc none)
marks_tail (Claimed p m to) rest none = none
marks_tail (Released p) rest none = none

-- nothing is in doubt after items without a mark
no_doubts : (log : Log) → marks_of log ≡ [] → doubts_of [] log ≡ []
no_doubts [] none = refl
no_doubts (i ∷ log) none =
    ap (λ (ds : List (List ℕ)). doubts_of ds log) (doubts_calm i.what (marks_of log) none)
    ∙ no_doubts log (marks_tail i.what (marks_of log) none)

undoubted : (doubt : Option (List ℕ)) → IsDoubted [] doubt → doubt ≡ None
undoubted None is = refl
undoubted (Some d) is = absurd (omega (arith, is.1))

-- ---- exchanges without a failure

calm_outcome : (o : Outcome) (rest : List Entry) → failed_in o ++ rest ≡ [] → IsCalm o
calm_outcome NoEntry rest none = tt
calm_outcome (Kept e) rest none = tt
calm_outcome (Full e) rest none = tt
calm_outcome (Failed e) rest none = absurd (cc none)

failed_tail : (o : Outcome) (rest : List Entry) → failed_in o ++ rest ≡ [] → rest ≡ []
failed_tail NoEntry rest none = none
failed_tail (Kept e) rest none = none
failed_tail (Full e) rest none = none
failed_tail (Failed e) rest none = absurd (cc none)

calm_exchanges : (xs : List Exchange) → failures xs ≡ [] → AreCalm xs
calm_exchanges [] none = tt
calm_exchanges (x ∷ xs) none =
    (calm_outcome x.outcome (failures xs) none, calm_exchanges xs (failed_tail x.outcome (failures xs) none))

no_length : (es : List Entry) → length es ≡ 0 → es ≡ []
no_length [] zero = refl
no_length (e ∷ es) zero = absurd (cc zero)

-- a count that stays 0 has nothing to count
not_counted : (before more now : ℕ) → now ≡ counted before more → now ≡ 0 → more ≡ 0
not_counted before more now is none = omega (arith, is, none)

-- ---- a log to which nobody else added

none_left : (by : Option ℕ) (rest : Log) → All (IsOthers by) rest
    → All (λ (i : Item). i.pass ≡ by) rest → rest ≡ []
none_left by [] others own = refl
none_left by (x ∷ rest) others own =
    absurd (All-head (IsOthers by) x rest others (All-head (λ (i : Item). i.pass ≡ by) x rest own))

-- ---- the store of a disk

closed_file : (records : List (List ℕ)) (doubt : Option (List ℕ)) (bytes : List ℕ) → doubt ≡ None
    → HasRecords chained records doubt bytes → IsImage chained records bytes
closed_file records doubt bytes none has =
    let file = subst (λ (d : Option (List ℕ)). HasRecords chained records d bytes) none has in
    subst (λ (rs : List (List ℕ)). IsImage chained rs bytes) file.2 file.1

-- a machine that was closed with nothing in doubt leaves the store of its history
pub closed_store : (history : List Entry) (disk : MemoryDiskState) (crashes : DiskCrashes) (s : State)
    → s.history ≡ history → history ≢ [] → s.keeper.doubt ≡ None
    → IsClosed (disk_shown disk) crashes s → disk.faults ≡ 0 → HasStore history disk
closed_store history disk crashes s is some settled closes calm =
    let whole : HasStore s.history disk = record {
      stored = record {
        some = λ empty. some (sym is ∙ empty);
        sound = closes.sound;
        file = closed_file (records_of s.history) s.keeper.doubt _ settled closes.file;
      };
      calm = calm;
    } in
    subst (λ (h : List Entry). HasStore h disk) is whole

-- ---- a connection

written_is : (before now : Option (List ℕ)) (text written : List ℕ) → before ≡ Some []
    → now ≡ Some text → Appends before now written → text ≡ written
written_is before now text written first last adds =
    subst (λ (b : Option (List ℕ)). Appends b (Some text) written) first
    (subst (λ (n : Option (List ℕ)). Appends before n written) last adds)

-- a session that ended this way has held the whole conversation over the input
whole_talks : (w : Setting) (seen : Log) (first : Output) (now : Scene) (log : Log) (ending : SessionEnd)
    (known : Option (List ℕ)) → IsTrue (is_whole ending) → IfSome known (Serves w seen first now log ending)
    → IfSome known (Talks w seen first now log)
whole_talks w seen first now log End known whole serves = ended_talks w seen first now log known serves
whole_talks w seen first now log Closed known whole serves = closed_talks w seen first now log known serves
whole_talks w seen first now log CutShort known whole serves = absurd (cc whole)
whole_talks w seen first now log ReadFault known whole serves = absurd (cc whole)
whole_talks w seen first now log WriteFault known whole serves = absurd (cc whole)
whole_talks w seen first now log Memory known whole serves = absurd (cc whole)

-- All requests were answered, by a machine that was opened on the store of a disk and then closed,
-- and the disk did not fail.
pub visited : (history : List Entry) (input text : List ℕ) (disk left : MemoryDiskState)
    (crashes : DiskCrashes) (opened closed : State) (log : Log) (first now : Scene) (ending : SessionEnd)
    → HasStore history disk → IsOpened (disk_shown disk) opened
    → HoldsSince (opened_base opened) None (given opened.history) closed log
    → IsTrue (is_whole ending)
    → IfSome first.input (Serves (setting opened) (given opened.history) first.output now log ending)
    → IsClosed (disk_shown left) crashes closed → left.faults ≡ 0
    → first.input ≡ Some input → first.output.sent ≡ Some [] → now.output.sent ≡ Some text
    → IsVisit history input closed.history text × HasStore closed.history left
visited history input text disk left crashes opened closed log first now ending store opens holds done serves closes calm told empty sent = (
  record {
    opened = opened;
    exchanges = talks.exchanges;
    history = same;
    end = opens.end ∙ ap stores.end_of same;
    each = talks.each;
    alone = no_gaps (setting opened) start talks.exchanges past rest talks.each (sym grown.is ∙ later.is) grown.own;
    calm = calm_exchanges talks.exchanges (no_length (failures talks.exchanges) none_failed);
    over = talks.over;
    after_is = holds.holds.history ∙ ap history_of log_is;
    text_is = written_is first.output.sent now.output.sent text reach.written empty sent talks.done.written.sent;
  },
  closed_store closed.history left crashes closed refl some settled closes calm,
)
  where
    talks : Talks (setting opened) (given opened.history) first.output now log input
    talks = subst (λ (i : Option (List ℕ)). IfSome i (Talks (setting opened) (given opened.history) first.output now log)) told
        (whole_talks (setting opened) (given opened.history) first.output now log ending first.input done serves)

    start : Progress
    start = beginning input (given opened.history)

    reach : Progress
    reach = progress (setting opened) start talks.exchanges

    same : opened.history ≡ history
    same = one_history opened.history history (contents_of disk.base disk.calls).reads opens.stored store.stored

    grown : GoesAlone None (given opened.history) log
    grown = holds.grown

    later : Goes None reach.log log
    later = talks.done.later

    keeps : Keeps (opened_base opened) closed.keeper log
    keeps = holds.holds.keeper

    past : Log
    past = grown.past

    rest : Log
    rest = later.rest

    added : Added None (given opened.history) reach.log (own_items None talks.exchanges)
    added = own_of_conversation (setting opened) (given opened.history) reach.log input reach.written talks.exchanges
        (record { each = talks.each; later = goes_here None reach.log; written_is = refl })

    past_is : past ≡ added.rest ++ rest
    past_is = append_cancel_left (given opened.history) past (added.rest ++ rest)
        (sym grown.is ∙ later.is ∙ ap (λ (l : Log). l ++ rest) added.is
        ∙ append_assoc (given opened.history) added.rest rest)

    none : rest ≡ []
    none = none_left None rest later.others
        (own_after None added.rest rest (subst (λ (l : Log). All (λ (i : Item). i.pass ≡ None) l) past_is grown.own))

    log_is : log ≡ reach.log
    log_is = later.is ∙ ap (λ (l : Log). reach.log ++ l) none ∙ append-nil reach.log

    since_is : since (opened_base opened) log ≡ past
    since_is = since_given opened log past grown.is

    unmarked : marks_of (since (opened_base opened) log) ≡ []
    unmarked = no_length (marks_of (since (opened_base opened) log))
        (not_counted opened.keeper.faults _ closed.keeper.faults keeps.faults (closes.faults ∙ calm))

    unmarked_past : marks_of past ≡ []
    unmarked_past = sym (ap marks_of since_is) ∙ unmarked

    unmarked_log : marks_of reach.log ≡ []
    unmarked_log = ap marks_of (sym log_is ∙ grown.is) ∙ marks_append (given opened.history) past
        ∙ ap (λ (es : List Entry). es ++ marks_of past) (given_marks opened.history) ∙ unmarked_past

    none_failed : length (failures talks.exchanges) ≡ 0
    none_failed =
        let most = failures_marked (setting opened) start talks.exchanges talks.each in
        let zero : length (marks_of reach.log) ≡ 0 = ap length unmarked_log in
        omega (arith, most, zero)

    settled : closed.keeper.doubt ≡ None
    settled = undoubted closed.keeper.doubt
        (subst (λ (ds : List (List ℕ)). IsDoubted ds closed.keeper.doubt)
        (ap (λ (d : Option (List ℕ)). doubts_of (option_to_list d) (since (opened_base opened) log)) opens.doubt
        ∙ no_doubts (since (opened_base opened) log) unmarked) keeps.doubt)

    goes : HoldsFrom (opened_base opened) (given opened.history) closed log
    goes = record { past = grown.past; is = grown.is; holds = holds.holds }

    some : closed.history ≢ []
    some = (leaves_stores (disk_shown left) crashes opened closed log opens.some goes closes).some

-- the same for a session that ended this way, at the moment of the demonstration
pub session_visited : (history : List Entry) (input text : List ℕ) (disk left : MemoryDiskState)
    (crashes : DiskCrashes) (opened closed : State) (log : Log) (first now : Scene)
    (ending : SessionEnd) (at : ℕ) → HasStore history disk → IsOpened (disk_shown disk) opened
    → HoldsSince (opened_base opened) None (given opened.history) closed log
    → IsTrue (is_whole ending) → at ≡ moment
    → IfSome first.input (Serves (setting_by growth room (Some at) None opened)
    (given opened.history) first.output now log ending)
    → IsClosed (disk_shown left) crashes closed → left.faults ≡ 0
    → first.input ≡ Some input → first.output.sent ≡ Some [] → now.output.sent ≡ Some text
    → IsVisit history input closed.history text × HasStore closed.history left
session_visited history input text disk left crashes opened closed log first now ending at store opens holds done same serves closes calm told empty sent =
    visited history input text disk left crashes opened closed log first now ending store opens holds done
    (subst (λ (m : ℕ). IfSome first.input (Serves (setting_by growth room (Some m) None opened) (given opened.history) first.output now log ending)) same serves)
    closes calm told empty sent

-- ---- entries

pub one_more_some : (history : List Entry) (e : Entry) → (history ++ e ∷ []) ≢ []
one_more_some [] e = λ is. absurd (cc is)
one_more_some (f ∷ history) e = λ is. absurd (cc is)

-- with one more member the history is the one for the next count
pub one_more_member : (h : List Entry) (e : Entry) (count : ℕ) → h ≡ set_up ∷ members count
    → e ≡ member count → h ++ e ∷ [] ≡ set_up ∷ members (count + 1)
one_more_member h e count is same =
    let number : suc count ≡ count + 1 = omega arith in
    ap (λ (x : List Entry). x ++ e ∷ []) is
    ∙ ap (λ (x : Entry). (set_up ∷ members count) ++ x ∷ []) same
    ∙ ap (λ (n : ℕ). set_up ∷ members n) number

-- with all members and the peer it is the history before the first request
pub all_founded : (h : List Entry) (e : Entry) (count : ℕ) → h ≡ set_up ∷ members count → count ≡ 8
    → e ≡ far_peer → h ++ e ∷ [] ≡ founding
unfolding founding
all_founded h e count is all same =
    ap (λ (x : List Entry). x ++ e ∷ []) (is ∙ ap (λ (n : ℕ). set_up ∷ members n) all)
    ∙ ap (λ (x : Entry). (set_up ∷ members 8) ++ x ∷ []) same

-- ---- the store before the first request

pub set_up_is : (host : List ℕ) (at : ℕ) → host ≡ codes "town.example" → at ≡ moment
    → Hosted host at ≡ set_up
unfolding set_up
set_up_is host at same now =
    ap (λ (h : List ℕ). Hosted h at) same ∙ ap (λ (m : ℕ). Hosted (codes "town.example") m) now

pub founding_some : founding ≢ []
unfolding founding
founding_some = one_more_some (set_up ∷ members 8) far_peer

-- a calm disk has the store that it has whenever it is calm
pub calm_store : {E : Type 0} (r : Result MemoryDiskState E) (history : List Entry)
    (disk : MemoryDiskState) → IfOk r (λ calm. (calm ≡ disk) × (disk.faults ≡ 0))
    → (disk.faults ≡ 0 → HasStore history disk) → IfOk r (λ calm. HasStore history calm)
calm_store (Ok calm) history disk whole store =
    subst (λ (d : MemoryDiskState). HasStore history d) (sym whole.0) (store whole.1)
calm_store (Err e) history disk whole store = tt
