-- The invariants of a machine still hold after one more entry.
use Rattle.std.proofs.Common.{inl, inr, ◌≡◌, ℕ, ◌+◌, true, false, List, [], ◌∷◌, ◌++◌, length, map, Option, None, Some, Result, Ok, Err, refl, sym, ap, subst, ◌∙◌}
use Rattle.std.specs.Prelude.{IfErr, IfSome, IsErrOf, OnErr, OnOk, option_map}
use Rattle.std.specs.List.{AllByRecursion, find, list_any}
use Rattle.std.proofs.lemmas.List.{length-append, map-append}
use Rattle.fedi_entry.specs.Codes.{code_of}
use Rattle.fedi_entry.specs.Fields.{IsFormed}
use Rattle.fedi_opening.specs.Opening.{IsNext}
use Rattle.fedi_opening.proofs.Records.{formed_more}
use Rattle.fedi_objects.specs.declared.activity.Activity.{Activity}
use Rattle.fedi_objects.specs.declared.entry.Entry.{Entry}
use Rattle.fedi_objects.specs.declared.entry.Entry.TheVariants.{Local}
use Rattle.fedi_laws.proofs.Beside.{peers_alone}
use Rattle.fedi_laws.proofs.Isolation.{known_deliveries, unseen_deliveries, unseen_posts}
use Rattle.fedi_town.proofs.Lists.{find-none}
use Rattle.fedi_town.specs.Agreement.{Agree}
use Rattle.fedi_town.specs.Histories.{town}
use Rattle.fedi_town.specs.Legal.{IsLegal, may_post}
use Rattle.fedi_town.specs.Towns.{Town, empty_town, has_name, id_of}
use Rattle.fedi_town.proofs.Growing.{legal_push, legal_last}
use Rattle.fedi_outside.specs.Keepers.{HasAdded, KeeperState}
use Rattle.fedi_core.specs.declared.keeping.KeepFault.{KeepFault}
use Rattle.fedi_core.specs.declared.keeping.KeepFault.TheVariants.{Full, Failed, Memory}
use Rattle.fedi_core.specs.Keeping.{HidesDeliveries, HidesPosts, MayAdd, Refuses, TellsOwners, TellsPeers}
use Rattle.fedi_core.specs.Machines.{IsGrown, IsKeeping, IsMachine, IsNextCode, IsQueueGrown, IsQueueSame, IsSame, Stands}
use Rattle.fedi_effects.specs.Holdings.{Holding}
use Rattle.fedi_queue.specs.Queues.{Queued}

-- the keeper added the record of one more entry
keeps_more : (growth : ℕ → ℕ) (k k' : KeeperState) (h : List Entry) (e : Entry) → IsKeeping k h → HasAdded growth (code_of e) k k' → IsKeeping k' (h ++ e ∷ [])
keeps_more growth k k' h e keeps added = record {
  held = added.held ∙ (ap (λ (n : ℕ). n + 1) keeps.held ∙ sym (length-append h (e ∷ [])));
  spelled = subst (λ (told : Option (List (List ℕ))). IfSome told (λ records. map code_of (h ++ e ∷ []) ≡ records)) (sym added.records)
      (more k.records keeps.spelled);
  doubted = subst (λ (d : Option (List ℕ)). IfSome d (IsNextCode (h ++ e ∷ []))) (sym added.doubt) tt;
}
  where
    more : (told : Option (List (List ℕ))) → IfSome told (λ records. map code_of h ≡ records)
        → IfSome (option_map (λ records. records ++ code_of e ∷ []) told) (λ records. map code_of (h ++ e ∷ []) ≡ records)
    more None is = tt
    more (Some records) is = map-append code_of h (e ∷ []) ∙ ap (λ (r : List (List ℕ)). r ++ code_of e ∷ []) is

-- the invariant holds after an entry that may be added
grown : (growth : ℕ → ℕ) (f f' : Holding) (k k' : KeeperState) (e : Entry) → Stands f k → MayAdd (town f.history) e → IsFormed e → IsGrown f e f'
    → HasAdded growth (code_of e) k k' → Stands f' k'
grown growth f f' k k' e stands may formed more added = record {
  made = more.made ∙ ap (λ (h : List Entry). town h) (sym more.held);
  legal = subst IsLegal (sym more.held) (record { admissible = legal_push f.history empty_town e stands.legal.admissible may.admissible });
  formed = subst (AllByRecursion IsFormed) (sym more.held) (formed_more f.history e stands.formed formed);
  kept = subst (λ (h : List Entry). IsKeeping k' h) (sym more.held) (keeps_more growth k k' f.history e stands.kept added);
}

-- a keeper that refused a record has the same records as before
refuser_keeps : (room : ℕ → ℕ) (code : List ℕ) (fault : KeepFault) (k k' : KeeperState) → Refuses room code fault k k'
    → (k'.held ≡ k.held) × (k'.records ≡ k.records)
refuser_keeps room code Full k k' refused = (refused.1.held, refused.1.records)
refuser_keeps room code Failed k k' refused = (refused.1.held, refused.1.records)
refuser_keeps room code Memory k k' refused = (refused.held, refused.records)

-- an entry that may be added and has well-formed fields may come next
pub comes_next : (t : Town) (e : Entry) → MayAdd t e → IsFormed e → IsNext t e
comes_next t e may formed = record { formed = formed; admissible = may.admissible }

-- the record that is then in doubt may come next
refuser_doubts : (room : ℕ → ℕ) (e : Entry) (fault : KeepFault) (k k' : KeeperState) (h : List Entry) → IfSome k.doubt (IsNextCode h)
    → (fault ≡ Failed → IsNext (town h) e) → Refuses room (code_of e) fault k k' → IfSome k'.doubt (IsNextCode h)
refuser_doubts room e Full k k' h doubted next refused = subst (λ (d : Option (List ℕ)). IfSome d (IsNextCode h)) (sym refused.1.doubt) doubted
refuser_doubts room e Memory k k' h doubted next refused = subst (λ (d : Option (List ℕ)). IfSome d (IsNextCode h)) (sym refused.doubt) doubted
refuser_doubts room e Failed k k' h doubted next refused =
    elim refused.1.doubt as (λ _. IfSome k'.doubt (IsNextCode h)) [
      | inl same ↦ subst (λ (d : Option (List ℕ)). IfSome d (IsNextCode h)) (sym same) doubted
      | inr other ↦ elim other as (λ _. IfSome k'.doubt (IsNextCode h)) [
        | inl none ↦ subst (λ (d : Option (List ℕ)). IfSome d (IsNextCode h)) (sym none) tt
        | inr this ↦ subst (λ (d : Option (List ℕ)). IfSome d (IsNextCode h)) (sym this) (e, next refl, refl)
      ]
    ]

-- the invariant holds after an entry that was refused
unchanged : (room : ℕ → ℕ) (e : Entry) (fault : KeepFault) (f f' : Holding) (k k' : KeeperState) → Stands f k → IsSame f f'
    → (fault ≡ Failed → IsNext (town f.history) e) → Refuses room (code_of e) fault k k' → Stands f' k'
unchanged room e fault f f' k k' stands same next refused =
    let keeper = refuser_keeps room (code_of e) fault k k' refused in
    record {
      made = same.made ∙ (stands.made ∙ ap (λ (h : List Entry). town h) (sym same.held));
      legal = subst IsLegal (sym same.held) stands.legal;
      formed = subst (AllByRecursion IsFormed) (sym same.held) stands.formed;
      kept = record {
        held = keeper.0 ∙ (stands.kept.held ∙ ap (λ (h : List Entry). length h) (sym same.held));
        spelled = subst (λ (told : Option (List (List ℕ))). IfSome told (λ records. map code_of f'.history ≡ records)) (sym keeper.1)
            (subst (λ (h : List Entry). IfSome k.records (λ records. map code_of h ≡ records)) (sym same.held) stands.kept.spelled);
        doubted = subst (λ (h : List Entry). IfSome k'.doubt (IsNextCode h)) (sym same.held)
            (refuser_doubts room e fault k k' f.history stands.kept.doubted next refused);
      };
    }

-- the invariant holds after an entry that may be added was kept or refused
stays : (growth room : ℕ → ℕ) (r : Result (Unit {0}) KeepFault) (f f' : Holding) (k k' : KeeperState) (e : Entry) → Stands f k
    → MayAdd (town f.history) e → OnOk r (IsFormed e) → (IsErrOf r Failed → IsFormed e) → OnOk r (IsGrown f e f') → OnErr r (IsSame f f')
    → OnOk r (HasAdded growth (code_of e) k k') → IfErr r (λ fault. Refuses room (code_of e) fault k k') → Stands f' k'
stays growth room (Ok done) f f' k k' e stands may formed failed more same added refused = grown growth f f' k k' e stands may formed more added
stays growth room (Err fault) f f' k k' e stands may formed failed more same added refused =
    unchanged room e fault f f' k k' stands same (λ is. comes_next (town f.history) e may (failed (ap (λ (x : KeepFault). Err x) is))) refused

-- the queue is that of the history after an entry was kept or refused
queue_stays : (r : Result (Unit {0}) KeepFault) (f f' : Holding) (q q' : Queued) (e : Entry) → q.history ≡ f.history → OnOk r (IsGrown f e f') → OnErr r (IsSame f f')
    → OnOk r (IsQueueGrown q e q') → OnErr r (IsQueueSame q q') → q'.history ≡ f'.history
queue_stays (Ok done) f f' q q' e own more same grows stays = grows.history ∙ (ap (λ (h : List Entry). h ++ e ∷ []) own ∙ sym more.held)
queue_stays (Err fault) f f' q q' e own more same grows stays = stays.history ∙ (own ∙ sym same.held)

-- a machine remains one after an entry that may be added was kept or refused
pub machine_stays : (growth room : ℕ → ℕ) (r : Result (Unit {0}) KeepFault) (f f' : Holding) (k k' : KeeperState) (q q' : Queued) (e : Entry) → IsMachine f k q
    → MayAdd (town f.history) e → OnOk r (IsFormed e) → (IsErrOf r Failed → IsFormed e) → OnOk r (IsGrown f e f') → OnErr r (IsSame f f')
    → OnOk r (IsQueueGrown q e q') → OnErr r (IsQueueSame q q') → OnOk r (HasAdded growth (code_of e) k k')
    → IfErr r (λ fault. Refuses room (code_of e) fault k k') → IsMachine f' k' q'
machine_stays growth room r f f' k k' q q' e machine may formed failed more same grows stayed added refused = record {
  stands = stays growth room r f f' k k' e machine.stands may formed failed more same added refused;
  queued = queue_stays r f f' q q' e machine.queued more same grows stayed;
}

-- ---- posts that a caller does not see

-- the poster is a member
posting_member : (t : Town) (name : List ℕ) (repeat : Option (List ℕ × List ℕ)) (a : Activity) → may_post t name repeat a (id_of t name) ≡ true
    → list_any (has_name name) t.actors ≡ true
posting_member t name repeat a may =
    elim (list_any (has_name name) t.actors) as (λ b. list_any (has_name name) t.actors ≡ b → b ≡ true) [
      | true ↦ λ is. refl
      | false ↦ λ is.
          let none : find (has_name name) t.actors ≡ None = find-none (has_name name) t.actors is in
          let wrong : false ≡ true = rw none at may in absurd cc
    ] refl

pub posts_hidden : (h h' : List Entry) → IsLegal h → IsLegal h' → HidesPosts h h'
posts_hidden h h' legal also = λ host name repeat a moment c is longer quiet unseen.
    let e : Entry = Local name repeat a moment in
    let next : IsLegal (h ++ e ∷ []) = subst IsLegal longer also in
    let member : list_any (has_name name) (town h).actors ≡ true = posting_member (town h) name repeat a (legal_last h empty_town e next.admissible).1 in
    subst (λ (k : List Entry). Agree (town k) (town h) c) (sym longer) (unseen_posts h host name repeat a moment c legal is member quiet unseen)

-- ---- deliveries that a caller does not see

pub deliveries_hidden : (h h' : List Entry) → HidesDeliveries h h'
deliveries_hidden h h' = λ peer inbox owner author id a moment c longer of_inbox of_author of_id new quiet other unseen.
    subst (λ (k : List Entry). Agree (town k) (town h) c) (sym longer)
    (unseen_deliveries h peer inbox owner author id a moment c of_inbox of_author of_id new quiet other unseen)

pub owners_told : (h h' : List Entry) → IsLegal h → TellsOwners h h'
owners_told h h' legal = λ host peer inbox author id a moment c longer hosted member of_author of_id known caller other.
    subst (λ (k : List Entry). Agree (town k) (town h) c) (sym longer)
    (known_deliveries h host peer inbox author id a moment c legal hosted member of_author of_id known caller other)

-- ---- peers that are added

pub peers_told : (h h' : List Entry) → TellsPeers h h'
peers_told h h' = λ host key address relay moment c longer other.
    subst (λ (k : List Entry). Agree (town k) (town h) c) (sym longer) (peers_alone h host key address relay moment c other)
