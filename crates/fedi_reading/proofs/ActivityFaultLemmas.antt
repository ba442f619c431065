-- Reading an activity stops at the fault with the least number.
use Rattle.std.proofs.Common.{◌≡◌, ℕ, List, [], ◌∷◌, ◌++◌, find, length, Bool, true, false, not, cond, ◌||◌, ◌&&◌, nat_lt, Option, Some, None, codes, bytes_eq, refl, ap, sym, ◌∙◌}
use Rattle.std.specs.Prelude.{Result, Ok, Err, is_some, is_none, option_and_then}
use Rattle.std.specs.Option.{option_or, option_map_or}
use Rattle.std.specs.Result.{result_err}
use Rattle.std.specs.List.{filter_map}
use Rattle.std.proofs.lemmas.List.Elements.{filter_map-append}
use Rattle.serde_json.specs.Data.{Data, null, boolean, number, string, array, object}
use Rattle.serde_json.specs.Find.{as_object}
use Rattle.fedi_address.specs.Recipients.{all_of, distinct, union as joined}
use Rattle.fedi_address.specs.declared.recipients.Recipients.{Recipients}
use Rattle.fedi_objects.specs.declared.kind.Kind.{Kind}
use Rattle.fedi_reading.specs.Properties.{entries_at, property, reference_at, has_context, type_of, iri}
use Rattle.fedi_reading.specs.Reading.{recipient_of, reads_iri, reads_reply, reads_both, reads_people, reads_words, reads_posted}
use Rattle.fedi_reading.specs.Shapes.{◌>>=◌}
use Rattle.fedi_reading.specs.Faults.{is_bad_reference, is_bad_reply, has_fault, faults, first_fault}
use Rattle.fedi_address.proofs.Unions.{distinct_twice}
use Rattle.fedi_reading.specs.Activities.{kind_of, need_of, object_at, itself, embedded, id_of, object_id, or_no_object, reads_address, reads_target, new_type, reads_new_type, reads_audience, reads_creation, reads_own_id, reads_changes, needs_id, reads_id, is_oneself, reads_other, reads_by_need, reads_kind, reads_activity}
use Rattle.fedi_reading.specs.ActivityFaults.{has_wrong_type, has_bad_entry, named_by_both, union, has_crowd, is_self, has_activity_fault, first_post_fault}
use Rattle.fedi_reading.specs.declared.need.Need.{Need}
use Rattle.fedi_reading.specs.declared.need.Need.TheVariants.{Whole, Change, Another, Anything}
use Rattle.fedi_reading.specs.declared.need.Need.TheVariants as needs
use Rattle.fedi_reading.specs.declared.shape_fault.ShapeFault.{ShapeFault}
use Rattle.fedi_reading.specs.declared.shape_fault.ShapeFault.TheVariants.{NotObject, BadContext, NoType, NoId, NoActor, NoObject, BadIri, TooManyRecipients, BadText, SelfTarget}
use Rattle.fedi_reading.proofs.FaultLemmas.{only, then_fault, or_none, ended_fault, named_fault, test_fault, reply_fault, both_fault, people_fault, words_fault, posted_fault}
use Rattle.fedi_reading.proofs.KeptLemmas.{AreNamed, named_by, both_kept}

-- ---- tests

-- ---- the parts

new_type_fault : (o : Data) → result_err (reads_new_type o) ≡ only (has_wrong_type o) NoType
unfolding reads_new_type
new_type_fault o =
    elim (type_of o) as (λ t. result_err (new_type t) ≡ only (option_map_or (λ text. bytes_eq text (codes "Tombstone")) t true) NoType)
    [ None ↦ refl | Some text ↦ ended_fault (bytes_eq text (codes "Tombstone")) NoType text ]

pub target_fault : (d : Data) → result_err (reads_target d) ≡ only (is_bad_reference (reference_at (codes "target") d)) BadIri
unfolding reads_target
target_fault d = named_fault (reference_at (codes "target") d)

pub address_fault : (text : List ℕ) → result_err (reads_address text) ≡ only (is_bad_reference (Some text)) BadIri
unfolding reads_address
address_fault text = elim (iri text) as (λ o. result_err (option_map_or Ok o (Err BadIri)) ≡ only (is_none o) BadIri) [ None ↦ refl | Some i ↦ refl ]

-- the texts in a field of both, each once
named_twice : (key : List ℕ) (d o : Data) → distinct (named_by key d ++ named_by key o) ≡ named_by_both key d o
unfolding named_by_both
named_twice key d o =
    distinct_twice (filter_map recipient_of (entries_at key d)) (filter_map recipient_of (entries_at key o))
    ∙ ap distinct (sym (filter_map-append recipient_of (entries_at key d) (entries_at key o)))

-- the joined recipients are those that either names
pub joined_named : (d o : Data) (a b : Recipients) → AreNamed d a → AreNamed o b → joined a b ≡ union d o
joined_named d o a b h k =
    rw (
      h.to,
      h.cc,
      h.bto,
      h.bcc,
      h.audience,
      k.to,
      k.cc,
      k.bto,
      k.bcc,
      k.audience,
      named_twice (codes "to") d o,
      named_twice (codes "cc") d o,
      named_twice (codes "bto") d o,
      named_twice (codes "bcc") d o,
      named_twice (codes "audience") d o,
    ) refl

-- the next step counts if the first has no fault, and may use what the first returned
pub then_known : {A B : Type 0} (r : Result A ShapeFault) (f : A → Result B ShapeFault) (first rest : Option ShapeFault) → result_err r ≡ first → ((x : A) → r ≡ Ok x → result_err (f x) ≡ rest) → result_err (r >>= f) ≡ option_or first rest
then_known (Ok x) f first rest h k = rw (← h) (k x refl)
then_known (Err e) f first rest h k = rw (← h) refl

-- too many entries, or too many recipients in both together
or_crowd : (bad first second both : Bool) → option_or (cond bad (Some BadIri) (only (first || second) TooManyRecipients)) (only both TooManyRecipients)
    ≡ cond bad (Some BadIri) (only (first || (second || both)) TooManyRecipients)
or_crowd true first second both = refl
or_crowd false true second both = refl
or_crowd false false true both = refl
or_crowd false false false both = refl

audience_fault : (d o : Data) → result_err (reads_audience d o) ≡ cond (has_bad_entry d || has_bad_entry o) (Some BadIri) (only (has_fault d TooManyRecipients || has_crowd d o) TooManyRecipients)
unfolding reads_audience
audience_fault d o =
    then_known (reads_both 500 d o) _ _ (only (nat_lt 500 (length (all_of (union d o)))) TooManyRecipients) (both_fault 500 d o)
    (λ both h.
    let kept = both_kept 500 d o both h in
    ended_fault (nat_lt 500 (length (all_of (joined both.0 both.1)))) TooManyRecipients (joined both.0 both.1)
    ∙ ap (λ (r : Recipients). only (nat_lt 500 (length (all_of r))) TooManyRecipients) (joined_named d o both.0 both.1 kept.0.0 kept.1.0))
    ∙ or_crowd (has_bad_entry d || has_bad_entry o) (has_fault d TooManyRecipients) (has_fault o TooManyRecipients) _

-- ---- the faults of an activity, in their order

-- the tests of a Create: type, address, target, replies, entries, crowd, words
in_order_create : (t i g ro rd bad m wd wo : Bool) → option_or (only t NoType) (option_or (only i BadIri) (option_or (only g BadIri) (option_or (only ro BadIri) (option_or (only rd BadIri) (option_or (cond bad (Some BadIri) (only m TooManyRecipients)) (option_or (only wd BadText) (only wo BadText)))))))
    ≡ cond t (Some NoType) (cond (i || (g || (ro || (rd || bad)))) (Some BadIri) (cond m (Some TooManyRecipients) (only (wd || wo) BadText)))
in_order_create true i g ro rd bad m wd wo = refl
in_order_create false true g ro rd bad m wd wo = refl
in_order_create false false true ro rd bad m wd wo = refl
in_order_create false false false true rd bad m wd wo = refl
in_order_create false false false false true bad m wd wo = refl
in_order_create false false false false false true m wd wo = refl
in_order_create false false false false false false true wd wo = refl
in_order_create false false false false false false false true wo = refl
in_order_create false false false false false false false false wo = refl

creation_fault : (d o : Data) → result_err (reads_creation d o)
    ≡ cond (has_wrong_type o) (Some NoType) (cond (is_bad_reference (reference_at (codes "id") o) || (is_bad_reference (reference_at (codes "target") d) || (is_bad_reply o || (is_bad_reply d || (has_bad_entry d || has_bad_entry o))))) (Some BadIri) (cond (has_fault d TooManyRecipients || has_crowd d o) (Some TooManyRecipients) (only (has_fault d BadText || has_fault o BadText) BadText)))
unfolding reads_creation
creation_fault d o =
    then_fault (reads_new_type o) _ _ _ (new_type_fault o)
    (λ kind. then_fault (reads_iri (reference_at (codes "id") o)) _ _ _ (named_fault (reference_at (codes "id") o))
    (λ id. then_fault (reads_target d) _ _ _ (target_fault d)
    (λ target. then_fault (reads_reply o) _ _ _ (reply_fault o)
    (λ object_reply. then_fault (reads_reply d) _ _ _ (reply_fault d)
    (λ reply. then_fault (reads_audience d o) _ _ _ (audience_fault d o)
    (λ recipients. then_fault (reads_words d) _ _ _ (words_fault d)
    (λ words. then_fault (reads_words o) _ _ None (words_fault o) (λ object_words. refl) ∙ or_none _)))))))
    ∙ in_order_create (has_wrong_type o) _ _ (is_bad_reply o) (is_bad_reply d) (has_bad_entry d || has_bad_entry o) (has_fault d TooManyRecipients || has_crowd d o) (has_fault d BadText) (has_fault o BadText)

-- the tests of an Update: object, address, target, replies and entries, crowd, words
in_order_update : (n i g ro rd bad m wd wo : Bool) → option_or (cond n (Some NoObject) (only i BadIri)) (option_or (only g BadIri) (option_or (only ro BadIri) (option_or (cond (rd || bad) (Some BadIri) (only m TooManyRecipients)) (option_or (only wd BadText) (only wo BadText)))))
    ≡ cond n (Some NoObject) (cond (i || (g || (ro || (rd || (bad || false))))) (Some BadIri) (cond (m || false) (Some TooManyRecipients) (only (wd || wo) BadText)))
in_order_update true i g ro rd bad m wd wo = refl
in_order_update false true g ro rd bad m wd wo = refl
in_order_update false false true ro rd bad m wd wo = refl
in_order_update false false false true rd bad m wd wo = refl
in_order_update false false false false true bad m wd wo = refl
in_order_update false false false false false true m wd wo = refl
in_order_update false false false false false false true wd wo = refl
in_order_update false false false false false false false true wo = refl
in_order_update false false false false false false false false wo = refl

own_id_fault : (o : Data) → result_err (reads_own_id o) ≡ cond (is_none (reference_at (codes "id") o)) (Some NoObject) (only (is_bad_reference (reference_at (codes "id") o)) BadIri)
unfolding reads_own_id
own_id_fault o =
    elim (reference_at (codes "id") o) as (λ r. result_err (or_no_object r >>= reads_address) ≡ cond (is_none r) (Some NoObject) (only (is_bad_reference r) BadIri))
    [ None ↦ refl | Some text ↦ address_fault text ]

changes_fault : (d o : Data) → result_err (reads_changes d o)
    ≡ cond (is_none (reference_at (codes "id") o)) (Some NoObject) (cond (is_bad_reference (reference_at (codes "id") o) || (is_bad_reference (reference_at (codes "target") d) || (is_bad_reply o || (is_bad_reply d || (has_bad_entry d || false))))) (Some BadIri) (cond (has_fault d TooManyRecipients || false) (Some TooManyRecipients) (only (has_fault d BadText || has_fault o BadText) BadText)))
unfolding reads_changes
changes_fault d o =
    then_fault (reads_own_id o) _ _ _ (own_id_fault o)
    (λ id. then_fault (reads_target d) _ _ _ (target_fault d)
    (λ target. then_fault (reads_reply o) _ _ _ (reply_fault o)
    (λ object_reply. then_fault (reads_people d) _ _ _ (people_fault d)
    (λ people. then_fault (reads_words d) _ _ _ (words_fault d)
    (λ words. then_fault (reads_words o) _ _ None (words_fault o) (λ object_words. refl) ∙ or_none _)))))
    ∙ in_order_update (is_none (reference_at (codes "id") o)) _ _ (is_bad_reply o) (is_bad_reply d) (has_bad_entry d) (has_fault d TooManyRecipients) (has_fault d BadText) (has_fault o BadText)

-- the tests of another activity: object, address, target, reply and entries, crowd, words, the
-- author
in_order_other : (n i g rd bad m wd self : Bool) → option_or (cond n (Some NoObject) (only i BadIri)) (option_or (only g BadIri) (option_or (cond (rd || bad) (Some BadIri) (only m TooManyRecipients)) (option_or (only wd BadText) (only self SelfTarget))))
    ≡ cond n (Some NoObject) (cond (i || (g || (false || (rd || (bad || false))))) (Some BadIri) (cond (m || false) (Some TooManyRecipients) (cond (wd || false) (Some BadText) (only self SelfTarget))))
in_order_other true i g rd bad m wd self = refl
in_order_other false true g rd bad m wd self = refl
in_order_other false false true rd bad m wd self = refl
in_order_other false false false true bad m wd self = refl
in_order_other false false false false true m wd self = refl
in_order_other false false false false false true wd self = refl
in_order_other false false false false false false true self = refl
in_order_other false false false false false false false self = refl

id_fault : (need : Need) (reference : Option (List ℕ)) → result_err (reads_id need reference) ≡ cond (needs_id need && is_none reference) (Some NoObject) (only (is_bad_reference reference) BadIri)
unfolding reads_id
id_fault need reference = test_fault (needs_id need && is_none reference) NoObject _ _ (named_fault reference)

pub read_is : (reference id : Option (List ℕ)) → reads_iri reference ≡ Ok id → id ≡ option_and_then iri reference
read_is None id h = let same : None ≡ id = cc in sym same
read_is (Some text) id h =
    elim (iri text) as (λ o. cond (is_some o) (Ok o) (Err BadIri) ≡ Ok id → id ≡ o) [ None ↦ λ h. absurd cc | Some i ↦ λ h. cc ] h

id_is : (need : Need) (reference id : Option (List ℕ)) → reads_id need reference ≡ Ok id → id ≡ option_and_then iri reference
unfolding reads_id
id_is need reference id =
    elim (needs_id need && is_none reference) as (λ b. cond b (Err NoObject) (reads_iri reference) ≡ Ok id → id ≡ option_and_then iri reference)
    [ true ↦ λ h. absurd cc | false ↦ read_is reference id ]

another_is : (author : List ℕ) (id : Option (List ℕ)) → is_oneself author Another id ≡ option_map_or (λ i. bytes_eq i author) id false
another_is author None = refl
another_is author (Some i) = refl

pub self_is : (author : List ℕ) (need : Need) (d : Data) (id : Option (List ℕ)) → id ≡ option_and_then iri (object_id d) → is_oneself author need id ≡ is_self author need d
self_is author Whole d id h = refl
self_is author Change d id h = refl
self_is author Another d id h = rw (← h) (another_is author id)
self_is author needs.Id d id h = refl
self_is author Anything d id h = refl

other_fault : (author : List ℕ) (kind : Kind) (need : Need) (d : Data) → result_err (reads_other author kind need d)
    ≡ cond (needs_id need && is_none (object_id d)) (Some NoObject) (cond (is_bad_reference (object_id d) || (is_bad_reference (reference_at (codes "target") d) || (false || (is_bad_reply d || (has_bad_entry d || false))))) (Some BadIri) (cond (has_fault d TooManyRecipients || false) (Some TooManyRecipients) (cond (has_fault d BadText || false) (Some BadText) (only (is_self author need d) SelfTarget))))
unfolding reads_other
other_fault author kind need d =
    then_known (reads_id need (object_id d)) _ _ _ (id_fault need (object_id d))
    (λ id given. then_fault (reads_target d) _ _ _ (target_fault d)
    (λ target. then_fault (reads_people d) _ _ _ (people_fault d)
    (λ people. then_fault (reads_words d) _ _ (only (is_self author need d) SelfTarget) (words_fault d)
    (λ words. ended_fault (is_oneself author need id) SelfTarget _ ∙ ap (λ b. only b SelfTarget) (self_is author need d id (id_is need (object_id d) id given))))))
    ∙ in_order_other (needs_id need && is_none (object_id d)) _ _ (is_bad_reply d) (has_bad_entry d) (has_fault d TooManyRecipients) (has_fault d BadText) _

-- ---- the whole

-- the faults that an activity can have once it is known to be an object with the right context
abbrev later : List ShapeFault
later = NoType ∷ NoId ∷ NoActor ∷ NoObject ∷ BadIri ∷ TooManyRecipients ∷ BadText ∷ SelfTarget ∷ []

-- the `id` of an object that the activity contains is the `id` of what the activity is about
embedded_id : (found : Option Data) (o : Data) → option_and_then itself found ≡ Some o → option_and_then id_of found ≡ reference_at (codes "id") o
unfolding id_of
embedded_id None o h = absurd cc
embedded_id (Some null) o h = absurd cc
embedded_id (Some (boolean b)) o h = absurd cc
embedded_id (Some (number n)) o h = absurd cc
embedded_id (Some (string text)) o h = absurd cc
embedded_id (Some (array ds)) o h = absurd cc
embedded_id (Some (object ms)) o h = let same : object ms ≡ o = cc in ap (reference_at (codes "id")) same

pub object_id_is : (d o : Data) → embedded d ≡ Some o → object_id d ≡ reference_at (codes "id") o
unfolding embedded object_id
object_id_is d o h = embedded_id (object_at d) o h

create_fault : (author : List ℕ) (d : Data) (found : Option Data) → embedded d ≡ found → result_err (or_no_object found >>= reads_creation d) ≡ find (has_activity_fault author Whole d) later
create_fault author d None h = rw h refl
create_fault author d (Some o) h = rw (h, object_id_is d o h) (creation_fault d o)

update_fault : (author : List ℕ) (d : Data) (found : Option Data) → embedded d ≡ found → result_err (or_no_object found >>= reads_changes d) ≡ find (has_activity_fault author Change d) later
update_fault author d None h = rw h refl
update_fault author d (Some o) h = rw (h, object_id_is d o h) (changes_fault d o)

need_fault : (author : List ℕ) (kind : Kind) (need : Need) (d : Data) → result_err (reads_by_need author kind need d) ≡ find (has_activity_fault author need d) later
need_fault author kind Whole d = create_fault author d (embedded d) refl
need_fault author kind Change d = update_fault author d (embedded d) refl
need_fault author kind Another d = other_fault author kind Another d
need_fault author kind needs.Id d = other_fault author kind needs.Id d
need_fault author kind Anything d = other_fault author kind Anything d

-- a value that has a type is an object
typed_object : (d : Data) (kind : Kind) → kind_of d ≡ Some kind → is_some (as_object d) ≡ true
unfolding kind_of type_of property
typed_object null kind h = absurd cc
typed_object (boolean b) kind h = absurd cc
typed_object (number n) kind h = absurd cc
typed_object (string text) kind h = absurd cc
typed_object (array ds) kind h = absurd cc
typed_object (object ms) kind h = refl

in_context : {A : Type 0} (b c : Bool) (r : Result A ShapeFault) (rest : Option ShapeFault) → b ≡ true → result_err r ≡ rest → result_err (cond c r (Err BadContext)) ≡ cond (not b) (Some NotObject) (cond (not c) (Some BadContext) rest)
in_context b true r rest h k = rw h k
in_context b false r rest h k = rw h refl

post_fault : (author : List ℕ) (d : Data) (found : Option Kind) → kind_of d ≡ found
    → result_err (option_map_or (reads_kind author d) found (reads_posted d)) ≡ find (λ fault. option_map_or (λ kind. has_activity_fault author (need_of kind) d fault) found (has_fault d fault)) faults
unfolding first_fault
post_fault author d None h = posted_fault d
post_fault author d (Some kind) h = in_context (is_some (as_object d)) (has_context d) _ _ (typed_object d kind h) (need_fault author kind (need_of kind) d)

-- reading returns the first fault that holds
pub activity_fault : (author : List ℕ) (d : Data) → result_err (reads_activity author d) ≡ first_post_fault author d
unfolding reads_activity first_post_fault
activity_fault author d = post_fault author d (kind_of d) refl
