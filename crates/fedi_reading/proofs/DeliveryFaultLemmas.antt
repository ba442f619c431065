-- Reading a delivery stops at the fault with the least number.
use Rattle.std.proofs.Common.{◌≡◌, ℕ, List, [], ◌∷◌, find, Bool, true, false, not, cond, ◌||◌, ◌&&◌, Option, Some, None, codes, refl, ap, ◌∙◌}
use Rattle.std.specs.Prelude.{Result, Ok, Err, is_some, is_none, option_and_then}
use Rattle.std.specs.Option.{option_or, option_map_or}
use Rattle.std.specs.Result.{result_err}
use Rattle.serde_json.specs.Data.{Data}
use Rattle.serde_json.specs.Find.{as_object}
use Rattle.fedi_objects.specs.Objects.{activity_of_kind, object_of_kind}
use Rattle.fedi_objects.specs.declared.activity.Activity.{Activity}
use Rattle.fedi_objects.specs.declared.kind.Kind.{Kind}
use Rattle.fedi_objects.specs.declared.object.Object.{Object}
use Rattle.fedi_reading.specs.Activities.{carried, embedded, kind_of, need_of, needs_id, object_id, reads_target}
use Rattle.fedi_reading.specs.ActivityFaults.{has_bad_entry, is_self}
use Rattle.fedi_reading.specs.Deliveries.{has_no, is_own_target, reads_addresses, reads_attributed, reads_bare, reads_carried, reads_delivered, reads_full, reads_own_addresses, reads_sent, reads_with, reads_without}
use Rattle.fedi_reading.specs.DeliveryFaults.{first_delivery_fault, has_bad_address, has_bad_source, has_delivery_fault, is_bad_at}
use Rattle.fedi_reading.specs.Faults.{has_fault, is_bad_reference}
use Rattle.fedi_reading.specs.Properties.{has_context, iri, reference_at, type_of}
use Rattle.fedi_reading.specs.Reading.{is_crowded, reads_both, reads_few, reads_iri, reads_reply, reads_words}
use Rattle.fedi_reading.specs.declared.need.Need.{Need}
use Rattle.fedi_reading.specs.declared.need.Need.TheVariants.{Whole, Change, Another, Anything}
use Rattle.fedi_reading.specs.declared.need.Need.TheVariants as needs
use Rattle.fedi_reading.specs.declared.shape_fault.ShapeFault.{ShapeFault}
use Rattle.fedi_reading.specs.declared.shape_fault.ShapeFault.TheVariants.{NotObject, BadContext, NoType, NoId, NoActor, NoObject, BadIri, TooManyRecipients, BadText, SelfTarget}
use Rattle.fedi_reading.proofs.ActivityFaultLemmas.{then_known, target_fault, read_is, self_is, object_id_is}
use Rattle.fedi_reading.proofs.DeliveryKept.{addressed_parts}
use Rattle.fedi_reading.proofs.FaultLemmas.{only, then_fault, or_none, or_both, ended_fault, named_fault, test_fault, reply_fault, few_fault, both_fault, words_fault}

-- ---- the parts

addresses_fault : (a : Activity) (d : Data) → result_err (reads_addresses a d) ≡ only (has_bad_address d) BadIri
unfolding reads_addresses
addresses_fault a d =
    then_fault (reads_iri (reference_at (codes "id") d)) _ _ _ (named_fault (reference_at (codes "id") d))
    (λ id. then_fault (reads_iri (reference_at (codes "actor") d)) _ _ _ (named_fault (reference_at (codes "actor") d))
    (λ actor. then_fault (reads_target d) _ _ _ (target_fault d)
    (λ target. then_fault (reads_reply d) _ _ None (reply_fault d) (λ reply. refl) ∙ or_none _)
    ∙ or_both _ _ BadIri)
    ∙ or_both _ _ BadIri)
    ∙ or_both _ _ BadIri

attributed_fault : (o : Data) → result_err (reads_attributed o) ≡ only (is_bad_at (codes "attributedTo") o) BadIri
unfolding reads_attributed
attributed_fault o = named_fault (reference_at (codes "attributedTo") o)

own_fault : (made : Object) (o : Data) → result_err (reads_own_addresses made o) ≡ only (is_bad_at (codes "id") o || has_bad_source o) BadIri
unfolding reads_own_addresses
own_fault made o =
    then_fault (reads_iri (reference_at (codes "id") o)) _ _ _ (named_fault (reference_at (codes "id") o))
    (λ id. then_fault (reads_attributed o) _ _ _ (attributed_fault o)
    (λ attributed_to. then_fault (reads_reply o) _ _ None (reply_fault o) (λ reply. refl) ∙ or_none _)
    ∙ or_both _ _ BadIri)
    ∙ or_both _ _ BadIri

-- ---- the actor itself

-- the actor follows or blocks itself
abbrev is_own : Need → Data → Bool
is_own need d = has_delivery_fault need d SelfTarget

own_same : (need : Need) (d : Data) (about : Option (List ℕ)) → about ≡ option_and_then iri (object_id d) → (actor : Option (List ℕ))
    → is_own_target actor need about ≡ option_map_or (λ author. is_self author need d) actor false
own_same need d about h None = refl
own_same need d about h (Some author) = self_is author need d about h

actor_is : (a : Activity) (d : Data) (b : Activity) → reads_addresses a d ≡ Ok b → b.actor ≡ option_and_then iri (reference_at (codes "actor") d)
actor_is a d b h =
    let parts = addressed_parts a d b h in
    ap (λ (x : Activity). x.actor) parts.whole ∙ read_is (reference_at (codes "actor") d) parts.actor parts.actor_read

own_is : (a : Activity) (need : Need) (d : Data) (b : Activity) (about : Option (List ℕ)) → reads_addresses a d ≡ Ok b → reads_iri (object_id d) ≡ Ok about
    → is_own_target b.actor need about ≡ is_own need d
own_is a need d b about h k =
    own_same need d about (read_is (object_id d) about k) b.actor
    ∙ ap (λ (x : Option (List ℕ)). option_map_or (λ author. is_self author need d) x false) (actor_is a d b h)

-- ---- an activity that carries no object

-- the tests: addresses, the object's, entries, crowd, words, the actor
in_order_bare : (a b e c w s : Bool) → option_or (only a BadIri) (option_or (only b BadIri) (option_or (cond e (Some BadIri) (only c TooManyRecipients)) (option_or (only w BadText) (only s SelfTarget))))
    ≡ cond (a || (b || (false || (e || false)))) (Some BadIri) (cond (c || false) (Some TooManyRecipients) (cond (w || false) (Some BadText) (only s SelfTarget)))
in_order_bare true b e c w s = refl
in_order_bare false true e c w s = refl
in_order_bare false false true c w s = refl
in_order_bare false false false true w s = refl
in_order_bare false false false false true s = refl
in_order_bare false false false false false s = refl

bare_fault : (a : Activity) (need : Need) (d : Data) → result_err (reads_bare a need d)
    ≡ cond (has_bad_address d || (is_bad_reference (object_id d) || (false || (has_bad_entry d || false)))) (Some BadIri) (cond (is_crowded 501 d || false) (Some TooManyRecipients) (cond (has_fault d BadText || false) (Some BadText) (only (is_own need d) SelfTarget)))
unfolding reads_bare
bare_fault a need d =
    then_known (reads_addresses a d) _ _ _ (addresses_fault a d)
    (λ addressed h. then_known (reads_iri (object_id d)) _ _ _ (named_fault (object_id d))
    (λ about k. then_fault (reads_few 501 d) _ _ _ (few_fault 501 d)
    (λ recipients. then_fault (reads_words d) _ _ (only (is_own need d) SelfTarget) (words_fault d)
    (λ words. ended_fault (is_own_target addressed.actor need about) SelfTarget _ ∙ ap (λ b. only b SelfTarget) (own_is a need d addressed about h k)))))
    ∙ in_order_bare (has_bad_address d) (is_bad_reference (object_id d)) (has_bad_entry d) (is_crowded 501 d) (has_fault d BadText) (is_own need d)

-- a test of two parts, the second of which cannot hold
one_fault : {A : Type 0} (b : Bool) (e : ShapeFault) (r : Result A ShapeFault) (rest : Option ShapeFault) → result_err r ≡ rest → result_err (cond b (Err e) r) ≡ cond (b || false) (Some e) rest
one_fault true e r rest h = refl
one_fault false e r rest h = h

-- the faults that an activity can have once it has a type
abbrev later : List ShapeFault
later = NoType ∷ NoId ∷ NoActor ∷ NoObject ∷ BadIri ∷ TooManyRecipients ∷ BadText ∷ SelfTarget ∷ []

without_fault : (kind : Kind) (d : Data) → kind_of d ≡ Some kind → carried (need_of kind) d ≡ None → result_err (reads_without kind d) ≡ find (has_delivery_fault (need_of kind) d) later
unfolding reads_without
without_fault kind d h k =
    rw (h, k)
    (one_fault (has_no (codes "id") d) NoId _ _
    (test_fault (has_no (codes "actor") d) NoActor _ _
    (test_fault (needs_id (need_of kind) && is_none (object_id d)) NoObject _ _ (bare_fault (activity_of_kind kind) (need_of kind) d))))

-- ---- one that carries its object

-- the tests: addresses, the object's `id` and its other addresses, entries, crowd, words
in_order_full : (a i x e c w : Bool) → option_or (only a BadIri) (option_or (only (i || x) BadIri) (option_or (cond e (Some BadIri) (only c TooManyRecipients)) (only w BadText)))
    ≡ cond (a || (i || (x || e))) (Some BadIri) (cond c (Some TooManyRecipients) (only w BadText))
in_order_full true i x e c w = refl
in_order_full false true x e c w = refl
in_order_full false false true e c w = refl
in_order_full false false false true c w = refl
in_order_full false false false false true w = refl
in_order_full false false false false false w = refl

full_fault : (a : Activity) (made : Object) (d o : Data) → result_err (reads_full a made d o)
    ≡ cond (has_bad_address d || (is_bad_at (codes "id") o || (has_bad_source o || (has_bad_entry d || has_bad_entry o)))) (Some BadIri) (cond (is_crowded 501 d || is_crowded 501 o) (Some TooManyRecipients) (only (has_fault d BadText || has_fault o BadText) BadText))
unfolding reads_full
full_fault a made d o =
    then_fault (reads_addresses a d) _ _ _ (addresses_fault a d)
    (λ addressed. then_fault (reads_own_addresses made o) _ _ _ (own_fault made o)
    (λ own. then_fault (reads_both 501 d o) _ _ _ (both_fault 501 d o)
    (λ both. then_fault (reads_words d) _ _ _ (words_fault d)
    (λ words. then_fault (reads_words o) _ _ None (words_fault o) (λ object_words. refl) ∙ or_none _)
    ∙ or_both (has_fault d BadText) (has_fault o BadText) BadText)))
    ∙ in_order_full (has_bad_address d) (is_bad_at (codes "id") o) (has_bad_source o) (has_bad_entry d || has_bad_entry o) (is_crowded 501 d || is_crowded 501 o) (has_fault d BadText || has_fault o BadText)

with_fault : (kind : Kind) (d o : Data) (type : Option (List ℕ)) → result_err (reads_with kind d o type)
    ≡ cond (is_none type) (Some NoType) (cond (has_no (codes "id") d || has_no (codes "id") o) (Some NoId) (cond (has_no (codes "actor") d) (Some NoActor)
    (cond (has_bad_address d || (is_bad_at (codes "id") o || (has_bad_source o || (has_bad_entry d || has_bad_entry o)))) (Some BadIri) (cond (is_crowded 501 d || is_crowded 501 o) (Some TooManyRecipients) (only (has_fault d BadText || has_fault o BadText) BadText)))))
with_fault kind d o None = refl
with_fault kind d o (Some type) =
    test_fault (has_no (codes "id") d || has_no (codes "id") o) NoId _ _
    (test_fault (has_no (codes "actor") d) NoActor _ _ (full_fault (activity_of_kind kind) (object_of_kind type) d o))

-- an activity that carries an object needs no other actor
not_own : (need : Need) (d o : Data) (actor : Option (List ℕ)) → carried need d ≡ Some o → option_map_or (λ author. is_self author need d) actor false ≡ false
not_own Whole d o None h = refl
not_own Whole d o (Some author) h = refl
not_own Change d o None h = refl
not_own Change d o (Some author) h = refl
not_own Another d o actor h = absurd cc
not_own needs.Id d o actor h = absurd cc
not_own Anything d o actor h = absurd cc

carried_is : (need : Need) (d o : Data) → carried need d ≡ Some o → embedded d ≡ Some o
carried_is Whole d o h = h
carried_is Change d o h = h
carried_is Another d o h = absurd cc
carried_is needs.Id d o h = absurd cc
carried_is Anything d o h = absurd cc

-- ---- the whole

carried_fault : (kind : Kind) (d : Data) (found : Option Data) → kind_of d ≡ Some kind → carried (need_of kind) d ≡ found → result_err (reads_carried kind d found) ≡ find (has_delivery_fault (need_of kind) d) later
carried_fault kind d None h k = without_fault kind d h k
carried_fault kind d (Some o) h k =
    rw (h, not_own (need_of kind) d o (option_and_then iri (reference_at (codes "actor") d)) k, object_id_is d o (carried_is (need_of kind) d o k), k)
    (with_fault kind d o (type_of o))

sent_fault : (kind : Kind) (d : Data) → kind_of d ≡ Some kind → result_err (reads_sent d kind) ≡ find (has_delivery_fault (need_of kind) d) later
unfolding reads_sent
sent_fault kind d h = carried_fault kind d (carried (need_of kind) d) h refl

typed_fault : (d : Data) (found : Option Kind) → kind_of d ≡ found
    → result_err (option_map_or (reads_sent d) found (Err NoType)) ≡ find (has_delivery_fault (option_map_or need_of found Anything) d) later
typed_fault d None h = rw h refl
typed_fault d (Some kind) h = sent_fault kind d h

-- reading returns the first fault that holds
pub delivery_fault : (d : Data) → result_err (reads_delivered d) ≡ first_delivery_fault d
unfolding reads_delivered first_delivery_fault
delivery_fault d =
    test_fault (not (is_some (as_object d))) NotObject _ _ (test_fault (not (has_context d)) BadContext _ _ (typed_fault d (kind_of d) refl))
