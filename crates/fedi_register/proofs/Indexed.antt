-- The indexes stay right.
use Rattle.std.proofs.Common.{◌≡◌, ℕ, suc, ◌+◌, arith, Bool, true, false, List, [], ◌∷◌, ◌++◌, length, refl, sym, ap, ◌∙◌}
use Rattle.std.specs.Prelude.{filter, is_some, map, Option, option_map, if◌then◌else◌}
use Rattle.std.specs.Str.{bytes_eq}
use Rattle.std.proofs.lemmas.List.{length-append}
use Rattle.std.proofs.lemmas.List.Elements.{filter-append}
use Rattle.fedi_town.specs.declared.act.Act.{Act}
use Rattle.fedi_town.specs.declared.effect.Effect.{Effect}
use Rattle.fedi_town.specs.declared.effect.Effect.TheVariants as effects
use Rattle.fedi_town.specs.declared.deed.Deed.{Deed}
use Rattle.fedi_town.specs.Deeds.{is_block, is_create, is_follow}
use Rattle.fedi_town.specs.Effects.{affect, end_follow, in_state, is_pending_follow, is_standing_activity, where_passes}
use Rattle.fedi_objects.specs.declared.kind.State.{State}
use Rattle.fedi_objects.specs.declared.kind.State.TheVariants.{Accepted, Undone}
use Rattle.fedi_town.specs.Histories.{with_recipient}
use Rattle.fedi_town.specs.Objects.{change_object, makes, replace_object, rewrite_act, rewrite_ref, tombstone_of, update_object}
use Rattle.fedi_town.specs.Relations.{has_activity_id, is_open_follow, ref_id}
use Rattle.fedi_town.specs.Towns.{deed, is_by}
use Rattle.fedi_objects.specs.declared.activity.ObjectRef.{ObjectRef}
use Rattle.fedi_objects.specs.declared.activity.ObjectRef.TheVariants.{Nothing, Id, Whole, Changed}
use Rattle.fedi_objects.specs.declared.object.Object.{Object}
use Rattle.fedi_register.specs.declared.authors.Author.{Author}
use Rattle.fedi_register.specs.declared.seeds.Seed.{Seed}
use Rattle.fedi_register.specs.Authors.{CountsOne, SameCounts, count_in}
use Rattle.fedi_register.specs.Marks.{Mark, marks_from}
use Rattle.fedi_register.specs.Registers.{IsIndexed, asks_to_follow, count_by, has_own_id, is_blocking, is_keyed, is_making, is_relation, key_mark, object_mark, own_mark, ref_mark, relates, relation_mark}

-- ---- one more activity

marks-push : {A : Type 0} (p : A → Bool) (mark : A → ℕ) (n : ℕ) (xs : List A) (x : A)
    → marks_from p mark n (xs ++ x ∷ []) ≡ marks_from p mark n xs ++ (if p x then record { mark = mark x; place = n + length xs } ∷ [] else [])
marks-push p mark n [] x = let here : n + 0 ≡ n = omega arith in rw here refl
marks-push {A} p mark n (y ∷ xs) x =
    let further : suc n + length xs ≡ n + length (y ∷ xs) = omega arith in
    let new : ℕ → List Mark = λ k. if p x then record { mark = mark x; place = k } ∷ [] else [] in
    let rest : marks_from p mark (suc n) (xs ++ x ∷ []) ≡ marks_from p mark (suc n) xs ++ new (n + length (y ∷ xs)) =
    marks-push p mark (suc n) xs x ∙ ap (λ (k : ℕ). marks_from p mark (suc n) xs ++ new k) further in
    let own : Mark = record { mark = mark y; place = n } in
    elim (p y) as (λ b. (if b then own ∷ marks_from p mark (suc n) (xs ++ x ∷ []) else marks_from p mark (suc n) (xs ++ x ∷ []))
    ≡ (if b then own ∷ marks_from p mark (suc n) xs else marks_from p mark (suc n) xs) ++ new (n + length (y ∷ xs))) [
      | true ↦ ap (λ (marks : List Mark). own ∷ marks) rest
      | false ↦ rest
    ]

-- the number is the mark of the new item if this is looked up
pub marks_pushed_if : {A : Type 0} (p : A → Bool) (mark : A → ℕ) (xs : List A) (x : A) (old new : List Mark) (place own : ℕ) (passes : Bool) → place ≡ length xs
    → passes ≡ p x → (p x ≡ true → own ≡ mark x) → old ≡ marks_from p mark 0 xs → new ≡ old ++ (if passes then record { mark = own; place = place } ∷ [] else [])
    → new ≡ marks_from p mark 0 (xs ++ x ∷ [])
marks_pushed_if {A} p mark xs x old new place own passes at is marked before after =
    let from_none : 0 + length xs ≡ length xs = omega arith in
    let one : ℕ → ℕ → List Mark = λ m k. record { mark = m; place = k } ∷ [] in
    let same : (if p x then one own (length xs) else []) ≡ (if p x then one (mark x) (length xs) else []) =
    elim (p x) as (λ b. p x ≡ b → (if b then one own (length xs) else []) ≡ (if b then one (mark x) (length xs) else [])) [
      | true ↦ λ yes. ap (λ (m : ℕ). one m (length xs)) (marked yes)
      | false ↦ λ _. refl
    ] refl in
    let next : marks_from p mark 0 (xs ++ x ∷ []) ≡ marks_from p mark 0 xs ++ (if p x then one (mark x) (length xs) else []) =
    marks-push p mark 0 xs x ∙ ap (λ (k : ℕ). marks_from p mark 0 xs ++ (if p x then one (mark x) k else [])) from_none in
    rw (after, before, is, at) (ap (λ (marks : List Mark). marks_from p mark 0 xs ++ marks) same ∙ sym next)

pub marks_pushed : {A : Type 0} (p : A → Bool) (mark : A → ℕ) (xs : List A) (x : A) (old new : List Mark) (place own : ℕ) (passes : Bool) → place ≡ length xs
    → passes ≡ p x → own ≡ mark x → old ≡ marks_from p mark 0 xs → new ≡ old ++ (if passes then record { mark = own; place = place } ∷ [] else [])
    → new ≡ marks_from p mark 0 (xs ++ x ∷ [])
marks_pushed p mark xs x old new place own passes at is marked = marks_pushed_if p mark xs x old new place own passes at is (λ _. marked)

count-push : (id : List ℕ) (acts : List Act) (x : Act) → count_by (acts ++ x ∷ []) id ≡ count_by acts id + (if bytes_eq x.author id then 1 else 0)
unfolding is_by
count-push id acts x =
    ap (λ (xs : List Act). length xs) (filter-append (is_by id) acts (x ∷ []))
    ∙ length-append (filter (is_by id) acts) (filter (is_by id) (x ∷ []))
    ∙ elim (bytes_eq x.author id) as (λ b. count_by acts id + length (if b then x ∷ [] else []) ≡ count_by acts id + (if b then 1 else 0)) [ true ↦ refl | false ↦ refl ]

pub count_pushed : (acts : List Act) (x : Act) (authors authors' : List Author) → ((id : List ℕ) → count_in authors id ≡ count_by acts id) → CountsOne authors authors' x.author
    → (id : List ℕ) → count_in authors' id ≡ count_by (acts ++ x ∷ []) id
count_pushed acts x authors authors' h counts id =
    counts.count id ∙ ap (λ (n : ℕ). n + (if bytes_eq x.author id then 1 else 0)) (h id) ∙ sym (count-push id acts x)

-- ---- what is affected

-- the looked-up properties of an activity stay the same
pub record IsAlike (x y : Act) : Type 0 where
  pub author : y.author ≡ x.author
  pub deed : deed y ≡ deed x
  pub repeat : y.repeat ≡ x.repeat
  pub id : y.activity.id ≡ x.activity.id
  pub about : ref_id y.activity.object ≡ ref_id x.activity.object

alike : (y : Act) → IsAlike y y
alike y = record { author = refl; deed = refl; repeat = refl; id = refl; about = refl }

then-alike : (x y z : Act) → IsAlike x y → IsAlike y z → IsAlike x z
then-alike x y z h k = record { author = k.author ∙ h.author; deed = k.deed ∙ h.deed; repeat = k.repeat ∙ h.repeat; id = k.id ∙ h.id; about = k.about ∙ h.about }

where-alike : (p : Act → Bool) (f : Act → Act) (y : Act) → IsAlike y (f y) → IsAlike y (where_passes p f y)
where-alike p f y h = elim (p y) as (λ b. IsAlike y (if b then f y else y)) [ true ↦ h | false ↦ alike y ]

end-alike : (a b : List ℕ) (s : State) (y : Act) → IsAlike y (end_follow a b s y)
unfolding end_follow
end-alike a b s y = where-alike (is_open_follow a b) (in_state s) y (record { author = refl; deed = refl; repeat = refl; id = refl; about = refl })

changed-about : (f : Object → Object) → ((o : Object) → (f o).id ≡ o.id) → (r : ObjectRef) → ref_id (rewrite_ref f r) ≡ ref_id r
changed-about f same Nothing = refl
changed-about f same (Id iri) = refl
changed-about f same (Whole o) = same o
changed-about f same (Changed change) = refl

updated-id : (by : ObjectRef) (stamp : List ℕ) (o : Object) → (update_object by stamp o).id ≡ o.id
unfolding change_object replace_object
updated-id Nothing stamp o = refl
updated-id (Id iri) stamp o = refl
updated-id (Whole new) stamp o = refl
updated-id (Changed change) stamp o = refl

buried-id : (kind stamp : List ℕ) (o : Object) → (tombstone_of kind stamp o).id ≡ o.id
unfolding tombstone_of
buried-id kind stamp o = refl

updated-about : (by : ObjectRef) (stamp : List ℕ) (r : ObjectRef) → ref_id (rewrite_ref (update_object by stamp) r) ≡ ref_id r
updated-about by stamp r = changed-about (update_object by stamp) (updated-id by stamp) r

buried-about : (kind stamp : List ℕ) (r : ObjectRef) → ref_id (rewrite_ref (tombstone_of kind stamp) r) ≡ ref_id r
buried-about kind stamp r = changed-about (tombstone_of kind stamp) (buried-id kind stamp) r

affected-alike : (e : Effect) (y : Act) → IsAlike y (affect e y)
unfolding rewrite_act
affected-alike effects.Nothing y = alike y
affected-alike (effects.Update id by stamp) y = where-alike (makes id) (rewrite_act (update_object by stamp)) y (record { author = refl; deed = refl; repeat = refl; id = refl; about = updated-about by stamp y.activity.object })
affected-alike (effects.Delete id kind stamp) y = where-alike (makes id) (rewrite_act (tombstone_of kind stamp)) y (record { author = refl; deed = refl; repeat = refl; id = refl; about = buried-about kind stamp y.activity.object })
affected-alike (effects.Accept id) y = where-alike (is_pending_follow id) (in_state Accepted) y (record { author = refl; deed = refl; repeat = refl; id = refl; about = refl })
affected-alike (effects.EndFollows a b s) y = end-alike a b s y
affected-alike (effects.EndBoth a b) y = then-alike y (end_follow b a Undone y) (end_follow a b Undone (end_follow b a Undone y)) (end-alike b a Undone y) (end-alike a b Undone (end_follow b a Undone y))
affected-alike (effects.Undo id) y = where-alike (is_standing_activity id) (in_state Undone) y (record { author = refl; deed = refl; repeat = refl; id = refl; about = refl })

count-mapped : (p : Act → Bool) (f : Act → Act) → ((x : Act) → p (f x) ≡ p x) → (acts : List Act) → length (filter p (map f acts)) ≡ length (filter p acts)
count-mapped p f same [] = refl
count-mapped p f same (x ∷ acts) =
    rw (same x) (elim (p x) as (λ b. length (if b then f x ∷ filter p (map f acts) else filter p (map f acts)) ≡ length (if b then x ∷ filter p acts else filter p acts)) [
      | true ↦ ap suc (count-mapped p f same acts)
      | false ↦ count-mapped p f same acts
    ])

marks-mapped : (p : Act → Bool) (mark : Act → ℕ) (f : Act → Act) → ((x : Act) → p (f x) ≡ p x) → ((x : Act) → mark (f x) ≡ mark x) → (n : ℕ) (acts : List Act)
    → marks_from p mark n (map f acts) ≡ marks_from p mark n acts
marks-mapped p mark f passes same n [] = refl
marks-mapped p mark f passes same n (x ∷ acts) = rw (passes x, same x, marks-mapped p mark f passes same (suc n) acts) refl

key-alike : (seed : Seed) (x y : Act) → IsAlike x y → key_mark seed y ≡ key_mark seed x
unfolding key_mark
key-alike seed x y h = ap (λ (r : Option (List ℕ × List ℕ)). ref_mark seed (option_map (λ pair. pair.0) r)) h.repeat

making-alike : (x y : Act) → IsAlike x y → is_making y ≡ is_making x
unfolding is_making
making-alike x y h = ap (λ (d : Deed). is_create d) h.deed

mark-alike : (seed : Seed) (x y : Act) → IsAlike x y → object_mark seed y ≡ object_mark seed x
unfolding object_mark
mark-alike seed x y h = ap (λ (o : Option (List ℕ)). ref_mark seed o) h.about

follows-alike : (x y : Act) → IsAlike x y → asks_to_follow y ≡ asks_to_follow x
unfolding asks_to_follow
follows-alike x y h = ap (λ (d : Deed). is_follow d) h.deed

blocks-alike : (x y : Act) → IsAlike x y → is_blocking y ≡ is_blocking x
unfolding is_blocking
blocks-alike x y h = ap (λ (d : Deed). is_block d) h.deed

own-alike : (x y : Act) → IsAlike x y → has_own_id y ≡ has_own_id x
unfolding has_own_id
own-alike x y h = ap (λ (o : Option (List ℕ)). is_some o) h.id

own_mark-alike : (seed : Seed) (x y : Act) → IsAlike x y → own_mark seed y ≡ own_mark seed x
unfolding own_mark
own_mark-alike seed x y h = ap (λ (o : Option (List ℕ)). ref_mark seed o) h.id

relates-alike : (x y : Act) → IsAlike x y → relates y ≡ relates x
unfolding relates
relates-alike x y h = ap (λ (d : Deed). is_relation d) h.deed

relation-alike : (seed : Seed) (x y : Act) → IsAlike x y → relation_mark seed y ≡ relation_mark seed x
unfolding relation_mark
relation-alike seed x y h = rw (h.author, h.about) refl

keyed-alike : (x y : Act) → IsAlike x y → is_keyed y ≡ is_keyed x
unfolding is_keyed
keyed-alike x y h = ap (λ (r : Option (List ℕ × List ℕ)). is_some r) h.repeat

by-alike : (id : List ℕ) (x y : Act) → IsAlike x y → is_by id y ≡ is_by id x
unfolding is_by
by-alike id x y h = ap (λ (author : List ℕ). bytes_eq author id) h.author

-- if all looked-up properties of each activity stay the same
indexed_alike : (f : Act → Act) → ((y : Act) → IsAlike y (f y)) → (seed : Seed) (acts : List Act) (k m i p w b : List Mark) (authors : List Author)
    → IsIndexed seed acts k m i p w b authors → IsIndexed seed (map f acts) k m i p w b authors
indexed_alike f like seed acts k m i p w b authors h = record {
  key = h.key ∙ sym (marks-mapped is_keyed (key_mark seed) f (λ x. keyed-alike x (f x) (like x)) (λ x. key-alike seed x (f x) (like x)) 0 acts);
  object = h.object ∙ sym (marks-mapped is_making (object_mark seed) f (λ x. making-alike x (f x) (like x)) (λ x. mark-alike seed x (f x) (like x)) 0 acts);
  id = h.id ∙ sym (marks-mapped has_own_id (own_mark seed) f (λ x. own-alike x (f x) (like x)) (λ x. own_mark-alike seed x (f x) (like x)) 0 acts);
  pair = h.pair ∙ sym (marks-mapped relates (relation_mark seed) f (λ x. relates-alike x (f x) (like x)) (λ x. relation-alike seed x (f x) (like x)) 0 acts);
  follow = h.follow ∙ sym (marks-mapped asks_to_follow (object_mark seed) f (λ x. follows-alike x (f x) (like x)) (λ x. mark-alike seed x (f x) (like x)) 0 acts);
  block = h.block ∙ sym (marks-mapped is_blocking (relation_mark seed) f (λ x. blocks-alike x (f x) (like x)) (λ x. relation-alike seed x (f x) (like x)) 0 acts);
  count = λ id. h.count id ∙ sym (count-mapped (is_by id) f (λ x. by-alike id x (f x) (like x)) acts);
}

pub indexed_affected : (seed : Seed) (e : Effect) (acts : List Act) (k m i p f b : List Mark) (authors : List Author) → IsIndexed seed acts k m i p f b authors
    → IsIndexed seed (map (affect e) acts) k m i p f b authors
indexed_affected seed e = indexed_alike (affect e) (affected-alike e) seed

inbox-alike : (id owner : List ℕ) (y : Act) → IsAlike y (with_recipient id owner y)
inbox-alike id owner y =
    elim (has_activity_id id y) as (λ b. IsAlike y (if b then record y { recipients = y.recipients ++ owner ∷ [] } else y)) [
      | true ↦ record { author = refl; deed = refl; repeat = refl; id = refl; about = refl }
      | false ↦ alike y
    ]

pub indexed_inbox : (seed : Seed) (id owner : List ℕ) (acts : List Act) (k m i p f b : List Mark) (authors : List Author) → IsIndexed seed acts k m i p f b authors
    → IsIndexed seed (map (with_recipient id owner) acts) k m i p f b authors
indexed_inbox seed id owner = indexed_alike (with_recipient id owner) (inbox-alike id owner) seed

-- if the counts of the authors are the same
pub indexed_known : (seed : Seed) (acts : List Act) (k m i p f b : List Mark) (old new : List Author) → IsIndexed seed acts k m i p f b old → SameCounts old new
    → IsIndexed seed acts k m i p f b new
indexed_known seed acts k m i p f b old new h same =
    record { key = h.key; object = h.object; id = h.id; pair = h.pair; follow = h.follow; block = h.block; count = λ id. same.count id ∙ h.count id }
