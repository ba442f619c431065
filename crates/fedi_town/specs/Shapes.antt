-- The shape of an activity after it is read: from a client's post (ActivityPub, section 6), and
-- from a delivery (section 7).
use Rattle.std.specs.Prelude.{ℕ, Bool, true, false, not, ◌&&◌, ◌||◌, nat_le, List, [], ◌∷◌, length}
use Rattle.std.specs.Prelude.{Option, Some, None, is_some, is_none}
use Rattle.std.specs.List.{list_all}
use Rattle.std.specs.Cmp.Lexicographic.{pointwise}
use Rattle.std.specs.Str.{bytes_eq}
use Rattle.fedi_address.specs.declared.recipients.Recipients.{Recipients}
use Rattle.fedi_address.specs.Recipients.{all_of, is_among}
use Rattle.fedi_objects.specs.declared.activity.Activity.{Activity}
use Rattle.fedi_objects.specs.declared.activity.ObjectRef.{ObjectRef}
use Rattle.fedi_objects.specs.declared.activity.ObjectRef.TheVariants.{Nothing, Id, Whole, Changed}
use Rattle.fedi_objects.specs.declared.object.Change.{Change}
use Rattle.fedi_objects.specs.declared.object.Edit.{Edit}
use Rattle.fedi_objects.specs.declared.object.Edit.TheVariants.{Keep, Remove, Give}
use Rattle.fedi_objects.specs.declared.object.Object.{Object}
use Rattle.fedi_objects.specs.declared.object.Tag.{Tag}
use Rattle.fedi_objects.specs.Forms.{is_tombstone}
use Rattle.fedi_objects.specs.Limits.{is_date, is_text, is_type}
use Rattle.fedi_town.specs.declared.deed.Deed.{Deed}
use Rattle.fedi_town.specs.Deeds.{deed_of, is_create, is_update, is_follow, is_block, is_other}
use Rattle.fedi_town.specs.Relations.{ref_id, is_id}

-- ---- limits

-- if there is one, it passes
abbrev pub is_none_or : (List ℕ → Bool) → Option (List ℕ) → Bool
is_none_or p None = true
is_none_or p (Some text) = p text

-- the names of mentions are within the limit of a text
abbrev pub are_tags : List Tag → Bool
are_tags tags = list_all (λ g. is_text g.name) tags

-- no name is repeated
abbrev pub is_each_once : List (List ℕ) → Bool
is_each_once [] = true
is_each_once (name ∷ others) = not (is_among name others) && is_each_once others

-- at most so many names in the five fields, with none repeated in a field
abbrev pub are_addressed : ℕ → Recipients → Bool
are_addressed limit r =
    nat_le (length (all_of r)) limit
    && (is_each_once r.to && (is_each_once r.cc
    && (is_each_once r.bto && (is_each_once r.bcc && is_each_once r.audience))))

-- each of the five fields names the same, in the same order (ActivityPub, section 6.2)
abbrev pub are_same : Recipients → Recipients → Bool
are_same a b =
    pointwise bytes_eq a.to b.to && (pointwise bytes_eq a.cc b.cc && (pointwise bytes_eq a.bto b.bto
    && (pointwise bytes_eq a.bcc b.bcc && pointwise bytes_eq a.audience b.audience)))

-- the contents of an object are within the limits
abbrev pub is_object_within : ℕ → Object → Bool
is_object_within limit o =
    (is_type o.kind && (is_none_or is_text o.content
    && (is_none_or is_text o.summary && is_none_or is_text o.name)))
    && ((is_none_or is_date o.published
    && (is_none_or is_date o.updated && is_none_or is_date o.deleted))
    && (is_none_or is_type o.former_kind && (are_tags o.tags && are_addressed limit o.recipients)))

-- the contents of an activity are within the limits
abbrev pub is_activity_within : ℕ → Activity → Bool
is_activity_within limit a =
    ((is_none_or is_text a.content && (is_none_or is_text a.summary && is_none_or is_text a.name))
    && is_none_or is_date a.published)
    && (are_tags a.tags && are_addressed limit a.recipients)

-- the text that a change sets is within the limit
abbrev pub is_text_edit : Edit (List ℕ) → Bool
is_text_edit Keep = true
is_text_edit Remove = true
is_text_edit (Give text) = is_text text

-- and so are the tags that it sets
abbrev pub is_tags_edit : Edit (List Tag) → Bool
is_tags_edit Keep = true
is_tags_edit Remove = true
is_tags_edit (Give tags) = are_tags tags

-- what a change sets is within the limits
abbrev pub is_change_within : Change → Bool
is_change_within c =
    is_text_edit c.content
    && (is_text_edit c.summary && (is_text_edit c.name && is_tags_edit c.tags))

-- ---- a client's post

-- the properties that the server sets are absent, and nobody makes a Tombstone (ActivityPub,
-- section 6.2)
abbrev pub is_unset_object : Object → Bool
is_unset_object o =
    (is_none o.id && (is_none o.attributed_to && (is_none o.published
    && (is_none o.updated && (is_none o.former_kind && is_none o.deleted)))))
    && not (is_tombstone o)

-- a Create carries its object, which names the same recipients as the Create (ActivityPub, section
-- 6.2); an Update carries a change (6.3.1); each other activity with a side effect carries an id
-- only
abbrev pub is_posted_ref : Deed → Recipients → ObjectRef → Bool
is_posted_ref d r Nothing = is_other d
is_posted_ref d r (Id iri) = not (is_create d) && not (is_update d)
is_posted_ref d r (Whole o) =
    is_create d && (is_unset_object o && (is_object_within 500 o && are_same r o.recipients))
is_posted_ref d r (Changed c) = is_update d && is_change_within c

-- the author follows or blocks itself
abbrev pub is_self_target : List ℕ → Activity → Bool
is_self_target author a =
    (is_follow (deed_of a.kind) || is_block (deed_of a.kind)) && is_id author (ref_id a.object)

-- an activity as it is read from the author's post
abbrev pub is_posted : List ℕ → Activity → Bool
is_posted author a =
    (is_none a.id && (is_none a.actor && is_none a.published))
    && (is_activity_within 500 a
    && (is_posted_ref (deed_of a.kind) a.recipients a.object && not (is_self_target author a)))

-- ---- a delivery

-- a Create and an Update may carry an object, which has an id; one more recipient may have been
-- implied
abbrev pub is_delivered_ref : Deed → ObjectRef → Bool
is_delivered_ref d Nothing = is_other d
is_delivered_ref d (Id iri) = true
is_delivered_ref d (Whole o) =
    (is_create d || is_update d) && (is_some o.id && is_object_within 501 o)
is_delivered_ref d (Changed change) = false

-- the actor follows or blocks itself
abbrev pub is_actor_target : Option (List ℕ) → Activity → Bool
is_actor_target None a = false
is_actor_target (Some actor) a = is_self_target actor a

-- an activity as it is read from a delivery
abbrev pub is_delivered : Activity → Bool
is_delivered a =
    (is_some a.id && is_some a.actor)
    && (is_activity_within 501 a
    && (is_delivered_ref (deed_of a.kind) a.object && not (is_actor_target a.actor a)))
