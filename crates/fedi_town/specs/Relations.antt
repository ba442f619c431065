-- The Follows and Blocks between actors (ActivityPub, sections 6.5 and 6.9), and what an activity
-- is about.
use Rattle.std.specs.Prelude.{ℕ, Bool, false, ◌&&◌, ◌||◌, List, map, filter, Option, Some, None}
use Rattle.std.specs.List.{list_any}
use Rattle.std.specs.Str.{bytes_eq}
use Rattle.fedi_address.specs.Recipients.{distinct}
use Rattle.fedi_objects.specs.declared.activity.ObjectRef.{ObjectRef}
use Rattle.fedi_objects.specs.declared.activity.ObjectRef.TheVariants.{Nothing, Id, Whole, Changed}
use Rattle.fedi_town.specs.declared.act.Act.{Act}
use Rattle.fedi_town.specs.Deeds.{is_follow, is_block, is_accepted, is_open, is_standing}
use Rattle.fedi_town.specs.Towns.{Town, deed, is_by, has_id}

-- ---- what an activity is about

-- the id of what an activity is about (ActivityStreams 2.0 Vocabulary, section 4, `object`)
abbrev pub ref_id : ObjectRef → Option (List ℕ)
ref_id Nothing = None
ref_id (Id iri) = Some iri
ref_id (Whole o) = o.id
ref_id (Changed change) = Some change.id

-- there is an id, and it is this one
abbrev pub is_id : List ℕ → Option (List ℕ) → Bool
is_id id None = false
is_id id (Some own) = bytes_eq own id

-- the activity is about this
unfoldable pub is_about : List ℕ → Act → Bool
is_about id x = is_id id (ref_id x.activity.object)

-- the activity has this id
unfoldable pub has_activity_id : List ℕ → Act → Bool
has_activity_id id x = is_id id x.activity.id

-- the IRI is the id of a member
unfoldable pub is_actor : Town → List ℕ → Bool
is_actor t iri = list_any (has_id iri) t.actors

-- ---- Blocks

-- it is a Block of b by a that is in force
unfoldable pub is_block_of : List ℕ → List ℕ → Act → Bool
is_block_of a b x = (is_block (deed x) && is_standing x.state) && (is_by a x && is_about b x)

-- a blocks b (ActivityPub, section 6.9)
abbrev pub blocks : Town → List ℕ → List ℕ → Bool
blocks t a b = list_any (is_block_of a b) t.acts

-- one of the two blocks the other
unfoldable pub has_block_between : Town → List ℕ → List ℕ → Bool
has_block_between t a b = blocks t a b || blocks t b a

-- ---- Follows

-- it is an accepted Follow of b by a
unfoldable pub is_follow_of : List ℕ → List ℕ → Act → Bool
is_follow_of a b x = (is_follow (deed x) && is_accepted x.state) && (is_by a x && is_about b x)

-- a follows b (ActivityPub, sections 6.5 and 7.5)
abbrev pub follows : Town → List ℕ → List ℕ → Bool
follows t a b = list_any (is_follow_of a b) t.acts

-- it is a Follow of b by a that waits or was accepted
unfoldable pub is_open_follow : List ℕ → List ℕ → Act → Bool
is_open_follow a b x = (is_follow (deed x) && is_open x.state) && (is_by a x && is_about b x)

-- it is an accepted Follow of b
unfoldable pub is_following : List ℕ → Act → Bool
is_following b x = (is_follow (deed x) && is_accepted x.state) && is_about b x

-- the followers of b, in the order of their Follows (ActivityPub, section 5.3)
unfoldable pub followers : Town → List ℕ → List (List ℕ)
followers t b = distinct (map (λ x. x.author) (filter (is_following b) t.acts))
