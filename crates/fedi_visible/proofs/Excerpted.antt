-- What is copied of an activity is enough to show it.
use Rattle.std.proofs.Common.{◌≡◌, ℕ, Bool, true, false, List, Option, Some, None, refl, ap}
use Rattle.std.specs.Prelude.{if◌then◌else◌, ◌&&◌, option_map}
use Rattle.fedi_objects.specs.declared.activity.ObjectRef.{ObjectRef}
use Rattle.fedi_objects.specs.declared.activity.ObjectRef.TheVariants.{Nothing, Id, Whole, Changed}
use Rattle.fedi_objects.specs.declared.object.Object.{Object}
use Rattle.fedi_objects.specs.Objects.{stripped_object}
use Rattle.fedi_town.specs.declared.act.Act.{Act}
use Rattle.fedi_town.specs.Addressing.{is_of_town}
use Rattle.fedi_town.specs.Deeds.{is_create, is_update, is_done}
use Rattle.fedi_town.specs.Objects.{maker_of, object_of, whole_of}
use Rattle.fedi_town.specs.Relations.{ref_id}
use Rattle.fedi_town.specs.Showing.{object_or_id, present_object, shown_activity, shown_object, shown_ref}
use Rattle.fedi_town.specs.Towns.{Town, deed}
use Rattle.fedi_register.specs.Excerpts.{excerpt, excerpt_ref}
use Rattle.fedi_visible.specs.Excerpts.{maker_excerpt, object_given, sight_at, sight_in}

-- the id is the same
ref_kept : (o : ObjectRef) → ref_id (excerpt_ref o) ≡ ref_id o
ref_kept Nothing = refl
ref_kept (Id id) = refl
ref_kept (Whole o) = refl
ref_kept (Changed change) = refl

-- the object is kept without its hidden recipients
whole_kept : (o : ObjectRef) → whole_of (excerpt_ref o) ≡ option_map stripped_object (whole_of o)
whole_kept Nothing = refl
whole_kept (Id id) = refl
whole_kept (Whole o) = refl
whole_kept (Changed change) = refl

-- an object without them is shown as it was
shown_kept : (o : Object) → shown_object (stripped_object o) ≡ shown_object o
shown_kept o = refl

objects_kept : (o : Option Object) → option_map shown_object (option_map stripped_object o) ≡ option_map shown_object o
objects_kept None = refl
objects_kept (Some o) = ap (λ (s : Object). Some s) (shown_kept o)

or_id_kept : (o : Option Object) (id : Option (List ℕ)) → object_or_id (option_map stripped_object o) id ≡ object_or_id o id
or_id_kept None id = refl
or_id_kept (Some o) id = ap (λ (s : Object). Whole s) (shown_kept o)

made_kept : (m : Option Act) → object_of (option_map excerpt m) ≡ option_map stripped_object (object_of m)
made_kept None = refl
made_kept (Some m) = whole_kept m.activity.object

-- the object is that of a Create, or what an Update changed
chosen_kept : (create update : Bool) (o : ObjectRef) (m : Option Act)
    → (if create then whole_of (excerpt_ref o) else (if update then object_of (if update then option_map excerpt m else None) else None))
    ≡ option_map stripped_object (if create then whole_of o else (if update then object_of m else None))
chosen_kept true update o m = whole_kept o
chosen_kept false true o m = made_kept m
chosen_kept false false o m = refl

-- the object in its present state is kept
object_kept : (t : Town) (x : Act) → object_given (excerpt x) (maker_excerpt t x) ≡ option_map stripped_object (present_object t x)
unfolding object_given maker_excerpt present_object
object_kept t x =
    chosen_kept (is_create (deed x) && is_done x.state) (is_update (deed x) && is_done x.state) x.activity.object (maker_of t (ref_id x.activity.object))

-- what the copies show is what the activity shows
pub sight_kept : (t : Town) (x : Act) → sight_in (excerpt x) (maker_excerpt t x) (is_of_town t.host x.author) ≡ sight_at t x
unfolding shown_activity shown_ref
sight_kept t x =
    rw (object_kept t x, ref_kept x.activity.object, or_id_kept (present_object t x) (ref_id x.activity.object), objects_kept (present_object t x)) refl
