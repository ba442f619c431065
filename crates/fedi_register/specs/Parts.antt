-- What contracts see of the stored form.
use Rattle.std.specs.Prelude.{ℕ, List, [], Option, Some, None, option_map}
use Rattle.std.specs.declared.boxed.Box.{Box}
use Rattle.fedi_objects.specs.declared.activity.ObjectRef.{ObjectRef}
use Rattle.fedi_objects.specs.declared.activity.ObjectRef.TheVariants as refs
use Rattle.fedi_objects.specs.declared.object.Object.{Object}
use Rattle.fedi_register.specs.declared.about.About.{About}
use Rattle.fedi_register.specs.declared.about.About.TheVariants as abouts
use Rattle.fedi_register.specs.declared.extras.Extras.{Extras}
use Rattle.fedi_register.specs.declared.object.KeptObject.{KeptObject}
use Rattle.fedi_register.specs.declared.parts.Beside.{Beside}
use Rattle.fedi_register.specs.declared.parts.Beside.TheVariants as besides
use Rattle.fedi_register.specs.declared.parts.KeptRare.{KeptRare}
use Rattle.fedi_register.specs.declared.parts.Named.{Named}
use Rattle.fedi_register.specs.declared.parts.Parts.{Parts}
use Rattle.fedi_register.specs.declared.parts.Rare.{Rare}

-- ---- the object

-- none of the properties that few objects have
abbrev pub no_extras : Extras
no_extras = record {
  in_reply_to = None;
  summary = None;
  name = None;
  url = None;
  updated = None;
  former_kind = None;
  deleted = None;
  tags = [];
}

-- the properties that few objects have, if there are any
abbrev pub extras_in : {A : Type 0} → Option (Box Extras A) → Extras
extras_in None = no_extras
extras_in (Some e) = e.value

-- the extras without what an Update may set
abbrev pub emptied_extras : Extras → Extras
emptied_extras e =
    record e { in_reply_to = None; summary = None; name = None; url = None; tags = [] }

-- the object, with its hidden recipients
abbrev pub whole : KeptObject → Object
whole k = let e : Extras = extras_in k.extras in record {
  id = k.id;
  kind = k.kind;
  attributed_to = k.common.value.attributed_to;
  recipients = record {
    to = k.common.value.lists.to;
    cc = k.common.value.lists.cc;
    bto = k.hidden.bto.value;
    bcc = k.hidden.bcc.value;
    audience = k.common.value.lists.audience;
  };
  in_reply_to = e.in_reply_to;
  content = k.content;
  summary = e.summary;
  name = e.name;
  url = e.url;
  published = k.published;
  updated = e.updated;
  former_kind = e.former_kind;
  deleted = e.deleted;
  tags = e.tags;
}

-- what an activity is about
abbrev pub referred : About → ObjectRef
referred abouts.Nothing = refs.Nothing
referred (abouts.Id id) = refs.Id id
referred (abouts.Whole k) = refs.Whole (whole k.value)
referred (abouts.Changed c) = refs.Changed (record c.change.value { id = c.id })

-- ---- what an activity has of its own

-- the addressees of an activity or an object, and when it was published
pub record Names : Type 0 where
  pub to : List (List ℕ)
  pub cc : List (List ℕ)
  pub audience : List (List ℕ)
  pub published : Option (List ℕ)

-- no addressees, and no time of publication
abbrev pub no_names : Names
no_names = record { to = []; cc = []; audience = []; published = None }

-- the names of an object
abbrev pub named_in : KeptObject → Names
named_in k = record {
  to = k.common.value.lists.to;
  cc = k.common.value.lists.cc;
  audience = k.common.value.lists.audience;
  published = k.published;
}

-- the names of a new activity
abbrev pub names_given : Named → Names
names_given n = record { to = n.to; cc = n.cc; audience = n.audience; published = n.published }

-- the names of the carried object
abbrev pub object_names : About → Names
object_names abouts.Nothing = no_names
object_names (abouts.Id id) = no_names
object_names (abouts.Whole k) = named_in k.value
object_names (abouts.Changed c) = no_names

-- the names of an activity: its own, or else those of its object
abbrev pub named_part : Option Parts → About → Names
named_part None about = object_names about
named_part (Some p) about =
    record { to = p.to; cc = p.cc; audience = p.audience; published = p.published }

-- no rare properties
abbrev pub no_rare : Rare
no_rare = record {
  target = None;
  in_reply_to = None;
  content = None;
  summary = None;
  name = None;
  tags = [];
  forwards = [];
}

-- the rare properties that are stored
abbrev pub rare_kept : KeptRare → Rare
rare_kept r = record {
  target = r.target;
  in_reply_to = r.in_reply_to;
  content = r.content;
  summary = r.summary;
  name = r.name;
  tags = r.tags;
  forwards = r.forwards;
}

-- the rare properties, if there are any
abbrev pub rare_in : {A : Type 0} → Option (Box KeptRare A) → Rare
rare_in None = no_rare
rare_in (Some r) = rare_kept r.value

-- the rare properties of an activity
abbrev pub rare_part : Option Parts → Rare
rare_part None = no_rare
rare_part (Some p) = rare_in p.rare

-- the borrowed rare properties, if there are any
abbrev pub rare_lent : Option KeptRare → Rare
rare_lent None = no_rare
rare_lent (Some r) = rare_kept r

-- the content of a box, if there is one
abbrev pub unboxed : {T A : Type 0} → Option (Box T A) → Option T
unboxed boxed = option_map (λ b. b.value) boxed

-- the activity's own parts
abbrev pub parts_in : Beside → Option Parts
parts_in besides.Nothing = None
parts_in (besides.Parts p) = Some p.value
parts_in (besides.Repeat r) = None
parts_in (besides.Both b) = Some b.value.0.value

-- the key by which a repeated post is recognized, and the digest of the posted body
abbrev pub repeat_in : Beside → Option (List ℕ × List ℕ)
repeat_in besides.Nothing = None
repeat_in (besides.Parts p) = None
repeat_in (besides.Repeat r) = Some r.value
repeat_in (besides.Both b) = Some b.value.1.value
