-- What the object that an activity carries, if any, refers to.
use Rattle.std.specs.Prelude.{ℕ, List, [], Option, None, Some}
use Rattle.fedi_objects.specs.declared.object.Object.{Object}
use Rattle.fedi_objects.specs.declared.object.Tag.{Tag}

-- what the object replies to (ActivityStreams 2.0 Vocabulary, section 4, `inReplyTo`)
abbrev pub reply_in : Option Object → Option (List ℕ)
reply_in None = None
reply_in (Some o) = o.in_reply_to

-- the actors that the object mentions (ActivityStreams 2.0 Vocabulary, section 4, `tag`)
abbrev pub tags_in : Option Object → List Tag
tags_in None = []
tags_in (Some o) = o.tags
