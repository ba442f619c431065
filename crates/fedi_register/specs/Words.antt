-- What members write.
use Rattle.std.specs.Prelude.{ℕ, List, [], Option, None, Some}
use Rattle.fedi_objects.specs.declared.object.Tag.{Tag}
use Rattle.fedi_register.specs.declared.words.HeldText.{HeldText}
use Rattle.fedi_register.specs.declared.words.HeldText.TheVariants as texts
use Rattle.fedi_register.specs.declared.words.HeldTags.{HeldTags}
use Rattle.fedi_register.specs.declared.words.HeldTags.TheVariants as lists

-- the stored text, if there is one
abbrev pub text_in : HeldText → Option (List ℕ)
text_in texts.Nothing = None
text_in (texts.Own text) = Some text
text_in (texts.Shared text) = Some text.value

-- the stored mentions
abbrev pub tags_in : HeldTags → List Tag
tags_in lists.Nothing = []
tags_in (lists.Own tags) = tags
tags_in (lists.Shared tags) = tags.value
