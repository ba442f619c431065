-- The items of a page: those that are written from the facts, and those that are found before they
-- are written.
use Rattle.std.specs.Prelude.{Bool, true, false, List, [], ◌∷◌, Option, Some, None}
use Rattle.json.specs.Token.{Token}
use Rattle.json.specs.Tree.{json_tokens}
use Rattle.serde_json.specs.Data.{Data}
use Rattle.serde_json.specs.Written.{outline}
use Rattle.fedi_objects.specs.Forms.{activity_form}
use Rattle.fedi_town.specs.declared.caller.Which.{Which}
use Rattle.fedi_town.specs.declared.caller.Which.TheVariants.{Inbox, Outbox}
use Rattle.fedi_visible.specs.Excerpts.{Sight}

-- the items of the collection are activities, and not their ids
abbrev pub has_activities : Which → Bool
has_activities (Inbox name) = true
has_activities (Outbox name) = true
has_activities _ = false

-- the form of an item, if there is one
abbrev pub forms_at : {A : Type 0} → (A → Data) → Option A → List Data
forms_at form None = []
forms_at form (Some x) = form x ∷ []

-- the tokens of an item, if there is one
abbrev pub tokens_at : {A : Type 0} → (A → Data) → Option A → List Token
tokens_at form None = []
tokens_at form (Some x) = json_tokens (outline (form x))

-- an activity of which this is shown, as it occurs in a page
abbrev pub excerpt_form : Sight → Data
excerpt_form s = activity_form s.local false s.author s.shown
