-- Which requests may need memory before it is known what they ask for.
use Rattle.std.specs.Prelude.{ℕ, Bool, true, false, ◌&&◌, ◌||◌, List, IsTrue}
use Rattle.fedi_town.specs.declared.caller.Which.TheVariants as which
use Rattle.fedi_model.specs.declared.place.Place.{Place}
use Rattle.fedi_model.specs.declared.place.Place.TheVariants as place
use Rattle.fedi_model.specs.declared.request.Request.{Request}
use Rattle.fedi_model.specs.Places.{LeadsTo}
use Rattle.fedi_model.specs.Requests.{is_post, is_reading}
use Rattle.fedi_model.specs.Routes.{path_of}

-- WebFinger and collections have queries
abbrev pub has_query : Place → Bool
has_query place.Webfinger = true
has_query (place.Collection which) = true
has_query (place.Board name slug) = true
has_query there = false

-- outboxes and inboxes are posted to
abbrev pub has_posts : Place → Bool
has_posts (place.Collection (which.Outbox name)) = true
has_posts (place.Collection (which.Inbox name)) = true
has_posts there = false

-- a query of WebFinger or of a collection, and a post to an outbox or an inbox
abbrev pub needs_memory : List ℕ → Place → Bool
needs_memory method there =
    (is_reading method && has_query there) || (is_post method && has_posts there)

-- the request is one of these
abbrev pub MayNeedMemory : Request → Type 0
MayNeedMemory q =
    (there : Place) × LeadsTo (path_of q.target) there × IsTrue (needs_memory q.method there)
