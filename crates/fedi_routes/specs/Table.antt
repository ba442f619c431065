-- The routes of the server, as the router keeps them.
use Rattle.std.specs.Prelude.{◌≡◌, ℕ, List, [], ◌∷◌, ◌++◌, codes, decimal, IsTrue, None, Some}
use Rattle.matchit.specs.Order.{placed}
use Rattle.matchit.specs.Router.{RouteOf}
use Rattle.matchit.specs.Rows.{RowsOf, param_token}
use Rattle.fedi_address.specs.Names.{is_name}
use Rattle.fedi_routes.specs.Patterns.{AreSegments, path_by}
use Rattle.fedi_town.specs.declared.caller.Which.TheVariants as which
use Rattle.fedi_model.specs.Places.{IsNumber}
use Rattle.fedi_routes.specs.declared.kinds.Kind.{Kind}
use Rattle.fedi_routes.specs.declared.kinds.Kind.TheVariants.{Webfinger, Member, Numbered, Board}
use Rattle.fedi_routes.specs.declared.kinds.Part.{Part}
use Rattle.fedi_routes.specs.declared.kinds.Part.TheVariants.{Actor, Inbox, Outbox, Followers}
use Rattle.fedi_routes.specs.declared.kinds.Part.TheVariants.{Following, Liked, Boards}
use Rattle.fedi_routes.specs.declared.kinds.NumberedPart.{NumberedPart}
use Rattle.fedi_routes.specs.declared.kinds.NumberedPart.TheVariants.{Activity, Object, Likes}
use Rattle.fedi_routes.specs.declared.kinds.NumberedPart.TheVariants.{Shares}
use Rattle.fedi_model.specs.declared.place.Place.{Place}
use Rattle.fedi_model.specs.declared.place.Place.TheVariants as place

-- ---- routes

-- what follows the member's name
abbrev pub end_of : Part → List ℕ
end_of Actor = []
end_of Inbox = codes "/inbox"
end_of Outbox = codes "/outbox"
end_of Followers = codes "/followers"
end_of Following = codes "/following"
end_of Liked = codes "/liked"
end_of Boards = codes "/c"

-- what is between the member's name and the number
abbrev pub middle_of : NumberedPart → List ℕ
middle_of Activity = codes "/a/"
middle_of part = codes "/o/"

-- what follows the number
abbrev pub last_of : NumberedPart → List ℕ
last_of Activity = []
last_of Object = []
last_of Likes = codes "/likes"
last_of Shares = codes "/shares"

-- the text of the route
abbrev pub route_text : Kind → List ℕ
route_text Webfinger = codes "/.well-known/webfinger"
route_text (Member part) = codes "/users/{name}" ++ end_of part
route_text (Numbered part) =
    codes "/users/{name}" ++ (middle_of part ++ (codes "{item}" ++ last_of part))
route_text Board = codes "/users/{name}/c/{item}"

-- its pattern
abbrev pub pattern_of : Kind → List ℕ
pattern_of Webfinger = codes "/.well-known/webfinger"
pattern_of (Member part) = codes "/users/" ++ param_token ∷ end_of part
pattern_of (Numbered part) =
    codes "/users/" ++ param_token ∷ (middle_of part ++ param_token ∷ last_of part)
pattern_of Board = codes "/users/" ++ param_token ∷ (codes "/c/" ++ param_token ∷ [])

-- the positions of the names of its parameters in the text
abbrev pub names_of : Kind → List (ℕ × ℕ)
names_of Webfinger = []
names_of (Member part) = (8, 12) ∷ []
names_of (Numbered part) = (8, 12) ∷ (17, 21) ∷ []
names_of Board = (8, 12) ∷ (17, 21) ∷ []

-- the route
abbrev pub route_of : Kind → RouteOf Kind
route_of kind = record {
  pattern = pattern_of kind;
  text = route_text kind;
  names = names_of kind;
  value = kind;
}

-- ---- the rows of the router

-- all kinds
abbrev pub kinds : List Kind
kinds =
    Webfinger ∷ Member Actor ∷ Member Inbox ∷ Member Outbox ∷ Member Followers ∷ Member Following
    ∷ Member Liked ∷ Member Boards ∷ Numbered Activity ∷ Numbered Object ∷ Numbered Likes
    ∷ Numbered Shares ∷ Board ∷ []

-- the rows after the routes of these kinds are added, one after another
abbrev pub added : List Kind → RowsOf (RouteOf Kind) → RowsOf (RouteOf Kind)
added [] rs = rs
added (kind ∷ rest) rs = added rest (placed (pattern_of kind, route_of kind) rs)

-- the rows of the router with all routes
unfoldable pub rows : RowsOf (RouteOf Kind)
rows = added kinds []

-- ---- what a path is routed to

-- the route of the kind makes the path of this name and this number, as far as it has them
pub record IsRouted (kind : Kind) (name number path : List ℕ) : Type 0 where
  pub segments : AreSegments (pattern_of kind) (name ∷ number ∷ [])
  pub spelled : path ≡ path_by (pattern_of kind) (name ∷ number ∷ [])

-- the place of the part, for the member
abbrev pub member_place : Part → List ℕ → Place
member_place Actor name = place.Actor name
member_place Inbox name = place.Collection (which.Inbox name)
member_place Outbox name = place.Collection (which.Outbox name)
member_place Followers name = place.Collection (which.Followers name)
member_place Following name = place.Collection (which.Following name)
member_place Liked name = place.Collection (which.Liked name)
member_place Boards name = place.Board name None

-- the place of the part, for the member and the number
abbrev pub numbered_place : NumberedPart → List ℕ → ℕ → Place
numbered_place Activity name number = place.Activity name number
numbered_place Object name number = place.Object name number
numbered_place Likes name number = place.Collection (which.Likes name number)
numbered_place Shares name number = place.Collection (which.Shares name number)

-- the place is of the kind, and these bytes write its name and its number
abbrev pub IsAt : Kind → List ℕ → List ℕ → Place → Type 0
IsAt Webfinger name number there = there ≡ place.Webfinger
IsAt (Member part) name number there = IsTrue (is_name name) × (there ≡ member_place part name)
IsAt (Numbered part) name number there =
    IsTrue (is_name name)
    × ((n : ℕ) × IsNumber n × (number ≡ decimal n) × (there ≡ numbered_place part name n))
IsAt Board name slug there =
    IsTrue (is_name name) × IsTrue (is_name slug) × (there ≡ place.Board name (Some slug))
