-- The positions, among all activities, of the Adds and Removes from which the contents of the
-- collections that members make follow, whoever may see them (ActivityPub, sections 6.6 and 6.7).
use Rattle.std.specs.Prelude.{ℕ, Bool, ◌&&◌, List}
use Rattle.fedi_town.specs.declared.act.Act.{Act}
use Rattle.fedi_town.specs.Boards.{is_pin_kind}
use Rattle.fedi_town.specs.Relations.{is_id}
use Rattle.fedi_town.specs.Towns.{Town, is_by}
use Rattle.fedi_visible.specs.Places.{places_from}

-- it is an Add or a Remove by anybody that is directed to the collection with this id
unfoldable pub is_directed : List ℕ → Act → Bool
is_directed board x = is_pin_kind x.activity.kind && is_id board x.activity.target

-- it is an Add or a Remove by this author, directed to any collection
unfoldable pub is_pin_kind_by : List ℕ → Act → Bool
is_pin_kind_by author x = is_pin_kind x.activity.kind && is_by author x

-- the positions of the Adds and Removes that are directed to this collection
abbrev pub directed_places : Town → List ℕ → List ℕ
directed_places t board = places_from (is_directed board) 0 t.acts

-- the positions of the Adds and Removes by this author
abbrev pub pin_places : Town → List ℕ → List ℕ
pin_places t author = places_from (is_pin_kind_by author) 0 t.acts
