-- The keys by which repeated posts are recognized.
use Rattle.std.specs.Prelude.{ℕ, Bool, ◌&&◌, List}
use Rattle.fedi_town.specs.declared.act.Act.{Act}
use Rattle.fedi_town.specs.Legal.{has_key}
use Rattle.fedi_town.specs.Towns.{is_by}

-- the author posted the activity under this key
unfoldable pub is_repeat : List ℕ → List ℕ → Act → Bool
is_repeat author key x = is_by author x && has_key key x.repeat
