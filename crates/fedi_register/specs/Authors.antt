-- The authors of the activities, and the number of activities of each.
use Rattle.std.specs.Prelude.{◌≡◌, ℕ, ◌+◌, Bool, List, map, Option, Some, None, if◌then◌else◌}
use Rattle.std.specs.List.{find}
use Rattle.std.specs.Str.{bytes_eq}
use Rattle.fedi_register.specs.declared.authors.Author.{Author}
use Rattle.fedi_register.specs.declared.authors.Authors.TheInside.{Inside}
use Rattle.fedi_register.specs.declared.seeds.Seed.{Seed}
use Rattle.fedi_register.specs.Marks.{every, marks_from}
use Rattle.fedi_register.specs.Seeds.{mark_of}

-- the author has this id
unfoldable pub is_author : List ℕ → Author → Bool
is_author id a = bytes_eq a.id id

-- the number for the author's id
unfoldable pub author_mark : Seed → Author → ℕ
author_mark seed a = mark_of seed a.id

-- the count of an author, or 0 if there is none
abbrev pub count_found : Option Author → ℕ
count_found None = 0
count_found (Some a) = a.count

-- the number of activities counted for the author with this id
unfoldable pub count_in : List Author → List ℕ → ℕ
count_in authors id = count_found (find (is_author id) authors)

-- the ids of the authors
abbrev pub ids_of : List Author → List (List ℕ)
ids_of authors = map (λ a. a.id) authors

-- the counts of all authors are the same
pub record SameCounts (old new : List Author) : Type 0 where
  pub count : (id : List ℕ) → count_in new id ≡ count_in old id

-- the count of this author is one more
pub record CountsOne (old new : List Author) (author : List ℕ) : Type 0 where
  pub count : (id : List ℕ)
      → count_in new id ≡ count_in old id + (if bytes_eq author id then 1 else 0)

-- the authors, as seen by a look-up
abbrev pub authors_in : Inside → List Author
authors_in a = a.list.items

-- the authors are indexed by id
abbrev pub AreAuthors : Inside → Type 0
AreAuthors a = a.ids.marks ≡ marks_from every (author_mark a.seed) 0 a.list.items
