-- The paths that fit a route's pattern, in which each parameter is a whole segment (RFC 3986,
-- section 3.3). A pattern is a list of tokens, as `matchit` keeps it: the bytes of the route, and
-- one token for each parameter.
use Rattle.std.specs.Prelude.{◌≡◌, ℕ, ◌<◌, Bool, true, false, ◌==◌, ◌&&◌, not, nat_lt}
use Rattle.std.specs.Prelude.{if◌then◌else◌, List, [], ◌∷◌, ◌++◌, length, drop, slice_index_or}
use Rattle.std.specs.List.{list_all}
use Rattle.matchit.specs.Rows.{RowsOf, param_token}
use Rattle.matchit.specs.Seek.{slash}

-- ---- paths

-- a byte of a segment: any byte but the slash
abbrev pub is_segment_byte : ℕ → Bool
is_segment_byte b = nat_lt b 256 && not (b == slash)

-- what a parameter may take: a segment that is not empty
pub record IsSegment (text : List ℕ) : Type 0 where
  pub some : 0 < length text
  pub bytes : list_all is_segment_byte text ≡ true

-- the first of the segments, or this byte, followed by the path of the rest
abbrev pub path_with : Bool → ℕ → (List (List ℕ) → List ℕ) → List (List ℕ) → List ℕ
path_with true b rest segments = slice_index_or segments 0 [] ++ rest (drop 1 segments)
path_with false b rest segments = b ∷ rest segments

-- the path that the pattern makes of segments, which replace its parameters one after another
abbrev pub path_by : List ℕ → List (List ℕ) → List ℕ
path_by [] = λ segments. []
path_by (x ∷ pattern) = path_with (x == param_token) x (path_by pattern)

-- the first is a segment, and the rest satisfy the predicate; or all do
abbrev pub AreWith : Bool → (List (List ℕ) → Type 0) → List (List ℕ) → Type 0
AreWith true rest segments = IsSegment (slice_index_or segments 0 []) × rest (drop 1 segments)
AreWith false rest segments = rest segments

-- there is a segment for each parameter of the pattern
abbrev pub AreSegments : List ℕ → List (List ℕ) → Type 0
AreSegments [] = λ segments. Unit {0}
AreSegments (x ∷ pattern) = AreWith (x == param_token) (AreSegments pattern)

-- ---- patterns

-- a segment ends here: nothing follows, or a slash
abbrev pub ends_segment : List ℕ → Bool
ends_segment [] = true
ends_segment (x ∷ pattern) = x == slash

-- each token is an ASCII character, or a parameter that takes the rest of its segment
abbrev pub is_plain : List ℕ → Bool
is_plain [] = true
is_plain (x ∷ pattern) =
    (if x == param_token then ends_segment pattern else nat_lt x 128) && is_plain pattern

-- if neither pattern begins with the other, they first differ at a byte in both
abbrev pub part_at_bytes : List ℕ → List ℕ → Bool
part_at_bytes [] other = true
part_at_bytes (x ∷ pattern) [] = true
part_at_bytes (x ∷ pattern) (y ∷ other) =
    if x == y then part_at_bytes pattern other else (nat_lt x param_token && nat_lt y param_token)

module _ {K : Type 0} where
  -- the rows are plain, and differ from this pattern first at bytes, if at all
  abbrev pub are_clear_of : List ℕ → RowsOf K → Bool
  are_clear_of pattern [] = true
  are_clear_of pattern ((other, key) ∷ rest) =
      (part_at_bytes pattern other && is_plain other) && are_clear_of pattern rest
