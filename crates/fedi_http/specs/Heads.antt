-- Where the head of a request ends.
use Rattle.std.specs.Prelude.{ℕ, ◌≡◌, ◌≢◌, slice_index, ◌+◌, ◌<◌, ◌≤◌, Bool, ◌||◌, not, nat_eq}
use Rattle.std.specs.Prelude.{List, [], ◌∷◌, length, take, drop, find, Option, None, Some}
use Rattle.std.specs.Prelude.{option_map}
use Rattle.std.specs.List.{ends_with, position_or_len, range_with_len, slice_range}
use Rattle.fedi_town.specs.declared.refusal.Refusal.TheVariants.{HeadTooLong}
use Rattle.fedi_http.specs.declared.read_error.ReadError.{ReadError}
use Rattle.fedi_http.specs.declared.read_error.ReadError.TheVariants.{End, CutShort, Refused}
use Rattle.fedi_http.specs.declared.read_error.ReadError.TheVariants.{ReadFault, Memory}

-- CR and LF
abbrev pub is_line_end : ℕ → Bool
is_line_end byte = nat_eq byte 13 || nat_eq byte 10

-- the index of the first byte that is neither: empty lines may come before a request line (RFC
-- 9112, section 2.2)
unfoldable pub leading : List ℕ → ℕ
leading bytes = position_or_len (λ byte. not (is_line_end byte)) bytes

-- the bytes from that index on
abbrev pub after_leading : List ℕ → List ℕ
after_leading bytes = drop (leading bytes) bytes

-- a line ends in LF, which a CR may precede (RFC 9112, section 2.2); so an empty line after another
-- line ends in LF LF or in LF CR LF
abbrev pub ends_in_empty_line : List ℕ → Bool
ends_in_empty_line text =
    ends_with nat_eq text (10 ∷ 10 ∷ []) || ends_with nat_eq text (10 ∷ 13 ∷ 10 ∷ [])

-- whether the first `count` bytes, without the leading line ends, end with an empty line
unfoldable pub is_end : List ℕ → ℕ → Bool
is_end bytes count = ends_in_empty_line (after_leading (take count bytes))

-- how many bytes the head takes at the front: the least number after which it ends with an empty
-- line (RFC 9112, section 2.1)
unfoldable pub head_end : List ℕ → Option ℕ
head_end bytes = find (is_end bytes) (range_with_len 0 (length bytes + 1))

-- the text of the head: these bytes without the leading line ends
abbrev pub head_of : List ℕ → Option (List ℕ)
head_of bytes = option_map (λ count. after_leading (take count bytes)) (head_end bytes)

-- the head in the first `limit` bytes extends from `start` to `end`
pub record IsHeadAt (limit : ℕ) (bytes : List ℕ) (start end : ℕ) : Type 0 where
  pub ends : head_end (take limit bytes) ≡ Some end
  pub ordered : start < end
  pub within : end ≤ length bytes
  pub text : head_of (take limit bytes) ≡ Some (slice_range bytes start end)

-- there are fewer than `limit` bytes, and no head ends in them
abbrev pub LacksHead : ℕ → List ℕ → Type 0
LacksHead limit bytes = (length bytes < limit) × (head_end bytes ≡ None)

-- no head ends in the first `limit` bytes
abbrev pub HasLongHead : ℕ → List ℕ → Type 0
HasLongHead limit bytes = (limit ≤ length bytes) × (head_end (take limit bytes) ≡ None)

-- why no head was read at the front of the bytes, if a head takes at most `limit` bytes
abbrev pub HasNoHead : ℕ → List ℕ → ReadError → Type 0
HasNoHead limit bytes End = bytes ≡ []
HasNoHead limit bytes CutShort = (0 < length bytes) × LacksHead limit bytes
HasNoHead limit bytes (Refused refusal) = (refusal ≡ HeadTooLong) × HasLongHead limit bytes
HasNoHead limit bytes ReadFault = LacksHead limit bytes
HasNoHead limit bytes Memory = LacksHead limit bytes

-- no head ends in the first `looked` bytes, and the first `start` of these are the leading line
-- ends
pub record IsLookedAt (bytes : List ℕ) (looked start : ℕ) : Type 0 where
  pub within : looked ≤ length bytes
  pub front : start ≡ leading (take looked bytes)
  pub none : head_end (take looked bytes) ≡ None

-- wherever the bytes are cut between `looked` and `upto`, the leading line ends are the first
-- `start` bytes
abbrev pub IsSettled : List ℕ → ℕ → ℕ → ℕ → Type 0
IsSettled bytes looked upto start = (n : ℕ) → looked ≤ n → n ≤ upto → leading (take n bytes) ≡ start

-- no byte from `from` up to `upto` is LF
abbrev pub LacksLineFeed : List ℕ → ℕ → ℕ → Type 0
LacksLineFeed bytes from upto = (i : ℕ) → from ≤ i → i < upto → slice_index bytes i ≢ 10
