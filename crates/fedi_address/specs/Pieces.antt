-- Pieces of a text.
use Rattle.std.specs.Prelude.{ℕ, Bool, nat_lt, List, drop, length, if◌then◌else◌}
use Rattle.std.specs.List.{position_or_len, after_first}

-- what follows the first element that passes, or all if none does
unfoldable pub after_any : (ℕ → Bool) → List ℕ → List ℕ
after_any test text =
    if nat_lt (position_or_len test text) (length text) then after_first test text else text

-- the first element that passes and what follows it, or nothing if none does
abbrev pub from_first : (ℕ → Bool) → List ℕ → List ℕ
from_first test text = drop (position_or_len test text) text
