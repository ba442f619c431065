-- What a demonstration prints.
use Rattle.std.specs.Prelude.{ℕ, zero, suc, ◌+◌, ◌-◌, ◌*◌, ◌==◌, nat_eq, List, [], ◌∷◌, ◌++◌, codes}
use Rattle.std.specs.Prelude.{decimal, drop, length, Option, None, Some, option_to_list}
use Rattle.std.specs.Prelude.{if◌then◌else◌}
use Rattle.std.specs.List.{starts_with}
use Rattle.hex.specs.Hex.{encode_lower}
use Rattle.sha2.specs.Sha256.{sha256}
use Rattle.fedi_demo.specs.declared.printed.Held.{Held}

-- ---- statuses (RFC 9112, section 4)

-- the number that three decimal digits write
abbrev pub three_digits : List ℕ → Option ℕ
three_digits [] = None
three_digits (a ∷ []) = None
three_digits (a ∷ b ∷ []) = None
three_digits (a ∷ b ∷ c ∷ rest) = Some (100 * (a - 48) + 10 * (b - 48) + (c - 48))

-- the status of the status line that these bytes begin with
unfoldable pub status_at : List ℕ → Option ℕ
status_at bytes =
    if starts_with nat_eq bytes (codes "HTTP/1.1 ") then three_digits (drop 9 bytes) else None

-- the statuses of the replies in these bytes, in order: no body in a demonstration has the text of
-- a status line
abbrev pub statuses_in : List ℕ → List ℕ
statuses_in [] = []
statuses_in (byte ∷ bytes) = option_to_list (status_at (byte ∷ bytes)) ++ statuses_in bytes

-- how many of these statuses are this one
abbrev pub times : ℕ → List ℕ → ℕ
times status [] = 0
times status (s ∷ statuses) = (if s == status then 1 else 0) + times status statuses

-- ---- lines

-- a label, a space and a count
unfoldable pub count_line : List ℕ → ℕ → List ℕ
count_line label count = label ++ (codes " " ++ (decimal count ++ codes "\n"))

-- how many replies had this status, if any had
unfoldable pub status_count : List ℕ → ℕ → List ℕ
status_count statuses status =
    if times status statuses == 0 then []
    else count_line (decimal status) (times status statuses)

-- these lines for this many statuses from this one on
abbrev pub status_counts : List ℕ → ℕ → ℕ → List ℕ
status_counts statuses status zero = []
status_counts statuses status (suc more) =
    status_count statuses status ++ status_counts statuses (suc status) more

-- these lines for each status of three digits (RFC 9110, section 15), in ascending order
unfoldable pub all_status_counts : List ℕ → List ℕ
all_status_counts statuses = status_counts statuses 100 500

-- how much the store holds at the end
unfoldable pub held_lines : Held → List ℕ
held_lines held =
    count_line (codes "entries") held.entries
    ++ (count_line (codes "activities") held.activities
    ++ count_line (codes "queue") held.queue)

-- the length and the digest of everything that was written on the connections
unfoldable pub written_lines : List ℕ → List ℕ
written_lines written =
    count_line (codes "bytes") (length written)
    ++ (codes "sha256 " ++ (encode_lower (sha256 written) ++ codes "\n"))

-- the whole text, from the number, what the store holds and what was written
abbrev pub summary_text : ℕ → Held → List ℕ → List ℕ
summary_text number held written =
    count_line (codes "demo") number
    ++ (count_line (codes "requests") 2000
    ++ (all_status_counts (statuses_in written)
    ++ (held_lines held
    ++ written_lines written)))
