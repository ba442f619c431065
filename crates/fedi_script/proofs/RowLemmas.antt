-- The scripts, computed.
use Rattle.std.proofs.Common.{◌≡◌, ◌<◌, ℕ, zero, suc, Bool, true, List, [], ◌∷◌, ◌++◌, map, refl, lit<}
use Rattle.std.specs.Prelude.{Option, codes, nat_lt, slice_index}
use Rattle.std.specs.Fmt.{digits}
use Rattle.std.specs.List.{list_all}
use Rattle.std.specs.Option.{option_and_then}
use Rattle.std.specs.Str.{IsAscii}
use Rattle.std.proofs.lemmas.Bool.{and_parts, ltb-true}
use Rattle.std.proofs.lemmas.Str.{IsUtf8-from_ascii, is_utf8-from_IsUtf8}
use Rattle.fedi_script.specs.Lines.{Instruction, cut, instruction_by, instruction_in, lines_of}
use Rattle.fedi_script.specs.Printed.{answered_line, attempt_line, entries_line, refused_line, replied_line, request_line}
use Rattle.fedi_script.specs.Rows.{BadLinesAreRefused, CrossingIsPrinted, CrossingIsRead, EarlyIsPrinted, EarlyIsRead, LosingIsPrinted, LosingIsRead, ScriptsAreRead}
use Rattle.fedi_script.specs.Rows.{crossing, losing, saying, set_up}

-- ---- lines of ASCII

abbrev is_plain : List ℕ → Bool
is_plain = list_all (λ b. nat_lt b 128)

ascii : (line : List ℕ) → is_plain line ≡ true → IsAscii line
ascii [] plain = λ i. lit< tt
ascii (b ∷ line) plain =
    let both = and_parts (nat_lt b 128) (is_plain line) plain in
    λ i. by i (ltb-true b 128 both.0) (ascii line both.1)
  where
    by : (i : ℕ) → b < 128 → IsAscii line → slice_index (b ∷ line) i < 128
    by zero low more = low
    by (suc i) low more = more i

-- what a line of ASCII says
abbrev plain_in : List ℕ → Option Instruction
plain_in line = option_and_then (λ parts. instruction_by parts.0 parts.1) (cut line)

plain_line : (line : List ℕ) → is_plain line ≡ true → instruction_in line ≡ plain_in line
plain_line line plain = rw (is_utf8-from_IsUtf8 line (IsUtf8-from_ascii line (ascii line plain))) refl

plain_lines : (lines : List (List ℕ)) → list_all is_plain lines ≡ true
    → map instruction_in lines ≡ map plain_in lines
plain_lines [] plain = refl
plain_lines (line ∷ lines) plain =
    let both = and_parts (is_plain line) (list_all is_plain lines) plain in
    let first : instruction_in line ≡ plain_in line = plain_line line both.0 in
    let more : map instruction_in lines ≡ map plain_in lines = plain_lines lines both.1 in
    cc (first, more)

-- ---- the scripts

crossing_read : CrossingIsRead
unfolding instruction_by
crossing_read = plain_lines (lines_of (set_up ++ (saying ++ crossing))) refl

crossing_printed : CrossingIsPrinted
unfolding digits replied_line attempt_line answered_line request_line entries_line
crossing_printed = refl

losing_read : LosingIsRead
unfolding instruction_by
losing_read = plain_lines (lines_of (set_up ++ (saying ++ losing))) refl

losing_printed : LosingIsPrinted
unfolding digits replied_line attempt_line answered_line request_line entries_line
losing_printed = refl

early_read : EarlyIsRead
unfolding instruction_by
early_read = plain_lines (lines_of (set_up ++ codes "reach 0\n")) refl

early_printed : EarlyIsPrinted
unfolding digits refused_line
early_printed = refl

bad_lines : BadLinesAreRefused
unfolding instruction_by
bad_lines =
    plain_lines (lines_of (codes "\nclaim\nclaim a b\n claim a\narrive +1\nwait 4294967296\nsay a b\nno")) refl

pub scripts_are_read : ScriptsAreRead
scripts_are_read = record {
  crossing_read = crossing_read;
  crossing_printed = crossing_printed;
  losing_read = losing_read;
  losing_printed = losing_printed;
  early_read = early_read;
  early_printed = early_printed;
  bad_lines = bad_lines;
}
