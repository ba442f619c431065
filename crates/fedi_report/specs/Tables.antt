-- Tables as comma-separated values (RFC 4180), and what becomes of a table that is written.
use Rattle.std.specs.Prelude.{◌≡◌, ◌≤◌, ℕ, List, [], ◌++◌, drop, flat_map, length, slice_get, take}
use Rattle.std.specs.Prelude.{Option, None, Some, Result, MatchResult, false}
use Rattle.std.specs.Io.KnownBytes.{Appends}
use Rattle.csv.specs.Writing.{default_writer, fields_written, has_written, row_text, writer_pending}
use Rattle.csv.specs.Writing.{writer_setup, writer_under}
use Rattle.csv.specs.declared.writer.Writer.{Writer}
use Rattle.std.specs.declared.vec.Vec.{Vec}
use Rattle.fedi_logged.specs.Endings.{Output, BreaksOff, Writes}
use Rattle.fedi_report.specs.declared.tables.ReportFault.{ReportFault}
use Rattle.fedi_report.specs.declared.tables.ReportFault.TheVariants.{WriteFault, Memory}

-- ---- the text of a table

-- the rows of a table, each by its fields: a field is in quotes if it has a comma, a quote or a
-- line break, and each row ends with a line feed
abbrev pub rows_text : List (List (List ℕ)) → List ℕ
rows_text rows = flat_map (row_text default_writer) rows

-- the row, if there is one
abbrev pub row_or_nothing : Option (List (List ℕ)) → List ℕ
row_or_nothing None = []
row_or_nothing (Some row) = row_text default_writer row

-- the row at this position
abbrev pub row_at : List (List (List ℕ)) → ℕ → List ℕ
row_at rows position = row_or_nothing (slice_get rows position)

-- this many rows from a position on
abbrev pub rows_from : List (List (List ℕ)) → ℕ → ℕ → List (List (List ℕ))
rows_from rows position count = take count (drop position rows)

-- ---- what is written of it

-- a writer of rows that has ended the last row
pub record IsBetweenRows {A : Type 0} (w : Writer (Vec ℕ A)) : Type 0 where
  pub setup : writer_setup w ≡ default_writer
  pub fields : fields_written w ≡ 0
  pub shown : has_written w ≡ false

-- what was written so far
unfoldable pub written : {A : Type 0} → Writer (Vec ℕ A) → List ℕ
written w = (writer_under w).items ++ writer_pending w

-- ---- what becomes of a text that is written piece by piece

-- a prefix of the text was sent, and no write failed
pub record Begins (before now : Output) (text : List ℕ) : Type 0 where
  pub prefix : ℕ
  pub within : prefix ≤ length text
  pub sent : Appends before.sent now.sent (take prefix text)
  pub calm : now.faults ≡ before.faults

-- the text was sent in part, for this reason
abbrev pub Stops : Output → Output → List ℕ → ReportFault → Type 0
Stops before now text WriteFault = BreaksOff before now [] text
Stops before now text Memory = Begins before now text

-- the text was sent completely, or in part for some reason
abbrev pub Reports : {T : Type 0} → Output → Output → List ℕ → Result T ReportFault → Type 0
Reports before now text result =
    MatchResult result (λ _. Writes before now text) (Stops before now text)
