-- What a clock in UTC shows of a moment, as a date and a time of day of `jiff`.
use Rattle.std.specs.Prelude.{◌≡◌, ℕ, pos}
use Rattle.httpdate.specs.declared.parts.Parts.{Parts}
use Rattle.jiff.specs.Types.{DateTime}
use Rattle.jiff.specs.Words.{IsYmd}

-- the clock shows this date and time of day, and no fraction of a second
abbrev pub IsShownAs : Parts → DateTime → Type 0
IsShownAs parts shown =
    IsYmd (pos parts.year) (pos parts.mon) (pos parts.day) shown.date
    × (shown.time.hour ≡ parts.hour)
    × (shown.time.minute ≡ parts.min)
    × (shown.time.second ≡ parts.sec)
    × (shown.time.subsec_nanosecond ≡ 0)
