-- The date and the time of day of a moment, as functions of its seconds since 1970 (POSIX time,
-- without leap seconds).
use Rattle.std.specs.Prelude.{ℕ, zero, suc, ◌+◌, ◌-◌, ◌/◌, ◌%◌, List, ◌++◌, nat_le, if◌then◌else◌}
use Rattle.std.specs.Prelude.{codes}
use Rattle.httpdate.specs.declared.parts.Parts.{Parts}
use Rattle.httpdate.specs.Calendar.{days_of_years, days_of_months, weekday}
use Rattle.httpdate.specs.Text.{two_digits, four_digits, time_of_day, imf_fixdate}

-- the greatest number up to n at which f is not above x, or 0
unfoldable pub greatest : (ℕ → ℕ) → ℕ → ℕ → ℕ
greatest f x zero = 0
greatest f x (suc n) = if nat_le (f (suc n)) x then suc n else greatest f x n

-- how many years since 1970 have passed, `days` after 1 January 1970: the year is the greatest
-- whose first day is not later
unfoldable pub years_before : ℕ → ℕ
years_before days = greatest days_of_years days days

-- how many months of the year have passed, on this day of the year
unfoldable pub months_before : ℕ → ℕ → ℕ
months_before year day = greatest (days_of_months year) day 11

-- the date `days` after 1 January 1970, with the second of the day
abbrev pub date_of : ℕ → ℕ → Parts
date_of days second =
    let years = years_before days in
    let year = 1970 + years in
    let day = days - days_of_years years in
    let months = months_before year day in
    record {
      year = year;
      mon = 1 + months;
      day = 1 + (day - days_of_months year months);
      hour = second / 3600;
      min = second % 3600 / 60;
      sec = second % 60;
      wday = weekday days;
    }

-- the Gregorian date and the time of day, this many seconds after 1970 began (UTC)
unfoldable pub parts_of : ℕ → Parts
parts_of seconds = date_of (seconds / 86400) (seconds % 86400)

-- `1994-11-06T08:49:37Z` (RFC 3339, section 5.6)
abbrev pub iso_text : Parts → List ℕ
iso_text p =
    four_digits p.year ++ (codes "-" ++ (two_digits p.mon ++ (codes "-" ++ (two_digits p.day
    ++ (codes "T" ++ (time_of_day p ++ codes "Z"))))))

-- a moment as RFC 3339 writes it, in UTC and to the second
unfoldable pub moment_text : ℕ → List ℕ
moment_text seconds = iso_text (parts_of seconds)

-- a moment as HTTP writes it: `Sun, 06 Nov 1994 08:49:37 GMT` (RFC 9110, section 5.6.7,
-- IMF-fixdate)
unfoldable pub http_date_text : ℕ → List ℕ
http_date_text seconds = imf_fixdate (parts_of seconds)
