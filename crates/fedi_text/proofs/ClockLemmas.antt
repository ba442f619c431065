-- From 1970 on the calendar of `jiff` numbers the days as that of `httpdate` does, so its clock
-- shows the date and the time of a moment.
use Rattle.std.proofs.Common.{◌≡◌, ℕ, pos, zero, suc, ◌+◌, ◌-◌, ◌*◌, ◌/◌, ◌%◌, ◌+ℤ◌, ◌*ℤ◌, ◌<◌, ◌≤◌, unsigned_abs, length, ◌++◌, codes, false, None, refl, ap, sym, ◌∙◌, arith}
use Rattle.httpdate.specs.Calendar.{days_in_year, days_in_month, days_of_years as http_years, days_of_months as http_months, days_from_civil as http_civil}
use Rattle.jiff_core.specs.declared.civil.date.Date.{Date}
use Rattle.jiff_core.specs.declared.civil.datetime.DateTime.{DateTime}
use Rattle.jiff_core.specs.Calendar.{days_of_years as jiff_years, days_of_months as jiff_months, days_from_civil as jiff_civil, day_count}
use Rattle.jiff_core.specs.Date.{epoch_day, IsYmd}
use Rattle.jiff_core.specs.DateTime.{civil_nanos}
use Rattle.jiff_core.specs.Time.{time_nanos, IsHms}
use Rattle.jiff_core.proofs.StandardFacts.{known_days}
use Rattle.jiff_core.proofs.SignedLemmas.{signed_arith}
use Rattle.jiff_core.proofs.MarchLemmas.{leap_day, leap_day-shift, days_in_year-leap_day, days_of_years-suc, days_of_years-march_days}
use Rattle.jiff_core.proofs.CalendarLemmas.{days_from_civil-day_count}
use Rattle.jiff_core.proofs.DateLemmas.{epoch_day_injective}
use Rattle.jiff_core.proofs.DateTimeLemmas.{civil_nanos-parts, time_nanos_bound}
use Rattle.jiff.specs.Words.{datetime_text}
use Rattle.fedi_text.specs.Clocks.{IsShownAs}
use Rattle.fedi_text.specs.Dates.{date_of, parts_of, moment_text}
use Rattle.fedi_text.proofs.DateLemmas.{date_civil}

-- months have the same lengths in both
months_agree : (y n : ℕ) → jiff_months (pos y) n ≡ http_months y n
unfolding jiff_months http_months
months_agree y zero = refl
months_agree y (suc n) = ap (λ (k : ℕ). k + days_in_month y (suc n)) (months_agree y n)

-- `jiff` counts years from 10000 BC on, and 1970 is the 11970th
years_agree : (n : ℕ) → jiff_years (11970 + n) ≡ 4371953 + http_years n
unfolding http_years
years_agree zero = omega (arith, days_of_years-march_days 11970)
years_agree (suc n) =
    let next : 11970 + suc n ≡ suc (11970 + n) = omega arith in
    let year : days_in_year (1970 + n) ≡ 365 + leap_day (pos (1970 + n)) = days_in_year-leap_day (pos (1970 + n)) in
    let shift : leap_day (pos (1970 + n)) ≡ leap_day (pos (11970 + n)) =
    leap_day-shift (pos (1970 + n)) (11970 + n) (omega (arith, signed_arith)) in
    rw next (omega (arith, years_agree n, days_of_years-suc (11970 + n), year, shift))

counts_agree : (y m d : ℕ) → 1970 ≤ y → 1 ≤ d → day_count (pos y) m d ≡ 4371953 + http_civil y m d
unfolding day_count
counts_agree y m d late first =
    let at : unsigned_abs (pos y +ℤ pos 10000) ≡ 11970 + (y - 1970) = omega (arith, signed_arith) in
    rw at (omega (arith, years_agree (y - 1970), months_agree y (m - 1)))

-- the two calendars number the days alike
calendars_agree : (y m d : ℕ) → 1970 ≤ y → 1 ≤ d → jiff_civil (pos y) m d ≡ pos (http_civil y m d)
calendars_agree y m d late first =
    omega (arith, signed_arith, days_from_civil-day_count (pos y) m d, counts_agree y m d late first)

-- the date is the one so many days after 1 January 1970
abbrev IsDateOf : ℕ → Date → Type 0
IsDateOf days date = let parts = date_of days 0 in IsYmd (pos parts.year) (pos parts.mon) (pos parts.day) date

-- so a date of `jiff` with the number of a day is that day
date_is : (days : ℕ) (date : Date) → days < 2932897 → epoch_day date ≡ pos days → IsDateOf days date
date_is days date bound number =
    let parts = date_of days 0 in
    let civil = date_civil days 0 bound in
    let same : Date = record {
      year = pos parts.year;
      month = parts.mon;
      day = parts.day;
      year_in = omega (arith, signed_arith, civil.0.0);
      month_in = civil.0.1;
      day_in = civil.0.2;
    } in
    let numbered : epoch_day same ≡ pos days =
    calendars_agree parts.year parts.mon parts.day civil.0.0.0 civil.0.2.0 ∙ ap pos civil.1 in
    let equal = epoch_day_injective date same (number ∙ sym numbered) in
    (equal.0, ap pos equal.1, ap pos equal.2)

-- and a clock of `jiff` with the nanoseconds of a second shows the date and the time of day of that
-- second
pub clock_is : (n : ℕ) (clock : DateTime) → n < 253402300800 → civil_nanos clock ≡ pos n *ℤ pos 1000000000 → IsShownAs (parts_of n) clock
unfolding parts_of
clock_is n clock bound nanos =
    let day : epoch_day clock.date ≡ pos (n / 86400) =
    omega (arith, signed_arith, civil_nanos-parts clock, time_nanos_bound clock.time) in
    let time : time_nanos clock.time ≡ n % 86400 * 1000000000 =
    omega (arith, signed_arith, civil_nanos-parts clock, time_nanos_bound clock.time) in
    (date_is (n / 86400) clock.date (omega arith) day, omega arith, omega arith, omega arith, omega arith)

-- the text of such a clock, with `Z` after it, is that of the moment
pub text_is : (n : ℕ) (clock : DateTime) → IsShownAs (parts_of n) clock → datetime_text false 84 None clock ++ codes "Z" ≡ moment_text n
unfolding moment_text
text_is n clock shown =
    let date = shown.0 in
    let month : clock.date.month ≡ (parts_of n).mon = omega (arith, signed_arith) in
    let day : clock.date.day ≡ (parts_of n).day = omega (arith, signed_arith) in
    rw (date.0, month, day, shown.1, shown.2, shown.3, shown.4) refl

-- 1 January 1970 is day 0
epoch_is : (date : Date) → IsYmd (pos 1970) (pos 1) (pos 1) date → epoch_day date ≡ pos 0
epoch_is date ymd =
    let month : date.month ≡ 1 = omega (arith, signed_arith) in
    let day : date.day ≡ 1 = omega (arith, signed_arith) in
    rw (ymd.0, month, day) known_days.0

-- a first second has no nanoseconds
pub epoch_nanos : (clock : DateTime) → IsYmd (pos 1970) (pos 1) (pos 1) clock.date → IsHms (pos 0) (pos 0) (pos 0) (pos 0) clock.time → civil_nanos clock ≡ pos 0
epoch_nanos clock ymd hms =
    let day = epoch_is clock.date ymd in omega (arith, signed_arith, civil_nanos-parts clock, day)

-- the text of each moment has 20 bytes
pub text_length : (n : ℕ) → length (moment_text n) ≡ 20
unfolding moment_text
text_length n = refl
