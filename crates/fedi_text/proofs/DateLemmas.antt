-- The date of a second is a date of the calendar, and has that second.
use Rattle.std.proofs.Common.{◌≡◌, ℕ, zero, suc, ◌+◌, ◌-◌, ◌*◌, ◌/◌, ◌%◌, ◌<◌, ◌≤◌, true, false, cond, refl, ap, sym, subst, arith, inl, inr}
use Rattle.std.proofs.lemmas.Bool.{leb-true, leb-false, cases_lt}
use Rattle.std.specs.Prelude.{nat_le}
use Rattle.httpdate.specs.declared.date.HttpDate.{HttpDate}
use Rattle.httpdate.specs.Calendar.{IsCivilDate, IsTimeOfDay, days_in_year, days_of_years, days_of_months, days_from_civil, weekday}
use Rattle.httpdate.specs.Valid.{IsValid, parts_secs}
use Rattle.httpdate.specs.Date.{unix_secs, date_text}
use Rattle.httpdate.proofs.CalendarLemmas.{days_of_years_closed, days_of_months_all}
use Rattle.httpdate.proofs.ValidLemmas.{is_valid_complete}
use Rattle.httpdate.proofs.Theorems.{date_text_is}
use Rattle.fedi_text.specs.Dates.{greatest, years_before, months_before, date_of, parts_of, http_date_text}

-- what is found is not above x, where 0 is not
greatest_fits : (f : ℕ → ℕ) (x n : ℕ) → f 0 ≤ x → f (greatest f x n) ≤ x
unfolding greatest
greatest_fits f x zero h = h
greatest_fits f x (suc n) h =
    elim (nat_le (f (suc n)) x) as (λ b. nat_le (f (suc n)) x ≡ b → f (cond b (suc n) (greatest f x n)) ≤ x)
    [ true ↦ λ e. leb-true _ _ e | false ↦ λ _. greatest_fits f x n h ] refl

greatest_le : (f : ℕ → ℕ) (x n : ℕ) → greatest f x n ≤ n
unfolding greatest
greatest_le f x zero = omega arith
greatest_le f x (suc n) =
    elim (nat_le (f (suc n)) x) as (λ b. cond b (suc n) (greatest f x n) ≤ suc n)
    [ true ↦ omega arith | false ↦ let before = greatest_le f x n in omega (arith, before) ]

-- one more number was tried, and is above
tried : (f : ℕ → ℕ) (x n g : ℕ) → x < f (suc n) → g ≤ n → (g < n → x < f (suc g)) → x < f (suc g)
tried f x n g above low before =
    elim (cases_lt g n) [
      | inl lt ↦ before lt
      | inr ge ↦ (let same : n ≡ g = omega arith in subst (λ (m : ℕ). x < f (suc m)) same above)
    ]

-- and the next number is above, up to n
greatest_next : (f : ℕ → ℕ) (x n : ℕ) → greatest f x n < n → x < f (suc (greatest f x n))
unfolding greatest
greatest_next f x zero = λ h. absurd (omega (arith, h))
greatest_next f x (suc n) =
    elim (nat_le (f (suc n)) x) as (λ b. nat_le (f (suc n)) x ≡ b → cond b (suc n) (greatest f x n) < suc n → x < f (suc (cond b (suc n) (greatest f x n)))) [
      | true ↦ λ _ h. absurd (omega (arith, h))
      | false ↦ λ e _. tried f x n _ (leb-false _ _ e) (greatest_le f x n) (greatest_next f x n)
    ] refl

years_fit : (days : ℕ) → days_of_years (years_before days) ≤ days
unfolding years_before days_of_years
years_fit days = greatest_fits days_of_years days days (omega arith)

-- a year has more than one day
years_outrun : (days : ℕ) → days < days_of_years (suc days)
years_outrun days = omega (arith, days_of_years_closed (suc days))

years_next : (days : ℕ) → days < days_of_years (suc (years_before days))
unfolding years_before
years_next days = tried days_of_years days days _ (years_outrun days) (greatest_le days_of_years days days) (greatest_next days_of_years days days)

late_years : (n days : ℕ) → 8030 ≤ n → days_of_years n ≤ days → 2932897 ≤ days
late_years n days late fits = omega (arith, days_of_years_closed n)

years_bound : (days : ℕ) → days < 2932897 → years_before days ≤ 8029
years_bound days h =
    elim (cases_lt (years_before days) 8030) [
      | inl lt ↦ omega arith
      | inr ge ↦ absurd (omega (arith, late_years (years_before days) days ge (years_fit days)))
    ]

months_fit : (year day : ℕ) → days_of_months year (months_before year day) ≤ day
unfolding months_before days_of_months
months_fit year day = greatest_fits (days_of_months year) day 11 (omega arith)

months_bound : (year day : ℕ) → months_before year day ≤ 11
unfolding months_before
months_bound year day = greatest_le (days_of_months year) day 11

months_next : (year day : ℕ) → day < days_in_year year → day < days_of_months year (suc (months_before year day))
unfolding months_before
months_next year day h =
    tried (days_of_months year) day 11 _ (let all = days_of_months_all year in subst (λ (n : ℕ). day < n) (sym all) h)
    (greatest_le (days_of_months year) day 11) (greatest_next (days_of_months year) day 11)

-- years and months that fit make a date, and one of that day
civil_of : (days n m : ℕ) → n ≤ 8029 → m ≤ 11 → days_of_years n ≤ days → days_of_months (1970 + n) m ≤ days - days_of_years n → days - days_of_years n < days_of_months (1970 + n) (suc m) → IsCivilDate (1970 + n) (1 + m) (1 + (days - days_of_years n - days_of_months (1970 + n) m)) × (days_from_civil (1970 + n) (1 + m) (1 + (days - days_of_years n - days_of_months (1970 + n) m)) ≡ days)
unfolding days_of_months
civil_of days n m years months year_fits month_fits next =
    let month : 1 + m ≡ suc m = omega arith in
    let year : 1970 + n - 1970 ≡ n = omega arith in
    let before : suc m - 1 ≡ m = omega arith in
    rw (month, year, before) (
      ((omega arith, omega arith), (omega arith, omega arith), (omega arith, omega arith)),
      omega arith,
    )

day_fits : (days : ℕ) → days - days_of_years (years_before days) < days_in_year (1970 + years_before days)
unfolding days_of_years
day_fits days = omega (arith, years_fit days, years_next days)

pub date_civil : (days second : ℕ) → days < 2932897 → (let p = date_of days second in IsCivilDate p.year p.mon p.day × (days_from_civil p.year p.mon p.day ≡ days))
date_civil days second h =
    let n = years_before days in
    let day = days - days_of_years n in
    civil_of days n (months_before (1970 + n) day) (years_bound days h) (months_bound (1970 + n) day) (years_fit days)
    (months_fit (1970 + n) day) (months_next (1970 + n) day (day_fits days))

clock_of : (s : ℕ) → s < 86400 → IsTimeOfDay (s / 3600) (s % 3600 / 60) (s % 60) × (s / 3600 * 3600 + s % 3600 / 60 * 60 + s % 60 ≡ s)
clock_of s h = ((omega arith, omega arith, omega arith), omega arith)

date_valid : (days second : ℕ) → days < 2932897 → second < 86400 → IsValid (date_of days second)
date_valid days second h k =
    let civil = date_civil days second h in
    (civil.0, (clock_of second k).0, ap weekday (sym civil.1))

date_secs : (days second : ℕ) → days < 2932897 → second < 86400 → parts_secs (date_of days second) ≡ days * 86400 + second
date_secs days second h k = omega (arith, (date_civil days second h).1, (clock_of second k).1)

pub parts_valid : (n : ℕ) → n < 253402300800 → IsValid (parts_of n)
unfolding parts_of
parts_valid n h = date_valid (n / 86400) (n % 86400) (omega arith) (omega arith)

parts_of_secs : (n : ℕ) → n < 253402300800 → parts_secs (parts_of n) ≡ n
unfolding parts_of
parts_of_secs n h =
    let same = date_secs (n / 86400) (n % 86400) (omega arith) (omega arith) in
    omega (arith, same)

-- `httpdate` writes the text of that date
pub date_text_of : (d : HttpDate) (n : ℕ) → n < 253402300800 → unix_secs d ≡ n → date_text d ≡ http_date_text n
unfolding http_date_text
date_text_of d n h e =
    let valid = is_valid_complete (parts_of n) (parts_valid n h) in
    let same : unix_secs d ≡ parts_secs (parts_of n) = cc (e, parts_of_secs n h) in
    date_text_is d (parts_of n) valid same
