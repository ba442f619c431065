-- How logs grow.
use Rattle.std.proofs.Common.{◌≡◌, ◌≢◌, ℕ, Bool, true, false, cond, eq-eqb, ne_eqb, ◌==◌, List, [], ◌∷◌, ◌++◌, All, Option, Some, None, sym, refl, ap, ◌∙◌, append_assoc, append-nil}
use Rattle.std.specs.List.{filter, flat_map}
use Rattle.std.proofs.lemmas.Grind.{flat_map-append}
use Rattle.std.proofs.lemmas.List.Elements.{All-nil, All-head, All-tail, All-append, filter-append}
use Rattle.std.proofs.lemmas.List.Sums.{fold-append}
use Rattle.fedi_entry.specs.Codes.{code_of}
use Rattle.fedi_objects.specs.declared.entry.Entry.{Entry}
use Rattle.fedi_log.specs.declared.items.Item.{Item}
use Rattle.fedi_log.specs.declared.items.What.{What}
use Rattle.fedi_log.specs.Log.{Added, Failed, Full, Goes, IsOthers, Kept, Log, NoEntry, Outcome, doubts_after, doubts_of, entry_in, failed_in, given, history_of, is_same_pass, items_of, made_by, mark_in, marks_of}

-- ---- a given log

pub given_history : (history : List Entry) → history_of (given history) ≡ history
given_history [] = refl
given_history (e ∷ history) = ap (λ (es : List Entry). e ∷ es) (given_history history)

pub given_marks : (history : List Entry) → marks_of (given history) ≡ []
given_marks [] = refl
given_marks (e ∷ history) = given_marks history

-- ---- what was seen stays at the beginning

pub goes_here : (by : Option ℕ) (log : Log) → Goes by log log
goes_here by log = record { rest = []; is = sym (append-nil log); others = All-nil (IsOthers by) }

pub goes_on : (by : Option ℕ) (a b c : Log) → Goes by a b → Goes by b c → Goes by a c
goes_on by a b c f g = record {
  rest = f.rest ++ g.rest;
  is = g.is ∙ ap (λ (l : Log). l ++ g.rest) f.is ∙ append_assoc a f.rest g.rest;
  others = All-append (IsOthers by) f.rest g.rest f.others g.others;
}

pub goes_more : (by : Option ℕ) (a b more : Log) → Goes by a b → All (IsOthers by) more → Goes by a (b ++ more)
goes_more by a b more f others = goes_on by a b (b ++ more) f (record { rest = more; is = refl; others = others })

-- ---- which items are a pass's own

pub other_pass : (a b : Option ℕ) → b ≢ a → is_same_pass a b ≡ false
other_pass None None ne = absurd (ne refl)
other_pass None (Some n) ne = refl
other_pass (Some m) None ne = refl
other_pass (Some m) (Some n) ne = ne_eqb m n (λ is. ne (ap (λ (k : ℕ). Some k) (sym is)))

pub own_pass : (a : Option ℕ) → is_same_pass a a ≡ true
own_pass None = refl
own_pass (Some m) = eq-eqb m m refl

none_own : (by : Option ℕ) (xs : Log) → All (IsOthers by) xs → filter (λ (i : Item). is_same_pass by i.pass) xs ≡ []
none_own by [] a = refl
none_own by (x ∷ xs) a =
    ap (λ (b : Bool). cond b (x ∷ filter (λ (i : Item). is_same_pass by i.pass) xs) (filter (λ (i : Item). is_same_pass by i.pass) xs))
    (other_pass by x.pass (All-head (IsOthers by) x xs a))
    ∙ none_own by xs (All-tail (IsOthers by) x xs a)

pub added_others : (by : Option ℕ) (a b : Log) → Goes by a b → Added by a b []
added_others by a b g = record { rest = g.rest; is = g.is; own = none_own by g.rest g.others }

pub added_none : (by : Option ℕ) (a : Log) → Added by a a []
added_none by a = record { rest = []; is = sym (append-nil a); own = refl }

pub added_one : (by : Option ℕ) (a : Log) (what : What) → Added by a (a ++ made_by by what ∷ []) (made_by by what ∷ [])
added_one by a what = record {
  rest = made_by by what ∷ [];
  is = refl;
  own = ap (λ (b : Bool). cond b (made_by by what ∷ []) []) (own_pass by);
}

pub added_both : (by : Option ℕ) (a b c xs ys : Log) → Added by a b xs → Added by b c ys → Added by a c (xs ++ ys)
added_both by a b c xs ys f g = record {
  rest = f.rest ++ g.rest;
  is = g.is ∙ ap (λ (l : Log). l ++ g.rest) f.is ∙ append_assoc a f.rest g.rest;
  own = filter-append (λ (i : Item). is_same_pass by i.pass) f.rest g.rest ∙ (λ k. f.own k ++ g.own k);
}

-- ---- what a log of two parts says

pub history_append : (a b : Log) → history_of (a ++ b) ≡ history_of a ++ history_of b
history_append a b = flat_map-append (λ (i : Item). entry_in i.what) a b

pub marks_append : (a b : Log) → marks_of (a ++ b) ≡ marks_of a ++ marks_of b
marks_append a b = flat_map-append (λ (i : Item). mark_in i.what) a b

pub doubts_append : (before : List (List ℕ)) (a b : Log) → doubts_of before (a ++ b) ≡ doubts_of (doubts_of before a) b
doubts_append before a b = fold-append (λ (doubts : List (List ℕ)) (i : Item). doubts_after doubts i.what) before a b

marks_outcome : (by : Option ℕ) (o : Outcome) → marks_of (items_of by o) ≡ failed_in o
marks_outcome by NoEntry = refl
marks_outcome by (Kept e) = refl
marks_outcome by (Full e) = refl
marks_outcome by (Failed e) = refl

pub marks_more : (by : Option ℕ) (o : Outcome) (log : Log) → marks_of (log ++ items_of by o) ≡ marks_of log ++ failed_in o
marks_more by o log = marks_append log (items_of by o) ∙ ap (λ (es : List Entry). marks_of log ++ es) (marks_outcome by o)

pub doubts_kept : (by : Option ℕ) (e : Entry) (before : List (List ℕ)) (log : Log) → doubts_of before (log ++ items_of by (Kept e)) ≡ []
doubts_kept by e before log = doubts_append before log (items_of by (Kept e))

pub doubts_failed : (by : Option ℕ) (e : Entry) (before : List (List ℕ)) (log : Log) → doubts_of before (log ++ items_of by (Failed e)) ≡ doubts_of before log ++ code_of e ∷ []
doubts_failed by e before log = doubts_append before log (items_of by (Failed e))
