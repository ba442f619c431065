-- A machine holds a log, turn by turn.
use Rattle.std.proofs.Common.{◌≡◌, ◌⊎◌, ℕ, suc, ◌+◌, ◌-◌, ◌^◌, ◌≤◌, min, max, List, [], ◌∷◌, ◌++◌, length, map, drop, All, Option, Some, None, option_map, IfSome, inl, inr, refl, sym, ap, subst, ◌∙◌, append_assoc, append-nil, length-append, arith}
use Rattle.std.specs.Prelude.{Contains, option_to_list}
use Rattle.std.specs.List.{sum_by}
use Rattle.std.proofs.lemmas.List.{drop-append-le, map-append}
use Rattle.std.proofs.lemmas.List.Elements.{All-nil, All-cons, All-append, Contains-append_left, Contains-append_right}
use Rattle.std.proofs.lemmas.List.Sums.{sum_by-append}
use Rattle.fedi_entry.specs.Codes.{code_of}
use Rattle.fedi_objects.specs.declared.entry.Entry.{Entry}
use Rattle.fedi_outside.specs.Causes.{next_count}
use Rattle.fedi_outside.specs.Keepers.{KeeperState}
use Rattle.fedi_log.specs.declared.items.Item.{Item}
use Rattle.fedi_log.specs.declared.items.What.TheVariants.{Entered, Marked}
use Rattle.fedi_log.specs.Log.{Failed, Full, Kept, Log, NoEntry, Outcome, doubts_of, failed_in, given, history_of, items_of, kept_in, made_by, marks_of}
use Rattle.fedi_log.specs.Keeping.{Base, DoubtAfter, FaultsAfter, Follows, GoesAlone, Holds, HoldsSince, IsDoubted, Keeps, State, counted, end_of, growth_of, since, with_records}
use Rattle.fedi_log.proofs.Growing.{doubts_failed, doubts_kept, given_history, history_append, marks_more}

-- ---- no turn

same_records : (a : Option (List (List ℕ))) → a ≡ with_records a []
same_records None = refl
same_records (Some records) = ap Some (sym (append-nil records))

-- there was nothing to keep
pub unchanged : (growth : ℕ → ℕ) (before after : State) → after.history ≡ before.history → after.keeper.records ≡ before.keeper.records
    → after.keeper.end ≡ before.keeper.end → after.keeper.doubt ≡ before.keeper.doubt → after.keeper.faults ≡ before.keeper.faults → Follows growth before after NoEntry
unchanged growth before after history records end doubt faults = record {
  history = history ∙ sym (append-nil before.history);
  records = records ∙ same_records before.keeper.records;
  end = omega (arith, end);
  doubt = doubt;
  faults = faults;
}

-- ---- the keeper along a log

with_more : (records : Option (List (List ℕ))) (a b : List Entry) → with_records (with_records records a) b ≡ with_records records (a ++ b)
with_more None a b = refl
with_more (Some records) a b = ap Some (append_assoc records (map code_of a) (map code_of b) ∙ ap (λ xs. records ++ xs) (sym (map-append code_of a b)))

history_outcome : (by : Option ℕ) (o : Outcome) → history_of (items_of by o) ≡ kept_in o
history_outcome by NoEntry = refl
history_outcome by (Kept e) = refl
history_outcome by (Full e) = refl
history_outcome by (Failed e) = refl

pub history_more : (by : Option ℕ) (o : Outcome) (log : Log) → history_of (log ++ items_of by o) ≡ history_of log ++ kept_in o
history_more by o log = history_append log (items_of by o) ∙ ap (λ (es : List Entry). history_of log ++ es) (history_outcome by o)

doubt_more : (doubts : List (List ℕ)) (x : List ℕ) (doubt : Option (List ℕ)) → IsDoubted doubts doubt → IsDoubted (doubts ++ x ∷ []) doubt
doubt_more doubts x None h = tt
doubt_more doubts x (Some d) h = Contains-append_left doubts (x ∷ []) d h

pub contains_itself : (x : List ℕ) → Contains (x ∷ []) x
contains_itself x = (0, omega arith, refl)

doubt_after : (by : Option ℕ) (first : List (List ℕ)) (log : Log) (before after : Option (List ℕ)) (o : Outcome) → IsDoubted (doubts_of first log) before
    → DoubtAfter before after o → IsDoubted (doubts_of first (log ++ items_of by o)) after
doubt_after by first log before after NoEntry h now = rw (append-nil log) (subst (IsDoubted (doubts_of first log)) (sym now) h)
doubt_after by first log before after (Full e) h now = rw (append-nil log) (subst (IsDoubted (doubts_of first log)) (sym now) h)
doubt_after by first log before after (Kept e) h now = subst (IsDoubted (doubts_of first (log ++ items_of by (Kept e)))) (sym now) tt
doubt_after by first log before after (Failed e) h (inl now) =
    subst (λ (ds : List (List ℕ)). IsDoubted ds after) (sym (doubts_failed by e first log))
    (subst (IsDoubted (doubts_of first log ++ code_of e ∷ [])) (sym now) (doubt_more (doubts_of first log) (code_of e) before h))
doubt_after by first log before after (Failed e) h (inr (inl now)) =
    subst (IsDoubted (doubts_of first (log ++ items_of by (Failed e)))) (sym now) tt
doubt_after by first log before after (Failed e) h (inr (inr now)) =
    subst (λ (ds : List (List ℕ)). IsDoubted ds after) (sym (doubts_failed by e first log))
    (subst (IsDoubted (doubts_of first log ++ code_of e ∷ [])) (sym now) (Contains-append_right (doubts_of first log) (code_of e ∷ []) (code_of e) (contains_itself (code_of e))))

-- one fault more
counted_more : (f k most : ℕ) → max (max f (min (f + k) most)) (min (max f (min (f + k) most) + 1) most) ≡ max f (min (f + (k + 1)) most)
counted_more f k most = omega arith

faults_after : (f k before after : ℕ) (o : Outcome) → before ≡ counted f k → FaultsAfter before after o → after ≡ counted f (k + length (failed_in o))
faults_after f k before after NoEntry low h = h ∙ low ∙ ap (counted f) (omega arith)
faults_after f k before after (Kept e) low h = h ∙ low ∙ ap (counted f) (omega arith)
faults_after f k before after (Full e) low h = h ∙ low ∙ ap (counted f) (omega arith)
faults_after f k before after (Failed e) low h = h ∙ ap next_count low ∙ counted_more f k (2 ^ 64 - 1)

pub keeps_more : (b : Base) (by : Option ℕ) (before after : State) (log : Log) (o : Outcome) → Keeps b before.keeper log → Follows b.growth before after o
    → Keeps b after.keeper (log ++ items_of by o)
keeps_more b by before after log o k f =
    let opened : b.kept ≤ length log = k.opened in
    let past : since b (log ++ items_of by o) ≡ since b log ++ items_of by o = drop-append-le b.kept log (items_of by o) opened in
    let history : history_of (since b (log ++ items_of by o)) ≡ history_of (since b log) ++ kept_in o =
    ap (λ (l : Log). history_of l) past ∙ history_more by o (since b log) in
    let marks : length (marks_of (since b (log ++ items_of by o))) ≡ length (marks_of (since b log)) + length (failed_in o) =
    ap (λ (l : Log). length (marks_of l)) past ∙ ap length (marks_more by o (since b log)) ∙ length-append (marks_of (since b log)) (failed_in o) in
    let grown : growth_of b.growth (history_of (since b log) ++ kept_in o) ≡ growth_of b.growth (history_of (since b log)) + growth_of b.growth (kept_in o) =
    sum_by-append (λ (e : Entry). b.growth (length (code_of e))) (history_of (since b log)) (kept_in o) in
    let marked = faults_after b.shown.faults (length (marks_of (since b log))) before.keeper.faults after.keeper.faults o k.faults f.faults in
    record {
      opened = let longer : length (log ++ items_of by o) ≡ length log + length (items_of by o) = length-append log (items_of by o) in omega (arith, opened, longer);
      records = f.records ∙ ap (λ (rs : Option (List (List ℕ))). with_records rs (kept_in o)) k.records
          ∙ with_more b.shown.records (history_of (since b log)) (kept_in o) ∙ ap (λ (es : List Entry). with_records b.shown.records es) (sym history);
      end = f.end ∙ ap (λ (n : ℕ). n + growth_of b.growth (kept_in o)) k.end
          ∙ (let sum : (b.shown.end + growth_of b.growth (history_of (since b log))) + growth_of b.growth (kept_in o) ≡ b.shown.end + growth_of b.growth (history_of (since b log) ++ kept_in o) = omega (arith, grown) in sum)
          ∙ ap (λ (es : List Entry). b.shown.end + growth_of b.growth es) (sym history);
      doubt = subst (λ (l : Log). IsDoubted (doubts_of (option_to_list b.shown.doubt) l) after.keeper.doubt) (sym past)
          (doubt_after by (option_to_list b.shown.doubt) (since b log) before.keeper.doubt after.keeper.doubt o k.doubt f.doubt);
      faults = marked ∙ ap (counted b.shown.faults) (sym marks);
    }

pub holds_more : (b : Base) (by : Option ℕ) (before after : State) (log : Log) (o : Outcome) → Holds b before log → Follows b.growth before after o
    → Holds b after (log ++ items_of by o)
holds_more b by before after log o h f = record {
  history = f.history ∙ ap (λ (es : List Entry). es ++ kept_in o) h.history ∙ sym (history_more by o log);
  keeper = keeps_more b by before after log o h.keeper f;
}

-- ---- one's own items alone

alone_here : (by : Option ℕ) (log : Log) → GoesAlone by log log
alone_here by log = record { past = []; is = sym (append-nil log); own = All-nil (λ (i : Item). i.pass ≡ by) }

pub alone_outcome : (by : Option ℕ) (o : Outcome) → All (λ (i : Item). i.pass ≡ by) (items_of by o)
alone_outcome by NoEntry = All-nil (λ (i : Item). i.pass ≡ by)
alone_outcome by (Kept e) = All-cons (λ (i : Item). i.pass ≡ by) (made_by by (Entered e)) [] refl (All-nil (λ (i : Item). i.pass ≡ by))
alone_outcome by (Full e) = All-nil (λ (i : Item). i.pass ≡ by)
alone_outcome by (Failed e) = All-cons (λ (i : Item). i.pass ≡ by) (made_by by (Marked e)) [] refl (All-nil (λ (i : Item). i.pass ≡ by))

alone_on : (by : Option ℕ) (a b c : Log) → GoesAlone by a b → GoesAlone by b c → GoesAlone by a c
alone_on by a b c f g = record {
  past = f.past ++ g.past;
  is = g.is ∙ ap (λ (l : Log). l ++ g.past) f.is ∙ append_assoc a f.past g.past;
  own = All-append (λ (i : Item). i.pass ≡ by) f.past g.past f.own g.own;
}

pub since_here : (b : Base) (by : Option ℕ) (state : State) (log : Log) → Holds b state log → HoldsSince b by log state log
since_here b by state log h = record { grown = alone_here by log; holds = h }

pub since_more : (b : Base) (by : Option ℕ) (before after : State) (log : Log) (o : Outcome) → Holds b before log → Follows b.growth before after o
    → HoldsSince b by log after (log ++ items_of by o)
since_more b by before after log o h f = record {
  grown = record { past = items_of by o; is = refl; own = alone_outcome by o };
  holds = holds_more b by before after log o h f;
}

pub since_still : (b : Base) (by : Option ℕ) (before after : State) (log : Log) → Holds b before log → Follows b.growth before after NoEntry → HoldsSince b by log after log
since_still b by before after log h f = subst (λ (l : Log). HoldsSince b by log after l) (append-nil log) (since_more b by before after log NoEntry h f)

pub since_on : (b : Base) (by : Option ℕ) (x y z : Log) (before after : State) → HoldsSince b by x before y → HoldsSince b by y after z → HoldsSince b by x after z
since_on b by x y z before after f g = record { grown = alone_on by x y z f.grown g.grown; holds = g.holds }

-- ---- a machine that was opened

pub given_length : (history : List Entry) → length (given history) ≡ length history
given_length [] = refl
given_length (e ∷ history) = ap (λ (n : ℕ). suc n) (given_length history)

given_since : (history : List Entry) → drop (length history) (given history) ≡ []
given_since [] = refl
given_since (e ∷ history) = given_since history

first_doubt : (doubt : Option (List ℕ)) → IsDoubted (option_to_list doubt) doubt
first_doubt None = tt
first_doubt (Some d) = contains_itself d

none_counted : (n : ℕ) → n ≡ counted n 0
none_counted n = omega arith

keeps_given : (b : Base) (history : List Entry) → b.kept ≡ length history → Keeps b b.shown (given history)
keeps_given b history is =
    let past : since b (given history) ≡ [] = ap (λ (n : ℕ). drop n (given history)) is ∙ given_since history in
    let long = given_length history in
    record {
      opened = omega (arith, is, long);
      records = rw past (same_records b.shown.records);
      end = let none : growth_of b.growth (history_of (since b (given history))) ≡ 0 = rw past refl in omega (arith, none);
      doubt = subst (λ (l : Log). IsDoubted (doubts_of (option_to_list b.shown.doubt) l) b.shown.doubt) (sym past) (first_doubt b.shown.doubt);
      faults = let none : length (marks_of (since b (given history))) ≡ 0 = rw past refl in none_counted b.shown.faults ∙ ap (counted b.shown.faults) (sym none);
    }

pub holds_given : (b : Base) (by : Option ℕ) (opened : State) → b.kept ≡ length opened.history → b.shown ≡ opened.keeper
    → HoldsSince b by (given opened.history) opened (given opened.history)
holds_given b by opened kept shown =
    since_here b by opened (given opened.history) (record {
      history = sym (given_history opened.history);
      keeper = subst (λ (k : KeeperState). Keeps b k (given opened.history)) shown (keeps_given b opened.history kept);
    })
