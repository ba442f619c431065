-- Conversations grow exchange by exchange, over a log that others may add to.
use Rattle.std.proofs.Common.{◌≡◌, ℕ, ◌+◌, ◌≤◌, List, [], ◌∷◌, ◌++◌, length, All, Option, sym, refl, ap, subst, ◌∙◌, append_assoc, append-nil, length-append, arith}
use Rattle.std.proofs.lemmas.List.{append_cancel_left}
use Rattle.std.proofs.lemmas.List.Elements.{All-head, All-tail}
use Rattle.std.proofs.lemmas.List.Sums.{fold-append}
use Rattle.fedi_log.specs.declared.items.Item.{Item}
use Rattle.fedi_log.specs.declared.items.What.TheVariants.{Entered, Marked}
use Rattle.fedi_log.specs.Log.{Added, Failed, Full, IsOthers, Kept, Log, NoEntry, Outcome, failed_in, items_of, marks_of}
use Rattle.fedi_log.proofs.Growing.{added_both, added_none, added_one, added_others, goes_more, marks_append, marks_more}
use Rattle.fedi_logged.specs.Conversations.{AreAtFronts, Conversation, Converses, Exchange, IsExchange, NoGaps, Progress, Setting, StandApart, after, beginning, failures, own_items, progress}

-- ---- one more exchange

pub converses-more : (w : Setting) (p : Progress) (xs : List Exchange) (x : Exchange) → Converses w p xs → IsExchange w (progress w p xs) x → Converses w p (xs ++ x ∷ [])
converses-more w p [] x held next = (next, tt)
converses-more w p (y ∷ xs) x held next = (held.0, converses-more w (after w p y) xs x held.1 next)

pub progress-more : (w : Setting) (p : Progress) (xs : List Exchange) (x : Exchange) → progress w p (xs ++ x ∷ []) ≡ after w (progress w p xs) x
progress-more w p xs x = fold-append (after w) p xs (x ∷ [])

-- ---- others may add to the log

pub conversation_stays : (w : Setting) (seen log more : Log) (input written : List ℕ) (xs : List Exchange)
    → Conversation w seen log input written xs → All (IsOthers w.by) more → Conversation w seen (log ++ more) input written xs
conversation_stays w seen log more input written xs c others = record {
  each = c.each;
  later = goes_more w.by (progress w (beginning input seen) xs).log log more c.later others;
  written_is = c.written_is;
}

-- ---- its own items are those of its exchanges

added_outcome : (by : Option ℕ) (log : Log) (o : Outcome) → Added by log (log ++ items_of by o) (items_of by o)
added_outcome by log NoEntry = subst (λ (l : Log). Added by log l []) (sym (append-nil log)) (added_none by log)
added_outcome by log (Kept e) = added_one by log (Entered e)
added_outcome by log (Full e) = subst (λ (l : Log). Added by log l []) (sym (append-nil log)) (added_none by log)
added_outcome by log (Failed e) = added_one by log (Marked e)

added_exchange : (w : Setting) (p : Progress) (x : Exchange) → IsExchange w p x → Added w.by p.log (after w p x).log (items_of w.by x.outcome)
added_exchange w p x held =
    added_both w.by p.log x.log (after w p x).log [] (items_of w.by x.outcome) (added_others w.by p.log x.log held.later) (added_outcome w.by x.log x.outcome)

added_converse : (w : Setting) (p : Progress) (xs : List Exchange) → Converses w p xs → Added w.by p.log (progress w p xs).log (own_items w.by xs)
added_converse w p [] held = added_none w.by p.log
added_converse w p (x ∷ xs) held =
    added_both w.by p.log (after w p x).log (progress w (after w p x) xs).log (items_of w.by x.outcome) (own_items w.by xs)
    (added_exchange w p x held.0) (added_converse w (after w p x) xs held.1)

pub own_of_conversation : (w : Setting) (seen log : Log) (input written : List ℕ) (xs : List Exchange)
    → Conversation w seen log input written xs → Added w.by seen log (own_items w.by xs)
own_of_conversation w seen log input written xs c =
    subst (λ (l : Log). Added w.by seen log l) (append-nil (own_items w.by xs))
    (added_both w.by seen (progress w (beginning input seen) xs).log log (own_items w.by xs) []
    (added_converse w (beginning input seen) xs c.each) (added_others w.by (progress w (beginning input seen) xs).log log c.later))

-- ---- each log is a beginning, and no two exchanges share an item

pub at_fronts : (w : Setting) (p : Progress) (xs : List Exchange) (log rest : Log) → Converses w p xs → log ≡ (progress w p xs).log ++ rest → AreAtFronts w.by log xs
at_fronts w p [] log rest held is = tt
at_fronts w p (x ∷ xs) log rest held is =
    let more = added_converse w (after w p x) xs held.1 in
    ((more.rest ++ rest, is ∙ ap (λ (l : Log). l ++ rest) more.is ∙ append_assoc (after w p x).log more.rest rest), at_fronts w (after w p x) xs log rest held.1 is)

pub stand_apart : (w : Setting) (p : Progress) (xs : List Exchange) → Converses w p xs → StandApart w.by (length p.log) xs
stand_apart w p [] held = tt
stand_apart w p (x ∷ xs) held =
    let g = held.0.later in
    let longer : length x.log ≡ length p.log + length g.rest = ap length g.is ∙ length-append p.log g.rest in
    (omega arith, subst (λ (n : ℕ). StandApart w.by n xs) (length-append x.log (items_of w.by x.outcome)) (stand_apart w (after w p x) xs held.1))

-- ---- a failure has its mark

marks_exchange : (w : Setting) (p : Progress) (x : Exchange) → IsExchange w p x → length (marks_of p.log) + length (failed_in x.outcome) ≤ length (marks_of (after w p x).log)
marks_exchange w p x held =
    let g = held.later in
    let seen : length (marks_of x.log) ≡ length (marks_of p.log) + length (marks_of g.rest) =
    ap (λ (l : Log). length (marks_of l)) g.is ∙ ap length (marks_append p.log g.rest) ∙ length-append (marks_of p.log) (marks_of g.rest) in
    let made : length (marks_of (after w p x).log) ≡ length (marks_of x.log) + length (failed_in x.outcome) =
    ap length (marks_more w.by x.outcome x.log) ∙ length-append (marks_of x.log) (failed_in x.outcome) in
    omega (arith, seen, made)

pub failures_marked : (w : Setting) (p : Progress) (xs : List Exchange) → Converses w p xs
    → length (marks_of p.log) + length (failures xs) ≤ length (marks_of (progress w p xs).log)
failures_marked w p [] held = omega arith
failures_marked w p (x ∷ xs) held =
    let one = marks_exchange w p x held.0 in
    let more = failures_marked w (after w p x) xs held.1 in
    let both : length (failures (x ∷ xs)) ≡ length (failed_in x.outcome) + length (failures xs) = length-append (failed_in x.outcome) (failures xs) in
    omega (arith, one, more, both)

-- ---- there are no gaps if nobody else adds

no_others : (by : Option ℕ) (rest more : Log) → All (IsOthers by) rest → All (λ (i : Item). i.pass ≡ by) (rest ++ more) → rest ≡ []
no_others by [] more others own = refl
no_others by (x ∷ rest) more others own =
    absurd (All-head (IsOthers by) x rest others (All-head (λ (i : Item). i.pass ≡ by) x (rest ++ more) own))

pub own_after : (by : Option ℕ) (a b : Log) → All (λ (i : Item). i.pass ≡ by) (a ++ b) → All (λ (i : Item). i.pass ≡ by) b
own_after by [] b own = own
own_after by (x ∷ a) b own = own_after by a b (All-tail (λ (i : Item). i.pass ≡ by) x (a ++ b) own)

pub no_gaps : (w : Setting) (p : Progress) (xs : List Exchange) (past rest : Log) → Converses w p xs
    → p.log ++ past ≡ (progress w p xs).log ++ rest → All (λ (i : Item). i.pass ≡ w.by) past → NoGaps w p xs
no_gaps w p [] past rest held is own = tt
no_gaps w p (x ∷ xs) past rest held is own =
    let g = held.0.later in
    let more = added_converse w (after w p x) xs held.1 in
    let tail : Log = items_of w.by x.outcome ++ (more.rest ++ rest) in
    let whole : (progress w p (x ∷ xs)).log ++ rest ≡ p.log ++ (g.rest ++ tail) =
    ap (λ (l : Log). l ++ rest) more.is ∙ append_assoc (after w p x).log more.rest rest ∙ append_assoc x.log (items_of w.by x.outcome) (more.rest ++ rest)
    ∙ ap (λ (l : Log). l ++ tail) g.is ∙ append_assoc p.log g.rest tail in
    let same : past ≡ g.rest ++ tail = append_cancel_left p.log past (g.rest ++ tail) (is ∙ whole) in
    let parts : All (λ (i : Item). i.pass ≡ w.by) (g.rest ++ tail) = subst (λ (l : Log). All (λ (i : Item). i.pass ≡ w.by) l) same own in
    let none : g.rest ≡ [] = no_others w.by g.rest tail g.others parts in
    let here : x.log ≡ p.log = g.is ∙ ap (λ (l : Log). p.log ++ l) none ∙ append-nil p.log in
    let mine : All (λ (i : Item). i.pass ≡ w.by) tail = own_after w.by g.rest tail parts in
    let left : All (λ (i : Item). i.pass ≡ w.by) (more.rest ++ rest) = own_after w.by (items_of w.by x.outcome) (more.rest ++ rest) mine in
    let join : (after w p x).log ++ (more.rest ++ rest) ≡ (progress w (after w p x) xs).log ++ rest =
    sym (ap (λ (l : Log). l ++ rest) more.is ∙ append_assoc (after w p x).log more.rest rest) in
    (here, no_gaps w (after w p x) xs (more.rest ++ rest) rest held.1 join left)
