-- How work grows, row by row, and remains valid over a log that others add to.
use Rattle.std.proofs.Common.{◌≡◌, ℕ, List, [], ◌∷◌, ◌++◌, Option, Some, None, IfSome, refl, sym, ap, subst, ◌∙◌, append_assoc, append-nil}
use Rattle.std.specs.Prelude.{option_map}
use Rattle.fedi_log.specs.Keeping.{Base}
use Rattle.fedi_log.specs.Log.{Goes, Log}
use Rattle.fedi_log.specs.declared.items.Item.{Item}
use Rattle.fedi_log.proofs.Growing.{goes_here, goes_on}
use Rattle.fedi_delivery.specs.Exchanges.{Told}
use Rattle.fedi_logged.proofs.Attempts.{exchanged_more, exchanged_none}
use Rattle.fedi_logged.specs.Attempts.{Exchange, HasExchanged}
use Rattle.fedi_outside.specs.Doors.{Row, Spoken, with_row}
use Rattle.fedi_logged.specs.Conversations.{Setting}
use Rattle.fedi_logged.specs.Endings.{Faults, IsCaused, Output, Serves, faults_of, scene_of}
use Rattle.fedi_logged.specs.Turning.{setting_at}
use Rattle.fedi_logged.specs.declared.sessions.SessionEnd.{SessionEnd}
use Rattle.fedi_turn.specs.Record.{Continues}
use Rattle.fedi_hall.specs.Works.{HasWorked, IsServed, IsWorkOf, Works, output_after}

-- ---- one more row

works_more : (w : Setting) (seen mid now : Log) (xs ys : List Exchange) (rows : List Row) (row : Row) → Works w seen mid xs rows → IsWorkOf w mid now ys row
    → Works w seen now (xs ++ ys) (rows ++ row ∷ [])
works_more w seen mid now xs ys [] row goes work =
    (mid, now, ys, [], ap (λ (l : List Exchange). l ++ ys) goes.0 ∙ sym (append-nil ys), goes.1, work, (refl, goes_here w.by now))
works_more w seen mid now xs ys (r ∷ rows) row works work = (
  works.0,
  works.1,
  works.2,
  works.3 ++ ys,
  ap (λ (l : List Exchange). l ++ ys) works.4 ∙ append_assoc works.2 works.3 ys,
  works.5,
  works.6,
  works_more w works.1 mid now works.3 ys rows row works.7 work,
)

none_added : (before : Option (List Row)) → before ≡ option_map (λ (rs : List Row). rs ++ []) before
none_added None = refl
none_added (Some rs) = ap Some (sym (append-nil rs))

one_added : (before : Option (List Row)) (rows : List Row) (row : Row)
    → with_row row (option_map (λ (rs : List Row). rs ++ rows) before) ≡ option_map (λ (rs : List Row). rs ++ (rows ++ row ∷ [])) before
one_added None rows row = refl
one_added (Some rs) rows row = ap Some (append_assoc rs rows (row ∷ []))

pub worked_first : (w : Setting) (seen : Log) (before : Option (List Row)) (link : Told) → HasWorked w seen seen before before link link
worked_first w seen before link =
    record { rows = []; exchanges = []; added = none_added before; exchanged = exchanged_none link; works = (refl, goes_here w.by seen) }

-- by the pass, which is the same as before
pub worked_next : (b : Base) (told by same : Option ℕ) (seen mid now : Log) (before after last : Option (List Row)) (asked heard then : Told) (xs : List Exchange) (row : Row)
    → same ≡ by → HasWorked (setting_at by told b) seen mid before after asked heard → HasExchanged heard then xs → IsWorkOf (setting_at same told b) mid now xs row
    → last ≡ with_row row after → HasWorked (setting_at by told b) seen now before last asked then
worked_next b told by same seen mid now before after last asked heard then xs row is held more work added =
    let there : IsWorkOf (setting_at by told b) mid now xs row = subst (λ (x : Option ℕ). IsWorkOf (setting_at x told b) mid now xs row) is work in
    record {
      rows = held.rows ++ row ∷ [];
      exchanges = held.exchanges ++ xs;
      added = added ∙ ap (with_row row) held.added ∙ one_added before held.rows row;
      exchanged = exchanged_more asked heard then held.exchanges xs held.exchanged more;
      works = works_more (setting_at by told b) seen mid now held.exchanges xs held.rows row held.works there;
    }

-- a line that was returned
pub served_row : (w : Setting) (seen now : Log) (row : Spoken) (reads writes : ℕ) (ending : SessionEnd) → reads ≡ 0 → writes ≡ 0
    → IfSome row.came.begun (λ (text : List ℕ). text ≡ []) → IsCaused (faults_of reads writes) (faults_of row.reads row.writes) ending
    → IfSome row.came.input (Serves w seen (record { sent = row.came.begun; faults = writes }) (scene_of row.left (output_after row)) now ending)
    → IsServed w seen now row
served_row w seen now row reads writes ending no_reads no_writes fresh caused serves = record {
  fresh = fresh;
  ending = ending;
  caused = subst (λ (f : Faults). IsCaused f (faults_of row.reads row.writes) ending) (λ i. faults_of (no_reads i) (no_writes i)) caused;
  serves = subst (λ (o : Output). IfSome row.came.input (Serves w seen o (scene_of row.left (output_after row)) now ending))
      (λ i. record { sent = row.came.begun; faults = no_writes i }) serves;
}

-- ---- others add to the log

works_stay : (w : Setting) (seen now later : Log) (xs : List Exchange) (rows : List Row) → Works w seen now xs rows → Goes w.by now later → Works w seen later xs rows
works_stay w seen now later xs [] goes more = (goes.0, goes_on w.by seen now later goes.1 more)
works_stay w seen now later xs (r ∷ rows) works more =
    (works.0, works.1, works.2, works.3, works.4, works.5, works.6, works_stay w works.1 now later works.3 rows works.7 more)

-- what a worker did remains valid over the log at the end, which extends what its pass has seen by
-- items of others
pub worked_at_last : (w : Setting) (n : ℕ) (seen now log : Log) (before after : Option (List Row)) (asked heard : Told) → w.by ≡ Some n
    → Continues (λ (i : Item). i.pass) n now log → HasWorked w seen now before after asked heard → HasWorked w seen log before after asked heard
worked_at_last w n seen now log before after asked heard is on held = record {
  rows = held.rows;
  exchanges = held.exchanges;
  added = held.added;
  exchanged = held.exchanged;
  works = works_stay w seen now log held.exchanges held.rows held.works
      (subst (λ (by : Option ℕ). Goes by now log) (sym is) (record { rest = on.0; is = on.1; others = on.2 }));
}
