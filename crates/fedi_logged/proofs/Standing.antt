-- A machine still holds its log after each turn.
use Rattle.std.proofs.Common.{◌≡◌, ℕ, Bool, true, List, [], ◌++◌, length, Option, None, is_some, refl, sym, ap, subst, ◌∙◌, append_assoc, append-nil, inl, arith}
use Rattle.fedi_core.proofs.Crashing.{if_told}
use Rattle.fedi_log.specs.Keeping.{Base, State, base_of}
use Rattle.fedi_log.specs.Leaving.{CrashesAlong}
use Rattle.fedi_log.specs.Log.{Log, Outcome, given, history_of, items_of}
use Rattle.fedi_log.proofs.Growing.{given_history, history_append}
use Rattle.fedi_log.proofs.Keeping.{holds_given, holds_more, given_length}
use Rattle.fedi_objects.specs.declared.entry.Entry.{Entry}
use Rattle.fedi_outside.specs.Keepers.{Crashes, IfTold, LeavesRecords, MayLeave}
use Rattle.fedi_town.specs.Histories.{town}
use Rattle.fedi_town.specs.Legal.{IsLegal}
use Rattle.fedi_logged.specs.Logs.{AreSame, StandsFor, log_of}
use Rattle.fedi_logged.specs.Turns.{MayFail, Standing, Turns}
use Rattle.fedi_logged.specs.declared.noted.Noted.{Noted}
use Rattle.fedi_logged.proofs.Crashing.{crashes_more, turn_marks}
use Rattle.fedi_logged.proofs.Hosts.{host_stays}
use Rattle.fedi_logged.proofs.Marks.{given_marks, marks_append}

-- ---- one more turn

pub stands_more : (growth room : ℕ → ℕ) (opened : State) (first : Crashes) (by : Option ℕ) (before after : Standing) (log now : Log) (o : Outcome)
    → StandsFor growth room opened first before.state before.crashes log → IsLegal after.state.history → Turns growth before after o → now ≡ log ++ items_of by o
    → StandsFor growth room opened first after.state after.crashes now
stands_more growth room opened first by before after log now o s legal turn is =
    subst (λ (l : Log). StandsFor growth room opened first after.state after.crashes l) (sym is) (record {
      past = s.past ++ items_of by o;
      begins = ap (λ (l : Log). l ++ items_of by o) s.begins ∙ append_assoc (given opened.history) s.past (items_of by o);
      holds = holds_more (base_of growth room opened) by before.state after.state log o s.holds turn.follows;
      legal = legal;
      crashed = crashes_more (base_of growth room opened) by before.state.keeper log o first before.crashes after.crashes s.holds.keeper s.crashed turn.passes;
      marked = marks_append [] log (items_of by o) s.marked
          (turn_marks by (history_of log) o (subst (λ (h : List Entry). MayFail h o) s.holds.history turn.may_fail));
    })

-- the host is that of the opening
pub stands_host : (growth room : ℕ → ℕ) (opened : State) (first : Crashes) (now : State) (c : Crashes) (log : Log) → StandsFor growth room opened first now c log
    → is_some (town opened.history).host ≡ true → (town now.history).host ≡ (town opened.history).host
stands_host growth room opened first now c log s there =
    let is : now.history ≡ opened.history ++ history_of s.past =
    s.holds.history ∙ ap history_of s.begins ∙ history_append (given opened.history) s.past ∙ ap (λ (h : List Entry). h ++ history_of s.past) (given_history opened.history) in
    ap (λ (h : List Entry). (town h).host) is ∙ host_stays opened.history (history_of s.past) (subst IsLegal is s.legal) there

-- ---- at the opening

same_crashes : (b : Base) (log : Log) (c d : Crashes) → AreSame c d → LeavesRecords b.shown d → CrashesAlong b log c d
same_crashes b log c d same now = record {
  clock = let is = same.clock in omega (arith, is);
  told = sym same.told;
  crash = if_told c.told b.shown.records _ _ (λ kept is leaves. record {
    nothing_else = λ moment left early since. inl (same.back moment left since);
    keeps = λ moment left early past. same.there moment left past;
  }) (subst (λ (t : Bool). IfTold t b.shown.records (λ kept. (left : List (List ℕ)) → d.left_since d.clock left → MayLeave kept b.shown.doubt left)) (sym same.told) now);
}

pub stands_first : (growth room : ℕ → ℕ) (opened now : State) (first c : Crashes) → opened ≡ now → AreSame first c → IsLegal now.history → LeavesRecords now.keeper c
    → StandsFor growth room opened first now c (given opened.history)
stands_first growth room opened now first c is same legal leaves =
    subst (λ (s : State). StandsFor growth room opened first s c (given opened.history)) is (record {
      past = [];
      begins = sym (append-nil (given opened.history));
      holds = (holds_given (base_of growth room opened) None opened refl refl).holds;
      legal = subst (λ (s : State). IsLegal s.history) (sym is) legal;
      crashed = same_crashes (base_of growth room opened) (given opened.history) first c same (subst (λ (s : State). LeavesRecords s.keeper c) (sym is) leaves);
      marked = given_marks [] opened.history;
    })

-- nothing has been noted yet
pub stands_opened : (growth room : ℕ → ℕ) (opened now : State) (first c : Crashes) (noted : List Noted) (front : ℕ) → noted ≡ [] → opened ≡ now → AreSame first c
    → IsLegal now.history → LeavesRecords now.keeper c → front ≡ length now.history
    → (front ≡ length (log_of opened.history noted)) × StandsFor growth room opened first now c (log_of opened.history noted)
stands_opened growth room opened now first c noted front none is same legal leaves counts =
    let log : log_of opened.history noted ≡ given opened.history = ap (λ (ns : List Noted). log_of opened.history ns) none ∙ append-nil (given opened.history) in (
      counts ∙ ap (λ (s : State). length s.history) (sym is) ∙ sym (given_length opened.history) ∙ ap length (sym log),
      subst (λ (l : Log). StandsFor growth room opened first now c l) (sym log) (stands_first growth room opened now first c is same legal leaves),
    )
