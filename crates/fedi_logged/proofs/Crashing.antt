-- What a crash may leave, turn by turn.
use Rattle.std.proofs.Common.{◌≡◌, ◌⊎◌, ℕ, ◌≤◌, Bool, true, false, List, [], ◌∷◌, ◌++◌, length, map, Option, Some, None, inl, inr, refl, sym, ap, subst, ◌∙◌, append_assoc, append-nil, arith}
use Rattle.std.specs.Prelude.{Contains, option_to_list}
use Rattle.std.proofs.lemmas.List.{drop-append-le, map-append}
use Rattle.std.proofs.lemmas.List.Elements.{Contains-append_right}
use Rattle.fedi_entry.specs.Codes.{code_of}
use Rattle.fedi_objects.specs.declared.entry.Entry.{Entry}
use Rattle.fedi_core.specs.Crashing.{MayLeaveWith}
use Rattle.fedi_core.proofs.Crashing.{adds_both, if_told}
use Rattle.fedi_log.specs.Keeping.{Base, Holds, IsDoubted, Keeps, State, since, with_records}
use Rattle.fedi_log.specs.Log.{Failed, Full, Kept, Log, NoEntry, Outcome, doubts_of, given, history_of, items_of}
use Rattle.fedi_log.proofs.Growing.{doubts_failed, history_append}
use Rattle.fedi_log.proofs.Keeping.{history_more, holds_given, since_more, since_on, contains_itself}
use Rattle.fedi_outside.specs.Keepers.{Adds, Crashes, IfTold, KeeperState, LeavesRecords, MayLeave}
use Rattle.fedi_log.specs.Leaving.{CrashesAfter, CrashesAlong, IsLeft, IsLeftAfter, LeavesAfter}
use Rattle.fedi_logged.specs.Marks.{MarksMayCome, Survives, SurvivesMarked}
use Rattle.fedi_logged.proofs.Marks.{given_marks, marks_append}
use Rattle.fedi_logged.specs.Turns.{MayFail, Standing, SurvivesTurn, TurnPasses, Turns}

-- ---- what one turn may leave

-- what a crash during a turn leaves of these records
abbrev MayLeaveIn : Outcome → List (List ℕ) → Option (List ℕ) → List (List ℕ) → Type 0
MayLeaveIn NoEntry records doubt left = MayLeave records doubt left
MayLeaveIn (Kept e) records doubt left = MayLeaveWith records doubt (code_of e) left
MayLeaveIn (Full e) records doubt left = MayLeave records doubt left
MayLeaveIn (Failed e) records doubt left = MayLeaveWith records doubt (code_of e) left

turn_clock : (o : Outcome) (k : KeeperState) (y z : Crashes) → TurnPasses o k y z → y.clock ≤ z.clock
turn_clock NoEntry k y z h = h.clock
turn_clock (Kept e) k y z h = h.clock
turn_clock (Full e) k y z h = h.clock
turn_clock (Failed e) k y z h = h.clock

turn_told : (o : Outcome) (k : KeeperState) (y z : Crashes) → TurnPasses o k y z → z.told ≡ y.told
turn_told NoEntry k y z h = h.told
turn_told (Kept e) k y z h = h.told
turn_told (Full e) k y z h = h.told
turn_told (Failed e) k y z h = h.told

turn_crash : (o : Outcome) (k : KeeperState) (y z : Crashes) → TurnPasses o k y z
    → IfTold y.told k.records (λ records. Adds y.clock y.left_since z.left_since (MayLeaveIn o records k.doubt))
turn_crash NoEntry k y z h = h.crash
turn_crash (Kept e) k y z h = h.crash
turn_crash (Full e) k y z h = h.crash
turn_crash (Failed e) k y z h = h.crash

-- ---- it is what a crash leaves of the log with the turn's items

-- the records of the entries that were kept, after those of the opening
abbrev with_codes : List (List ℕ) → Log → List (List ℕ)
with_codes kept past = kept ++ map code_of (history_of past)

codes_more : (kept : List (List ℕ)) (by : Option ℕ) (e : Entry) (past : Log) → with_codes kept past ++ code_of e ∷ [] ≡ with_codes kept (past ++ items_of by (Kept e))
codes_more kept by e past =
    append_assoc kept (map code_of (history_of past)) (code_of e ∷ [])
    ∙ ap (λ (xs : List (List ℕ)). kept ++ xs) (sym (map-append code_of (history_of past) (e ∷ [])))
    ∙ ap (λ (es : List Entry). kept ++ map code_of es) (sym (history_more by (Kept e) past))

codes_same : (kept : List (List ℕ)) (by : Option ℕ) (e : Entry) (past : Log) → with_codes kept past ≡ with_codes kept (past ++ items_of by (Failed e))
codes_same kept by e past =
    ap (λ (es : List Entry). kept ++ map code_of es) (sym (history_more by (Failed e) past ∙ append-nil (history_of past)))

leaves_now : (b : Base) (kept : List (List ℕ)) (past : Log) (doubt : Option (List ℕ)) (left : List (List ℕ))
    → IsDoubted (doubts_of (option_to_list b.shown.doubt) past) doubt → MayLeave (with_codes kept past) doubt left → LeavesAfter b kept past left
leaves_now b kept past None left doubted is = inl is
leaves_now b kept past (Some d) left doubted (inl is) = inl is
leaves_now b kept past (Some d) left doubted (inr is) = inr (d, doubted, is)

-- the items since the opening, followed by those of one more turn
since_items : (b : Base) (log items : Log) → b.kept ≤ length log → since b (log ++ items) ≡ since b log ++ items
since_items b log items opened = drop-append-le b.kept log items opened

-- the same as before the turn
left_before : (b : Base) (log items : Log) (kept left : List (List ℕ)) → b.kept ≤ length log → LeavesAfter b kept (since b log) left → IsLeft b (log ++ items) kept left
left_before b log items kept left opened h = record { past = since b log; rest = items; is = since_items b log items opened; leaves = h }

-- the same as after it
left_after : (b : Base) (log items : Log) (kept left : List (List ℕ)) → b.kept ≤ length log → LeavesAfter b kept (since b log ++ items) left → IsLeft b (log ++ items) kept left
left_after b log items kept left opened h = record {
  past = since b log ++ items;
  rest = [];
  is = since_items b log items opened ∙ sym (append-nil (since b log ++ items));
  leaves = h;
}

leaves_kept : (b : Base) (by : Option ℕ) (e : Entry) (log : Log) (kept left : List (List ℕ))
    → left ≡ with_codes kept (since b log) ++ code_of e ∷ [] → LeavesAfter b kept (since b log ++ items_of by (Kept e)) left
leaves_kept b by e log kept left is = inl (is ∙ codes_more kept by e (since b log))

leaves_failed : (b : Base) (by : Option ℕ) (e : Entry) (log : Log) (kept left : List (List ℕ))
    → left ≡ with_codes kept (since b log) ++ code_of e ∷ [] → LeavesAfter b kept (since b log ++ items_of by (Failed e)) left
leaves_failed b by e log kept left is =
    let doubts = doubts_of (option_to_list b.shown.doubt) (since b log) in
    inr (
      code_of e,
      subst (λ (ds : List (List ℕ)). Contains ds (code_of e)) (sym (doubts_failed by e (option_to_list b.shown.doubt) (since b log)))
          (Contains-append_right doubts (code_of e ∷ []) (code_of e) (contains_itself (code_of e))),
      is ∙ ap (λ (xs : List (List ℕ)). xs ++ code_of e ∷ []) (codes_same kept by e (since b log)),
    )

-- before the turn, or after it
abbrev LeavesBeforeOrAfter : Base → Log → Log → List (List ℕ) → List (List ℕ) → Type 0
LeavesBeforeOrAfter b log items kept left = LeavesAfter b kept (since b log) left ⊎ LeavesAfter b kept (since b log ++ items) left

turn_leaves : (b : Base) (by : Option ℕ) (o : Outcome) (log : Log) (kept : List (List ℕ)) (doubt : Option (List ℕ)) (left : List (List ℕ))
    → IsDoubted (doubts_of (option_to_list b.shown.doubt) (since b log)) doubt → MayLeaveIn o (with_codes kept (since b log)) doubt left
    → LeavesBeforeOrAfter b log (items_of by o) kept left
turn_leaves b by NoEntry log kept doubt left doubted may = inl (leaves_now b kept (since b log) doubt left doubted may)
turn_leaves b by (Full e) log kept doubt left doubted may = inl (leaves_now b kept (since b log) doubt left doubted may)
turn_leaves b by (Kept e) log kept doubt left doubted (inl may) = inl (leaves_now b kept (since b log) doubt left doubted may)
turn_leaves b by (Kept e) log kept doubt left doubted (inr is) = inr (leaves_kept b by e log kept left is)
turn_leaves b by (Failed e) log kept doubt left doubted (inl may) = inl (leaves_now b kept (since b log) doubt left doubted may)
turn_leaves b by (Failed e) log kept doubt left doubted (inr is) = inr (leaves_failed b by e log kept left is)

turn_left : (b : Base) (by : Option ℕ) (o : Outcome) (log : Log) (kept : List (List ℕ)) (doubt : Option (List ℕ)) (left : List (List ℕ)) → b.kept ≤ length log
    → IsDoubted (doubts_of (option_to_list b.shown.doubt) (since b log)) doubt → MayLeaveIn o (with_codes kept (since b log)) doubt left
    → IsLeft b (log ++ items_of by o) kept left
turn_left b by o log kept doubt left opened doubted may = of (turn_leaves b by o log kept doubt left doubted may)
  where
    of : LeavesBeforeOrAfter b log (items_of by o) kept left → IsLeft b (log ++ items_of by o) kept left
    of (inl h) = left_before b log (items_of by o) kept left opened h
    of (inr h) = left_after b log (items_of by o) kept left opened h

-- and what could be left before can still be left
pub left_later : (b : Base) (log items : Log) (kept left : List (List ℕ)) → b.kept ≤ length log → IsLeft b log kept left → IsLeft b (log ++ items) kept left
left_later b log items kept left opened h = record {
  past = h.past;
  rest = h.rest ++ items;
  is = since_items b log items opened ∙ ap (λ (l : Log). l ++ items) h.is ∙ append_assoc h.past h.rest items;
  leaves = h.leaves;
}

-- ---- along the log

-- nothing happened yet
pub crashes_first : (b : Base) (log : Log) (c : Crashes) → LeavesRecords b.shown c → CrashesAlong b log c c
crashes_first b log c now = record {
  clock = let same : c.clock ≤ c.clock = omega arith in same;
  told = refl;
  crash = if_told c.told b.shown.records _ _ (λ kept is leaves. record {
    nothing_else = λ moment left early since. inl since;
    keeps = λ moment left early past. past;
  }) now;
}

-- one more turn
pub crashes_more : (b : Base) (by : Option ℕ) (k : KeeperState) (log : Log) (o : Outcome) (x y z : Crashes) → Keeps b k log → CrashesAlong b log x y
    → TurnPasses o k y z → CrashesAlong b (log ++ items_of by o) x z
crashes_more b by k log o x y z keeps along turn = record {
  clock = let first = along.clock in let second = turn_clock o k y z turn in omega (arith, first, second);
  told = turn_told o k y z turn ∙ along.told;
  crash = both x.told b.shown.records k.records keeps.records along.crash
      (subst (λ (t : Bool). IfTold t k.records (λ records. Adds y.clock y.left_since z.left_since (MayLeaveIn o records k.doubt))) along.told (turn_crash o k y z turn));
}
  where
    both : (told : Bool) (first now : Option (List (List ℕ))) → now ≡ with_records first (history_of (since b log))
        → IfTold told first (λ kept. Adds x.clock x.left_since y.left_since (IsLeft b log kept))
        → IfTold told now (λ records. Adds y.clock y.left_since z.left_since (MayLeaveIn o records k.doubt))
        → IfTold told first (λ kept. Adds x.clock x.left_since z.left_since (IsLeft b (log ++ items_of by o) kept))
    both false first now is f g = tt
    both true None now is f g = absurd f
    both true (Some kept) now is f g =
        adds_both x.clock y.clock (IsLeft b log kept) (MayLeaveIn o (with_codes kept (since b log)) k.doubt) (IsLeft b (log ++ items_of by o) kept) along.clock
        (λ left h. left_later b log (items_of by o) kept left keeps.opened h)
        (λ left h. turn_left b by o log kept k.doubt left keeps.opened keeps.doubt h)
        f (subst (λ (r : Option (List (List ℕ))). IfTold true r (λ records. Adds y.clock y.left_since z.left_since (MayLeaveIn o records k.doubt))) is g)

-- ---- the machine

-- at the opening
pub survives_first : (b : Base) (by : Option ℕ) (opened : State) (c : Crashes) → b.kept ≡ length opened.history → b.shown ≡ opened.keeper
    → LeavesRecords opened.keeper c → Survives b by (given opened.history) (given opened.history) opened c c
survives_first b by opened c kept shown now = record {
  holds = holds_given b by opened kept shown;
  crashes = crashes_first b (given opened.history) c (subst (λ (k : KeeperState). LeavesRecords k c) (sym shown) now);
  marks = given_marks [] opened.history;
}

-- what a turn marks may come at the position of its mark
pub turn_marks : (by : Option ℕ) (history : List Entry) (o : Outcome) → MayFail history o → MarksMayCome history (items_of by o)
turn_marks by history NoEntry may = tt
turn_marks by history (Kept e) may = (tt, tt)
turn_marks by history (Full e) may = tt
turn_marks by history (Failed e) may = (may, tt)

-- one more turn
pub survives_more : (b : Base) (by : Option ℕ) (seen log : Log) (x : Crashes) (before after : Standing) (o : Outcome)
    → Survives b by seen log before.state x before.crashes → Turns b.growth before after o → Survives b by seen (log ++ items_of by o) after.state x after.crashes
survives_more b by seen log x before after o was turn = record {
  holds = since_on b by seen log (log ++ items_of by o) before.state after.state was.holds (since_more b by before.state after.state log o was.holds.holds turn.follows);
  crashes = crashes_more b by before.state.keeper log o x before.crashes after.crashes was.holds.holds.keeper was.crashes turn.passes;
  marks = marks_append [] log (items_of by o) was.marks
      (turn_marks by (history_of log) o (subst (λ (h : List Entry). MayFail h o) was.holds.holds.history turn.may_fail));
}

-- one turn after the opening
pub survives_turn : (b : Base) (by : Option ℕ) (before after : Standing) → b.kept ≡ length before.state.history → b.shown ≡ before.state.keeper
    → LeavesRecords before.state.keeper before.crashes → SurvivesTurn b.growth before after
    → SurvivesMarked b by (given before.state.history) after.state before.crashes after.crashes
survives_turn b by before after kept shown now turn = (
  given before.state.history ++ items_of by turn.0,
  survives_more b by (given before.state.history) (given before.state.history) before.crashes before after turn.0
      (survives_first b by before.state before.crashes kept shown now) turn.1,
)

-- ---- after an exchange is over

-- a crash now leaves what there is after the whole log
pub after_now : (b : Base) (log : Log) (s : Standing) → Holds b s.state log → LeavesRecords s.state.keeper s.crashes → CrashesAfter b log log s.crashes.clock s.crashes
after_now b log s holds now = at s.crashes.told b.shown.records s.state.keeper.records holds.keeper.records now
  where
    at : (told : Bool) (first records : Option (List (List ℕ))) → records ≡ with_records first (history_of (since b log))
        → IfTold told records (λ kept. (left : List (List ℕ)) → s.crashes.left_since s.crashes.clock left → MayLeave kept s.state.keeper.doubt left)
        → IfTold told first (λ kept. (left : List (List ℕ)) → s.crashes.left_since s.crashes.clock left → IsLeftAfter b log log kept left)
    at false first records is leaves = tt
    at true None records is leaves = absurd (subst (λ (r : Option (List (List ℕ))). IfTold true r (λ kept. (left : List (List ℕ)) → s.crashes.left_since s.crashes.clock left → MayLeave kept s.state.keeper.doubt left)) is leaves)
    at true (Some kept) records is leaves = λ left since_now.
        let may = subst (λ (r : Option (List (List ℕ))). IfTold true r (λ known. (l : List (List ℕ)) → s.crashes.left_since s.crashes.clock l → MayLeave known s.state.keeper.doubt l)) is leaves in
        record {
          past = [];
          rest = [];
          is = sym (append-nil log);
          leaves = subst (λ (l : Log). LeavesAfter b kept (since b l) left) (sym (append-nil log))
              (leaves_now b kept (since b log) s.state.keeper.doubt left holds.keeper.doubt (may left since_now));
        }

-- one more turn
pub after_more : (b : Base) (by : Option ℕ) (seen more log : Log) (moment : ℕ) (o : Outcome) (before after : Standing) → Holds b before.state log
    → log ≡ seen ++ more → moment ≤ before.crashes.clock → CrashesAfter b seen log moment before.crashes → Turns b.growth before after o
    → CrashesAfter b seen (log ++ items_of by o) moment after.crashes
after_more b by seen more log moment o before after holds goes early was turn =
    at before.crashes.told after.crashes.told (turn_told o k before.crashes after.crashes turn.passes) b.shown.records k.records holds.keeper.records was
    (turn_crash o k before.crashes after.crashes turn.passes)
  where
    k : KeeperState
    k = before.state.keeper

    at : (told now : Bool) → now ≡ told → (first records : Option (List (List ℕ))) → records ≡ with_records first (history_of (since b log))
        → IfTold told first (λ kept. (left : List (List ℕ)) → before.crashes.left_since moment left → IsLeftAfter b seen log kept left)
        → IfTold told records (λ known. Adds before.crashes.clock before.crashes.left_since after.crashes.left_since (MayLeaveIn o known k.doubt))
        → IfTold now first (λ kept. (left : List (List ℕ)) → after.crashes.left_since moment left → IsLeftAfter b seen (log ++ items_of by o) kept left)
    at false now is first records same old adds = rw is tt
    at true now is None records same old adds = absurd old
    at true now is (Some kept) records same old adds =
        subst (λ (t : Bool). IfTold t (Some kept) (λ known. (left : List (List ℕ)) → after.crashes.left_since moment left → IsLeftAfter b seen (log ++ items_of by o) known left)) (sym is)
        (λ left since_then. one left (added.nothing_else moment left early since_then))
      where
        added : Adds before.crashes.clock before.crashes.left_since after.crashes.left_since (MayLeaveIn o (with_codes kept (since b log)) k.doubt)
        added = subst (λ (r : Option (List (List ℕ))). IfTold true r (λ known. Adds before.crashes.clock before.crashes.left_since after.crashes.left_since (MayLeaveIn o known k.doubt))) same adds

        one : (left : List (List ℕ)) → before.crashes.left_since moment left ⊎ MayLeaveIn o (with_codes kept (since b log)) k.doubt left
            → IsLeftAfter b seen (log ++ items_of by o) kept left
        one left (inl past) =
            let l = old left past in
            record {
              past = l.past;
              rest = l.rest ++ items_of by o;
              is = ap (λ (x : Log). x ++ items_of by o) l.is ∙ append_assoc seen (l.past ++ l.rest) (items_of by o)
                  ∙ ap (λ (x : Log). seen ++ x) (append_assoc l.past l.rest (items_of by o));
              leaves = l.leaves;
            }
        one left (inr may) = of (turn_leaves b by o log kept k.doubt left holds.keeper.doubt may)
          where
            of : LeavesBeforeOrAfter b log (items_of by o) kept left → IsLeftAfter b seen (log ++ items_of by o) kept left
            of (inl h) = record {
              past = more;
              rest = items_of by o;
              is = ap (λ (x : Log). x ++ items_of by o) goes ∙ append_assoc seen more (items_of by o);
              leaves = subst (λ (x : Log). LeavesAfter b kept (since b x) left) goes h;
            }
            of (inr h) = record {
              past = more ++ items_of by o;
              rest = [];
              is = ap (λ (x : Log). x ++ items_of by o) goes ∙ append_assoc seen more (items_of by o)
                  ∙ ap (λ (x : Log). seen ++ x) (sym (append-nil (more ++ items_of by o)));
              leaves = subst (λ (x : Log). LeavesAfter b kept x left) (sym (since_items b log (items_of by o) holds.keeper.opened)
                  ∙ ap (λ (x : Log). since b x) (ap (λ (x : Log). x ++ items_of by o) goes ∙ append_assoc seen more (items_of by o))) h;
            }

-- items for which the keeper was not asked
pub after_claims : (b : Base) (seen log claims : Log) (moment : ℕ) (before after : Crashes) → after ≡ before
    → CrashesAfter b seen log moment before → CrashesAfter b seen (log ++ claims) moment after
after_claims b seen log claims moment before after same was =
    subst (λ (c : Crashes). CrashesAfter b seen (log ++ claims) moment c) (sym same) (at before.told b.shown.records was)
  where
    at : (told : Bool) (first : Option (List (List ℕ))) → IfTold told first (λ kept. (left : List (List ℕ)) → before.left_since moment left → IsLeftAfter b seen log kept left)
        → IfTold told first (λ kept. (left : List (List ℕ)) → before.left_since moment left → IsLeftAfter b seen (log ++ claims) kept left)
    at false first old = tt
    at true None old = absurd old
    at true (Some kept) old = λ left since_then.
        let l = old left since_then in
        record {
          past = l.past;
          rest = l.rest ++ claims;
          is = ap (λ (x : Log). x ++ claims) l.is ∙ append_assoc seen (l.past ++ l.rest) claims
              ∙ ap (λ (x : Log). seen ++ x) (append_assoc l.past l.rest claims);
          leaves = l.leaves;
        }

-- what is left begins with the records of everything that the log had at that moment
pub after_begins : (b : Base) (seen log : Log) (kept left : List (List ℕ)) → b.kept ≤ length seen → IsLeftAfter b seen log kept left
    → (more : List (List ℕ)) × (left ≡ with_codes kept (since b seen) ++ more)
after_begins b seen log kept left within h = of h.leaves
  where
    spelled : with_codes kept (since b (seen ++ h.past)) ≡ with_codes kept (since b seen) ++ map code_of (history_of h.past)
    spelled =
        ap (λ (l : Log). with_codes kept l) (since_items b seen h.past within)
        ∙ ap (λ (es : List Entry). kept ++ map code_of es) (history_append (since b seen) h.past)
        ∙ ap (λ (xs : List (List ℕ)). kept ++ xs) (map-append code_of (history_of (since b seen)) (history_of h.past))
        ∙ sym (append_assoc kept (map code_of (history_of (since b seen))) (map code_of (history_of h.past)))

    of : LeavesAfter b kept (since b (seen ++ h.past)) left → (more : List (List ℕ)) × (left ≡ with_codes kept (since b seen) ++ more)
    of (inl is) = (map code_of (history_of h.past), is ∙ spelled)
    of (inr (d, doubted, is)) = (
      map code_of (history_of h.past) ++ d ∷ [],
      is ∙ ap (λ (xs : List (List ℕ)). xs ++ d ∷ []) spelled ∙ append_assoc (with_codes kept (since b seen)) (map code_of (history_of h.past)) (d ∷ []),
    )
