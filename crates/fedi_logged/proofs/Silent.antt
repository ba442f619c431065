-- An item that does not change the history, the marks or the doubts: a claim, or a release.
use Rattle.std.proofs.Common.{◌≡◌, ℕ, ◌≤◌, ◌+◌, List, [], ◌∷◌, ◌++◌, length, Option, refl, sym, ap, subst, ◌∙◌, append_assoc, append-nil, length-append, arith}
use Rattle.std.specs.Prelude.{option_to_list}
use Rattle.std.proofs.lemmas.List.{drop-append-le}
use Rattle.fedi_core.proofs.Crashing.{if_told}
use Rattle.fedi_log.specs.Keeping.{Base, Holds, IsDoubted, Keeps, State, base_of, counted, growth_of, since, with_records}
use Rattle.fedi_log.specs.Leaving.{CrashesAlong, IsLeft}
use Rattle.fedi_log.specs.Log.{Log, doubts_after, doubts_of, entry_in, given, history_of, made_by, mark_in, marks_of}
use Rattle.fedi_log.specs.declared.items.What.{What}
use Rattle.fedi_log.proofs.Growing.{doubts_append, history_append, marks_append as both_marks}
use Rattle.fedi_objects.specs.declared.entry.Entry.{Entry}
use Rattle.fedi_outside.specs.Keepers.{Crashes}
use Rattle.fedi_logged.specs.Logs.{StandsFor}
use Rattle.fedi_logged.specs.Marks.{MarksMayCome, MayCome}
use Rattle.fedi_logged.proofs.Crashing.{left_later}
use Rattle.fedi_logged.proofs.Marks.{marks_append}
use Rattle.std.specs.Prelude.{◌⊎◌}
use Rattle.std.proofs.Common.{inl, inr}

-- it says nothing of entries
pub record IsSilent (w : What) : Type 0 where
  pub entries : entry_in w ≡ []
  pub marks : mark_in w ≡ []
  pub doubts : (ds : List (List ℕ)) → doubts_after ds w ≡ ds
  pub may_come : (h : List Entry) → MayCome h w

silent_history : (by : Option ℕ) (w : What) (log : Log) → IsSilent w → history_of (log ++ made_by by w ∷ []) ≡ history_of log
silent_history by w log s =
    history_append log (made_by by w ∷ []) ∙ ap (λ (es : List Entry). history_of log ++ (es ++ [])) s.entries ∙ append-nil (history_of log)

silent_marks : (by : Option ℕ) (w : What) (log : Log) → IsSilent w → marks_of (log ++ made_by by w ∷ []) ≡ marks_of log
silent_marks by w log s =
    both_marks log (made_by by w ∷ []) ∙ ap (λ (es : List Entry). marks_of log ++ (es ++ [])) s.marks ∙ append-nil (marks_of log)

silent_doubts : (by : Option ℕ) (w : What) (before : List (List ℕ)) (log : Log) → IsSilent w → doubts_of before (log ++ made_by by w ∷ []) ≡ doubts_of before log
silent_doubts by w before log s = doubts_append before log (made_by by w ∷ []) ∙ s.doubts (doubts_of before log)

silent_keeps : (b : Base) (by : Option ℕ) (w : What) (state : State) (log : Log) → IsSilent w → Holds b state log → Holds b state (log ++ made_by by w ∷ [])
silent_keeps b by w state log s h =
    let k = h.keeper in
    let past : since b (log ++ made_by by w ∷ []) ≡ since b log ++ made_by by w ∷ [] = drop-append-le b.kept log (made_by by w ∷ []) k.opened in
    let entries : history_of (since b (log ++ made_by by w ∷ [])) ≡ history_of (since b log) = ap history_of past ∙ silent_history by w (since b log) s in
    record {
      history = h.history ∙ sym (silent_history by w log s);
      keeper = record {
        opened = let opened = k.opened in let longer : length (log ++ made_by by w ∷ []) ≡ length log + length (made_by by w ∷ []) = length-append log (made_by by w ∷ []) in
            omega (arith, opened, longer);
        records = k.records ∙ ap (λ (es : List Entry). with_records b.shown.records es) (sym entries);
        end = k.end ∙ ap (λ (es : List Entry). b.shown.end + growth_of b.growth es) (sym entries);
        doubt = subst (λ (ds : List (List ℕ)). IsDoubted ds state.keeper.doubt)
            (sym (ap (doubts_of (option_to_list b.shown.doubt)) past ∙ silent_doubts by w (option_to_list b.shown.doubt) (since b log) s)) k.doubt;
        faults = k.faults ∙ ap (λ (es : List Entry). counted b.shown.faults (length es)) (sym (ap marks_of past ∙ silent_marks by w (since b log) s));
      };
    }

either : {A B C : Type 0} → (B → C) → A ⊎ B → A ⊎ C
either f (inl a) = inl a
either f (inr b) = inr (f b)

silent_crashes : (b : Base) (by : Option ℕ) (w : What) (log : Log) (first now : Crashes) → b.kept ≤ length log → CrashesAlong b log first now
    → CrashesAlong b (log ++ made_by by w ∷ []) first now
silent_crashes b by w log first now opened c = record {
  clock = c.clock;
  told = c.told;
  crash = if_told first.told b.shown.records _ _ (λ kept is adds. record {
    nothing_else = λ moment left early since. either (left_later b log (made_by by w ∷ []) kept left opened) (adds.nothing_else moment left early since);
    keeps = adds.keeps;
  }) c.crash;
}

-- The machine holds the log with such an item too.
pub stands_silent : (growth room : ℕ → ℕ) (opened : State) (first : Crashes) (by : Option ℕ) (w : What) (state : State) (crashes : Crashes) (log now : Log) → IsSilent w
    → now ≡ log ++ made_by by w ∷ [] → StandsFor growth room opened first state crashes log → StandsFor growth room opened first state crashes now
stands_silent growth room opened first by w state crashes log now s is stands =
    subst (λ (l : Log). StandsFor growth room opened first state crashes l) (sym is) (record {
      past = stands.past ++ made_by by w ∷ [];
      begins = ap (λ (l : Log). l ++ made_by by w ∷ []) stands.begins ∙ append_assoc (given opened.history) stands.past (made_by by w ∷ []);
      holds = silent_keeps (base_of growth room opened) by w state log s stands.holds;
      legal = stands.legal;
      crashed = silent_crashes (base_of growth room opened) by w log first crashes stands.holds.keeper.opened stands.crashed;
      marked = marks_append [] log (made_by by w ∷ []) stands.marked (s.may_come (history_of log), tt);
    })
