-- What is marked in a log that grows, and what may be in doubt.
use Rattle.std.proofs.Common.{ℕ, List, [], ◌∷◌, ◌++◌, All, refl, sym, subst, append_assoc, append-nil}
use Rattle.std.proofs.lemmas.List.Elements.{All-append, All-cons, All-nil}
use Rattle.fedi_core.specs.Machines.{IsNextCode}
use Rattle.fedi_entry.specs.Codes.{code_of}
use Rattle.fedi_log.specs.declared.items.What.{What}
use Rattle.fedi_log.specs.declared.items.What.TheVariants.{Entered, Marked, Claimed, Released}
use Rattle.fedi_log.specs.Log.{Log, doubts_after, doubts_of, entry_in, given, history_of}
use Rattle.fedi_objects.specs.declared.entry.Entry.{Entry}
use Rattle.fedi_logged.specs.Marks.{MarksMayCome, MayCome}

-- a given history has no marks
pub given_marks : (before history : List Entry) → MarksMayCome before (given history)
given_marks before [] = tt
given_marks before (e ∷ history) = (tt, given_marks (before ++ e ∷ []) history)

-- two logs, one after the other
pub marks_append : (history : List Entry) (a b : Log) → MarksMayCome history a → MarksMayCome (history ++ history_of a) b → MarksMayCome history (a ++ b)
marks_append history [] b first then = subst (λ (h : List Entry). MarksMayCome h b) (append-nil history) then
marks_append history (i ∷ a) b first then = (
  first.0,
  marks_append (history ++ entry_in i.what) a b first.1
      (subst (λ (h : List Entry). MarksMayCome h b) (sym (append_assoc history (entry_in i.what) (history_of a))) then),
)

-- ---- what may be in doubt

-- one more item: each record that may be in doubt is the code of an entry that may come next
doubts_stay : (history : List Entry) (doubts : List (List ℕ)) (w : What) → MayCome history w → All (IsNextCode history) doubts
    → All (IsNextCode (history ++ entry_in w)) (doubts_after doubts w)
doubts_stay history doubts (Entered e) may all = All-nil (IsNextCode (history ++ e ∷ []))
doubts_stay history doubts (Marked e) may all =
    subst (λ (h : List Entry). All (IsNextCode h) (doubts ++ code_of e ∷ [])) (sym (append-nil history))
    (All-append (IsNextCode history) doubts (code_of e ∷ []) all (one (IsNextCode history) (code_of e) (e, may, refl)))
  where
    one : (P : List ℕ → Type 0) (x : List ℕ) → P x → All P (x ∷ [])
    one P x p = All-cons P x [] p (All-nil P)
doubts_stay history doubts (Claimed p place moment) may all = subst (λ (h : List Entry). All (IsNextCode h) doubts) (sym (append-nil history)) all
doubts_stay history doubts (Released p) may all = subst (λ (h : List Entry). All (IsNextCode h) doubts) (sym (append-nil history)) all

-- after any items
pub doubts_come : (history : List Entry) (doubts : List (List ℕ)) (past : Log) → MarksMayCome history past → All (IsNextCode history) doubts
    → All (IsNextCode (history ++ history_of past)) (doubts_of doubts past)
doubts_come history doubts [] marks all = subst (λ (h : List Entry). All (IsNextCode h) doubts) (sym (append-nil history)) all
doubts_come history doubts (i ∷ past) marks all =
    subst (λ (h : List Entry). All (IsNextCode h) (doubts_of (doubts_after doubts i.what) past)) (append_assoc history (entry_in i.what) (history_of past))
    (doubts_come (history ++ entry_in i.what) (doubts_after doubts i.what) past marks.1 (doubts_stay history doubts i.what marks.0 all))
