-- What a crash leaves right after the opening, and how many records.
use Rattle.std.proofs.Common.{◌≡◌, ◌⊎◌, ℕ, ◌+◌, ◌≤◌, List, [], ◌∷◌, ◌++◌, length, map, Option, Some, None, inl, inr, refl, sym, ap, ◌∙◌, append-nil, arith, length-append, length-drop}
use Rattle.std.specs.Prelude.{Contains, option_to_list}
use Rattle.std.proofs.lemmas.List.{length-map}
use Rattle.fedi_entry.specs.Codes.{code_of}
use Rattle.fedi_outside.specs.Keepers.{MayLeave}
use Rattle.fedi_log.specs.Keeping.{Base, since}
use Rattle.fedi_log.specs.Leaving.{IsLeft, LeavesAfter}
use Rattle.fedi_log.specs.Log.{Log, entry_in, history_of}
use Rattle.fedi_log.specs.declared.items.What.{What}
use Rattle.fedi_log.specs.declared.items.What.TheVariants.{Entered, Marked, Claimed, Released}

-- ---- nothing happened yet

first_leaves : (kept : List (List ℕ)) (doubt : Option (List ℕ)) (left : List (List ℕ)) → MayLeave kept doubt left
    → (left ≡ kept ++ []) ⊎ ((d : List ℕ) × Contains (option_to_list doubt) d × (left ≡ (kept ++ []) ++ d ∷ []))
first_leaves kept None left is = inl (is ∙ sym (append-nil kept))
first_leaves kept (Some d) left (inl is) = inl (is ∙ sym (append-nil kept))
first_leaves kept (Some d) left (inr is) = inr (d, (0, omega arith, refl), is ∙ ap (λ (rs : List (List ℕ)). rs ++ d ∷ []) (sym (append-nil kept)))

-- what a crash leaves at the opening, it may leave along each log
pub left_first : (b : Base) (log : Log) (kept left : List (List ℕ)) → MayLeave kept b.shown.doubt left → IsLeft b log kept left
left_first b log kept left is = record { past = []; rest = since b log; is = refl; leaves = first_leaves kept b.shown.doubt left is }

-- ---- how many

one_at_most : (what : What) → length (entry_in what) ≤ 1
one_at_most (Entered e) = omega arith
one_at_most (Marked e) = omega arith
one_at_most (Claimed p place moment) = omega arith
one_at_most (Released p) = omega arith

-- an item holds at most one entry
few_entries : (log : Log) → length (history_of log) ≤ length log
few_entries [] = omega arith
few_entries (i ∷ log) = omega (arith, few_entries log, one_at_most i.what, length-append (entry_in i.what) (history_of log))

few_after : (b : Base) (kept : List (List ℕ)) (past : Log) (left : List (List ℕ)) → LeavesAfter b kept past left → length left ≤ length kept + length past + 1
few_after b kept past left (inl is) =
    let codes = map code_of (history_of past) in
    omega (arith, ap length is, length-append kept codes, length-map (history_of past) code_of, few_entries past)
few_after b kept past left (inr (d, doubted, is)) =
    let codes = map code_of (history_of past) in
    omega (arith, ap length is, length-append (kept ++ codes) (d ∷ []), length-append kept codes, length-map (history_of past) code_of, few_entries past)

-- along a log
pub few_left : (b : Base) (log : Log) (kept left : List (List ℕ)) → IsLeft b log kept left → length left ≤ length kept + length log + 1
few_left b log kept left h =
    omega (arith, few_after b kept h.past left h.leaves, ap length h.is, length-append h.past h.rest, length-drop b.kept log)

-- if nothing was added
pub few_kept : (kept : List (List ℕ)) (doubt : Option (List ℕ)) (left : List (List ℕ)) → MayLeave kept doubt left → length left ≤ length kept + 1
few_kept kept None left is = omega (arith, ap length is)
few_kept kept (Some d) left (inl is) = omega (arith, ap length is)
few_kept kept (Some d) left (inr is) = omega (arith, ap length is, length-append kept (d ∷ []))
