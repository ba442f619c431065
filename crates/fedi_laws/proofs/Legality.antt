-- Each ask keeps a legal history legal, and what is due stays due in it.
use Rattle.std.proofs.Common.{◌≡◌, ℕ, ◌≤◌, true, false, List, [], ◌∷◌, ◌++◌, Option, Some, None, refl, sym, subst, arith}
use Rattle.std.specs.Prelude.{is_none}
use Rattle.std.specs.List.{list_any, fold}
use Rattle.std.proofs.lemmas.Bool.{and_parts}
use Rattle.std.proofs.lemmas.List.Sums.{fold-append}
use Rattle.fedi_address.specs.Hosts.{is_host_text}
use Rattle.fedi_objects.specs.declared.entry.Entry.{Entry}
use Rattle.fedi_objects.specs.declared.entry.Entry.TheVariants.{Hosted, Made, PeerSet, Local, Remote, Tried}
use Rattle.fedi_town.specs.declared.caller.Caller.{Caller}
use Rattle.fedi_town.specs.Histories.{step, town}
use Rattle.fedi_town.specs.Legal.{broken_command, is_admissible, is_legal_from, IsLegal}
use Rattle.fedi_town.specs.Queues.{is_due}
use Rattle.fedi_town.specs.Towns.{Town, empty_town}
use Rattle.fedi_model.specs.declared.ask.Ask.{Ask}
use Rattle.fedi_model.specs.Asks.{entry_of, IsPostable}
use Rattle.fedi_town.proofs.Due.{held_on, same_later, stays_due, IsOtherEntry}
use Rattle.fedi_town.proofs.IdsTown.{HasIds, step_by}
use Rattle.fedi_town.proofs.Lists.{first_none, other_none}
use Rattle.fedi_laws.proofs.Next.{entry_admissible}
use Rattle.fedi_town.proofs.Sound.{IsHosted, not_hosted, step_sound}
use Rattle.fedi_town.proofs.Growing.{legal_push}
use Rattle.fedi_laws.specs.Statements.{is_attempt_of}

-- ---- one more entry

-- The entry that an ask makes may come next.
pub asks_keep_legal : (history : List Entry) (c : Caller) (ask : Ask) (moment : ℕ) (e : Entry) → IsLegal history
    → IsPostable (town history) ask → entry_of (town history) c ask moment ≡ Some e → IsLegal (history ++ e ∷ [])
asks_keep_legal history c ask moment e legal postable made =
    record { admissible = legal_push history empty_town e legal.admissible (entry_admissible (town history) c ask moment e postable made) }

-- ---- what is due

-- before the server was set up nothing is due
none_due : (host : Option (List ℕ)) (t : Town) (id r : List ℕ) (m : ℕ) → is_none host ≡ true → HasIds host t.acts → is_due t id r m ≡ true → ⊥
none_due None t id r m none ids due = let wrong : false ≡ true = rw ids at due in absurd cc
none_due (Some host) t id r m none ids due = absurd cc

other_entry : (t : Town) (e : Entry) (id r : List ℕ) (m : ℕ) → is_admissible t e ≡ true → HasIds t.host t.acts → is_due t id r m ≡ true → is_attempt_of id r e ≡ false → IsOtherEntry id r e
other_entry t (Hosted host moment) id r m ok ids due other = none_due t.host t id r m (not_hosted t host moment (and_parts (is_none (broken_command t (Hosted host moment))) (is_host_text host) ok).0) ids due
other_entry t (Made name digest locked moment) id r m ok ids due other = tt
other_entry t (PeerSet host key address relay moment) id r m ok ids due other = tt
other_entry t (Local name repeat a moment) id r m ok ids due other = tt
other_entry t (Remote peer inbox a moment) id r m ok ids due other = tt
other_entry t (Tried activity recipient came moment) id r m ok ids due other = other

fold_due : (later : List Entry) (t : Town) (id r : List ℕ) (m n : ℕ) → IsHosted t → HasIds t.host t.acts → is_legal_from t later ≡ true
    → list_any (is_attempt_of id r) later ≡ false → m ≤ n → is_due t id r m ≡ true → is_due (fold step t later) id r n ≡ true
fold_due [] t id r m n s ids legal none le due = held_on t t id r m n (same_later t t id r refl refl refl) refl le due
fold_due (e ∷ later) t id r m n s ids legal none le due =
    let parts = and_parts (is_admissible t e) (is_legal_from (step t e) later) legal in
    let other : IsOtherEntry id r e = other_entry t e id r m parts.0 ids due (first_none (is_attempt_of id r e) _ none) in
    fold_due later (step t e) id r n n (step_sound t e parts.0 s) (step_by t t.host e refl s parts.0 ids) parts.1
    (other_none (is_attempt_of id r e) _ none) (omega arith) (stays_due t e id r m n other le due)

-- what is known of the town after a legal history, and of the later entries
record IsKnown (t : Town) (later : List Entry) : Type 0 where
  sound : IsHosted t
  ids : HasIds t.host t.acts
  legal : is_legal_from t later ≡ true

known_after : (history later : List Entry) (t : Town) → IsKnown t (history ++ later) → IsKnown (fold step t history) later
known_after [] later t k = k
known_after (e ∷ history) later t k =
    let parts = and_parts (is_admissible t e) (is_legal_from (step t e) (history ++ later)) k.legal in
    known_after history later (step t e) (record { sound = step_sound t e parts.0 k.sound; ids = step_by t t.host e refl k.sound parts.0 k.ids; legal = parts.1 })

-- A delivery that is due stays due until it is tried.
pub due_stays_due : (history later : List Entry) (id r : List ℕ) (m n : ℕ) → IsLegal (history ++ later)
    → list_any (is_attempt_of id r) later ≡ false → m ≤ n → is_due (town history) id r m ≡ true → is_due (town (history ++ later)) id r n ≡ true
due_stays_due history later id r m n legal none le due =
    let k : IsKnown (town history) later =
    known_after history later empty_town (record { sound = record { sound = record { members = refl; peers = refl }; host = refl }; ids = refl; legal = legal.admissible }) in
    subst (λ (u : Town). is_due u id r n ≡ true) (sym (fold-append step empty_town history later))
    (fold_due later (town history) id r m n k.sound k.ids k.legal none le due)
