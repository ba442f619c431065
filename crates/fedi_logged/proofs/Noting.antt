-- One more note, and the log that it makes.
use Rattle.std.proofs.Common.{◌≡◌, ℕ, ◌+◌, List, [], ◌∷◌, ◌++◌, map, length, Bool, true, false, Option, sym, ap, ◌∙◌, append_assoc, length-append, arith}
use Rattle.std.proofs.lemmas.List.{map-append}
use Rattle.fedi_log.specs.Log.{Log, given, made_by}
use Rattle.fedi_log.specs.declared.items.Item.{Item}
use Rattle.fedi_log.specs.declared.items.What.{What}
use Rattle.fedi_log.specs.declared.items.What.TheVariants.{Entered, Marked}
use Rattle.fedi_objects.specs.declared.entry.Entry.{Entry}
use Rattle.fedi_logged.specs.declared.noted.Deed.{Deed}
use Rattle.fedi_logged.specs.declared.noted.Noted.{Noted}
use Rattle.fedi_logged.specs.Logs.{item_of, log_of, what_of}

-- the log has one more item, that of the note
pub log_more : (first : List Entry) (old new : List Noted) (n : Noted) → new ≡ old ++ n ∷ [] → log_of first new ≡ log_of first old ++ item_of n ∷ []
log_more first old new n is =
    ap (λ (l : List Noted). given first ++ map item_of l) is
    ∙ ap (λ (l : Log). given first ++ l) (map-append item_of old (n ∷ []))
    ∙ sym (append_assoc (given first) (map item_of old) (item_of n ∷ []))

noted_at : (n : Noted) (d : Deed) (by : Option ℕ) → n.deed ≡ d → n.by ≡ by → item_of n ≡ made_by by (what_of d)
noted_at n d by deed number = λ i. made_by (number i) (what_of (deed i))

-- this is what was noted
pub noted_more : (first : List Entry) (old new : List Noted) (n : Noted) (d : Deed) (by : Option ℕ) (what : What) → new ≡ old ++ n ∷ [] → n.deed ≡ d → n.by ≡ by → what_of d ≡ what
    → log_of first new ≡ log_of first old ++ made_by by what ∷ []
noted_more first old new n d by what is deed number same =
    log_more first old new n is
    ∙ ap (λ (i : Item). log_of first old ++ i ∷ []) (noted_at n d by deed number ∙ ap (made_by by) same)

pub entered : (first : List Entry) (old new : List Noted) (n : Noted) (d : Deed) (e : Entry) (by : Option ℕ) → new ≡ old ++ n ∷ [] → n.deed ≡ d → n.by ≡ by → what_of d ≡ Entered e
    → log_of first new ≡ log_of first old ++ made_by by (Entered e) ∷ []
entered first old new n d e by is deed number same = noted_more first old new n d by (Entered e) is deed number same

pub marked : (first : List Entry) (old new : List Noted) (n : Noted) (d : Deed) (e : Entry) (by : Option ℕ) → new ≡ old ++ n ∷ [] → n.deed ≡ d → n.by ≡ by → what_of d ≡ Marked e
    → log_of first new ≡ log_of first old ++ made_by by (Marked e) ∷ []
marked first old new n d e by is deed number same = noted_more first old new n d by (Marked e) is deed number same

-- and its length grows by one
pub length_more : (log now : Log) (i : Item) (front : ℕ) → now ≡ log ++ i ∷ [] → front ≡ length log → front + 1 ≡ length now
length_more log now i front is counts =
    let longer : length now ≡ length log + length (i ∷ []) = ap length is ∙ length-append log (i ∷ []) in omega (arith, longer, counts)
