-- What the calls of a journal do to what it shows as a keeper.
use Rattle.std.proofs.Common.{◌≡◌, ℕ, zero, suc, ◌+◌, ◌-◌, ◌<◌, ◌≤◌, Bool, true, false, List, [], ◌∷◌, ◌++◌, length, get_or, take, drop, refl, sym, ◌∙◌, ap, subst, append_assoc, arith, length-append}
use Rattle.std.specs.Prelude.{Option, Some, None, option_map, slice_get, IfSome, Result, Ok, Err, OnErr}
use Rattle.std.specs.Int.{to_be_bytes, w64}
use Rattle.std.proofs.lemmas.List.{take_at}
use Rattle.fedi_outside.specs.Disks.{DiskCrashes, DiskState}
use Rattle.fedi_outside.specs.Keepers.{KeeperState}
use Rattle.fedi_outside.specs.Images.{Format, IsFormat, kept_in, record_code, size_code}
use Rattle.fedi_outside.specs.Known.{IsKnown, are_apart, records_told}
use Rattle.fedi_outside.proofs.Gates.{apart_at}
use Rattle.fedi_outside.proofs.ImageLemmas.{length_kept}
use Rattle.fedi_outside.proofs.ImageSteps.{SpellsBlock, of_some, record_read}
use Rattle.fedi_journal.specs.Blocks.{block_of, doubt_in, payload_of}
use Rattle.fedi_journal.specs.Finding.{IsSealed}

pub on_err : {T E : Type 0} (r : Result T E) (P : Type 0) → P → OnErr r P
on_err (Ok x) P p = tt
on_err (Err e) P p = p

-- what such a keeper shows
abbrev state : Option (List (List ℕ)) → ℕ → Option (List ℕ) → ℕ → ℕ → ℕ → KeeperState
state records held doubt spare end faults = record { records = records; held = held; doubt = doubt; spare = spare; end = end; faults = faults }

-- the same records and the same count of faults make the same state
pub shows_same : (held : ℕ) (doubt : Option (List ℕ)) (spare end : ℕ) {records before : Option (List (List ℕ))} {faults counted : ℕ} → records ≡ before → faults ≡ counted
    → state records held doubt spare end faults ≡ state before held doubt spare end counted
shows_same held doubt spare end {records} {before} {faults} {counted} same count =
    ap (λ (r : Option (List (List ℕ))). state r held doubt spare end faults) same ∙ ap (λ (n : ℕ). state before held doubt spare end n) count

-- each gate is this far before the next one, which is not after the end
pub apart_next : (step : ℕ) (gates : List ℕ) (end i : ℕ) → i < length gates → are_apart step gates end ≡ true → (get_or gates i end + step ≤ get_or gates (i + 1) end) × (get_or gates (i + 1) end ≤ end)
apart_next step gates end i within apart =
    let next : suc i ≡ i + 1 = omega arith in
    subst (λ (j : ℕ). (get_or gates i end + step ≤ get_or gates j end) × (get_or gates j end ≤ end)) next (apart_at step gates end i within apart)

-- ---- what is loaded

if_some : (o : Option (List ℕ)) (g : List ℕ → List (List ℕ)) (P : List (List ℕ) → Type 0) → ((bytes : List ℕ) → o ≡ Some bytes → P (g bytes)) → IfSome (option_map g o) P
if_some None g P each = tt
if_some (Some bytes) g P each = each bytes refl

none_behind : (rs : List (List ℕ)) (i : ℕ) → length rs ≤ i → slice_get rs i ≡ None
none_behind [] i behind = refl
none_behind (r ∷ rs) zero behind = absurd (omega (arith, behind))
none_behind (r ∷ rs) (suc i) behind = none_behind rs i (omega (arith, behind))

module _ (f : Format) (ok : IsFormat f) where
  -- past the count there is no record
  pub finds_none : (s : DiskState) (count place : ℕ) → count ≤ place → IfSome (records_told f count s) (λ records. None ≡ slice_get records place)
  finds_none s count place past =
      if_some s.reads (kept_in f count) _ (λ bytes is. sym (none_behind (kept_in f count bytes) place (omega (arith, past, length_kept f ok count bytes))))

  -- what is read after a gate is its record
  pub finds_some : (s : DiskState) (c : DiskCrashes) (end : ℕ) (gates : List ℕ) (doubt : Option (List ℕ)) → IsKnown f s c end gates doubt → IfSome s.reads c.may_leave → (place start count : ℕ) (read : List ℕ) → place < length gates
      → start ≡ get_or gates place end + 9 → count ≡ get_or gates (place + 1) end - get_or gates place end - (9 + f.width) → IfSome s.reads (λ all. read ≡ take count (drop start all))
      → IfSome (records_told f (length gates) s) (λ records. Some read ≡ slice_get records place)
  finds_some s c end gates doubt known stay place start count read within is_start is_count taken =
      if_some s.reads (kept_in f (length gates)) _ (λ bytes is.
      let here : read ≡ take (get_or gates (place + 1) end - get_or gates place end - (9 + f.width)) (drop (get_or gates place end + 9) bytes) =
      of_some s.reads (λ all. read ≡ take count (drop start all)) taken bytes is ∙ (ap (λ (n : ℕ). take n (drop start bytes)) is_count ∙ ap (λ (n : ℕ). take (get_or gates (place + 1) end - get_or gates place end - (9 + f.width)) (drop n bytes)) is_start) in
      ap (λ (l : List ℕ). Some l) here ∙ sym (record_read f ok s c end gates doubt known stay bytes is place within))

-- ---- the block

length_code : (n : ℕ) → length (to_be_bytes w64 n) ≡ 8
length_code n = refl

pub length_block : (p seal : List ℕ) → length (block_of p seal) ≡ 9 + length seal + length p
length_block p seal =
    omega (arith, length-append (to_be_bytes w64 (length p)) (p ++ (seal ++ 0 ∷ [])), length_code (length p), length-append p (seal ++ 0 ∷ []), length-append seal (0 ∷ []))

spelled : (f : Format) (before : List (List ℕ)) (p seal : List ℕ) → seal ≡ f.seal before p → block_of p seal ≡ record_code f before p ++ 0 ∷ []
unfolding record_code size_code
spelled f before p seal is =
    ap (block_of p) is ∙ sym (append_assoc (to_be_bytes w64 (length p)) (p ++ f.seal before p) (0 ∷ []) ∙ ap (λ (l : List ℕ). to_be_bytes w64 (length p) ++ l) (append_assoc p (f.seal before p) (0 ∷ [])))

pub spells : (f : Format) (ok : IsFormat f) (count : ℕ) (s : DiskState) (p seal block : List ℕ) → block ≡ block_of p seal → length seal ≡ f.width
    → ((bytes : List ℕ) → s.reads ≡ Some bytes → seal ≡ f.seal (kept_in f count bytes) p) → SpellsBlock f ok count s p block
unfolding SpellsBlock
spells f ok count s p seal block is wide sealed =
    (omega (arith, ap length is, length_block p seal, wide), λ bytes told. is ∙ spelled f (kept_in f count bytes) p seal (sealed bytes told))

behind_size : (p seal : List ℕ) → drop 8 (block_of p seal) ≡ p ++ (seal ++ 0 ∷ [])
behind_size p seal = refl

pub payload_back : (width : ℕ) (block p seal : List ℕ) → length seal ≡ width → block ≡ block_of p seal → payload_of width block ≡ p
payload_back width block p seal wide is =
    let size : length (block_of p seal) - (9 + width) ≡ length p = omega (arith, length_block p seal, wide) in
    ap (payload_of width) is ∙ (ap (λ (n : ℕ). take n (drop 8 (block_of p seal))) size ∙ (ap (take (length p)) (behind_size p seal) ∙ take_at p (seal ++ 0 ∷ []) (length p) refl))

-- if nothing is in doubt, nothing is in doubt with another block either
pub still_sure : (width : ℕ) (in_doubt : Bool) (block after : List ℕ) → doubt_in width in_doubt block ≡ None → doubt_in width in_doubt after ≡ None
still_sure width false block after is = refl
still_sure width true block after is = absurd (cc is)

pub end_same : (end width given n : ℕ) → given ≡ width → end + (9 + width + n) ≡ end + 9 + given + n
end_same end width given n is = omega (arith, is)

-- ---- what is remembered

pub some_back : (o : Option (List ℕ)) (g : List ℕ → List (List ℕ)) (rs : List (List ℕ)) → option_map g o ≡ Some rs → (bytes : List ℕ) × (o ≡ Some bytes) × (g bytes ≡ rs)
some_back None g rs is = absurd (cc is)
some_back (Some bytes) g rs is = (bytes, refl, cc is)

-- if the records are the same, the same is remembered of them
pub sealed_on : {S : Type 0} (f : Format) (after : List (List ℕ) → S) (seal : S) (n : ℕ) (old new : DiskState) → records_told f n new ≡ records_told f n old
    → ((bytes : List ℕ) → old.reads ≡ Some bytes → IsSealed f after n seal bytes) → (bytes : List ℕ) → new.reads ≡ Some bytes → IsSealed f after n seal bytes
sealed_on f after seal n old new same was bytes is =
    let here = some_back old.reads (kept_in f n) (kept_in f n bytes) (sym same ∙ ap (option_map (kept_in f n)) is) in
    was here.0 here.1 ∙ ap after here.2

pushed_back : (o : Option (List (List ℕ))) (p : List ℕ) (rs : List (List ℕ)) → option_map (λ kept. kept ++ p ∷ []) o ≡ Some rs → (kept : List (List ℕ)) × (o ≡ Some kept) × (kept ++ p ∷ [] ≡ rs)
pushed_back None p rs is = absurd (cc is)
pushed_back (Some kept) p rs is = (kept, refl, cc is)

-- if there is one more record, it is remembered too
pub sealed_more : {S : Type 0} (f : Format) (after : List (List ℕ) → S) (seal next : S) (n more : ℕ) (p : List ℕ) (old new : DiskState)
    → records_told f more new ≡ option_map (λ kept. kept ++ p ∷ []) (records_told f n old) → ((rs : List (List ℕ)) → seal ≡ after rs → next ≡ after (rs ++ p ∷ []))
    → ((bytes : List ℕ) → old.reads ≡ Some bytes → IsSealed f after n seal bytes) → (bytes : List ℕ) → new.reads ≡ Some bytes → IsSealed f after more next bytes
sealed_more f after seal next n more p old new grown goes_on was bytes is =
    let pushed = pushed_back (records_told f n old) p (kept_in f more bytes) (sym grown ∙ ap (option_map (kept_in f more)) is) in
    let here = some_back old.reads (kept_in f n) pushed.0 pushed.1 in
    goes_on pushed.0 (was here.0 here.1 ∙ ap after here.2) ∙ ap after pushed.2

-- the seal of a record that is to be written
pub seal_spelled : {S : Type 0} (f : Format) (after : List (List ℕ) → S) (seal next : S) (n : ℕ) (p bytes_next : List ℕ) (s : DiskState)
    → ((rs : List (List ℕ)) → seal ≡ after rs → next ≡ after (rs ++ p ∷ [])) → ((rs : List (List ℕ)) (r : List ℕ) → next ≡ after (rs ++ r ∷ []) → bytes_next ≡ f.seal rs r)
    → ((bytes : List ℕ) → s.reads ≡ Some bytes → IsSealed f after n seal bytes) → (bytes : List ℕ) → s.reads ≡ Some bytes → bytes_next ≡ f.seal (kept_in f n bytes) p
seal_spelled f after seal next n p bytes_next s goes_on spells was bytes is = spells (kept_in f n bytes) p (goes_on (kept_in f n bytes) (was bytes is))
