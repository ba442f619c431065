-- What is known of a disk that was made a journal.
use Rattle.std.proofs.Common.{◌≡◌, ℕ, ◌+◌, ◌<◌, List, [], ◌∷◌, ◌++◌, length, drop, refl, sym, ◌∙◌, ap, subst, append_assoc, arith}
use Rattle.std.proofs.lemmas.List.{append-nil}
use Rattle.std.specs.Prelude.{Option, Some, None, option_map, IfSome}
use Rattle.fedi_outside.specs.Disks.{DiskCrashes, DiskState, LeavesOnly, spliced}
use Rattle.fedi_outside.specs.Images.{Format, IsClosedAfter, IsFormat, front, gates_of, kept_in}
use Rattle.fedi_outside.specs.Known.{IsKnown, records_told}
use Rattle.fedi_outside.proofs.ImageLemmas.{closed_intro}
use Rattle.fedi_outside.proofs.ImageSteps.{no_doubt, of_some}
use Rattle.fedi_journal.specs.Finding.{IsSealed}
use Rattle.fedi_journal.specs.Making.{blank}

-- bytes that are reported after a write were reported before
was_told : (o after : Option (List ℕ)) (g : List ℕ → List ℕ) → after ≡ option_map g o → (bytes : List ℕ) → after ≡ Some bytes → (here : List ℕ) × (bytes ≡ g here)
was_told None after g is bytes told = absurd (cc (is, told))
was_told (Some here) after g is bytes told = let same : g here ≡ bytes = cc (is, told) in (here, sym same)

module _ (f : Format) (ok : IsFormat f) where
  front_none : front f [] ≡ f.magic
  unfolding front
  front_none = append-nil f.magic

  kept_none : (bytes : List ℕ) → kept_in f 0 bytes ≡ []
  unfolding kept_in
  kept_none bytes = refl

  blank_closed : (here bytes : List ℕ) → bytes ≡ spliced 0 (blank f) here → IsClosedAfter f [] bytes
  blank_closed here bytes is =
      let rest = drop (0 + length (blank f)) here in
      closed_intro f ok [] bytes rest (is ∙ (append_assoc f.magic (0 ∷ []) rest ∙ ap (λ (l : List ℕ). l ++ 0 ∷ rest) (sym front_none)))

  pub made_known : (s : DiskState) (c : DiskCrashes) (before : Option (List ℕ)) → s.reads ≡ option_map (spliced 0 (blank f)) before → IfSome s.reads (LeavesOnly c) → 8 < s.size → IsKnown f s c 8 [] None
  made_known s c before written durable long = record {
    inside = long;
    apart = refl;
    fits = omega arith;
    fits_doubt = no_doubt f ok 8;
    ends = λ bytes is. sym (ap length (ap (front f) (kept_none bytes) ∙ front_none) ∙ ok.eight);
    indexed = λ bytes is. sym (ap (λ (rs : List (List ℕ)). gates_of f 8 rs) (kept_none bytes));
    stands = λ bytes image is left.
        let past = was_told before s.reads _ written bytes is in
        let closed : IsClosedAfter f (kept_in f 0 bytes) image =
        subst (λ (rs : List (List ℕ)). IsClosedAfter f rs image) (sym (kept_none bytes)) (subst (IsClosedAfter f []) (sym (of_some s.reads (LeavesOnly c) durable bytes is image left)) (blank_closed past.0 bytes past.1)) in
        record { closed = λ _. closed; opened = λ _. closed };
  }

  -- no records are reported, if the bytes were
  pub no_records : (s : DiskState) (before : Option (List ℕ)) (g : List ℕ → List ℕ) → s.reads ≡ option_map g before → records_told f 0 s ≡ option_map (λ _. []) before
  no_records s None g written = ap (λ (o : Option (List ℕ)). option_map (kept_in f 0) o) written
  no_records s (Some here) g written = ap (λ (o : Option (List ℕ)). option_map (kept_in f 0) o) written ∙ ap (λ (rs : List (List ℕ)). Some rs) (kept_none (g here))

-- nothing is remembered of no records
pub sealed_none : {S : Type 0} (f : Format) (after : List (List ℕ) → S) (seal : S) (bytes : List ℕ) → seal ≡ after [] → IsSealed f after 0 seal bytes
unfolding kept_in
sealed_none f after seal bytes is = is
