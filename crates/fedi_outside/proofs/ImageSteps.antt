-- What is still known of the disk of a journal after each of its device calls.
use Rattle.std.proofs.Common.{◌≡◌, ◌⊎◌, inl, inr, ⊎_elim, ℕ, suc, ◌+◌, ◌-◌, ◌<◌, ◌≤◌, ◌^◌, max, List, [], ◌∷◌, ◌++◌, length, get_or, take, drop, refl, sym, ◌∙◌, ap, subst, arith, length-append}
use Rattle.std.specs.Prelude.{Option, Some, None, option_map, is_some, slice_get, IfSome}
use Rattle.std.proofs.lemmas.Bool.{cases_eq}
use Rattle.fedi_outside.specs.Disks.{DiskState, DiskCrashes, Elapses, HasTorn, IsTorn, LeavesOnly, MayTear, TearsTold, after_write, spliced}
use Rattle.fedi_outside.specs.Keepers.{IfTold, MayLeave, PassesTime}
use Rattle.fedi_outside.specs.Images.{Format, IsClosedAfter, IsFormat, IsImage, StandsAtGate, StandsFor, front, gate_behind, gates_of, kept_in, record_code, with_doubt}
use Rattle.fedi_outside.specs.Known.{FitsDoubt, IsKnown, record_crashes, records_told}
use Rattle.fedi_outside.proofs.ImageLemmas.{IsStaged, closes, closes_again, kept_front, kept_image, length_front_push, length_kept, opened_split, opens, short_records, staged, staged_closed, torn_behind}
use Rattle.fedi_outside.proofs.Gates.{apart_push, gates_grown, record_found}

-- ---- what is reported before and after

-- reported before and after, or neither
pub StaysTold : Option (List ℕ) → Option (List ℕ) → Type 0
StaysTold None after = after ≡ None
StaysTold (Some before) after = (bytes : List ℕ) × (after ≡ Some bytes)

pub torn_told : (at : ℕ) (bytes : List ℕ) (before after : Option (List ℕ)) → TearsTold at bytes before after → StaysTold before after
unfolding StaysTold
torn_told at bytes None after tears = tears
torn_told at bytes (Some here) after tears = (tears.0, tears.1)

pub written_told : (g : List ℕ → List ℕ) (before after : Option (List ℕ)) → after ≡ option_map g before → StaysTold before after
unfolding StaysTold
written_told g None after is = is
written_told g (Some here) after is = (g here, is)

pub same_told : (before after : Option (List ℕ)) → after ≡ before → StaysTold before after
unfolding StaysTold
same_told None after is = is
same_told (Some here) after is = (here, is)

told_on : (a b c : Option (List ℕ)) → StaysTold a b → StaysTold b c → StaysTold a c
unfolding StaysTold
told_on None b c one two = subst (λ (o : Option (List ℕ)). StaysTold o c) one two
told_on (Some here) b c one two = subst (λ (o : Option (List ℕ)). StaysTold o c) one.1 two

told_before : (before after : Option (List ℕ)) → StaysTold before after → (bytes : List ℕ) → after ≡ Some bytes → (here : List ℕ) × (before ≡ Some here)
unfolding StaysTold
told_before None after told bytes is = absurd (cc (told, is))
told_before (Some here) after told bytes is = (here, refl)

told_after : (before after : Option (List ℕ)) → StaysTold before after → (here : List ℕ) → before ≡ Some here → (bytes : List ℕ) × (after ≡ Some bytes)
unfolding StaysTold
told_after None after told here is = absurd (cc is)
told_after (Some there) after told here is = told

told_same : (before after : Option (List ℕ)) → StaysTold before after → is_some after ≡ is_some before
unfolding StaysTold
told_same None after told = ap is_some told
told_same (Some here) after told = ap is_some told.1

pub of_some : (o : Option (List ℕ)) (P : List ℕ → Type 0) → IfSome o P → (bytes : List ℕ) → o ≡ Some bytes → P bytes
of_some None P if_some bytes is = absurd (cc is)
of_some (Some here) P if_some bytes is = let same : here ≡ bytes = cc is in subst P same if_some

if_told : (o : Option (List ℕ)) (g : List ℕ → List (List ℕ)) (P : List (List ℕ) → Type 0) → ((bytes : List ℕ) → o ≡ Some bytes → P (g bytes)) → IfTold (is_some o) (option_map g o) P
if_told None g P each = tt
if_told (Some bytes) g P each = each bytes refl

-- records that are reported before and after
told_records : (g h : List ℕ → List (List ℕ)) (k : List (List ℕ) → List (List ℕ)) (before after : Option (List ℕ)) → StaysTold before after
    → ((here there : List ℕ) → before ≡ Some here → after ≡ Some there → h there ≡ k (g here)) → option_map h after ≡ option_map k (option_map g before)
unfolding StaysTold
told_records g h k None after told same = ap (option_map h) told
told_records g h k (Some here) after told same = ap (option_map h) told.1 ∙ ap (λ (l : List (List ℕ)). Some l) (same here told.0 refl told.1)

told_again : (o : Option (List (List ℕ))) → option_map (λ kept. kept) o ≡ o
told_again None = refl
told_again (Some kept) = refl

-- after a write that is synced, one image is left
one_left : (g : List ℕ → List ℕ) (before after : Option (List ℕ)) (crashes : DiskCrashes) → after ≡ option_map g before → IfSome after (LeavesOnly crashes)
    → (bytes image : List ℕ) → before ≡ Some bytes → crashes.may_leave image → image ≡ g bytes
one_left g before after crashes written durable bytes image is left = of_some after (LeavesOnly crashes) durable (g bytes) (written ∙ ap (option_map g) is) image left

module _ (f : Format) (ok : IsFormat f) where
  -- ---- images

  -- the records, without the one in doubt or with it
  pub Holds : List (List ℕ) → Option (List ℕ) → List ℕ → Type 0
  Holds rs doubt image = IsClosedAfter f rs image ⊎ IsClosedAfter f (with_doubt rs doubt) image

  gate_at : (xs : List ℕ) (byte : ℕ) (ys : List ℕ) → get_or (xs ++ byte ∷ ys) (length xs) 0 ≡ byte
  gate_at [] byte ys = refl
  gate_at (x ∷ xs) byte ys = gate_at xs byte ys

  gate_closed : (rs : List (List ℕ)) (image : List ℕ) → IsClosedAfter f rs image → gate_behind f rs image ≡ 0
  gate_closed rs image closed = ap (gate_behind f rs) closed ∙ gate_at (front f rs) 0 (drop (length (front f rs) + 1) image)

  gate_open : (rs : List (List ℕ)) (p image : List ℕ) → IsClosedAfter f (rs ++ p ∷ []) image → gate_behind f rs image ≡ 1
  gate_open rs p image closed =
      ap (gate_behind f rs) (opened_split f ok rs p image closed) ∙ gate_at (front f rs) 1 (record_code f rs p ++ 0 ∷ drop (length (front f (rs ++ p ∷ [])) + 1) image)

  stands_of : (rs : List (List ℕ)) (doubt : Option (List ℕ)) (image : List ℕ) → Holds rs doubt image → StandsAtGate f rs (with_doubt rs doubt) image
  unfolding Holds
  stands_of rs None image (inl closed) = record { closed = λ _. closed; opened = λ _. closed }
  stands_of rs None image (inr closed) = record { closed = λ _. closed; opened = λ _. closed }
  stands_of rs (Some p) image (inl closed) = record { closed = λ _. closed; opened = λ is_open. absurd (is_open (gate_closed rs image closed)) }
  stands_of rs (Some p) image (inr closed) = record { closed = λ shut. absurd (omega (arith, shut, gate_open rs p image closed)); opened = λ _. closed }

  holds_of : (rs : List (List ℕ)) (doubt : Option (List ℕ)) (image : List ℕ) → StandsAtGate f rs (with_doubt rs doubt) image → Holds rs doubt image
  unfolding Holds
  holds_of rs doubt image stands = ⊎_elim (λ shut. inl (stands.closed shut)) (λ is_open. inr (stands.opened is_open)) (cases_eq (gate_behind f rs image) 0)

  sure : (rs : List (List ℕ)) (image : List ℕ) → Holds rs None image → IsClosedAfter f rs image
  unfolding Holds
  sure rs image (inl closed) = closed
  sure rs image (inr closed) = closed

  pub no_doubt : (end : ℕ) → FitsDoubt f end None
  no_doubt end p none = absurd (cc none)

  pub one_doubt : (end : ℕ) (p : List ℕ) → end + (10 + f.width + length p) ≤ 2 ^ 62 → FitsDoubt f end (Some p)
  one_doubt end p room other is = let same : p ≡ other = cc is in subst (λ (r : List ℕ). end + (10 + f.width + length r) ≤ 2 ^ 62) same room

  kept_holds : (rs : List (List ℕ)) (doubt : Option (List ℕ)) (image : List ℕ) → length (front f rs) < 2 ^ 64 → FitsDoubt f (length (front f rs)) doubt → Holds rs doubt image → kept_in f (length rs) image ≡ rs
  unfolding Holds
  kept_holds rs doubt image fits fits_doubt (inl closed) = kept_image f ok rs image (short_records f ok rs fits) closed
  kept_holds rs None image fits fits_doubt (inr closed) = kept_image f ok rs image (short_records f ok rs fits) closed
  kept_holds rs (Some p) image fits fits_doubt (inr closed) = ap (kept_in f (length rs)) (opened_split f ok rs p image closed) ∙ kept_front f ok rs _ (short_records f ok rs fits)

  -- a list that such an image represents
  list_left : (rs : List (List ℕ)) (doubt : Option (List ℕ)) (image : List ℕ) (list : List (List ℕ)) → length (front f rs) < 2 ^ 64 → FitsDoubt f (length (front f rs)) doubt
      → Holds rs doubt image → StandsFor f image list → MayLeave rs doubt list
  unfolding Holds
  list_left rs None image list fits fits_doubt (inl closed) stands = sym (stands rs (record { short = short_records f ok rs fits; spelled = closed }))
  list_left rs None image list fits fits_doubt (inr closed) stands = sym (stands rs (record { short = short_records f ok rs fits; spelled = closed }))
  list_left rs (Some p) image list fits fits_doubt (inl closed) stands = inl (sym (stands rs (record { short = short_records f ok rs fits; spelled = closed })))
  list_left rs (Some p) image list fits fits_doubt (inr closed) stands =
      let room = fits_doubt p refl in
      inr (sym (stands (rs ++ p ∷ []) (record { short = short_records f ok (rs ++ p ∷ []) (omega (arith, room, length_front_push f ok rs p)); spelled = closed })))

  -- such an image is a file of one of these lists
  image_of : (rs : List (List ℕ)) (doubt : Option (List ℕ)) (image : List ℕ) → length (front f rs) < 2 ^ 64 → FitsDoubt f (length (front f rs)) doubt → Holds rs doubt image
      → (list : List (List ℕ)) × IsImage f list image × MayLeave rs doubt list
  unfolding Holds
  image_of rs None image fits fits_doubt (inl closed) = (rs, record { short = short_records f ok rs fits; spelled = closed }, refl)
  image_of rs None image fits fits_doubt (inr closed) = (rs, record { short = short_records f ok rs fits; spelled = closed }, refl)
  image_of rs (Some p) image fits fits_doubt (inl closed) = (rs, record { short = short_records f ok rs fits; spelled = closed }, inl refl)
  image_of rs (Some p) image fits fits_doubt (inr closed) =
      (rs ++ p ∷ [], record { short = short_records f ok (rs ++ p ∷ []) (omega (arith, fits_doubt p refl, length_front_push f ok rs p)); spelled = closed }, inr refl)

  inside_closed : (rs : List (List ℕ)) (image : List ℕ) → IsClosedAfter f rs image → length (front f rs) < length image
  inside_closed rs image closed = omega (arith, ap length closed, length-append (front f rs) (0 ∷ drop (length (front f rs) + 1) image))

  inside : (rs : List (List ℕ)) (doubt : Option (List ℕ)) (image : List ℕ) → Holds rs doubt image → length (front f rs) < length image
  unfolding Holds
  inside rs doubt image (inl closed) = inside_closed rs image closed
  inside rs None image (inr closed) = inside_closed rs image closed
  inside rs (Some p) image (inr closed) = omega (arith, inside_closed (rs ++ p ∷ []) image closed, length_front_push f ok rs p)

  shut_done : (rs : List (List ℕ)) (doubt : Option (List ℕ)) (gate : ℕ) (image : List ℕ) → gate ≡ length (front f rs) → Holds rs doubt image → IsClosedAfter f rs (spliced gate (0 ∷ []) image)
  unfolding Holds
  shut_done rs doubt gate image is (inl closed) = closes f ok rs image gate is closed
  shut_done rs None gate image is (inr closed) = closes f ok rs image gate is closed
  shut_done rs (Some p) gate image is (inr closed) = closes_again f ok rs p image gate is closed

  shut_torn : (rs : List (List ℕ)) (doubt : Option (List ℕ)) (gate : ℕ) (old new : List ℕ) → gate ≡ length (front f rs) → Holds rs doubt old → IsTorn gate (0 ∷ []) old new → Holds rs doubt new
  unfolding Holds
  shut_torn rs doubt gate old new is here torn =
      ⊎_elim (λ same. subst (Holds rs doubt) (sym same) here) (λ done. inl (subst (IsClosedAfter f rs) (sym done) (shut_done rs doubt gate old is here)))
      (torn.single refl (omega (arith, is, inside rs doubt old here)))

  open_torn : (rs : List (List ℕ)) (p : List ℕ) (gate : ℕ) (old new : List ℕ) → gate ≡ length (front f rs) → IsStaged f ok rs p old → IsTorn gate (1 ∷ []) old new → Holds rs (Some p) new
  unfolding Holds
  open_torn rs p gate old new is ready torn =
      let closed = staged_closed f ok rs p old ready in
      ⊎_elim (λ same. inl (subst (IsClosedAfter f rs) (sym same) closed)) (λ done. inr (subst (IsClosedAfter f (rs ++ p ∷ [])) (sym done) (opens f ok rs p old gate is ready)))
      (torn.single refl (omega (arith, is, inside_closed rs old closed)))

  -- ---- what is known of a disk

  known_holds : (s : DiskState) (c : DiskCrashes) (end : ℕ) (gates : List ℕ) (doubt : Option (List ℕ)) → IsKnown f s c end gates doubt
      → (bytes image : List ℕ) → s.reads ≡ Some bytes → c.may_leave image → Holds (kept_in f (length gates) bytes) doubt image
  known_holds s c end gates doubt known bytes image is left = holds_of _ doubt image (known.stands bytes image is left)

  -- the bytes that reads give hold the records too
  pub read_holds : (s : DiskState) (c : DiskCrashes) (end : ℕ) (gates : List ℕ) (doubt : Option (List ℕ)) → IsKnown f s c end gates doubt → IfSome s.reads c.may_leave
      → (bytes : List ℕ) → s.reads ≡ Some bytes → Holds (kept_in f (length gates) bytes) doubt bytes
  read_holds s c end gates doubt known stay bytes is = known_holds s c end gates doubt known bytes bytes is (of_some s.reads c.may_leave stay bytes is)

  some_is : (o : Option (List ℕ)) (g : List ℕ → List (List ℕ)) (kept : List (List ℕ)) → option_map g o ≡ Some kept → (bytes : List ℕ) × (o ≡ Some bytes) × (g bytes ≡ kept)
  some_is None g kept is = absurd (cc is)
  some_is (Some bytes) g kept is = (bytes, refl, cc is)

  -- each image that a crash may leave is a file of the records, or of these and the one in doubt
  pub images_left : (s : DiskState) (c : DiskCrashes) (end : ℕ) (gates : List ℕ) (doubt : Option (List ℕ)) → IsKnown f s c end gates doubt → (kept : List (List ℕ)) → records_told f (length gates) s ≡ Some kept
      → (image : List ℕ) → c.may_leave image → (list : List (List ℕ)) × IsImage f list image × MayLeave kept doubt list
  images_left s c end gates doubt known kept told image left =
      let here = some_is s.reads (kept_in f (length gates)) kept told in
      let bytes = here.0 in
      let ends = known.ends bytes here.1 in
      let found = image_of (kept_in f (length gates) bytes) doubt image (omega (arith, known.fits, ends)) (λ p in_doubt. omega (arith, ends, known.fits_doubt p in_doubt)) (known_holds s c end gates doubt known bytes image here.1 left) in
      (found.0, found.1, subst (λ (rs : List (List ℕ)). MayLeave rs doubt found.0) here.2 found.2)

  -- what was known of the records still holds, for another state of the disk and with this doubt
  pub record IsCarried (old new : DiskState) (after : DiskCrashes) (end : ℕ) (gates : List ℕ) (doubt : Option (List ℕ)) : Type 0 where
    pub records : records_told f (length gates) new ≡ records_told f (length gates) old
    pub known : IsKnown f new after end gates doubt

  carry : (old new : DiskState) (before after : DiskCrashes) (end : ℕ) (gates : List ℕ) (was doubt : Option (List ℕ)) → IsKnown f old before end gates was → old.size ≤ new.size
      → StaysTold old.reads new.reads → IfSome new.reads after.may_leave → FitsDoubt f end doubt
      → ((bytes image : List ℕ) → old.reads ≡ Some bytes → after.may_leave image → Holds (kept_in f (length gates) bytes) doubt image) → IsCarried old new after end gates doubt
  carry old new before after end gates was doubt known grown told stay fits holds =
      let n = length gates in
      let same : (here there : List ℕ) → old.reads ≡ Some here → new.reads ≡ Some there → kept_in f n there ≡ kept_in f n here = λ here there is_here is_there.
      let rs = kept_in f n here in
      ap (λ (k : ℕ). kept_in f k there) (sym (length_kept f ok n here))
      ∙ kept_holds rs doubt there (omega (arith, known.fits, known.ends here is_here)) (λ p in_doubt. omega (arith, known.ends here is_here, fits p in_doubt)) (holds here there is_here (of_some new.reads after.may_leave stay there is_there)) in
      let past : (there : List ℕ) → new.reads ≡ Some there → (here : List ℕ) × (old.reads ≡ Some here) = told_before old.reads new.reads told in
      record {
        records = told_records (kept_in f n) (kept_in f n) (λ kept. kept) old.reads new.reads told same ∙ told_again (records_told f n old);
        known = record {
          inside = omega (arith, known.inside, grown);
          apart = known.apart;
          fits = known.fits;
          fits_doubt = fits;
          ends = λ there is. let w = past there is in known.ends w.0 w.1 ∙ ap (λ (l : List (List ℕ)). length (front f l)) (sym (same w.0 there w.1 is));
          indexed = λ there is. let w = past there is in known.indexed w.0 w.1 ∙ ap (gates_of f 8) (sym (same w.0 there w.1 is));
          stands = λ there image is left. let w = past there is in
              subst (λ (l : List (List ℕ)). StandsAtGate f l (with_doubt l doubt) image) (sym (same w.0 there w.1 is)) (stands_of (kept_in f n w.0) doubt image (holds w.0 image w.1 left));
        };
      }

  -- the same disk with the same bytes and no more images
  pub read_carried : (old new : DiskState) (before after : DiskCrashes) (end : ℕ) (gates : List ℕ) (doubt : Option (List ℕ)) → IsKnown f old before end gates doubt → new.size ≡ old.size → new.reads ≡ old.reads
      → IfSome new.reads after.may_leave → Elapses before after before.may_leave → IsCarried old new after end gates doubt
  read_carried old new before after end gates doubt known size same stay time =
      carry old new before after end gates doubt doubt known (omega (arith, size)) (same_told old.reads new.reads same) stay known.fits_doubt
      (λ bytes image is left. known_holds old before end gates doubt known bytes image is (time.now image left))

  -- the write of a closed gate failed
  pub settle_failed : (old new : DiskState) (before after : DiskCrashes) (end : ℕ) (gates : List ℕ) (doubt : Option (List ℕ)) → IsKnown f old before end gates doubt → IfSome new.reads after.may_leave
      → HasTorn end (0 ∷ []) old new → Elapses before after (MayTear end (0 ∷ []) before) → IsCarried old new after end gates doubt
  settle_failed old new before after end gates doubt known stay torn time =
      carry old new before after end gates doubt doubt known torn.no_shorter (torn_told end (0 ∷ []) old.reads new.reads torn.reads) stay known.fits_doubt
      (λ bytes image is left. let from = time.now image left in shut_torn (kept_in f (length gates) bytes) doubt end from.0 image (known.ends bytes is) (known_holds old before end gates doubt known bytes from.0 is from.1) from.2)

  -- it was done and is durable
  pub settle_done : (old new : DiskState) (before after : DiskCrashes) (end : ℕ) (gates : List ℕ) (doubt : Option (List ℕ)) → IsKnown f old before end gates doubt → IfSome old.reads before.may_leave → IfSome new.reads after.may_leave
      → new ≡ after_write end (0 ∷ []) old → IfSome new.reads (LeavesOnly after) → IsCarried old new after end gates None
  unfolding Holds
  settle_done old new before after end gates doubt known stayed stay written durable =
      let reads : new.reads ≡ option_map (spliced end (0 ∷ [])) old.reads = ap (λ (d : DiskState). d.reads) written in
      carry old new before after end gates doubt None known (omega (arith, ap (λ (d : DiskState). d.size) written)) (written_told _ old.reads new.reads reads) stay (no_doubt end)
      (λ bytes image is left.
      let rs = kept_in f (length gates) bytes in
      inl (subst (IsClosedAfter f rs) (sym (one_left _ old.reads new.reads after reads durable bytes image is left)) (shut_done rs doubt end bytes (known.ends bytes is) (read_holds old before end gates doubt known stayed bytes is))))

  -- the write of a record after the closed gate failed
  pub stage_failed : (old new : DiskState) (before after : DiskCrashes) (end at : ℕ) (gates block : List ℕ) → at ≡ end + 1 → IsKnown f old before end gates None → IfSome new.reads after.may_leave
      → HasTorn at block old new → Elapses before after (MayTear at block before) → IsCarried old new after end gates None
  unfolding Holds
  stage_failed old new before after end at gates block is_at known stay torn time =
      carry old new before after end gates None None known torn.no_shorter (torn_told at block old.reads new.reads torn.reads) stay (no_doubt end)
      (λ bytes image is left. let from = time.now image left in
      inl (torn_behind f ok (kept_in f (length gates) bytes) at block from.0 image (omega (arith, is_at, known.ends bytes is)) from.2 (sure _ _ (known_holds old before end gates None known bytes from.0 is from.1))))

  -- a record follows the closed gate, and no other image is left
  pub record IsReady (old mid : DiskState) (between : DiskCrashes) (end : ℕ) (gates p : List ℕ) : Type 0 where
    pub grown : max old.size (end + (10 + f.width + length p)) ≤ mid.size
    pub told : StaysTold old.reads mid.reads
    pub staged : (bytes image : List ℕ) → old.reads ≡ Some bytes → between.may_leave image → IsStaged f ok (kept_in f (length gates) bytes) p image

  -- how the code encodes the record after the gate, whatever records come before it
  unfoldable pub SpellsBlock : ℕ → DiskState → List ℕ → List ℕ → Type 0
  SpellsBlock count s p block = (length block ≡ 9 + f.width + length p) × ((bytes : List ℕ) → s.reads ≡ Some bytes → block ≡ record_code f (kept_in f count bytes) p ++ 0 ∷ [])

  pub stage_done : (old mid : DiskState) (before between : DiskCrashes) (end at : ℕ) (gates block p : List ℕ) → at ≡ end + 1 → SpellsBlock (length gates) old p block → IsKnown f old before end gates None
      → IfSome old.reads before.may_leave → mid ≡ after_write at block old → IfSome mid.reads (LeavesOnly between) → IsReady old mid between end gates p
  unfolding SpellsBlock
  stage_done old mid before between end at gates block p is_at spells known stayed written durable =
      let reads : mid.reads ≡ option_map (spliced at block) old.reads = ap (λ (d : DiskState). d.reads) written in
      record {
        grown = omega (arith, ap (λ (d : DiskState). d.size) written, spells.0, is_at);
        told = written_told _ old.reads mid.reads reads;
        staged = λ bytes image is left.
            let rs = kept_in f (length gates) bytes in
            subst (IsStaged f ok rs p) (sym (one_left _ old.reads mid.reads between reads durable bytes image is left))
            (staged f ok rs p block bytes at (omega (arith, is_at, known.ends bytes is)) (spells.1 bytes is) (sure _ _ (read_holds old before end gates None known stayed bytes is)));
      }

  -- the write of an open gate before it failed
  pub open_failed : (old mid new : DiskState) (before between after : DiskCrashes) (end : ℕ) (gates p : List ℕ) → end + (10 + f.width + length p) ≤ 2 ^ 62 → IsKnown f old before end gates None → IsReady old mid between end gates p
      → IfSome new.reads after.may_leave → HasTorn end (1 ∷ []) mid new → Elapses between after (MayTear end (1 ∷ []) between) → IsCarried old new after end gates (Some p)
  open_failed old mid new before between after end gates p room known ready stay torn time =
      carry old new before after end gates None (Some p) known (omega (arith, ready.grown, torn.no_shorter)) (told_on old.reads mid.reads new.reads ready.told (torn_told end (1 ∷ []) mid.reads new.reads torn.reads)) stay (one_doubt end p room)
      (λ bytes image is left. let from = time.now image left in open_torn (kept_in f (length gates) bytes) p end from.0 image (known.ends bytes is) (ready.staged bytes from.0 is from.1) from.2)

  -- it was done and is durable: there is one more record
  pub record HasGrown (old new : DiskState) (after : DiskCrashes) (end : ℕ) (gates p : List ℕ) : Type 0 where
    pub records : records_told f (length (gates ++ end ∷ [])) new ≡ option_map (λ kept. kept ++ p ∷ []) (records_told f (length gates) old)
    pub known : IsKnown f new after (end + (9 + f.width + length p)) (gates ++ end ∷ []) None

  pub open_done : (old mid new : DiskState) (before between after : DiskCrashes) (end : ℕ) (gates p : List ℕ) → end + (10 + f.width + length p) ≤ 2 ^ 62 → IsKnown f old before end gates None → IsReady old mid between end gates p
      → IfSome mid.reads between.may_leave → IfSome new.reads after.may_leave → new ≡ after_write end (1 ∷ []) mid → IfSome new.reads (LeavesOnly after) → HasGrown old new after end gates p
  open_done old mid new before between after end gates p room known ready stays stay written durable =
      let n = length gates in
      let more = length (gates ++ end ∷ []) in
      let reads : new.reads ≡ option_map (spliced end (1 ∷ [])) mid.reads = ap (λ (d : DiskState). d.reads) written in
      let told : StaysTold old.reads new.reads = told_on old.reads mid.reads new.reads ready.told (written_told _ mid.reads new.reads reads) in
      let closed : (bytes image : List ℕ) → old.reads ≡ Some bytes → after.may_leave image → IsClosedAfter f (kept_in f n bytes ++ p ∷ []) image = λ bytes image is left.
      let rs = kept_in f n bytes in
      let here = told_after old.reads mid.reads ready.told bytes is in
      let ready_here = ready.staged bytes here.0 is (of_some mid.reads between.may_leave stays here.0 here.1) in
      subst (IsClosedAfter f (rs ++ p ∷ [])) (sym (one_left _ mid.reads new.reads after reads durable here.0 image here.1 left)) (opens f ok rs p here.0 end (known.ends bytes is) ready_here) in
      let kept : (here there : List ℕ) → old.reads ≡ Some here → new.reads ≡ Some there → kept_in f more there ≡ kept_in f n here ++ p ∷ [] = λ here there is_here is_there.
      let rs = kept_in f n here in
      let count : length (rs ++ p ∷ []) ≡ more = omega (arith, length-append rs (p ∷ []), length_kept f ok n here, length-append gates (end ∷ [])) in
      ap (λ (k : ℕ). kept_in f k there) (sym count)
      ∙ kept_image f ok (rs ++ p ∷ []) there (short_records f ok (rs ++ p ∷ []) (omega (arith, length_front_push f ok rs p, known.ends here is_here, room))) (closed here there is_here (of_some new.reads after.may_leave stay there is_there)) in
      let past : (there : List ℕ) → new.reads ≡ Some there → (here : List ℕ) × (old.reads ≡ Some here) = told_before old.reads new.reads told in
      record {
        records = told_records (kept_in f n) (kept_in f more) (λ rs. rs ++ p ∷ []) old.reads new.reads told kept;
        known = record {
          inside = omega (arith, ready.grown, ap (λ (d : DiskState). d.size) written);
          apart = apart_push (9 + f.width) gates end (end + (9 + f.width + length p)) known.apart (omega arith);
          fits = omega (arith, room);
          fits_doubt = λ q none. absurd (cc none);
          ends = λ there is. let w = past there is in omega (arith, known.ends w.0 w.1, length_front_push f ok (kept_in f n w.0) p, ap (λ (l : List (List ℕ)). length (front f l)) (kept w.0 there w.1 is));
          indexed = λ there is. let w = past there is in gates_grown f ok (kept_in f n w.0) p gates end (known.indexed w.0 w.1) (known.ends w.0 w.1) ∙ ap (gates_of f 8) (sym (kept w.0 there w.1 is));
          stands = λ there image is left. let w = past there is in
              subst (λ (l : List (List ℕ)). StandsAtGate f l l image) (sym (kept w.0 there w.1 is)) (let here = closed w.0 image w.1 left in record { closed = λ _. here; opened = λ _. here });
        };
      }

  begins : (rs : List (List ℕ)) (doubt : Option (List ℕ)) (image : List ℕ) → Holds rs doubt image → (rest : List ℕ) × (image ≡ front f rs ++ rest)
  unfolding Holds
  begins rs doubt image (inl closed) = (0 ∷ drop (length (front f rs) + 1) image, closed)
  begins rs None image (inr closed) = (0 ∷ drop (length (front f rs) + 1) image, closed)
  begins rs (Some p) image (inr closed) = (1 ∷ (record_code f rs p ++ 0 ∷ drop (length (front f (rs ++ p ∷ [])) + 1) image), opened_split f ok rs p image closed)

  -- between a gate and the next one, reads give its record
  pub record_read : (s : DiskState) (c : DiskCrashes) (end : ℕ) (gates : List ℕ) (doubt : Option (List ℕ)) → IsKnown f s c end gates doubt → IfSome s.reads c.may_leave → (bytes : List ℕ) → s.reads ≡ Some bytes
      → (i : ℕ) → i < length gates → slice_get (kept_in f (length gates) bytes) i ≡ Some (take (get_or gates (i + 1) end - get_or gates i end - (9 + f.width)) (drop (get_or gates i end + 9) bytes))
  record_read s c end gates doubt known stay bytes is i within =
      let rs = kept_in f (length gates) bytes in
      let split = begins rs doubt bytes (read_holds s c end gates doubt known stay bytes is) in
      let next : suc i ≡ i + 1 = omega arith in
      subst (λ (j : ℕ). slice_get rs i ≡ Some (take (get_or gates j end - get_or gates i end - (9 + f.width)) (drop (get_or gates i end + 9) bytes))) next
      (record_found f ok rs bytes split.0 gates end i (known.indexed bytes is) (known.ends bytes is) split.1 (omega (arith, within, length_kept f ok (length gates) bytes)))

  -- there are as many records as gates
  pub told_count : (count : ℕ) (s : DiskState) → IfSome (records_told f count s) (λ records. count ≡ length records)
  told_count count s = each s.reads
    where
      each : (o : Option (List ℕ)) → IfSome (option_map (kept_in f count) o) (λ records. count ≡ length records)
      each None = tt
      each (Some bytes) = sym (length_kept f ok count bytes)

  -- ---- crashes

  -- a crash now leaves the records, or the records and the one in doubt
  pub leaves_records : (s : DiskState) (c : DiskCrashes) (end : ℕ) (gates : List ℕ) (doubt : Option (List ℕ)) → ((image : List ℕ) → c.left_since c.clock image → c.may_leave image) → IsKnown f s c end gates doubt
      → IfTold (is_some s.reads) (records_told f (length gates) s) (λ kept. (left : List (List ℕ)) → (record_crashes f s c).left_since c.clock left → MayLeave kept doubt left)
  leaves_records s c end gates doubt only known =
      if_told s.reads (kept_in f (length gates)) _ (λ bytes is left past.
      let ends = known.ends bytes is in
      list_left (kept_in f (length gates) bytes) doubt past.0 left (omega (arith, known.fits, ends)) (λ p in_doubt. omega (arith, ends, known.fits_doubt p in_doubt))
      (known_holds s c end gates doubt known bytes past.0 is (only past.0 past.1)) past.2)

  -- the images that a call adds hold the records, or the records and the one in doubt
  passes : (old new : DiskState) (before after : DiskCrashes) (end : ℕ) (gates : List ℕ) (was doubt : Option (List ℕ)) (added : List ℕ → Type 0) → IsKnown f old before end gates was
      → Elapses before after added → StaysTold old.reads new.reads → FitsDoubt f end doubt → ((bytes image : List ℕ) → old.reads ≡ Some bytes → added image → Holds (kept_in f (length gates) bytes) doubt image)
      → PassesTime (records_told f (length gates) old) doubt (record_crashes f old before) (record_crashes f new after)
  passes old new before after end gates was doubt added known time told fits holds = record {
    clock = time.clock;
    told = told_same old.reads new.reads told;
    crash = if_told old.reads (kept_in f (length gates)) _ (λ bytes is.
        let ends = known.ends bytes is in
        record {
          nothing_else = λ moment list past since. ⊎_elim (λ here. inl (since.0, here, since.2))
              (λ new_one. inr (list_left (kept_in f (length gates) bytes) doubt since.0 list (omega (arith, known.fits, ends)) (λ p in_doubt. omega (arith, ends, fits p in_doubt)) (holds bytes since.0 is new_one) since.2))
              (time.nothing_else moment since.0 past since.1);
          keeps = λ moment list past since. (since.0, time.keeps moment since.0 past since.1, since.2);
        });
  }

  pub read_passes : (old new : DiskState) (before after : DiskCrashes) (end : ℕ) (gates : List ℕ) (doubt : Option (List ℕ)) → IsKnown f old before end gates doubt → new.reads ≡ old.reads
      → Elapses before after before.may_leave → PassesTime (records_told f (length gates) old) doubt (record_crashes f old before) (record_crashes f new after)
  read_passes old new before after end gates doubt known same time =
      passes old new before after end gates doubt doubt _ known time (same_told old.reads new.reads same) known.fits_doubt (known_holds old before end gates doubt known)

  pub settle_passes : (old new : DiskState) (before after : DiskCrashes) (end : ℕ) (gates : List ℕ) (doubt : Option (List ℕ)) → IsKnown f old before end gates doubt → StaysTold old.reads new.reads
      → Elapses before after (MayTear end (0 ∷ []) before) → PassesTime (records_told f (length gates) old) doubt (record_crashes f old before) (record_crashes f new after)
  settle_passes old new before after end gates doubt known told time =
      passes old new before after end gates doubt doubt _ known time told known.fits_doubt
      (λ bytes image is added. shut_torn (kept_in f (length gates) bytes) doubt end added.0 image (known.ends bytes is) (known_holds old before end gates doubt known bytes added.0 is added.1) added.2)

  staged_torn : (old : DiskState) (before : DiskCrashes) (end at : ℕ) (gates block : List ℕ) (p : List ℕ) → at ≡ end + 1 → IsKnown f old before end gates None
      → (bytes image : List ℕ) → old.reads ≡ Some bytes → MayTear at block before image → Holds (kept_in f (length gates) bytes) (Some p) image
  unfolding Holds
  staged_torn old before end at gates block p is_at known bytes image is torn =
      inl (torn_behind f ok (kept_in f (length gates) bytes) at block torn.0 image (omega (arith, is_at, known.ends bytes is)) torn.2 (sure _ _ (known_holds old before end gates None known bytes torn.0 is torn.1)))

  pub stage_passes : (old new : DiskState) (before after : DiskCrashes) (end at : ℕ) (gates block p : List ℕ) → at ≡ end + 1 → end + (10 + f.width + length p) ≤ 2 ^ 62 → IsKnown f old before end gates None → StaysTold old.reads new.reads
      → Elapses before after (MayTear at block before) → PassesTime (records_told f (length gates) old) (Some p) (record_crashes f old before) (record_crashes f new after)
  stage_passes old new before after end at gates block p is_at room known told time =
      passes old new before after end gates None (Some p) _ known time told (one_doubt end p room) (staged_torn old before end at gates block p is_at known)

  elapses_then : (a b c : DiskCrashes) (P Q : List ℕ → Type 0) → Elapses a b P → Elapses b c Q → Elapses a c (λ image. P image ⊎ Q image)
  elapses_then a b c P Q one two = record {
    clock = omega (arith, one.clock, two.clock);
    now = λ image left. inr (two.now image left);
    nothing_else = λ moment image past left. ⊎_elim (λ here. ⊎_elim (λ was. inl was) (λ new_one. inr (inl new_one)) (one.nothing_else moment image past here)) (λ new_one. inr (inr new_one))
        (two.nothing_else moment image (omega (arith, past, one.clock)) left);
    keeps = λ moment image past was. two.keeps moment image (omega (arith, past, one.clock)) (one.keeps moment image past was);
  }

  -- an image that the two writes of an append add
  appended_holds : (old mid : DiskState) (before between : DiskCrashes) (end at : ℕ) (gates block p : List ℕ) → at ≡ end + 1 → IsKnown f old before end gates None → IsReady old mid between end gates p
      → (bytes image : List ℕ) → old.reads ≡ Some bytes → MayTear at block before image ⊎ MayTear end (1 ∷ []) between image → Holds (kept_in f (length gates) bytes) (Some p) image
  appended_holds old mid before between end at gates block p is_at known ready bytes image is added =
      ⊎_elim (staged_torn old before end at gates block p is_at known bytes image is)
      (λ torn. open_torn (kept_in f (length gates) bytes) p end torn.0 image (known.ends bytes is) (ready.staged bytes torn.0 is torn.1) torn.2) added

  pub append_passes : (old mid new : DiskState) (before between after : DiskCrashes) (end at : ℕ) (gates block p : List ℕ) → at ≡ end + 1 → end + (10 + f.width + length p) ≤ 2 ^ 62 → IsKnown f old before end gates None
      → IsReady old mid between end gates p → StaysTold mid.reads new.reads → Elapses before between (MayTear at block before) → Elapses between after (MayTear end (1 ∷ []) between)
      → PassesTime (records_told f (length gates) old) (Some p) (record_crashes f old before) (record_crashes f new after)
  append_passes old mid new before between after end at gates block p is_at room known ready told one two =
      passes old new before after end gates None (Some p) _ known (elapses_then before between after _ _ one two) (told_on old.reads mid.reads new.reads ready.told told) (one_doubt end p room)
      (appended_holds old mid before between end at gates block p is_at known ready)

  -- ---- crashes, by images

  -- each image that a call adds is a file of the records, or of these and the one in doubt
  adds_files : (old : DiskState) (before after : DiskCrashes) (end : ℕ) (gates : List ℕ) (was doubt : Option (List ℕ)) (added : List ℕ → Type 0) → IsKnown f old before end gates was
      → Elapses before after added → FitsDoubt f end doubt → ((bytes image : List ℕ) → old.reads ≡ Some bytes → added image → Holds (kept_in f (length gates) bytes) doubt image)
      → (kept : List (List ℕ)) → records_told f (length gates) old ≡ Some kept
      → Elapses before after (λ image. (list : List (List ℕ)) × IsImage f list image × MayLeave kept doubt list)
  adds_files old before after end gates was doubt added known time fits holds kept told = record {
    clock = time.clock;
    now = λ image left. file image (time.now image left);
    nothing_else = λ moment image past left. ⊎_elim (λ here. inl here) (λ new_one. inr (file image new_one)) (time.nothing_else moment image past left);
    keeps = time.keeps;
  }
    where
      here : (bytes : List ℕ) × (old.reads ≡ Some bytes) × (kept_in f (length gates) bytes ≡ kept)
      here = some_is old.reads (kept_in f (length gates)) kept told

      file : (image : List ℕ) → added image → (list : List (List ℕ)) × IsImage f list image × MayLeave kept doubt list
      file image new_one =
          let ends = known.ends here.0 here.1 in
          let found = image_of (kept_in f (length gates) here.0) doubt image (omega (arith, known.fits, ends)) (λ p in_doubt. omega (arith, ends, fits p in_doubt)) (holds here.0 image here.1 new_one) in
          (found.0, found.1, subst (λ (rs : List (List ℕ)). MayLeave rs doubt found.0) here.2 found.2)

  pub stage_adds_files : (old : DiskState) (before after : DiskCrashes) (end at : ℕ) (gates block p : List ℕ) → at ≡ end + 1 → end + (10 + f.width + length p) ≤ 2 ^ 62 → IsKnown f old before end gates None
      → Elapses before after (MayTear at block before) → (kept : List (List ℕ)) → records_told f (length gates) old ≡ Some kept
      → Elapses before after (λ image. (list : List (List ℕ)) × IsImage f list image × MayLeave kept (Some p) list)
  stage_adds_files old before after end at gates block p is_at room known time =
      adds_files old before after end gates None (Some p) _ known time (one_doubt end p room) (staged_torn old before end at gates block p is_at known)

  pub append_adds_files : (old mid : DiskState) (before between after : DiskCrashes) (end at : ℕ) (gates block p : List ℕ) → at ≡ end + 1 → end + (10 + f.width + length p) ≤ 2 ^ 62 → IsKnown f old before end gates None
      → IsReady old mid between end gates p → Elapses before between (MayTear at block before) → Elapses between after (MayTear end (1 ∷ []) between)
      → (kept : List (List ℕ)) → records_told f (length gates) old ≡ Some kept
      → Elapses before after (λ image. (list : List (List ℕ)) × IsImage f list image × MayLeave kept (Some p) list)
  append_adds_files old mid before between after end at gates block p is_at room known ready one two =
      adds_files old before after end gates None (Some p) _ known (elapses_then before between after _ _ one two) (one_doubt end p room)
      (appended_holds old mid before between end at gates block p is_at known ready)
