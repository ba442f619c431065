-- What crashes may leave during several calls.
use Rattle.std.proofs.Common.{◌≡◌, ◌≤◌, ◌⊎◌, ℕ, Bool, true, false, arith, List, [], ◌∷◌, ◌++◌, Option, Some, None, inl, inr, refl, ap, subst, ◌∙◌}
use Rattle.fedi_outside.specs.Keepers.{Adds, Crashes, IfTold, KeeperState, MayLeave, OnlyRoomChanged, PassesTime}
use Rattle.fedi_core.specs.Crashing.{MayLeaveWith, PassesTimeWith}
use Rattle.fedi_core.specs.Keeping.{HasFailedOnce, MayDoubt}

-- if what crashes leave is known, and the records are, one property follows from the other
pub if_told : (told : Bool) (records : Option (List (List ℕ))) (P Q : List (List ℕ) → Type 0) → ((kept : List (List ℕ)) → records ≡ Some kept → P kept → Q kept)
    → IfTold told records P → IfTold told records Q
if_told false records P Q f h = tt
if_told true None P Q f h = absurd h
if_told true (Some kept) P Q f h = f kept refl h

-- what two calls add, one after the other
pub adds_both : {a b c : ℕ → List (List ℕ) → Type 0} (x y : ℕ) (P Q R : List (List ℕ) → Type 0) → x ≤ y
    → ((left : List (List ℕ)) → P left → R left) → ((left : List (List ℕ)) → Q left → R left)
    → Adds x a b P → Adds y b c Q → Adds x a c R
adds_both {a} {b} {c} x y P Q R later f g first second = record {
  nothing_else = λ moment left early since. from left (first.nothing_else moment left early) (second.nothing_else moment left (omega (arith, early, later)) since);
  keeps = λ moment left early past. second.keeps moment left (omega (arith, early, later)) (first.keeps moment left early past);
}
  where
    from : {before past : Type 0} (left : List (List ℕ)) → (past → before ⊎ P left) → past ⊎ Q left → before ⊎ R left
    from left first (inr added) = inr (g left added)
    from left first (inl past) = older left (first past)
      where
        older : {before : Type 0} (left : List (List ℕ)) → before ⊎ P left → before ⊎ R left
        older left (inl before) = inl before
        older left (inr added) = inr (f left added)

-- a call that keeps nothing, and then one that may
pub then_with : (records : Option (List (List ℕ))) (doubt : Option (List ℕ)) (code : List ℕ) (a b c : Crashes)
    → PassesTime records doubt a b → PassesTimeWith records doubt code b c → PassesTimeWith records doubt code a c
then_with records doubt code a b c first second = record {
  clock = let x = first.clock in let y = second.clock in omega (arith, x, y);
  told = second.told ∙ first.told;
  crash = both a.told records first.crash (subst (λ (t : Bool). IfTold t records (λ kept. Adds b.clock b.left_since c.left_since (MayLeaveWith kept doubt code))) first.told second.crash);
}
  where
    both : (told : Bool) (rs : Option (List (List ℕ))) → IfTold told rs (λ kept. Adds a.clock a.left_since b.left_since (MayLeave kept doubt))
        → IfTold told rs (λ kept. Adds b.clock b.left_since c.left_since (MayLeaveWith kept doubt code))
        → IfTold told rs (λ kept. Adds a.clock a.left_since c.left_since (MayLeaveWith kept doubt code))
    both false rs x y = tt
    both true None x y = absurd x
    both true (Some kept) x y =
        adds_both a.clock b.clock (MayLeave kept doubt) (MayLeaveWith kept doubt code) (MayLeaveWith kept doubt code) first.clock
        (λ left l. inl l) (λ left l. l) x y

-- ---- one call

-- what one call may leave is among what the definition allows
of_call : (records : Option (List (List ℕ))) (doubt other : Option (List ℕ)) (code : List ℕ) (b c : Crashes)
    → ((kept left : List (List ℕ)) → MayLeave kept other left → MayLeaveWith kept doubt code left)
    → PassesTime records other b c → PassesTimeWith records doubt code b c
of_call records doubt other code b c among h = record {
  clock = h.clock;
  told = h.told;
  crash = if_told b.told records _ _ (λ kept is adds. record {
    nothing_else = λ moment left early since. one left (among kept left) (adds.nothing_else moment left early since);
    keeps = adds.keeps;
  }) h.crash;
}
  where
    one : {past P Q : Type 0} (left : List (List ℕ)) → (P → Q) → past ⊎ P → past ⊎ Q
    one left f (inl past) = inl past
    one left f (inr added) = inr (f added)

-- the records alone are among what the definition allows
alone : (kept : List (List ℕ)) (doubt : Option (List ℕ)) (left : List (List ℕ)) → left ≡ kept → MayLeave kept doubt left
alone kept None left is = is
alone kept (Some more) left is = inl is

-- a call that keeps nothing
pub quiet_call : (records : Option (List (List ℕ))) (doubt : Option (List ℕ)) (code : List ℕ) (b c : Crashes) → PassesTime records doubt b c
    → PassesTimeWith records doubt code b c
quiet_call records doubt code b c h = of_call records doubt doubt code b c (λ kept left l. inl l) h

-- the call that keeps the new record
pub keeping_call : (records : Option (List (List ℕ))) (doubt : Option (List ℕ)) (code : List ℕ) (b c : Crashes) → PassesTime records (Some code) b c
    → PassesTimeWith records doubt code b c
keeping_call records doubt code b c h =
    of_call records doubt (Some code) code b c (λ kept left l. added kept left l) h
  where
    added : (kept left : List (List ℕ)) → (left ≡ kept) ⊎ (left ≡ kept ++ code ∷ []) → MayLeaveWith kept doubt code left
    added kept left (inl is) = inl (alone kept doubt left is)
    added kept left (inr is) = inr is

-- ---- keeping a record

-- the same, for equal records and an equal doubt
renamed : (records other : Option (List (List ℕ))) (doubt also : Option (List ℕ)) (b c : Crashes) → other ≡ records → also ≡ doubt
    → PassesTime other also b c → PassesTime records doubt b c
renamed records other doubt also b c r d h =
    subst (λ (x : Option (List ℕ)). PassesTime records x b c) d (subst (λ (x : Option (List (List ℕ))). PassesTime x also b c) r h)

-- room was made, the doubt was settled, and then the record was kept
pub stored : (k l m : KeeperState) (code : List ℕ) (a b c d : Crashes) → OnlyRoomChanged k l → m ≡ record l { doubt = None }
    → PassesTime k.records k.doubt a b → PassesTime l.records l.doubt b c → PassesTime m.records (Some code) c d
    → PassesTimeWith k.records k.doubt code a d
stored k l m code a b c d room settled first second third =
    then_with k.records k.doubt code a b d first
    (then_with k.records k.doubt code b c d (renamed k.records l.records k.doubt l.doubt b c room.records room.doubt second)
    (keeping_call k.records k.doubt code c d (renamed k.records m.records (Some code) (Some code) c d (ap (λ (s : KeeperState). s.records) settled ∙ room.records) refl third)))

-- the record may not have been kept; then the doubt was settled, or that failed
pub settled_after : (k l : KeeperState) (code : List ℕ) (a b c : Crashes) → HasFailedOnce code k l → PassesTimeWith k.records k.doubt code a b
    → PassesTime l.records l.doubt b c → PassesTimeWith k.records k.doubt code a c
settled_after k l code a b c failed first second = record {
  clock = let x = first.clock in let y = second.clock in omega (arith, x, y);
  told = second.told ∙ first.told;
  crash = both a.told k.records first.crash
      (subst (λ (t : Bool). IfTold t k.records (λ kept. Adds b.clock b.left_since c.left_since (MayLeave kept l.doubt))) first.told
      (renamed k.records l.records l.doubt l.doubt b c failed.records refl second).crash);
}
  where
    among : (kept left : List (List ℕ)) (other : Option (List ℕ)) → MayDoubt code k.doubt other → MayLeave kept other left → MayLeaveWith kept k.doubt code left
    among kept left other (inl same) may = inl (subst (λ (d : Option (List ℕ)). MayLeave kept d left) same may)
    among kept left other (inr (inl none)) may = inl (alone kept k.doubt left (subst (λ (d : Option (List ℕ)). MayLeave kept d left) none may))
    among kept left other (inr (inr new)) may = added (subst (λ (d : Option (List ℕ)). MayLeave kept d left) new may)
      where
        added : (left ≡ kept) ⊎ (left ≡ kept ++ code ∷ []) → MayLeaveWith kept k.doubt code left
        added (inl is) = inl (alone kept k.doubt left is)
        added (inr is) = inr is

    both : (told : Bool) (rs : Option (List (List ℕ))) → IfTold told rs (λ kept. Adds a.clock a.left_since b.left_since (MayLeaveWith kept k.doubt code))
        → IfTold told rs (λ kept. Adds b.clock b.left_since c.left_since (MayLeave kept l.doubt))
        → IfTold told rs (λ kept. Adds a.clock a.left_since c.left_since (MayLeaveWith kept k.doubt code))
    both false rs x y = tt
    both true None x y = absurd x
    both true (Some kept) x y =
        adds_both a.clock b.clock (MayLeaveWith kept k.doubt code) (MayLeave kept l.doubt) (MayLeaveWith kept k.doubt code) first.clock
        (λ left h. h) (λ left h. among kept left l.doubt failed.doubt h) x y
