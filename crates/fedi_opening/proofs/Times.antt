-- What a crash may leave over several calls of a keeper that change no record.
use Rattle.std.proofs.Common.{◌≡◌, inl, inr, ⊎_elim, ℕ, ◌≤◌, arith, Bool, true, false, List, Option, Some, None, refl, sym, subst, ◌∙◌}
use Rattle.fedi_outside.specs.Keepers.{Adds, Crashes, IfTold, KeeperState, LeavesRecords, MayLeave, PassesTime}

if_told : (told : Bool) (records : Option (List (List ℕ))) {P Q : List (List ℕ) → Type 0} → IfTold told records P → ((kept : List (List ℕ)) → P kept → Q kept)
    → IfTold told records Q
if_told false records is go = tt
if_told true None is go = absurd is
if_told true (Some kept) is go = go kept is

both_told : (told : Bool) (records : Option (List (List ℕ))) {P Q R : List (List ℕ) → Type 0} → IfTold told records P → IfTold told records Q
    → ((kept : List (List ℕ)) → P kept → Q kept → R kept) → IfTold told records R
both_told false records p q go = tt
both_told true None p q go = absurd p
both_told true (Some kept) p q go = go kept p q

-- no call
pub no_time : (k : KeeperState) (c : Crashes) → LeavesRecords k c → PassesTime k.records k.doubt c c
no_time k c leaves = record {
  clock = omega arith;
  told = refl;
  crash = if_told c.told k.records leaves (λ kept left. record {
    nothing_else = λ moment list before since. inl since;
    keeps = λ moment list before past. past;
  });
}

adds_then : (before now : ℕ) (first middle last : ℕ → List (List ℕ) → Type 0) (added : List (List ℕ) → Type 0) → before ≤ now → Adds before first middle added
    → Adds now middle last added → Adds before first last added
adds_then before now first middle last added le one two = record {
  nothing_else = λ moment list earlier since.
      ⊎_elim (λ between. one.nothing_else moment list earlier between) (λ new. inr new) (two.nothing_else moment list (omega (arith, earlier, le)) since);
  keeps = λ moment list earlier past. two.keeps moment list (omega (arith, earlier, le)) (one.keeps moment list earlier past);
}

-- one more call
pub more_time : (records : Option (List (List ℕ))) (doubt : Option (List ℕ)) (a b c : Crashes) → PassesTime records doubt a b → PassesTime records doubt b c
    → PassesTime records doubt a c
more_time records doubt a b c one two = record {
  clock = omega (arith, one.clock, two.clock);
  told = two.told ∙ one.told;
  crash =
      let second = subst (λ (told : Bool). IfTold told records (λ kept. Adds b.clock b.left_since c.left_since (MayLeave kept doubt))) one.told two.crash in
      both_told a.told records one.crash second (λ kept x y. adds_then a.clock b.clock a.left_since b.left_since c.left_since (MayLeave kept doubt) one.clock x y);
}
