-- Disks whose bytes stay, over several calls.
use Rattle.std.proofs.Common.{◌≡◌, inl, inr, ⊎_elim, refl, ◌∙◌, arith}
use Rattle.fedi_outside.specs.Disks.{DiskCrashes, DiskState, Elapses, IsUntouched}

-- no call
pub nothing_elapses : (c : DiskCrashes) → Elapses c c c.may_leave
nothing_elapses c = record { clock = omega arith; now = λ image left. left; nothing_else = λ moment image past left. inl left; keeps = λ moment image past left. left }

-- a call that leaves nothing new, after another one
pub elapses_on : (a b c : DiskCrashes) → Elapses a b a.may_leave → Elapses b c b.may_leave → Elapses a c a.may_leave
elapses_on a b c one two = record {
  clock = omega (arith, one.clock, two.clock);
  now = λ image left. one.now image (two.now image left);
  nothing_else = λ moment image past left. ⊎_elim (λ here. one.nothing_else moment image past here) (λ new_one. inr (one.now image new_one)) (two.nothing_else moment image (omega (arith, past, one.clock)) left);
  keeps = λ moment image past was. two.keeps moment image (omega (arith, past, one.clock)) (one.keeps moment image past was);
}

pub untouched_now : (a : DiskState) (x : DiskCrashes) → IsUntouched a a x x
untouched_now a x = record { reads = refl; clock = omega arith; crashes = λ bytes is. nothing_elapses x }

pub untouched_by : (a b : DiskState) (x y : DiskCrashes) → b.reads ≡ a.reads → Elapses x y x.may_leave → IsUntouched a b x y
untouched_by a b x y same time = record { reads = same; clock = time.clock; crashes = λ bytes is. time }

pub untouched_then : (a b c : DiskState) (x y z : DiskCrashes) → IsUntouched a b x y → IsUntouched b c y z → IsUntouched a c x z
untouched_then a b c x y z one two = record {
  reads = two.reads ∙ one.reads;
  clock = omega (arith, one.clock, two.clock);
  crashes = λ bytes is. elapses_on x y z (one.crashes bytes is) (two.crashes bytes (one.reads ∙ is));
}
