use Rattle.std.proofs.Common.{◌≡◌, ℕ, ◌<◌, get_or}
use Rattle.fedi_mac.proofs.matches.Given as goal

-- without a difference the bytes so far are equal, and equal bytes make none
abbrev pub invariant-loop-place : goal.invariant-loop-place
invariant-loop-place l =
    (l.difference ≡ 0 → (k : ℕ) → k < l.place → get_or l.a k 0 ≡ get_or l.b k 0)
    × (l.a ≡ l.b → l.difference ≡ 0)
