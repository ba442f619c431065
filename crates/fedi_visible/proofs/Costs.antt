-- How often activities are read for a page.
use Rattle.std.proofs.Common.{◌≡◌, ◌<◌, ◌≤◌, ℕ, suc, ◌+◌, ◌*◌, arith, subst}
use Rattle.std.proofs.Math.Nat.{suc-mul}

steps_with : (n k steps first before after more : ℕ) → after ≡ before + (n + 1) → k < n → steps ≤ first + before → more ≤ steps + (k + 1) → more ≤ first + after
steps_with n k steps first before after more is within so_far one = omega (arith, is, within, so_far, one)

-- one position further: of n activities, at most this one and those before it were read
pub steps_more : (n k steps first more : ℕ) → k < n → steps ≤ first + k * (n + 1) → more ≤ steps + (k + 1) → more ≤ first + (k + 1) * (n + 1)
steps_more n k steps first more within so_far one =
    let next : suc k ≡ k + 1 = omega arith in
    steps_with n k steps first (k * (n + 1)) ((k + 1) * (n + 1)) more
    (subst (λ (j : ℕ). j * (n + 1) ≡ k * (n + 1) + (n + 1)) next (suc-mul k (n + 1))) within so_far one
