-- Lemmas on what is sent, if it is known.
use Rattle.std.proofs.Common.{ℕ, ◌+◌, List, take, drop, Option, sym, subst}
use Rattle.std.proofs.Math.Seq.{take-add}
use Rattle.std.specs.Io.KnownBytes.{Appends}
use Rattle.std.proofs.KnownBytes.{Appends-trans}

-- a prefix was sent, and then the next n bytes
pub Appends-next : (a b c : Option (List ℕ)) (bytes : List ℕ) (done n : ℕ) → Appends a b (take done bytes) → Appends b c (take n (drop done bytes))
    → Appends a c (take (done + n) bytes)
Appends-next a b c bytes done n before next = subst (Appends a c) (sym (take-add done n bytes)) (Appends-trans a b c _ _ before next)
