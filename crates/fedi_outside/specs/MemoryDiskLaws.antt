-- What a disk in memory says about now: a crash after all of its calls is a crash since each
-- earlier moment, and the only one since now.
use Rattle.std.proofs.Common.{ℕ, ◌≤◌, List, length, sym, subst, arith}
use Rattle.std.proofs.lemmas.List.{take_all}
use Rattle.fedi_outside.specs.MemoryDisks.{LeftSince, MayBeLeft, contents_of}
use Rattle.fedi_outside.specs.declared.memory_disks.Call.{Call}

pub now_is_since : (base : List ℕ) (calls : List Call) (moment : ℕ) (image : List ℕ)
    → moment ≤ length calls → MayBeLeft (contents_of base calls) image
    → LeftSince base calls moment image
now_is_since base calls moment image past left = (
  length calls,
  past,
  omega arith,
  subst (λ (l : List Call). MayBeLeft (contents_of base l) image)
      (sym (take_all (length calls) calls (omega arith))) left,
)

pub only_since : (base : List ℕ) (calls : List Call) (image : List ℕ)
    → LeftSince base calls (length calls) image → MayBeLeft (contents_of base calls) image
only_since base calls image since =
    subst (λ (l : List Call). MayBeLeft (contents_of base l) image)
    (take_all since.0 calls since.1) since.3
