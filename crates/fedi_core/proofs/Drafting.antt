-- Drafts that are ready.
use Rattle.std.proofs.Common.{Bool, false, true, refl}
use Rattle.std.specs.Prelude.{IsTrue, ◌||◌}

-- what is ready or takes memory does so with one more reason to take memory
pub ready_more : (ready more takes : Bool) → IsTrue (ready || takes) → IsTrue (ready || (more || takes))
ready_more true more takes is = refl
ready_more false true takes is = refl
ready_more false false takes is = is
