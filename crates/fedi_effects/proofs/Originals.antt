-- The Create that an Update or a Delete goes back to is its subject.
use Rattle.std.proofs.Common.{◌≡◌, ℕ, List, Option, refl}
use Rattle.fedi_town.specs.declared.deed.Deed.{Deed}
use Rattle.fedi_town.specs.declared.deed.Deed.TheVariants.{Create, Update, Delete, Follow, Like, Announce, Block, Accept, Reject, Undo, Other}
use Rattle.fedi_town.specs.Addressing.{original}
use Rattle.fedi_town.specs.Towns.{Town}
use Rattle.fedi_effects.specs.Subjects.{original_among, subject_of}

pub original_is : (t : Town) (d : Deed) (id : Option (List ℕ)) → original_among d (subject_of t d id) ≡ original t d id
original_is t Create id = refl
original_is t Update id = refl
original_is t Delete id = refl
original_is t Follow id = refl
original_is t Like id = refl
original_is t Announce id = refl
original_is t Block id = refl
original_is t Accept id = refl
original_is t Reject id = refl
original_is t Undo id = refl
original_is t Other id = refl
