-- What some arguments ask for, computed.
use Rattle.std.proofs.Common.{◌≡◌, true, [], ◌∷◌, codes, Some, None, refl}
use Rattle.fedi_program.specs.Commands.{AddActor, AddPeer, store_in, task_in}

flag_last : task_in (codes "add-actor" ∷ codes "s" ∷ codes "ana" ∷ codes "--locked" ∷ []) ≡ Some (AddActor (codes "ana") true)
flag_last = refl

flag_first : task_in (codes "add-actor" ∷ codes "--locked" ∷ codes "s" ∷ codes "ana" ∷ []) ≡ Some (AddActor (codes "ana") true)
flag_first = refl

flag_between : store_in (codes "add-actor" ∷ codes "s" ∷ codes "--locked" ∷ codes "ana" ∷ []) ≡ Some (codes "s")
flag_between = refl

flag_twice : task_in (codes "add-actor" ∷ codes "s" ∷ codes "ana" ∷ codes "--locked" ∷ codes "--locked" ∷ []) ≡ None
flag_twice = refl

other_flag : task_in (codes "add-actor" ∷ codes "s" ∷ codes "ana" ∷ codes "--relay" ∷ []) ≡ None
other_flag = refl

dashes : task_in (codes "check" ∷ codes "--" ∷ codes "s" ∷ []) ≡ None
dashes = refl

peer : task_in (codes "add-peer" ∷ codes "s" ∷ codes "h" ∷ codes "--relay" ∷ codes "k" ∷ codes "a" ∷ []) ≡ Some (AddPeer (codes "h") (codes "k") (codes "a") true)
peer = refl

no_table : store_in (codes "export" ∷ codes "s" ∷ codes "tables" ∷ []) ≡ None
no_table = refl

no_store : store_in (codes "usage" ∷ []) ≡ None
no_store = refl
