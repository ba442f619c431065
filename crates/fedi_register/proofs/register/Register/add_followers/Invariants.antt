use Rattle.std.proofs.Common.{◌≡◌, take}
use Rattle.std.specs.List.{fold}
use Rattle.fedi_register.specs.Following.{with_follower_at}
use Rattle.fedi_register.proofs.register.Register.add_followers.Given as goal

abbrev pub invariant-loop-place : goal.invariant-loop-place
invariant-loop-place l = l.found.items ≡ fold (with_follower_at l.self.acts l.b) l.fn.found.items (take l.place-index l.places)
