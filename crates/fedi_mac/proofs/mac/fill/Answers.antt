use Rattle.std.proofs.Common.{◌≡◌, ◌-◌, ◌++◌, List, ℕ, ap, drop, length, replicate}
use Rattle.std.proofs.lemmas.List.{drop-replicate}
use Rattle.fedi_mac.proofs.mac.fill.Goals as goal

pub returns : goal.returns
returns c =
    let n : ℕ = length c.args.key.now in
    let rest : drop n c.args.block.now ≡ replicate (64 - n) 0 = rw c.requires.zeros (drop-replicate n 64 0) in
    rw c.copy_from_slice.ensures.after (ap (λ (zs : List ℕ). c.args.key.now ++ zs) rest)
