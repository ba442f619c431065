use Rattle.std.proofs.Common.{rules}
use Rattle.fedi_register.proofs.Found.{found}
use Rattle.fedi_register.specs.Marks.{every}
use Rattle.fedi_town.specs.Towns.{has_digest}
use Rattle.fedi_effects.specs.Members.{digest_mark}
use Rattle.fedi_effects.proofs.MemberMarks.{digest_marked}
use Rattle.fedi_effects.proofs.members.Members.with_digest.Goals as goal

pub returns : goal.returns
returns c =
    let digest = c.args.digest.now in
    rw (← c.self.view_is)
    (found every (has_digest digest) (digest_mark c.self.inside.seed) _ _ _ _ _ _ (c.first_of.ensures (has_digest digest) (search rules)) c.deref.ensures.value c.mark_of_digest.ensures c.self.invariant.2 (digest_marked c.self.inside.seed digest))
