use Rattle.std.proofs.Common.{rules}
use Rattle.fedi_register.specs.Authors.{author_mark, is_author}
use Rattle.fedi_register.specs.Marks.{every}
use Rattle.fedi_register.proofs.Found.{placed}
use Rattle.fedi_register.proofs.Places.{author_marked}
use Rattle.fedi_register.proofs.authors.Authors.position_of.Goals as goal

pub returns : goal.returns
returns c =
    let id = c.args.id.now in
    rw (← c.self.view_is)
    (placed every (is_author id) (author_mark c.self.inside.seed) _ _ _ _ _ _ (c.position_of.ensures (is_author id) (search rules)) c.deref.ensures.value c.mark_of_iri.ensures c.self.invariant (author_marked c.self.inside.seed id))
