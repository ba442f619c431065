use Rattle.std.proofs.Common.{◌≡◌, ◌∙◌, refl, sym, ap, true, false}
use Rattle.fedi_address.specs.Recipients.{is_among}
use Rattle.fedi_register.specs.Authors.{author_mark, ids_of}
use Rattle.fedi_register.specs.Marks.{every}
use Rattle.fedi_register.proofs.Counts.{counts_added, ids_added}
use Rattle.fedi_register.proofs.Indexed.{marks_pushed}
use Rattle.fedi_register.proofs.authors.Authors.add.Goals as goal

pub returns-then-is_known-clause-known : goal.returns-then-is_known-clause-known
returns-then-is_known-clause-known c =
    let known : is_among c.args.id.now (ids_of c.args.self.now) ≡ true = sym c.is_known.ensures ∙ c.if-is_known.true in
    rw known refl

pub invariant_of-self-2 : goal.invariant_of-self-2
unfolding author_mark
invariant_of-self-2 c =
    rw c.in_ok-push.ensures.items
    (marks_pushed every (author_mark c.self.inside.seed) c.self.inside.list.items _ _ _ c.len-place.result c.mark_of_iri-mark.result true (c.len-place.ensures ∙ c.self.inside.list.ok.0) refl
    c.mark_of_iri-mark.ensures (c.reserve.ensures.marks ∙ c.self.invariant) (ap (λ m. m.marks) c.push-2.ensures))

pub returns-clause-known : goal.returns-clause-known
returns-clause-known c =
    let other : is_among c.args.id.now (ids_of c.args.self.now) ≡ false = sym c.is_known.ensures ∙ c.if-is_known.false in
    rw (other, c.in_ok-push.ensures.items, ids_added, ← c.self.view_is, c.in_ok-id.ensures.cases) refl

pub returns-clause-counts : goal.returns-clause-counts
returns-clause-counts c = rw (← c.self.view_is, c.in_ok-push.ensures.items) (counts_added c.self.inside.list.items _ refl)
