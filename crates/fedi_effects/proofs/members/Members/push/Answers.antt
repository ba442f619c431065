use Rattle.std.proofs.Common.{◌≡◌, arith, ap, ◌∙◌, refl, true, length}
use Rattle.fedi_register.proofs.Indexed.{marks_pushed}
use Rattle.fedi_register.specs.Marks.{every}
use Rattle.fedi_effects.specs.Members.{digest_mark, id_mark, name_mark}
use Rattle.fedi_effects.proofs.members.Members.push.Goals as goal

pub invariant_of-self : goal.invariant_of-self
unfolding digest_mark id_mark name_mark
invariant_of-self c =
    let list = c.self.inside.list.items in
    let x = c.args.member in
    let h = c.self.invariant in
    let place = c.len-place.result in
    let at : place ≡ length list = c.len-place.ensures ∙ c.self.inside.list.ok.0 in
    let room = ap (λ m. m.room) c.self.view_is in (
      rw c.push_reserved.ensures.items (marks_pushed every (name_mark c.self.inside.seed) list x _ _ place _ true at refl c.mark_of_name.ensures h.0 (ap (λ m. m.marks) c.push.ensures)),
      rw c.push_reserved.ensures.items (marks_pushed every (id_mark c.self.inside.seed) list x _ _ place _ true at refl c.mark_of_iri.ensures h.1 (ap (λ m. m.marks) c.push-2.ensures)),
      rw c.push_reserved.ensures.items (marks_pushed every (digest_mark c.self.inside.seed) list x _ _ place _ true at refl c.mark_of_digest.ensures h.2 (ap (λ m. m.marks) c.push-3.ensures)),
      omega (arith, room, c.requires, c.push_reserved.ensures.len, c.push_reserved.ensures.capacity, h.3),
      omega (arith, room, c.requires, c.push_reserved.ensures.len, h.4),
      omega (arith, room, c.requires, ap (λ m. m.room) c.push.ensures, h.5),
      omega (arith, room, c.requires, ap (λ m. m.room) c.push-2.ensures, h.6),
      omega (arith, room, c.requires, ap (λ m. m.room) c.push-3.ensures, h.7),
    )
