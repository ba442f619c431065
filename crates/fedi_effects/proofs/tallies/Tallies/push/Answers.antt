use Rattle.std.proofs.Common.{◌≡◌, ap, arith, length, refl, set, sym, subst, true, List, Some, None, ◌∙◌}
use Rattle.fedi_effects.specs.declared.tallies.Tally.{Tally}
use Rattle.fedi_effects.specs.Tallies.{AreTallied, is_tally_of, tally_mark}
use Rattle.fedi_effects.proofs.Tallying.{all_begun, all_counted, begun, counted, marks_counted}
use Rattle.fedi_effects.proofs.tallies.Tallies.push.Goals as goal
use Rattle.fedi_register.proofs.Indexed.{marks_pushed}
use Rattle.fedi_register.specs.Changes.{place_where}
use Rattle.fedi_register.specs.Marks.{every}
use Rattle.fedi_register.specs.Seeds.{mark_of_pair}
use Rattle.fedi_town.specs.declared.act.Attempt.{Attempt}

pub invariant_of-self : goal.invariant_of-self
invariant_of-self c =
    let list = c.self.inside.list.items in
    let a = c.args.attempt in
    let k = c.in-Some.place in
    let z = c.count.new.tally in
    let x = c.index_mut.result.now in
    let h = c.self.invariant in
    let room = ap (λ t. t.room) c.self.view_is in
    let at : Some k ≡ place_where (is_tally_of a.activity a.recipient) list = c.in-Some.ensures ∙ ap (λ (l : List Tally). place_where (is_tally_of a.activity a.recipient) l) c.deref.ensures.value in (
      h.0 ∙ marks_counted c.self.inside.seed list k z x _ c.index_mut.ensures.value c.count.ensures.activity c.count.ensures.recipient,
      subst (λ (attempts : List Attempt). AreTallied (set list k z) attempts) (sym c.push.ensures)
          (counted list c.self.inside.attempts a k z x _ h.1 at c.index_mut.ensures.value c.count.ensures.activity c.count.ensures.recipient c.count.ensures.standing),
      all_counted list k z h.2 c.count.ensures.few,
      omega (arith, room, c.requires, h.3),
      omega (arith, room, c.requires, h.4),
      omega (arith, room, c.requires, h.5),
    )

pub invariant_of-self-in-None : goal.invariant_of-self-in-None
unfolding tally_mark
invariant_of-self-in-None c =
    let list = c.self.inside.list.items in
    let seed = c.self.inside.seed in
    let a = c.args.attempt in
    let z = c.first_tally.result in
    let h = c.self.invariant in
    let room = ap (λ t. t.room) c.self.view_is in
    let place = c.len.result in
    let there : place ≡ length list = c.len.ensures ∙ c.self.inside.list.ok.0 in
    let none : None ≡ place_where (is_tally_of a.activity a.recipient) list = c.in-None.ensures ∙ ap (λ (l : List Tally). place_where (is_tally_of a.activity a.recipient) l) c.deref.ensures.value in
    let mark : c.mark_of_pair-mark.result ≡ mark_of_pair seed z.activity z.recipient =
    c.mark_of_pair-mark.ensures ∙ rw (c.text.ensures.value, c.first_tally.ensures.activity, c.first_tally.ensures.recipient) refl in (
      rw c.push_reserved.ensures.items (marks_pushed every (tally_mark seed) list z _ _ place _ true there refl mark h.0 (ap (λ m. m.marks) c.push-in-None.ensures)),
      rw (c.push_reserved.ensures.items, c.push.ensures)
          (begun list c.self.inside.attempts a z h.1 none c.first_tally.ensures.activity c.first_tally.ensures.recipient c.first_tally.ensures.standing),
      rw c.push_reserved.ensures.items (all_begun list z h.2 c.first_tally.ensures.few),
      omega (arith, room, c.requires, c.push_reserved.ensures.len, c.push_reserved.ensures.capacity, h.3),
      omega (arith, room, c.requires, c.push_reserved.ensures.len, h.4),
      omega (arith, room, c.requires, ap (λ m. m.room) c.push-in-None.ensures, h.5),
    )
