use Rattle.std.proofs.Common.{◌≡◌, arith, ap, ◌∙◌, length}
use Rattle.fedi_town.specs.Towns.{is_by}
use Rattle.fedi_register.specs.Registers.{asks_to_follow, has_own_id, is_blocking, is_keyed, is_making, key_mark, object_mark, own_mark, relates, relation_mark}
use Rattle.fedi_register.proofs.Counts.{fewer}
use Rattle.fedi_register.proofs.Indexed.{count_pushed, marks_pushed, marks_pushed_if}
use Rattle.fedi_register.proofs.register.Register.push.Goals as goal

pub count_one-requires-clause-few : goal.count_one-requires-clause-few
count_one-requires-clause-few c =
    let acts = c.self.inside.acts in
    omega (arith, c.self.invariant.0.count c.author.result.now, fewer (is_by c.author.result.now) acts.items, acts.ok.0, acts.ok.1, acts.small)

pub invariant_of-self : goal.invariant_of-self
invariant_of-self c =
    let acts = c.self.inside.acts.items in
    let x = c.args.act in
    let h = c.self.invariant in
    let place = c.len-at.result in
    let at : place ≡ length acts = c.len-at.ensures ∙ c.self.inside.acts.ok.0 in
    let room : c.self.inside.room ≡ c.args.self.now.room = ap (λ r. r.room) c.self.view_is in (
      rw c.push_reserved.ensures.items (record {
        key = marks_pushed is_keyed (key_mark c.self.inside.seed) acts x _ _ place _ _ at c.is_keyed.ensures c.key_mark.ensures h.0.key c.mark_if.ensures.marks;
        object = marks_pushed_if is_making (object_mark c.self.inside.seed) acts x _ _ place _ _ at c.is_making.ensures c.found_object_mark-object.ensures.made h.0.object c.mark_if-2.ensures.marks;
        follow = marks_pushed_if asks_to_follow (object_mark c.self.inside.seed) acts x _ _ place _ _ at c.asks_to_follow.ensures c.found_object_mark-object.ensures.followed h.0.follow c.mark_if-3.ensures.marks;
        id = marks_pushed has_own_id (own_mark c.self.inside.seed) acts x _ _ place _ _ at c.has_own_id.ensures c.own_mark.ensures h.0.id c.mark_if-4.ensures.marks;
        pair = marks_pushed_if relates (relation_mark c.self.inside.seed) acts x _ _ place _ _ at c.relates.ensures c.found_relation_mark-relation.ensures.related h.0.pair c.mark_if-5.ensures.marks;
        block = marks_pushed_if is_blocking (relation_mark c.self.inside.seed) acts x _ _ place _ _ at c.is_blocking.ensures c.found_relation_mark-relation.ensures.blocked h.0.block c.mark_if-6.ensures.marks;
        count = count_pushed acts x _ _ h.0.count (rw c.author.ensures at c.count_one.ensures.counts);
      }),
      omega (arith, room, c.requires.room, c.push_reserved.ensures.len, c.push_reserved.ensures.capacity, h.1),
      omega (arith, room, c.requires.room, c.push_reserved.ensures.len, h.2),
      omega (arith, room, c.requires.room, c.mark_if.ensures.room, h.3),
      omega (arith, room, c.requires.room, c.mark_if-2.ensures.room, h.4),
      omega (arith, room, c.requires.room, c.mark_if-4.ensures.room, h.5),
      omega (arith, room, c.requires.room, c.mark_if-5.ensures.room, h.6),
      omega (arith, room, c.requires.room, c.mark_if-3.ensures.room, h.7),
      omega (arith, room, c.requires.room, c.mark_if-6.ensures.room, h.8),
    )
