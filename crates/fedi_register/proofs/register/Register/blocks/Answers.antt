use Rattle.std.proofs.Common.{[], ◌∙◌, rules, sym}
use Rattle.std.proofs.lemmas.List.{append-nil}
use Rattle.fedi_town.specs.Relations.{is_block_of}
use Rattle.fedi_register.specs.Registers.{is_blocking, relation_mark}
use Rattle.fedi_register.specs.Seeds.{mark_of_pair}
use Rattle.fedi_register.proofs.Found.{any_found, none_found}
use Rattle.fedi_register.proofs.Places.{block_marked}
use Rattle.fedi_register.proofs.register.Register.blocks.Goals as goal

pub returns-then-is_empty : goal.returns-then-is_empty
returns-then-is_empty c =
    let seed = c.self.inside.seed in
    let a = c.args.a.now in
    let b = c.args.b.now in
    rw (← c.self.view_is)
    (none_found is_blocking (is_block_of a b) (relation_mark seed) (mark_of_pair seed a b) c.self.inside.acts.items _ (sym c.is_empty.ensures ∙ c.if-is_empty.true) c.self.invariant.0.block (block_marked seed a b))

pub returns : goal.returns
returns c =
    let seed = c.self.inside.seed in
    let a = c.args.a.now in
    let b = c.args.b.now in
    let acts = c.self.inside.acts.items in
    rw (← c.self.view_is, ← c.deref.ensures.value)
    (any_found is_blocking (is_block_of a b) (relation_mark seed) c.mark_of_pair-mark.result (mark_of_pair seed a b) _ [] acts _ _ (c.any_of.ensures (is_block_of a b) (search rules)) (append-nil _ ∙ c.deref.ensures.value)
    (rw c.text.ensures.value at c.mark_of_pair-mark.ensures) c.self.invariant.0.block (block_marked seed a b))
