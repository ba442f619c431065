use Rattle.std.proofs.Common.{rules, ap, ◌∙◌}
use Rattle.std.specs.Prelude.{List, ℕ}
use Rattle.fedi_register.specs.Keys.{is_repeat}
use Rattle.fedi_register.specs.Seeds.{mark_of}
use Rattle.fedi_register.specs.Registers.{is_keyed, key_mark}
use Rattle.fedi_register.proofs.Found.{found}
use Rattle.fedi_register.proofs.Places.{repeat_marked}
use Rattle.fedi_register.proofs.register.Register.first_under.Goals as goal

pub returns : goal.returns
returns c =
    let seed = c.self.inside.seed in
    let author = c.args.author.now in
    let key = c.args.key.now in
    rw (← c.self.view_is)
    (found is_keyed (is_repeat author key) (key_mark seed) c.mark_of-mark.result (mark_of seed key) _ _ _ _ (c.first_of.ensures (is_repeat author key) (search rules)) c.deref.ensures.value
    (c.mark_of-mark.ensures ∙ ap (λ (text : List ℕ). mark_of seed text) c.bytes.ensures.value) c.self.invariant.0.key (repeat_marked seed author key))
