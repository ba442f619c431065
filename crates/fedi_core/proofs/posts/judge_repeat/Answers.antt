use Rattle.std.proofs.Common.{◌≡◌, false, refl}
use Rattle.std.specs.Str.{bytes_eq}
use Rattle.fedi_model.specs.AnswerKinds.{Refuse}
use Rattle.fedi_town.specs.declared.refusal.Refusal.TheVariants.{KeyReused}
use Rattle.fedi_core.proofs.posts.judge_repeat.Goals as goal

pub returns-else-eq : goal.returns-else-eq
returns-else-eq c = λ j key.
    let own = c.digest.ensures in
    let other = c.if-eq.ensures in
    let unlike : bytes_eq c.args.repeat.now.0.1 c.args.digest.now ≡ false = cc in
    (Refuse KeyReused, rw unlike refl, c.refusal_reply.ensures)
