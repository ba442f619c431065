use Rattle.std.proofs.Common.{◌++◌, ap, ◌∙◌}
use Rattle.json.specs.Print.{print}
use Rattle.serde_json.proofs.Texts.{print-outline}
use Rattle.fedi_objects.proofs.members.text_of.Goals as goal

pub returns : goal.returns
returns c d h =
    c.into_inner.ensures.items ∙ ap (λ bytes. bytes ++ print c.args.out.tokens) h.before ∙ ap print h.tokens ∙ print-outline d
