use Rattle.std.proofs.Common.{List, ℕ, [], ◌∷◌, ◌++◌, ◌∙◌, ap, append_assoc, decimal}
use Rattle.fedi_script.specs.Printed.{refused_line}
use Rattle.fedi_script.proofs.printed.put_refused.Goals as goal

pub returns : goal.returns
unfolding refused_line
returns c =
    c.in_ok-push.ensures.items
    ∙ ap (λ (t : List ℕ). t ++ 10 ∷ []) (c.in_ok-put_number.ensures
    ∙ ap (λ (t : List ℕ). t ++ decimal c.args.number) c.in_ok-extend_from_slice.ensures.items)
    ∙ simp append_assoc
